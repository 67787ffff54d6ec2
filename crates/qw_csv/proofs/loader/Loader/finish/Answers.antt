use Rattle.std.proofs.lemmas.Result.{MatchResult-weaker}
use Rattle.qw_csv.specs.Field.{lent}
use Rattle.qw_csv.proofs.FileLemmas.{before_few}
use Rattle.qw_csv.proofs.PartLemmas.{fails_part, whole_loads}
use Rattle.qw_csv.proofs.loader.Loader.finish.Goals as goal

pub returns-clause-rows : goal.returns-clause-rows
returns-clause-rows c =
    MatchResult-weaker c.take_rest.result c.take_rest.ensures.rows
    (λ loaded h parts given held.
    let (before, whole, k) = rw (← c.self.view_is) at held in
    whole_loads c.args.table.now (lent c.args.null) parts before given loaded.rows whole (h given before k.records (rw c.as_slice.ensures.value k.leaves) k.taken))
    (λ _ h. h)

pub returns-clause-fault : goal.returns-clause-fault
returns-clause-fault c =
    MatchResult-weaker c.take_rest.result c.take_rest.ensures.fault (λ _ h. h)
    (λ e h memory parts further given held.
    let (before, whole, k) = rw (← c.self.view_is) at held in
    fails_part c.args.table.now (lent c.args.null) parts further before given e whole
    (before_few (lent c.args.null) c.args.table.now.columns before k.records c.self.inside.taken.named c.self.inside.taken.loaded.rows k.taken)
    (h memory given before k.records (rw c.as_slice.ensures.value k.leaves) k.many k.taken))
