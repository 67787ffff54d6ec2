use Rattle.std.proofs.Common.{◌++◌, append_assoc}
use Rattle.std.proofs.lemmas.Result.{MatchResult-weaker}
use Rattle.qw_csv.specs.Field.{lent}
use Rattle.qw_csv.proofs.FileLemmas.{before_few}
use Rattle.qw_csv.proofs.MachineLemmas.{leaves_more}
use Rattle.qw_csv.proofs.PartLemmas.{fails_part}
use Rattle.qw_csv.proofs.loader.Loader.take.Goals as goal

pub returns-in-Some-clause-taken : goal.returns-in-Some-clause-taken
returns-in-Some-clause-taken c =
    MatchResult-weaker c.take_lines.result c.take_lines.ensures.taken
    (λ _ h parts given held.
    let (before, whole, k) = rw (← c.self.view_is) at held in
    (before, whole, h (given ++ c.args.piece.now) before k.records (leaves_more given c.self.inside.waiting.items c.args.piece.now k.records k.leaves) k.many k.taken))
    (λ _ h. h)

pub returns-in-Some-clause-fault : goal.returns-in-Some-clause-fault
returns-in-Some-clause-fault c =
    MatchResult-weaker c.take_lines.result c.take_lines.ensures.fault (λ _ h. h)
    (λ e h memory parts further given behind held.
    let (before, whole, k) = rw (← c.self.view_is) at held in
    let fault = rw (append_assoc given c.args.piece.now behind) at
    (h memory (given ++ c.args.piece.now) behind before k.records (leaves_more given c.self.inside.waiting.items c.args.piece.now k.records k.leaves) k.many k.taken) in
    fails_part c.args.table.now (lent c.args.null) parts further before (given ++ (c.args.piece.now ++ behind)) e whole
    (before_few (lent c.args.null) c.args.table.now.columns before k.records c.self.inside.taken.named c.self.inside.taken.loaded.rows k.taken) fault)

pub returns-in-None-clause-taken : goal.returns-in-None-clause-taken
returns-in-None-clause-taken c =
    MatchResult-weaker c.take_start.result c.take_start.ensures.taken
    (λ _ h parts given held.
    let (before, whole, k) = rw (← c.self.view_is) at held in
    (before, whole, h (given ++ c.args.piece.now) before k.records (leaves_more given c.self.inside.waiting.items c.args.piece.now k.records k.leaves) k.many k.taken))
    (λ _ h. h)

pub returns-in-None-clause-fault : goal.returns-in-None-clause-fault
returns-in-None-clause-fault c =
    MatchResult-weaker c.take_start.result c.take_start.ensures.fault (λ _ h. h)
    (λ e h memory parts further given behind held.
    let (before, whole, k) = rw (← c.self.view_is) at held in
    let fault = rw (append_assoc given c.args.piece.now behind) at
    (h memory (given ++ c.args.piece.now) behind before k.records (leaves_more given c.self.inside.waiting.items c.args.piece.now k.records k.leaves) k.many k.taken) in
    fails_part c.args.table.now (lent c.args.null) parts further before (given ++ (c.args.piece.now ++ behind)) e whole
    (before_few (lent c.args.null) c.args.table.now.columns before k.records c.self.inside.taken.named c.self.inside.taken.loaded.rows k.taken) fault)
