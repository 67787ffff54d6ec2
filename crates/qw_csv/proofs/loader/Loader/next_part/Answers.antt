use Rattle.std.proofs.Common.{◌≡◌, [], arith, refl}
use Rattle.std.proofs.lemmas.Grind.{common_steps}
use Rattle.std.proofs.lemmas.Result.{err_from_is_err_and}
use Rattle.qw_csv.specs.Field.{lent}
use Rattle.qw_csv.proofs.FileLemmas.{before_few, none_taken_yet}
use Rattle.qw_csv.proofs.MachineLemmas.{leaves_all}
use Rattle.qw_csv.proofs.PartLemmas.{fails_part, whole_parts}
use Rattle.qw_csv.proofs.loader.Loader.next_part.Goals as goal

pub returns-clause-taken : goal.returns-clause-taken
returns-clause-taken c parts given held =
    let (before, whole, k) = rw (← c.self.view_is) at held in
    let h = c.in_ok-loaded.ensures.rows given before k.records (rw c.as_slice.ensures.value k.leaves) k.taken in
    let none : c.new.result.items ≡ [] = grind (arith, common_steps) in
    let rows = c.in_ok-loaded.loaded.rows in (
      rows,
      whole_parts c.args.table.now (lent c.args.null) parts before given rows whole h,
      record {
        many = c.next_part.ensures.before;
        records = [];
        leaves = rw none (leaves_all []);
        taken = rw c.next_part.ensures.rows (none_taken_yet (lent c.args.null) c.args.table.now.columns rows c.next_part.result.named rows c.next_part.ensures.named refl c.next_part.ensures.few);
        columns = rw c.next_part.ensures.rows c.in_ok-loaded.ensures.columns;
      },
    )

pub returns-in_err-loaded-clause-fault : goal.returns-in_err-loaded-clause-fault
returns-in_err-loaded-clause-fault c =
    let p = err_from_is_err_and c.from_residual.result c.from_residual.ensures.1 in
    rw (p.1, p.2) (λ memory parts further given held.
    let (before, whole, k) = rw (← c.self.view_is) at held in
    fails_part c.args.table.now (lent c.args.null) parts further before given _ whole
    (before_few (lent c.args.null) c.args.table.now.columns before k.records c.self.inside.taken.named c.self.inside.taken.loaded.rows k.taken)
    (c.in_err-loaded.ensures.fault memory given before k.records (rw c.as_slice.ensures.value k.leaves) k.many k.taken))
