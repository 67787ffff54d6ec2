use Rattle.std.proofs.Common.{length}
use Rattle.std.proofs.lemmas.Result.{err_from_is_err_and}
use Rattle.qw_csv.specs.Field.{lent}
use Rattle.qw_csv.proofs.FileLemmas.{fails_rest, lacks_rest, loads_rest}
use Rattle.qw_csv.proofs.loading.take_rest.Goals as goal

pub returns-in_err-taken-clause-fault : goal.returns-in_err-taken-clause-fault
returns-in_err-taken-clause-fault c =
    let p = err_from_is_err_and c.from_residual.result c.from_residual.ensures.1 in
    rw (p.1, p.2) (λ memory given before records leaves many taken.
    fails_rest c.args.table.now (lent c.args.null) given c.args.bytes.now records leaves (length before) _ (c.in_err-taken.ensures.fault memory before records many taken))

pub returns-then-taken-clause-rows : goal.returns-then-taken-clause-rows
returns-then-taken-clause-rows c given before records leaves taken =
    loads_rest c.args.table.now (lent c.args.null) given c.args.bytes.now records leaves before c.in_ok-taken.taken.named c.in_ok-taken.taken.loaded.rows c.if-taken.true (c.in_ok-taken.ensures.taken before records taken)

pub returns-clause-fault : goal.returns-clause-fault
returns-clause-fault c memory given before records leaves many taken =
    lacks_rest c.args.table.now (lent c.args.null) given c.args.bytes.now records leaves before c.in_ok-taken.taken.named c.in_ok-taken.taken.loaded.rows c.if-taken.false (c.in_ok-taken.ensures.taken before records taken)
