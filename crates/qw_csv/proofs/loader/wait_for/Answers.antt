use Rattle.std.proofs.Common.{length}
use Rattle.csv.specs.Reading.{strip_bom}
use Rattle.qw_csv.specs.Field.{lent}
use Rattle.qw_csv.specs.Inner.Wide.{BeginsWide}
use Rattle.qw_csv.proofs.FileLemmas.{wide_fails}
use Rattle.qw_csv.proofs.loader.wait_for.Goals as goal

pub returns-then-branch-clause-fault : goal.returns-then-branch-clause-fault
returns-then-branch-clause-fault c ample given behind before records leaves many taken =
    let wide : BeginsWide (strip_bom c.args.waiting.items) (length c.args.table.now.columns) =
    rw (c.as_slice.ensures.value, c.as_slice-columns.ensures.same) at (c.in_ok-is_wide.ensures c.if-branch.true) in
    wide_fails c.args.table.now (lent c.args.null) before c.args.taken.before given c.args.waiting.items behind records c.args.place c.args.taken.named c.args.taken.loaded.rows c.too_wide.result
    c.requires.placed wide c.too_wide.ensures leaves many taken

pub returns-clause-taken : goal.returns-clause-taken
returns-clause-taken c given before records leaves many taken =
    record { many = many; records = records; leaves = leaves; taken = taken; columns = c.requires.columns }
