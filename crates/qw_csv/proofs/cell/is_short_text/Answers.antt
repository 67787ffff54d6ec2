use Rattle.std.proofs.Common.{◌≤◌, arith, length, rules}
use Rattle.qw_csv.proofs.StorageLemmas.{short_text, text_read}
use Rattle.qw_csv.proofs.cell.is_short_text.Goals as goal

pub returns : goal.returns
returns c is =
    let utf8 = text_read _ _ c.from_utf8.result c.from_utf8.ensures.cases (rw c.is_ok.ensures.value at is) in
    let some : 1 ≤ length c.args.field.now = search rules in
    rw c.in-Varchar.is (short_text c.in-Varchar.length c.args.field.now utf8.1.1 some (omega (arith, c.if-field-from.false, c.from.ensures)))
