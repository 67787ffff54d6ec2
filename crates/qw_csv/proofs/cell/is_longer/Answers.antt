use Rattle.std.proofs.Common.{◌≤◌, chars, length, arith}
use Rattle.std.proofs.lemmas.Bool.Decides.{nat_tests}
use Rattle.std.proofs.lemmas.Str.{encodes-chars, length-le-encodes}
use Rattle.qw_csv.proofs.cell.is_longer.Goals as goal

pub returns-else-text-limit : goal.returns-else-text-limit
returns-else-text-limit c =
    let text = c.args.text.now in
    let few : length (chars text) ≤ length text = rw (encodes-chars text c.utf8.text) at (length-le-encodes (chars text)) in (
      λ longer. absurd (grind (arith, nat_tests, longer, c.if-text-limit.false)),
      λ longer. absurd (omega (arith, longer, few, c.if-text-limit.false)),
    )
