-- Counts that stay at the greatest number.
use Rattle.std.proofs.Common.{ℕ, arith}
use Rattle.qw_parse.specs.declared.size.Size.{Size}
use Rattle.qw_parse.specs.Inner.Sizes.{Counts, GoesOn}

-- what was counted, where nothing is left
pub all_counted : (old now : Size) (m n : ℕ) → GoesOn old m n now 0 0 → Counts old now m n
all_counted old now m n g = record {
  nodes_are = omega (arith, g.nodes_fit, g.nodes_same);
  octets_are = omega (arith, g.octets_fit, g.octets_same);
}
