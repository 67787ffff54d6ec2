-- The order of texts (ISO/IEC 9075:1992, 8.2 general rule 3, which leaves the collation to the implementation): by octets, with the
-- attribute NO PAD, so that a text comes before each longer one that begins with it.
use Rattle.std.specs.Prelude.{ℕ, List, [], ◌∷◌}
use Rattle.std.specs.Ordering.{nat_cmp, ordering_then}
use Rattle.std.specs.declared.cmp.Ordering.{Ordering}
use Rattle.std.specs.declared.cmp.Ordering.TheVariants.{Less, Equal, Greater}

-- the first difference decides
abbrev pub text_order : List ℕ → List ℕ → Ordering
text_order [] [] = Equal
text_order [] (b ∷ others) = Less
text_order (a ∷ rest) [] = Greater
text_order (a ∷ rest) (b ∷ others) = ordering_then (nat_cmp a b) (text_order rest others)
