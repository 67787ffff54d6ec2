-- Mirrors the function `behind_octet` of src/quoted.rt.
use Rattle.std.specs.Prelude.{ℕ, ◌==◌, if◌then◌else◌, List, [], ◌∷◌}

-- the octets behind an octet, without the second quote where it is one
abbrev pub behind_octet : (quote : ℕ) → ℕ → List ℕ → List ℕ
behind_octet quote b [] = []
behind_octet quote b (c ∷ cs) = if b == quote then cs else c ∷ cs
