-- What holds of each element of a list.
use Rattle.std.proofs.Common.{◌<◌, ℕ, zero, suc, List, [], ◌∷◌, length, map, slice_index_or, arith}
use Rattle.std.specs.List.{AllByRecursion}

-- at an element, what holds of all
pub at_each : {X Y : Type 0} (P : Y → Type 0) (f : X → Y) (xs : List X) → AllByRecursion P (map f xs) → (k : ℕ) (d : X) → k < length xs → P (f (slice_index_or xs k d))
at_each P f [] h k d lt = absurd (omega arith)
at_each P f (x ∷ xs) h zero d lt = h.0
at_each P f (x ∷ xs) h (suc k) d lt = at_each P f xs h.1 k d (omega arith)
