-- Addresses that move within their part, and states with a local set.
use Rattle.std.proofs.Common.{◌≡◌, ℕ, ◌+◌, ◌-◌, ◌≤◌, Some, slice_set, ap, arith}
use Rattle.std.proofs.lemmas.Bool.{le-leb}
use Rattle.qw_low.specs.State.{Part, Value, Number, Address, LowState, size_of}
use Rattle.qw_low.specs.Meaning.{advanced, retreated}

-- the state with a local set
abbrev pub put : LowState → ℕ → Value → LowState
put t x v = record t { locals = slice_set t.locals x v }

-- an address so much further on, within its part
pub advanced_to : (s : LowState) (p : Part) (o n to count : ℕ) → size_of s p ≡ Some count → o + n ≡ to → to ≤ count → advanced s (Some (Address p o)) (Some (Number n)) ≡ Some (Address p to)
advanced_to s p o n to count sized is within =
    let inside : o + n ≤ count = omega (arith, is, within) in
    rw (sized, le-leb (o + n) count inside) (ap (λ (k : ℕ). Some (Address p k)) is)

-- an address so much back
pub retreated_to : (p : Part) (o n to : ℕ) → to + n ≡ o → retreated (Some (Address p o)) (Some (Number n)) ≡ Some (Address p to)
retreated_to p o n to is =
    let behind : n ≤ o = omega (arith, is) in
    let left : o - n ≡ to = omega (arith, is) in
    rw (le-leb n o behind) (ap (λ (k : ℕ). Some (Address p k)) left)
