-- What blocks on sums promise: a number is added, a sum is brought to a number, a sum is divided, and the average of values (ISO/IEC 9075:1992, 6.5).
use Rattle.std.specs.Prelude.{◌≡◌, ℕ, ◌+◌, ◌*◌, ◌/◌, ◌%◌, ◌^◌, ◌<◌, ◌≤◌, ℤ, pos, ◌+ℤ◌, ◌*ℤ◌, int_div, unsigned_abs, min, nat_lt, if◌then◌else◌, IsTrue, List, length, Some, slice_get}
use Rattle.qw_types.specs.Arithmetic.{fits, checked}
use Rattle.qw_module.specs.declared.instruction.ValType.{ValType}
use Rattle.qw_module.specs.declared.instruction.ValType.TheVariants.{I32, I64}
use Rattle.qw_low.specs.Syntax.{Statement}
use Rattle.qw_low.specs.State.{Number, LowState}
use Rattle.qw_low.specs.Meaning.{meaning}
use Rattle.qw_low.specs.Typing.{IsTyped}
use Rattle.qw_low.specs.Size.{size}
use Rattle.qw_low.specs.Promise.{Ends}
use Rattle.qw_low.specs.Raising.{Leaves, Raises, Kept}
use Rattle.qw_low.specs.Held.{HoldsNumber}
use Rattle.qw_group.specs.Wides.{HoldsWide}

-- The number in local x is added to the sum in the locals n and n + 1. Local n + 2 is the block's own.
pub record Accumulates (n x : ℕ) (a : Statement) : Type 0 where
  pub runs : (pages fuel : ℕ) (s : LowState) (z v : ℤ) → x < n → HoldsWide s n z → HoldsNumber s x v → unsigned_abs (z +ℤ v) < 2 ^ 127 → n + 2 < length s.locals →
      Ends (size a) (λ t. Kept n s t × HoldsWide t n (z +ℤ v)) (λ t. ⊥) (λ code. ⊥) (meaning pages fuel a s)
  pub typed : (types : List ValType) → slice_get types x ≡ Some I64 → slice_get types n ≡ Some I64 → slice_get types (n + 1) ≡ Some I64 → slice_get types (n + 2) ≡ Some I64 → IsTyped types a
  pub short : size a ≤ 17

-- The sum in the locals n and n + 1 is a number in local n where it has at most 18 digits; else 2 is raised.
pub record Fits (n : ℕ) (a : Statement) : Type 0 where
  pub runs : (pages fuel : ℕ) (s : LowState) (z : ℤ) → HoldsWide s n z →
      Ends (size a) (Leaves (λ v t. (t ≡ s) × HoldsNumber t n v × IsTrue (fits v)) (checked z)) (λ t. ⊥) (Raises (checked z)) (meaning pages fuel a s)
  pub typed : (types : List ValType) → slice_get types n ≡ Some I64 → slice_get types (n + 1) ≡ Some I64 → IsTyped types a
  pub short : size a ≤ 16

-- A number without sign in the locals n and n + 1 is divided by the one in local x: the quotient's words take its place, and local n + 2 has the
-- remainder. Local n + 3 is the block's own.
pub record Divides (n x : ℕ) (a : Statement) : Type 0 where
  pub runs : (pages fuel : ℕ) (s : LowState) (low high c : ℕ) → x < n → slice_get s.locals n ≡ Some (Number low) → slice_get s.locals (n + 1) ≡ Some (Number high) → low < 2 ^ 64 → high < 2 ^ 64 →
      slice_get s.locals x ≡ Some (Number c) → 1 ≤ c → c < 2 ^ 63 → n + 3 < length s.locals → 64 < fuel →
      Ends (size a * 65) (λ t. Kept n s t × ((q r : ℕ) × (slice_get t.locals n ≡ Some (Number (q % 2 ^ 64))) × (slice_get t.locals (n + 1) ≡ Some (Number (q / 2 ^ 64))) × (slice_get t.locals (n + 2) ≡ Some (Number r))
      × (q ≡ (high * 2 ^ 64 + low) / c) × (r ≡ (high * 2 ^ 64 + low) % c))) (λ t. ⊥) (λ code. ⊥) (meaning pages fuel a s)
  pub typed : (types : List ValType) → slice_get types x ≡ Some I64 → slice_get types n ≡ Some I64 → slice_get types (n + 1) ≡ Some I64 → slice_get types (n + 2) ≡ Some I64 → slice_get types (n + 3) ≡ Some I32 → IsTyped types a
  pub short : size a ≤ 39

-- How many instructions an average takes at most: 62, and 430 more where the sum's magnitude has a second word, and 80 more of as many as 10^15 values.
abbrev pub long_more : ℕ → ℕ
long_more d = if nat_lt d (2 ^ 64) then 0 else 430

abbrev pub many_more : ℕ → ℕ
many_more c = if nat_lt c (10 ^ 15) then 0 else 80

abbrev pub average_most : ℤ → ℕ → ℕ
average_most z c = 62 + long_more (unsigned_abs z) + many_more c

-- The sum in the locals f + 1 and f + 2 of as many numbers as local x says, each of at most 18 digits: local f + 1 has their average, with four digits
-- more behind the point, truncated toward zero (6.12); where that has more than 18 digits 2 is raised. The locals f, f + 3 and f + 4 are the block's own.
pub record Averages (f x : ℕ) (a : Statement) : Type 0 where
  pub runs : (pages fuel : ℕ) (s : LowState) (z : ℤ) (c : ℕ) → x < f → HoldsWide s (f + 1) z → slice_get s.locals x ≡ Some (Number c) → 1 ≤ c → c < 10 ^ 18 → unsigned_abs z < c * 10 ^ 18 → f + 4 < length s.locals → 16 < fuel →
      Ends (min (size a * 17) (average_most z c)) (Leaves (λ v t. Kept f s t × HoldsNumber t (f + 1) v × IsTrue (fits v)) (checked (int_div (z *ℤ pos (10 ^ 4)) (pos c)))) (λ t. ⊥) (Raises (checked (int_div (z *ℤ pos (10 ^ 4)) (pos c))))
      (meaning pages fuel a s)
  pub typed : (types : List ValType) → slice_get types x ≡ Some I64 → slice_get types f ≡ Some I32 → slice_get types (f + 1) ≡ Some I64 → slice_get types (f + 2) ≡ Some I64 → slice_get types (f + 3) ≡ Some I64 →
      slice_get types (f + 4) ≡ Some I32 → IsTyped types a
  pub short : size a ≤ 122
