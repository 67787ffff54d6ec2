-- What blocks on numbers promise (ISO/IEC 9075:1992, 6.12 and 8.2).
use Rattle.std.specs.Prelude.{◌≡◌, ℕ, ◌+◌, ◌<◌, ◌≤◌, ℤ, unsigned_abs, IsTrue, List, length, Some, Result, slice_get}
use Rattle.std.specs.declared.cmp.Ordering.{Ordering}
use Rattle.qw_types.specs.declared.code.Code.{Code}
use Rattle.qw_types.specs.Arithmetic.{fits}
use Rattle.qw_scalar.specs.declared.comparison.Comparison.{Comparison}
use Rattle.qw_scalar.specs.Evaluation.{answers}
use Rattle.qw_module.specs.declared.instruction.ValType.{ValType}
use Rattle.qw_module.specs.declared.instruction.ValType.TheVariants.{I32, I64}
use Rattle.qw_module.specs.Numbers.{truth}
use Rattle.qw_low.specs.Syntax.{Statement}
use Rattle.qw_low.specs.State.{Number, LowState}
use Rattle.qw_low.specs.Meaning.{meaning}
use Rattle.qw_low.specs.Typing.{IsTyped}
use Rattle.qw_low.specs.Size.{size}
use Rattle.qw_low.specs.Promise.{Ends}
use Rattle.qw_low.specs.Raising.{Leaves, Raises, Kept}
use Rattle.qw_low.specs.Held.{HoldsNumber}

-- a local has a number of at most 18 digits, whose magnitude is at most so large
abbrev pub HasNumber : (x most : ℕ) → ℤ → LowState → Type 0
HasNumber x most v s = HoldsNumber s x v × IsTrue (fits v) × (unsigned_abs v ≤ most)

-- A block that begins with the numbers in `x` and `y`, and sets no local below `free`: it leaves what the operation gives in `out`, or
-- raises its exception, within as many instructions as it has.
pub record Operates (operation : ℤ → ℤ → Result ℤ Code) (x most_x y most_y free out most : ℕ) (a : Statement) : Type 0 where
  pub place : out ≤ free
  pub runs : (pages fuel : ℕ) (s : LowState) (v w : ℤ) → HasNumber x most_x v s → HasNumber y most_y w s → free + 1 < length s.locals →
      Ends (size a) (Leaves (λ r t. Kept free s t × HasNumber out most r t) (operation v w)) (λ t. ⊥) (Raises (operation v w)) (meaning pages fuel a s)
  pub typed : (types : List ValType) → slice_get types x ≡ Some I64 → slice_get types y ≡ Some I64 → slice_get types free ≡ Some I64 → slice_get types (free + 1) ≡ Some I64 →
      IsTyped types a × (slice_get types out ≡ Some I64)

-- the same of an operation on one number
pub record Converts (operation : ℤ → Result ℤ Code) (x most_x free out most : ℕ) (a : Statement) : Type 0 where
  pub place : out ≤ free
  pub runs : (pages fuel : ℕ) (s : LowState) (v : ℤ) → HasNumber x most_x v s → free < length s.locals →
      Ends (size a) (Leaves (λ r t. Kept free s t × HasNumber out most r t) (operation v)) (λ t. ⊥) (Raises (operation v)) (meaning pages fuel a s)
  pub typed : (types : List ValType) → slice_get types x ≡ Some I64 → slice_get types free ≡ Some I64 → IsTyped types a × (slice_get types out ≡ Some I64)

-- A block that leaves 1 in `out` where a comparison of two numbers is true, as their order tells, and else 0. What it has of its own
-- begins at `free`.
pub record Tests (operator : Comparison) (order : ℤ → ℤ → Ordering) (x most_x y most_y free out : ℕ) (a : Statement) : Type 0 where
  pub runs : (pages fuel : ℕ) (s : LowState) (v w : ℤ) → HasNumber x most_x v s → HasNumber y most_y w s → free < length s.locals →
      Ends (size a) (λ t. Kept out s t × (slice_get t.locals out ≡ Some (Number (truth (answers operator (order v w)))))) (λ t. ⊥) (λ code. ⊥) (meaning pages fuel a s)
  pub typed : (types : List ValType) → slice_get types x ≡ Some I64 → slice_get types y ≡ Some I64 → slice_get types out ≡ Some I32 → slice_get types free ≡ Some I64 → IsTyped types a
