-- Tests: conditions as expressions of Low, for choices that ask only whether they are true (ISO/IEC 9075:1992, 7.6 and 8.12).
use Rattle.std.specs.Prelude.{◌≡◌, ℕ, ◌+◌, ◌*◌, ◌<◌, ◌≤◌, ◌++◌, List, length, Some}
use Rattle.qw_types.specs.declared.truth.Truth.{Truth}
use Rattle.qw_types.specs.declared.truth.Truth.TheVariants.{True, False, Unknown}
use Rattle.qw_types.specs.declared.value.Val.{Val}
use Rattle.qw_module.specs.declared.instruction.ValType.{ValType}
use Rattle.qw_module.specs.declared.instruction.ValType.TheVariants.{I32, I64}
use Rattle.qw_module.specs.declared.instruction.Binary.TheVariants.{And, Or}
use Rattle.qw_scalar.specs.Columns.{HaveColumns, HoldsIn}
use Rattle.qw_scalar.specs.Evaluation.{truth_of, at_row}
use Rattle.qw_scalar.specs.Expression.{Condition}
use Rattle.qw_scalar.specs.Units.{units_of}
use Rattle.qw_low.specs.Syntax.{Expression, local, binop, is_zero, relop, Statement}
use Rattle.qw_low.specs.State.{Number, LowState}
use Rattle.qw_low.specs.Meaning.{value, meaning}
use Rattle.qw_low.specs.Size.{size}
use Rattle.qw_low.specs.Steps.{steps_of}
use Rattle.qw_low.specs.Typing.{HasType, IsTyped}
use Rattle.qw_low.specs.Promise.{Ends}
use Rattle.qw_low.specs.Raising.{Leaves, Raises, Kept}
use Rattle.qw_expr.specs.declared.emitter.Emitter.{Emitter}
use Rattle.qw_expr.specs.declared.test.Test.{Test}
use Rattle.qw_expr.specs.declared.test.Test.TheVariants as test
use Rattle.qw_expr.specs.Cells.{Declares}
use Rattle.qw_expr.specs.Computes.{Known, AreHeld, AreDeclared}
use Rattle.qw_expr.specs.Emits.{free_of}

-- The expression that a test is. What holds a test together in memory is an address, here `_`, which means nothing.
abbrev pub tested : Test → Expression
tested (test.Local x) = local x
tested (test.Zero x) = is_zero I32 (local x)
tested (test.Related r x y) = relop I64 r (local x) (local y)
tested (test.Not' _ t) = is_zero I32 (tested t)
tested (test.Both' _ t _ u) = binop I32 And (tested t) (tested u)
tested (test.Either' _ t _ u) = binop I32 Or (tested t) (tested u)

-- 1 where a truth is true, and else 0
abbrev pub truth_word : Truth → ℕ
truth_word True = 1
truth_word False = 0
truth_word Unknown = 0

-- the locals that a test names are below one
abbrev pub IsTestBelow : ℕ → Test → Type 0
IsTestBelow n (test.Local x) = x < n
IsTestBelow n (test.Zero x) = x < n
IsTestBelow n (test.Related r x y) = (x < n) × (y < n)
IsTestBelow n (test.Not' _ t) = IsTestBelow n t
IsTestBelow n (test.Both' _ t _ u) = IsTestBelow n t × IsTestBelow n u
IsTestBelow n (test.Either' _ t _ u) = IsTestBelow n t × IsTestBelow n u

-- A block that begins where what is known is held below the local `next`, and has locals of its own from there on: where it ends, the test
-- is 1 if the condition is true, and 0 if it is false or unknown; or it raises the condition's exception, within its size times one more
-- than the units. Nothing else is changed.
pub record DecidesTest (known : List Known) (c : Condition) (next : ℕ) (out : Test) (a : Statement) (own : List ValType) : Type 0 where
  pub below : IsTestBelow (next + length own) out
  pub runs : (pages fuel more : ℕ) (row : List Val) (s : LowState) → 1 + units_of c (at_row row) ≤ more → more ≤ fuel → AreHeld known row s → HaveColumns (HoldsIn row) c →
      next + length own ≤ length s.locals →
      Ends (size a * more) (Leaves (λ v t. Kept next s t × (value t (tested out) ≡ Some (Number (truth_word v)))) (truth_of c (at_row row))) (λ t. ⊥) (Raises (truth_of c (at_row row))) (meaning pages fuel a s)
  pub typed : (types : List ValType) → AreDeclared types known → Declares types next own → IsTyped types a × HasType types (tested out) I32

-- From one state of an emitter to another the steps of a block were added, and the types of its own locals, which decides the test.
pub record EmitsTest (known : List Known) (c : Condition) (old new : Emitter) (out : Test) : Type 0 where
  pub first_is : new.first ≡ old.first
  pub statement : Statement
  pub own : List ValType
  pub code_is : new.block.code.items ≡ old.block.code.items ++ steps_of statement
  pub own_is : new.own.items ≡ old.own.items ++ own
  pub decides : DecidesTest known c (free_of old) out statement own
