-- Of `src/plain.rt`: conditions that need no block.
use Rattle.std.specs.Prelude.{◌≡◌, ℕ, Bool, List, Some, Ok}
use Rattle.qw_types.specs.declared.value.Val.{Val}
use Rattle.qw_module.specs.declared.instruction.ValType.{ValType}
use Rattle.qw_module.specs.declared.instruction.ValType.TheVariants.{I32}
use Rattle.qw_scalar.specs.Columns.{HaveColumns, HoldsIn}
use Rattle.qw_scalar.specs.Evaluation.{truth_of, truth_if, at_row}
use Rattle.qw_scalar.specs.Expression.{Condition}
use Rattle.qw_low.specs.State.{Number, LowState}
use Rattle.qw_low.specs.Meaning.{value}
use Rattle.qw_low.specs.Typing.{HasType}
use Rattle.qw_expr.specs.declared.test.Test.{Test}
use Rattle.qw_expr.specs.Bindings.{IsServed}
use Rattle.qw_expr.specs.Computes.{Known, AreHeld, AreDeclared}
use Rattle.qw_expr.specs.Tests.{IsTestBelow, tested, truth_word}

-- Where what is known is held below the local `next`, the condition raises nothing and is true or false, and the test tells which.
pub record IsPlain (known : List Known) (next : ℕ) (c : Condition) (out : Test) : Type 0 where
  pub below : IsTestBelow next out
  pub tells : (row : List Val) (s : LowState) → AreHeld known row s → HaveColumns (HoldsIn row) c →
      (g : Bool) × (truth_of c (at_row row) ≡ Ok (truth_if g)) × (value s (tested out) ≡ Some (Number (truth_word (truth_if g))))
  pub typed : (types : List ValType) → AreDeclared types known → HasType types (tested out) I32

-- wherever what is known is
abbrev pub MadePlain : List Known → Condition → Test → Type 0
MadePlain known c out = (next : ℕ) → IsServed next known → IsPlain known next c out
