-- What the block of an expression promises (ISO/IEC 9075:1992, 6.11).
use Rattle.std.specs.Prelude.{◌≡◌, ℕ, ◌+◌, ◌*◌, ◌≤◌, List, length, Ok}
use Rattle.std.specs.List.{AllByRecursion}
use Rattle.qw_types.specs.declared.value.Val.{Val}
use Rattle.qw_module.specs.declared.instruction.ValType.{ValType}
use Rattle.qw_scalar.specs.Columns.{HasColumns, HaveColumns, HoldsIn}
use Rattle.qw_scalar.specs.Evaluation.{value_of, truth_of, at_row}
use Rattle.qw_scalar.specs.Expression.{Expression, Condition, scale_of}
use Rattle.qw_scalar.specs.Typing.{kind_of}
use Rattle.qw_low.specs.declared.cell.Cell.{Cell}
use Rattle.qw_low.specs.Syntax.{Statement}
use Rattle.qw_low.specs.State.{LowState}
use Rattle.qw_low.specs.Meaning.{meaning}
use Rattle.qw_low.specs.Size.{size}
use Rattle.qw_low.specs.Typing.{IsTyped}
use Rattle.qw_low.specs.Promise.{Ends}
use Rattle.qw_low.specs.Raising.{Leaves, Raises, Kept}
use Rattle.qw_expr.specs.declared.operand.Operand.{Operand}
use Rattle.qw_expr.specs.Cells.{Holds, HoldsTruth, IsBelow, DeclaresValue, DeclaresTruth, Declares}
use Rattle.qw_scalar.specs.Units.{units, units_of}

-- An expression whose value is in locals when a block begins: a column of the row, a literal, or what was computed before.
pub record Known : Type 0 where
  pub expression : Expression
  pub operand : Operand

-- at a row the locals hold the values of what is known
abbrev pub AreHeld : List Known → List Val → LowState → Type 0
AreHeld known row s = AllByRecursion (λ (k : Known). (v : Val) × (value_of k.expression (at_row row) ≡ Ok v) × Holds k.operand v s) known

abbrev pub AreBelow : ℕ → List Known → Type 0
AreBelow n known = AllByRecursion (λ (k : Known). IsBelow n k.operand.cell) known

abbrev pub AreDeclared : List ValType → List Known → Type 0
AreDeclared types known = AllByRecursion (λ (k : Known). DeclaresValue types k.operand) known

-- A block that begins where what is known is held below the local `next`, and has locals of its own from there on: it leaves the value of
-- the expression in the operand's locals, or raises its exception, within its size times one more than the units. Nothing else is changed.
pub record Computes (known : List Known) (e : Expression) (next : ℕ) (out : Operand) (a : Statement) (own : List ValType) : Type 0 where
  pub kind_is : out.kind ≡ kind_of e
  pub scale_is : out.scale ≡ scale_of e
  pub below : IsBelow (next + length own) out.cell
  pub runs : (pages fuel more : ℕ) (row : List Val) (s : LowState) → 1 + units e (at_row row) ≤ more → more ≤ fuel → AreHeld known row s → HasColumns (HoldsIn row) e →
      next + length own ≤ length s.locals →
      Ends (size a * more) (Leaves (λ v t. Kept next s t × Holds out v t) (value_of e (at_row row))) (λ t. ⊥) (Raises (value_of e (at_row row))) (meaning pages fuel a s)
  pub typed : (types : List ValType) → AreDeclared types known → Declares types next own → IsTyped types a × DeclaresValue types out

-- the same of a condition and its truth
pub record Decides (known : List Known) (c : Condition) (next : ℕ) (out : Cell) (a : Statement) (own : List ValType) : Type 0 where
  pub below : IsBelow (next + length own) out
  pub runs : (pages fuel more : ℕ) (row : List Val) (s : LowState) → 1 + units_of c (at_row row) ≤ more → more ≤ fuel → AreHeld known row s → HaveColumns (HoldsIn row) c →
      next + length own ≤ length s.locals →
      Ends (size a * more) (Leaves (λ v t. Kept next s t × HoldsTruth out v t) (truth_of c (at_row row))) (λ t. ⊥) (Raises (truth_of c (at_row row))) (meaning pages fuel a s)
  pub typed : (types : List ValType) → AreDeclared types known → Declares types next own → IsTyped types a × DeclaresTruth types out
