-- Mirrors `src/search.rt`: the literals among which a value is sought, and what a search promises.
use Rattle.std.specs.Prelude.{◌≡◌, ℕ, ◌*◌, ◌<◌, ◌≤◌, ℤ, ◌≤ℤ◌, Bool, List, [], ◌∷◌, ◌++◌, length, Some, Ok, slice_get, slice_set}
use Rattle.std.specs.List.{AllByRecursion, list_any}
use Rattle.std.specs.Ordering.{int_cmp, is_eq}
use Rattle.qw_types.specs.declared.value.Val.{Val}
use Rattle.qw_module.specs.declared.instruction.ValType.{ValType}
use Rattle.qw_module.specs.declared.instruction.ValType.TheVariants.{I32, I64}
use Rattle.qw_module.specs.declared.instruction.Binary.TheVariants.{Or}
use Rattle.qw_module.specs.declared.instruction.Const.TheVariants as const
use Rattle.qw_module.specs.declared.instruction.Relation.TheVariants.{Eq}
use Rattle.qw_module.specs.Numbers.{truth}
use Rattle.qw_scalar.specs.Columns.{HaveColumns, HoldsIn}
use Rattle.qw_scalar.specs.Evaluation.{truth_of, truth_if, at_row}
use Rattle.qw_scalar.specs.Expression.{Condition}
use Rattle.qw_low.specs.Syntax.{Expression, constant_of, local, binop, relop, Statement}
use Rattle.qw_low.specs.State.{Number, LowState}
use Rattle.qw_low.specs.Held.{HoldsNumber}
use Rattle.qw_low.specs.Meaning.{meaning}
use Rattle.qw_low.specs.Promise.{Ends}
use Rattle.qw_low.specs.Size.{size}
use Rattle.qw_low.specs.Steps.{steps_of}
use Rattle.qw_low.specs.Typing.{IsTyped}
use Rattle.qw_expr.specs.declared.emitter.Emitter.{Emitter}
use Rattle.qw_expr.specs.declared.operand.Operand.{Operand}
use Rattle.qw_expr.specs.declared.search.Sought.{Sought}
use Rattle.qw_expr.specs.Bindings.{IsServed}
use Rattle.qw_expr.specs.Computes.{Known, AreHeld, AreDeclared}
use Rattle.qw_expr.specs.Emits.{free_of}

-- whether a number is that of one of the literals
abbrev pub is_one : ℤ → List Sought → Bool
is_one v sought = list_any (λ (k : Sought). is_eq (int_cmp v k.value)) sought

-- none is greater than one after it
abbrev pub AreRising : List Sought → Type 0
AreRising [] = Unit {0}
AreRising (first ∷ rest) = AllByRecursion (λ (k : Sought). first.value ≤ℤ k.value) rest × AreRising rest

-- the locals of the literals hold them, and are declared as theirs
abbrev pub AreInLocals : List Sought → LowState → Type 0
AreInLocals sought s = AllByRecursion (λ (k : Sought). HoldsNumber s k.local k.value) sought

abbrev pub AreNumbers : List ValType → List Sought → Type 0
AreNumbers types sought = AllByRecursion (λ (k : Sought). slice_get types k.local ≡ Some I64) sought

-- the literals are those of a condition, which is true where the operand's number is that of one of them, and else false
pub record IsSought (known : List Known) (c : Condition) (x : Operand) (sought : List Sought) : Type 0 where
  pub tells : (row : List Val) (s : LowState) → AreHeld known row s → HaveColumns (HoldsIn row) c →
      (v : ℤ) × HoldsNumber s x.cell.value v × AreInLocals sought s × (truth_of c (at_row row) ≡ Ok (truth_if (is_one v sought)))
  pub typed : (types : List ValType) → AreDeclared types known → (slice_get types x.cell.value ≡ Some I64) × AreNumbers types sought

-- wherever what is known is
abbrev pub MadeSought : List Known → Condition → Operand → List Sought → Type 0
MadeSought known c x sought = (next : ℕ) → IsServed next known → IsSought known c x sought

-- whether a local equals one of the literals', which are compared one after another
abbrev pub equals_one : ℕ → List Sought → Expression
equals_one x [] = constant_of (const.I32 0)
equals_one x (k ∷ []) = relop I64 Eq (local x) (local k.local)
equals_one x (k ∷ l ∷ rest) = binop I32 Or (relop I64 Eq (local x) (local k.local)) (equals_one x (l ∷ rest))

-- A block that leaves in `out` whether the number in a local is that of one of the literals, within its size times what is given. Nothing
-- else is changed.
pub record Searches (x out : ℕ) (sought : List Sought) (a : Statement) : Type 0 where
  pub runs : (pages fuel more : ℕ) (v : ℤ) (s : LowState) → 1 ≤ more → HoldsNumber s x v → AreInLocals sought s → out < length s.locals →
      Ends (size a * more) (λ t. t ≡ record s { locals = slice_set s.locals out (Number (truth (is_one v sought))) }) (λ t. ⊥) (λ code. ⊥) (meaning pages fuel a s)
  pub typed : (types : List ValType) → slice_get types x ≡ Some I64 → slice_get types out ≡ Some I32 → AreNumbers types sought → IsTyped types a

-- from one state of an emitter to another its steps were added
pub record EmitsHalves (x out : ℕ) (sought : List Sought) (old new : Emitter) : Type 0 where
  pub first_is : new.first ≡ old.first
  pub own_is : new.own.items ≡ old.own.items
  pub statement : Statement
  pub code_is : new.block.code.items ≡ old.block.code.items ++ steps_of statement
  pub searches : Searches x out sought statement

-- and a local of its own
pub record EmitsSearch (x : ℕ) (sought : List Sought) (old new : Emitter) (out : ℕ) : Type 0 where
  pub first_is : new.first ≡ old.first
  pub own_is : new.own.items ≡ old.own.items ++ I32 ∷ []
  pub out_is : out ≡ free_of old
  pub statement : Statement
  pub code_is : new.block.code.items ≡ old.block.code.items ++ steps_of statement
  pub searches : Searches x out sought statement
