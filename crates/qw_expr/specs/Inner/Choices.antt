-- Mirrors `src/choice.rt`: where a choice leaves its value, and what is emitted before its second result.
use Rattle.std.specs.Prelude.{◌≡◌, ℕ, ◌+◌, ◌++◌, max, Bool, true, false, Option, Some, None, List, [], ◌∷◌, length}
use Rattle.qw_types.specs.declared.kind.Kind.{Kind}
use Rattle.qw_types.specs.declared.kind.Kind.TheVariants as kind
use Rattle.qw_scalar.specs.Expression.{Expression, Condition}
use Rattle.qw_scalar.specs.Typing.{joined}
use Rattle.qw_module.specs.declared.instruction.ValType.{ValType}
use Rattle.qw_module.specs.declared.instruction.ValType.TheVariants.{I32, I64}
use Rattle.qw_module.specs.declared.instruction.Op.TheVariants as o
use Rattle.qw_low.specs.declared.cell.Cell.{Cell}
use Rattle.qw_low.specs.declared.step.LowStep.TheVariants as step
use Rattle.qw_low.specs.Syntax.{Statement, local, skip, seq, assign}
use Rattle.qw_low.specs.Steps.{steps_of}
use Rattle.qw_expr.specs.declared.choice.Place.{Place}
use Rattle.qw_expr.specs.declared.emitter.Emitter.{Emitter}
use Rattle.qw_expr.specs.declared.operand.Operand.{Operand}
use Rattle.qw_expr.specs.Computes.{Known, Computes, Decides}
use Rattle.qw_expr.specs.Emits.{free_of}
use Rattle.qw_expr.specs.Inner.Truths.{unknown_word, junction_null}

-- whether a place serves values of a kind: one for texts, or one for numbers and dates
abbrev pub Suits : Bool → Option Kind → Type 0
Suits text None = Unit {0}
Suits text (Some (kind.Number s)) = text ≡ false
Suits text (Some kind.Date) = text ≡ false
Suits text (Some kind.Text) = text ≡ true

abbrev pub place_types : Bool → List ValType
place_types true = I32 ∷ I32 ∷ I32 ∷ []
place_types false = I64 ∷ I32 ∷ []

abbrev pub place_at : Bool → ℕ → Place
place_at true m = record { value = m; length = m + 1; null = m + 2 }
place_at false m = record { value = m; length = m; null = m + 1 }

-- a value into a place: null leaves the value's local as it is where it has no kind
abbrev pub copy_value : Option Kind → Place → Cell → Statement
copy_value None to from = skip
copy_value (Some (kind.Number s)) to from = assign to.value (local from.value)
copy_value (Some kind.Date) to from = assign to.value (local from.value)
copy_value (Some kind.Text) to from = seq (assign to.value (local from.value)) (assign to.length (local from.length))

abbrev pub copy_block : Option Kind → Place → Cell → Statement
copy_block k to from = seq (copy_value k to from) (assign to.null (unknown_word from.null))

-- the operand of a choice
abbrev pub chosen_at : Place → Operand → Operand → Operand
chosen_at to first second = record {
  cell = record { value = to.value; length = to.length; null = junction_null to.null first.cell.null second.cell.null };
  kind = joined first.kind second.kind;
  scale = max first.scale second.scale;
  most = max first.most second.most;
}

pub record TakesPlace (text : Bool) (old new : Emitter) (to : Place) : Type 0 where
  pub first_is : new.first ≡ old.first
  pub own_is : new.own.items ≡ old.own.items ++ place_types text
  pub code_is : new.block.code.items ≡ old.block.code.items
  pub place_is : to ≡ place_at text (free_of old)

pub record BeginsChoice (test : ℕ) (text : Bool) (old new : Emitter) (to : Place) : Type 0 where
  pub first_is : new.first ≡ old.first
  pub own_is : new.own.items ≡ old.own.items ++ place_types text
  pub code_is : new.block.code.items ≡ old.block.code.items ++ step.Op (o.LocalGet test) ∷ step.If ∷ []
  pub place_is : to ≡ place_at text (free_of old)

-- the condition and the first result of a choice, which is in its place
pub record HasFirst (known : List Known) (c : Condition) (a : Expression) (text : Bool) (start now : Emitter) (to : Place) (first : Operand) : Type 0 where
  pub first_is : now.first ≡ start.first
  pub test : Cell
  pub condition : Statement
  pub result : Statement
  pub own_condition : List ValType
  pub own_result : List ValType
  pub code_is : now.block.code.items ≡ start.block.code.items
      ++ (steps_of condition ++ (step.Op (o.LocalGet test.value) ∷ (step.If ∷ (steps_of (seq result (copy_block first.kind to first.cell)) ++ step.Else ∷ []))))
  pub own_is : now.own.items ≡ start.own.items ++ (own_condition ++ (place_types text ++ own_result))
  pub place_is : to ≡ place_at text (free_of start + length own_condition)
  pub decides : Decides known c (free_of start) test condition own_condition
  pub computes : Computes known a (free_of start + length own_condition + length (place_types text)) first result own_result
