-- Mirrors `src/junction.rt`: what AND and OR add to an emitter.
use Rattle.std.specs.Prelude.{◌≡◌, ◌+◌, ◌++◌, [], ◌∷◌}
use Rattle.qw_module.specs.declared.instruction.ValType.TheVariants.{I32}
use Rattle.qw_module.specs.declared.instruction.Binary.TheVariants.{And, Or}
use Rattle.qw_low.specs.declared.cell.Cell.{Cell}
use Rattle.qw_low.specs.declared.step.LowStep.TheVariants as step
use Rattle.qw_low.specs.Syntax.{Expression, local, binop, is_zero}
use Rattle.qw_low.specs.Steps.{expression_steps}
use Rattle.qw_expr.specs.declared.emitter.Emitter.{Emitter}
use Rattle.qw_expr.specs.Emits.{free_of}
use Rattle.qw_expr.specs.Inner.Truths.{may_hold, unknown_word, junction_null}

abbrev pub and_truth : (c d : Cell) → Expression
and_truth c d = binop I32 And (local c.value) (local d.value)

abbrev pub and_unknown : (c d : Cell) → Expression
and_unknown c d = binop I32 And (binop I32 Or (unknown_word c.null) (unknown_word d.null)) (may_hold d.value d.null)

abbrev pub or_unknown : (c d : Cell) → Expression
or_unknown c d = binop I32 And (binop I32 Or (unknown_word c.null) (unknown_word d.null)) (is_zero I32 (local d.value))

-- the right side begins where a test says so
pub record Begins (e : Expression) (old new : Emitter) : Type 0 where
  pub first_is : new.first ≡ old.first
  pub own_is : new.own.items ≡ old.own.items
  pub code_is : new.block.code.items ≡ old.block.code.items ++ (expression_steps e ++ step.If ∷ [])

pub record TakesCell (left right : Cell) (old new : Emitter) (out : Cell) : Type 0 where
  pub first_is : new.first ≡ old.first
  pub own_is : new.own.items ≡ old.own.items ++ I32 ∷ I32 ∷ []
  pub code_is : new.block.code.items ≡ old.block.code.items
  pub out_is : out ≡ record { value = free_of old; length = free_of old; null = junction_null (free_of old + 1) left.null right.null }
