-- Mirrors `src/literal.rt`: what fields of dates add to an emitter.
use Rattle.std.specs.Prelude.{◌≡◌, ℕ, ◌++◌, [], ◌∷◌}
use Rattle.qw_module.specs.declared.instruction.ValType.TheVariants.{I64}
use Rattle.qw_scalar.specs.declared.expression.Field.{Field}
use Rattle.qw_scalar.specs.declared.expression.Field.TheVariants.{Year, Month, Day}
use Rattle.qw_low.specs.Steps.{steps_of}
use Rattle.qw_expr.specs.declared.emitter.Emitter.{Emitter}
use Rattle.qw_expr.specs.declared.operand.Operand.{Operand}
use Rattle.qw_expr.specs.Emits.{free_of}
use Rattle.qw_expr.specs.Inner.Nulls.{unless_null}
use Rattle.qw_expr.specs.Inner.Fields.{field_block}
use Rattle.qw_expr.specs.Inner.Operated.{number_at}

abbrev pub limit_of : Field → ℕ
limit_of Year = 9999
limit_of Month = 99
limit_of Day = 99

pub record AddsField (field : Field) (operand : Operand) (old new : Emitter) (out : Operand) : Type 0 where
  pub first_is : new.first ≡ old.first
  pub own_is : new.own.items ≡ old.own.items ++ I64 ∷ []
  pub code_is : new.block.code.items ≡ old.block.code.items ++ steps_of (unless_null operand.cell.null (field_block field (free_of old) operand.cell.value))
  pub out_is : out ≡ number_at (free_of old) operand.cell.null 0 (limit_of field)
