-- Mirrors `field_steps` of `src/literal.rt`: a field of a date.
use Rattle.std.specs.Prelude.{ℕ}
use Rattle.qw_module.specs.declared.instruction.ValType.TheVariants.{I64}
use Rattle.qw_module.specs.declared.instruction.Sign.TheVariants.{Signed}
use Rattle.qw_module.specs.declared.instruction.Const.TheVariants as const
use Rattle.qw_module.specs.declared.instruction.Division.TheVariants.{Div, Rem}
use Rattle.qw_scalar.specs.declared.expression.Field.{Field}
use Rattle.qw_scalar.specs.declared.expression.Field.TheVariants.{Year, Month, Day}
use Rattle.qw_low.specs.Syntax.{constant_of, local, divop, Statement, assign}

abbrev pub field_block : Field → (n x : ℕ) → Statement
field_block Year n x = assign n (divop I64 (Div Signed) (local x) (constant_of (const.I64 10000)))
field_block Month n x = assign n (divop I64 (Rem Signed) (divop I64 (Div Signed) (local x) (constant_of (const.I64 100))) (constant_of (const.I64 100)))
field_block Day n x = assign n (divop I64 (Rem Signed) (local x) (constant_of (const.I64 100)))
