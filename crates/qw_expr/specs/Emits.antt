-- What emitting an expression or a condition does to an emitter.
use Rattle.std.specs.Prelude.{◌≡◌, ℕ, ◌+◌, ◌++◌, List, length}
use Rattle.qw_module.specs.declared.instruction.ValType.{ValType}
use Rattle.qw_scalar.specs.declared.comparison.Comparison.{Comparison}
use Rattle.qw_scalar.specs.declared.comparison.Comparison.TheVariants.{Like, NotLike}
use Rattle.qw_scalar.specs.Expression.{Expression, Condition}
use Rattle.qw_low.specs.declared.cell.Cell.{Cell}
use Rattle.qw_low.specs.Syntax.{Statement}
use Rattle.qw_low.specs.Steps.{steps_of}
use Rattle.qw_expr.specs.declared.emitter.Emitter.{Emitter}
use Rattle.qw_expr.specs.declared.operand.Operand.{Operand}
use Rattle.qw_expr.specs.Computes.{Known, Computes, Decides}

-- the first local that an emitter leaves unused
abbrev pub free_of : Emitter → ℕ
free_of emitter = emitter.first + length emitter.own.items

-- how much was emitted: the steps of the block, and the locals of its own, each of which the module declares
abbrev pub extent : Emitter → ℕ
extent emitter = length emitter.block.code.items + length emitter.own.items

-- how much a comparison emits at most, besides its operands
abbrev pub comparing : Comparison → ℕ
comparing Like = 200
comparing NotLike = 200
comparing _ = 130

-- From one state of an emitter to another the steps of a block were added, and the types of its own locals, which computes the expression.
pub record Emits (known : List Known) (e : Expression) (old new : Emitter) (out : Operand) : Type 0 where
  pub first_is : new.first ≡ old.first
  pub statement : Statement
  pub own : List ValType
  pub code_is : new.block.code.items ≡ old.block.code.items ++ steps_of statement
  pub own_is : new.own.items ≡ old.own.items ++ own
  pub computes : Computes known e (free_of old) out statement own

-- the same of a condition
pub record EmitsTruth (known : List Known) (c : Condition) (old new : Emitter) (out : Cell) : Type 0 where
  pub first_is : new.first ≡ old.first
  pub statement : Statement
  pub own : List ValType
  pub code_is : new.block.code.items ≡ old.block.code.items ++ steps_of statement
  pub own_is : new.own.items ≡ old.own.items ++ own
  pub decides : Decides known c (free_of old) out statement own
