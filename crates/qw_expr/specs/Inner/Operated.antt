-- Mirrors `src/arithmetic.rt`: the steps that an operator on operands adds, and the operand that it makes.
use Rattle.std.specs.Prelude.{◌≡◌, ℕ, ℤ, ◌+◌, ◌++◌, [], ◌∷◌, List, Option, Some, Result}
use Rattle.qw_types.specs.declared.code.Code.{Code}
use Rattle.qw_types.specs.declared.kind.Kind.TheVariants as kind
use Rattle.qw_module.specs.declared.instruction.ValType.TheVariants.{I32, I64}
use Rattle.qw_scalar.specs.declared.expression.Operator.{Operator}
use Rattle.qw_scalar.specs.Evaluation.{applied}
use Rattle.qw_scalar.specs.Expression.{scale_after}
use Rattle.qw_low.specs.declared.cell.Cell.{Cell}
use Rattle.qw_low.specs.declared.step.LowStep.{LowStep}
use Rattle.std.specs.declared.cmp.Ordering.{Ordering}
use Rattle.qw_scalar.specs.declared.comparison.Comparison.{Comparison}
use Rattle.qw_low.specs.Syntax.{Statement, seq}
use Rattle.qw_low.specs.Steps.{steps_of}
use Rattle.qw_wide.specs.declared.arithmetic.Scaled.{Scaled}
use Rattle.qw_wide.specs.Numbers.{Operates, Converts, Tests}
use Rattle.qw_expr.specs.declared.emitter.Emitter.{Emitter}
use Rattle.qw_expr.specs.declared.operand.Operand.{Operand}
use Rattle.qw_expr.specs.Emits.{free_of}
use Rattle.qw_expr.specs.Inner.Truths.{zero_if_null}
use Rattle.qw_expr.specs.Inner.Nulls.{join_block, joined_null, before_unless, after_unless}

-- the operand of a number
abbrev pub number_at : (out : ℕ) → (null : Option ℕ) → (scale most : ℕ) → Operand
number_at out null scale most = record { cell = record { value = out; length = out; null = null }; kind = Some (kind.Number scale); scale = scale; most = most }

-- an operator on two numbers, unless one is null
pub record Operated (operator : Operator) (sa sb m : ℕ) (left right out : Operand) (code : List LowStep) (made : Scaled) : Type 0 where
  pub f : Statement
  pub code_is : code ≡ steps_of (join_block m left.cell.null right.cell.null) ++ (before_unless (joined_null m left.cell.null right.cell.null) ++ (steps_of f ++ after_unless (joined_null m left.cell.null right.cell.null)))
  pub operates : Operates (λ v w. applied operator v sa w sb) left.cell.value left.most right.cell.value right.most (m + 1) made.local made.most f
  pub out_is : out ≡ number_at made.local (joined_null m left.cell.null right.cell.null) (scale_after operator sa sb) made.most

-- an operation on one number, unless it is null
pub record Converted (operation : ℤ → Result ℤ Code) (scale m : ℕ) (operand out : Operand) (code : List LowStep) (made : Scaled) : Type 0 where
  pub f : Statement
  pub code_is : code ≡ before_unless operand.cell.null ++ (steps_of f ++ after_unless operand.cell.null)
  pub converts : Converts operation operand.cell.value operand.most m made.local made.most f
  pub out_is : out ≡ number_at made.local operand.cell.null scale made.most

-- what an operator on operands does to an emitter
pub record AddsOperator (operator : Operator) (left right : Operand) (old new : Emitter) (out : Operand) : Type 0 where
  pub first_is : new.first ≡ old.first
  pub own_is : new.own.items ≡ old.own.items ++ I32 ∷ I64 ∷ I64 ∷ []
  pub code : List LowStep
  pub made : Scaled
  pub code_is : new.block.code.items ≡ old.block.code.items ++ code
  pub operated : Operated operator left.scale right.scale (free_of old) left right out code made

pub record AddsOperation (operation : ℤ → Result ℤ Code) (scale : ℕ) (operand : Operand) (old new : Emitter) (out : Operand) : Type 0 where
  pub first_is : new.first ≡ old.first
  pub own_is : new.own.items ≡ old.own.items ++ I64 ∷ []
  pub code : List LowStep
  pub made : Scaled
  pub code_is : new.block.code.items ≡ old.block.code.items ++ code
  pub converted : Converted operation scale (free_of old) operand out code made

-- what a comparison adds to an emitter: the truth of two numbers in the second local, by a block whose own local is the third
pub record AddsComparison (operator : Comparison) (order : ℤ → ℤ → Ordering) (x mx y my : ℕ) (left right : Option ℕ) (old new : Emitter) (out : Cell) : Type 0 where
  pub first_is : new.first ≡ old.first
  pub own_is : new.own.items ≡ old.own.items ++ I32 ∷ I32 ∷ I64 ∷ []
  pub f : Statement
  pub code_is : new.block.code.items ≡ old.block.code.items ++ steps_of
      (seq (join_block (free_of old) left right) (zero_if_null (joined_null (free_of old) left right) (free_of old + 1) f))
  pub tests : Tests operator order x mx y my (free_of old + 2) (free_of old + 1) f
  pub out_is : out ≡ record { value = free_of old + 1; length = free_of old + 1; null = joined_null (free_of old) left right }
