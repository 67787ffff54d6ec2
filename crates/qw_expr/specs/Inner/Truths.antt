-- Mirrors `src/compare.rt` and `src/truth.rt`: tests and truths of three values.
use Rattle.std.specs.Prelude.{◌≡◌, ℕ, ◌+◌, ◌++◌, Option, Some, None, List, [], ◌∷◌}
use Rattle.qw_module.specs.declared.instruction.Op.TheVariants as o
use Rattle.qw_low.specs.declared.cell.Cell.{Cell}
use Rattle.qw_low.specs.declared.step.LowStep.{LowStep}
use Rattle.qw_low.specs.declared.step.LowStep.TheVariants as step
use Rattle.qw_module.specs.declared.instruction.ValType.TheVariants.{I32}
use Rattle.qw_module.specs.declared.instruction.Const.TheVariants as const
use Rattle.qw_module.specs.declared.instruction.Binary.TheVariants.{And, Or}
use Rattle.qw_low.specs.Steps.{steps_of}
use Rattle.qw_expr.specs.declared.emitter.Emitter.{Emitter}
use Rattle.qw_expr.specs.Emits.{free_of}
use Rattle.qw_low.specs.Syntax.{Expression, constant_of, local, binop, is_zero, Statement, seq, assign, conditional}

abbrev pub i32 : ℕ → Expression
i32 n = constant_of (const.I32 n)

-- 0 where a value is null, and else what a block gives
abbrev pub zero_if_null : Option ℕ → (t : ℕ) → Statement → Statement
zero_if_null None t body = body
zero_if_null (Some n) t body = conditional (local n) (assign t (i32 0)) body

-- whether a truth is false: neither true nor unknown
abbrev pub is_false : (value : ℕ) → Option ℕ → Expression
is_false v None = is_zero I32 (local v)
is_false v (Some n) = is_zero I32 (binop I32 Or (local v) (local n))

-- the steps before and after what is done where no value is null
abbrev pub before_zero : Option ℕ → (t : ℕ) → List LowStep
before_zero None t = []
before_zero (Some n) t = step.Op (o.LocalGet n) ∷ step.If ∷ step.Op (o.Const (const.I32 0)) ∷ step.Op (o.LocalSet t) ∷ step.Else ∷ []

-- whether a truth isn't false, and whether it is unknown
abbrev pub may_hold : (value : ℕ) → Option ℕ → Expression
may_hold v None = local v
may_hold v (Some n) = binop I32 Or (local v) (local n)

abbrev pub unknown_word : Option ℕ → Expression
unknown_word None = i32 0
unknown_word (Some n) = local n

-- a truth into two locals, or one where it is never unknown
abbrev pub junction_null : (w : ℕ) → Option ℕ → Option ℕ → Option ℕ
junction_null w None None = None
junction_null w None (Some n) = Some w
junction_null w (Some m) n = Some w

abbrev pub set_truth : Option ℕ → (t : ℕ) → (is_true is_unknown : Expression) → Statement
set_truth None t is_true is_unknown = assign t is_true
set_truth (Some w) t is_true is_unknown = seq (assign t is_true) (assign w is_unknown)

-- AND skips its right side where the left one is false, OR where it is true
abbrev pub and_block : (c d : Cell) → (m : ℕ) → (second : Statement) → Statement
and_block c d m second =
    conditional (may_hold c.value c.null)
    (seq second (set_truth (junction_null (m + 1) c.null d.null) m (binop I32 And (local c.value) (local d.value)) (binop I32 And (binop I32 Or (unknown_word c.null) (unknown_word d.null)) (may_hold d.value d.null))))
    (set_truth (junction_null (m + 1) c.null d.null) m (i32 0) (i32 0))

abbrev pub or_block : (c d : Cell) → (m : ℕ) → (second : Statement) → Statement
or_block c d m second =
    conditional (is_zero I32 (local c.value))
    (seq second (set_truth (junction_null (m + 1) c.null d.null) m (local d.value) (binop I32 And (binop I32 Or (unknown_word c.null) (unknown_word d.null)) (is_zero I32 (local d.value)))))
    (set_truth (junction_null (m + 1) c.null d.null) m (i32 1) (i32 0))

-- what a test in a local of its own adds to an emitter
pub record AddsTest (e : Expression) (old new : Emitter) (t : ℕ) : Type 0 where
  pub first_is : new.first ≡ old.first
  pub own_is : new.own.items ≡ old.own.items ++ I32 ∷ []
  pub local_is : t ≡ free_of old
  pub code_is : new.block.code.items ≡ old.block.code.items ++ steps_of (assign t e)
