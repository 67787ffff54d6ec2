-- Mirrors `src/emitter.rt`: null words, and what is done only where there is a value.
use Rattle.std.specs.Prelude.{ℕ, Option, Some, None, List, [], ◌∷◌}
use Rattle.qw_module.specs.declared.instruction.Op.TheVariants as o
use Rattle.qw_low.specs.declared.step.LowStep.{LowStep}
use Rattle.qw_low.specs.declared.step.LowStep.TheVariants as step
use Rattle.qw_module.specs.declared.instruction.ValType.TheVariants.{I32}
use Rattle.qw_module.specs.declared.instruction.Binary.TheVariants.{Or}
use Rattle.qw_low.specs.Syntax.{Statement, local, binop, skip, assign, conditional}

-- a value is null where either of two is: in the local `p` if both may be
abbrev pub join_block : (p : ℕ) → Option ℕ → Option ℕ → Statement
join_block p None n = skip
join_block p (Some m) None = skip
join_block p (Some m) (Some n) = assign p (binop I32 Or (local m) (local n))

abbrev pub joined_null : (p : ℕ) → Option ℕ → Option ℕ → Option ℕ
joined_null p None n = n
joined_null p (Some m) None = Some m
joined_null p (Some m) (Some n) = Some p

abbrev pub unless_null : Option ℕ → Statement → Statement
unless_null None body = body
unless_null (Some n) body = conditional (local n) skip body

-- the steps before and after what is done unless a value is null
abbrev pub before_unless : Option ℕ → List LowStep
before_unless None = []
before_unless (Some n) = step.Op (o.LocalGet n) ∷ step.If ∷ step.Else ∷ []

abbrev pub after_unless : Option ℕ → List LowStep
after_unless None = []
after_unless (Some n) = step.End ∷ []
