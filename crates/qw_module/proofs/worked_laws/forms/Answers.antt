use Rattle.std.proofs.Common.{ℕ, zero, suc, [], ◌∷◌}
use Rattle.qw_module.specs.Syntax.{done, call}
use Rattle.qw_module.specs.Execution.{host_raise}
use Rattle.qw_module.specs.Form.{NestIn}
use Rattle.qw_module.specs.Worked.{plain_function}
use Rattle.qw_module.proofs.worked_laws.forms.Goals as goal

pub returns-clause-of_itself : goal.returns-clause-of_itself
returns-clause-of_itself c = λ depth nests. endless depth nests where
  endless : (depth : ℕ) → NestIn (plain_function (call 0 done) ∷ []) depth 0 → ⊥
  endless zero nests = absurd nests
  endless (suc depth) nests = endless depth nests.0

pub returns-clause-of_none : goal.returns-clause-of_none
returns-clause-of_none c = λ depth nests. nothing_there depth nests where
  nothing_called : (depth : ℕ) → NestIn (host_raise ∷ plain_function (call 2 done) ∷ []) depth 2 → ⊥
  nothing_called zero nests = absurd nests
  nothing_called (suc depth) nests = absurd nests

  nothing_there : (depth : ℕ) → NestIn (host_raise ∷ plain_function (call 2 done) ∷ []) depth 1 → ⊥
  nothing_there zero nests = absurd nests
  nothing_there (suc depth) nests = nothing_called depth nests.0
