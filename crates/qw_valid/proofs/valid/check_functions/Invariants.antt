use Rattle.std.proofs.Common.{ℕ, ◌<◌, get_or}
use Rattle.qw_module.specs.declared.module.Function.{Function}
use Rattle.qw_module.specs.Validity.{IsValidFunction}
use Rattle.qw_valid.proofs.valid.check_functions.Given as goal

abbrev pub invariant-loop-number : goal.invariant-loop-number
invariant-loop-number l = (k : ℕ) (d : Function) → k < l.number → IsValidFunction l.module (get_or l.module.functions.items k d)
