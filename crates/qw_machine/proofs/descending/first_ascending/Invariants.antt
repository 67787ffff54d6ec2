use Rattle.std.proofs.Common.{ℕ, ◌<◌, get_or}
use Rattle.qw_module.specs.declared.module.Function.{Function}
use Rattle.qw_module.specs.Validity.{DescendsAt}
use Rattle.qw_machine.proofs.descending.first_ascending.Given as goal

abbrev pub invariant-loop-number : goal.invariant-loop-number
invariant-loop-number l = (k : ℕ) (d : Function) → k < l.number → DescendsAt l.module k (get_or l.module.functions.items k d)
