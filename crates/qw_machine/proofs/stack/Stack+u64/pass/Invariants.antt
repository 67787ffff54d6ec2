use Rattle.std.proofs.Common.{◌≡◌, ◌++◌, take, vec_capacity}
use Rattle.qw_machine.proofs.stack.Stack+u64.pass.Given as goal

abbrev pub invariant-loop-value : goal.invariant-loop-value
invariant-loop-value l = (l.to.items ≡ l.initial.to.items ++ take l.value-index l.value-items) × (vec_capacity l.to ≡ vec_capacity l.initial.to)
