use Rattle.std.proofs.Common.{◌≡◌, map, take}
use Rattle.qw_scalar.specs.Tree.{condition_of}
use Rattle.qw_grouped.proofs.front.copy_conditions.Given as goal

abbrev pub invariant-loop-condition : goal.invariant-loop-condition
invariant-loop-condition l = map condition_of l.all.items ≡ map condition_of (take l.condition-index l.conditions)
