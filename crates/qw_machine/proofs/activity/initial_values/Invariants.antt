use Rattle.std.proofs.Common.{◌≡◌, map, take}
use Rattle.qw_machine.proofs.InitialValues.{value_at_first}
use Rattle.qw_machine.proofs.activity.initial_values.Given as goal

-- the values of the globals so far
abbrev pub invariant-loop-global : goal.invariant-loop-global
invariant-loop-global l = l.values.items ≡ map value_at_first (take l.global-index l.globals)
