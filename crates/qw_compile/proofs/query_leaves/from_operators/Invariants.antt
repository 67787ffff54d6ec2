use Rattle.std.proofs.Common.{take}
use Rattle.std.specs.List.{flat_map}
use Rattle.qw_leaves.specs.Leaves.{Gathers}
use Rattle.qw_compile.specs.QueryLiterals.{operator_leaves}
use Rattle.qw_compile.proofs.query_leaves.from_operators.Given as goal

abbrev pub invariant-loop-operator : goal.invariant-loop-operator
invariant-loop-operator l = Gathers l.initial.leaves.items l.leaves.items (flat_map operator_leaves (take l.operator-index l.operators))
