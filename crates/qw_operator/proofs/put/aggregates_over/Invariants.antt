use Rattle.std.proofs.Common.{◌≡◌, take}
use Rattle.qw_operator.specs.Grouping.{over_fields}
use Rattle.qw_operator.proofs.put.aggregates_over.Given as goal

abbrev pub invariant-loop-index : goal.invariant-loop-index
invariant-loop-index l = l.made.items ≡ over_fields (take l.index l.functions) l.arguments
