use Rattle.std.proofs.Common.{take}
use Rattle.std.specs.List.{flat_map}
use Rattle.qw_leaves.specs.Leaves.{Gathers, leaves_in}
use Rattle.qw_leaves.proofs.gather.from_items.Given as goal

abbrev pub invariant-loop-item : goal.invariant-loop-item
invariant-loop-item l = Gathers l.initial.leaves.items l.leaves.items (flat_map leaves_in (take l.item-index l.items))
