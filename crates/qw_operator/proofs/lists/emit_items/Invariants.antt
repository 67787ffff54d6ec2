use Rattle.std.proofs.Common.{◌≤◌, ◌+◌, ◌*◌, map, sum_by, take}
use Rattle.qw_scalar.specs.Nodes.{nodes}
use Rattle.qw_scalar.specs.Tree.{expression_of}
use Rattle.qw_expr.specs.Bindings.{known_of}
use Rattle.qw_expr.specs.Emits.{extent}
use Rattle.qw_operator.specs.Emitted.{EmitsItems}
use Rattle.qw_operator.proofs.lists.emit_items.Given as goal

abbrev pub invariant-loop-item : goal.invariant-loop-item
invariant-loop-item l =
    EmitsItems (known_of l.known) (map expression_of (take l.item-index l.items)) l.initial.emitter l.emitter l.outs.items
    × (extent l.emitter ≤ extent l.initial.emitter + 400 * sum_by nodes (take l.item-index l.items))
