use Rattle.std.proofs.Common.{map, drop}
use Rattle.qw_ast.specs.SyntaxTree.{item_of}
use Rattle.qw_ast.specs.Limits.{nodes, octets, over_items}
use Rattle.qw_parse.specs.Inner.Sizes.{GoesOn}
use Rattle.qw_parse.proofs.size.Size.items.Given as goal

abbrev pub invariant-loop-item : goal.invariant-loop-item
invariant-loop-item l =
    GoesOn l.fn.self (over_items nodes (map item_of l.items)) (over_items octets (map item_of l.items)) l.size (over_items nodes (map item_of (drop l.item-index l.items))) (over_items octets (map item_of (drop l.item-index l.items)))
