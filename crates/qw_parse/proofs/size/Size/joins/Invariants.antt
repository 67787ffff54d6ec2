use Rattle.std.proofs.Common.{map, drop}
use Rattle.qw_ast.specs.SyntaxTree.{joined_of}
use Rattle.qw_ast.specs.Limits.{nodes_condition, octets_condition, over_joins}
use Rattle.qw_parse.specs.Inner.Sizes.{GoesOn}
use Rattle.qw_parse.proofs.size.Size.joins.Given as goal

abbrev pub invariant-loop-join : goal.invariant-loop-join
invariant-loop-join l =
    GoesOn l.fn.self (over_joins nodes_condition (map joined_of l.joins)) (over_joins octets_condition (map joined_of l.joins)) l.size (over_joins nodes_condition (map joined_of (drop l.join-index l.joins)))
    (over_joins octets_condition (map joined_of (drop l.join-index l.joins)))
