use Rattle.std.proofs.Common.{map, drop}
use Rattle.qw_ast.specs.SyntaxTree.{source_of}
use Rattle.qw_ast.specs.Limits.{nodes_condition, octets_condition, over_sources}
use Rattle.qw_parse.specs.Inner.Sizes.{GoesOn}
use Rattle.qw_parse.proofs.size.Size.sources.Given as goal

abbrev pub invariant-loop-source : goal.invariant-loop-source
invariant-loop-source l =
    GoesOn l.fn.self (over_sources nodes_condition (map source_of l.sources)) (over_sources octets_condition (map source_of l.sources)) l.size (over_sources nodes_condition (map source_of (drop l.source-index l.sources)))
    (over_sources octets_condition (map source_of (drop l.source-index l.sources)))
