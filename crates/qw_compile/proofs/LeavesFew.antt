-- The literals of pipelines are no more than the nodes of their trees.
use Rattle.std.proofs.Common.{◌≤◌, List, length, length-append, sum_by, arith}
use Rattle.std.specs.List.{flat_map}
use Rattle.qw_scalar.specs.Nodes.{nodes, nodes_of}
use Rattle.qw_leaves.specs.Leaves.{leaves_in, leaves_within}
use Rattle.qw_leaves.proofs.LeafLists.{each_few}
use Rattle.qw_leaves.proofs.TreeLeaves.{condition_few, leaves_few}
use Rattle.qw_physical.specs.Sizes.{operator_size, sink_size, size}
use Rattle.qw_physical.specs.declared.pipeline.Operator.{Operator}
use Rattle.qw_physical.specs.declared.pipeline.Operator.TheVariants as operator
use Rattle.qw_physical.specs.declared.pipeline.Pipeline.{Pipeline}
use Rattle.qw_physical.specs.declared.pipeline.Sink.{Sink}
use Rattle.qw_physical.specs.declared.pipeline.Sink.TheVariants as sink
use Rattle.qw_compile.specs.QueryLiterals.{operator_leaves, pipeline_leaves, query_words, sink_leaves}
use Rattle.qw_compile.proofs.WordLemmas.{words_less}

operator_few : (o : Operator) → length (operator_leaves o) ≤ operator_size nodes nodes_of o
operator_few (operator.Filter conjuncts) = each_few leaves_within nodes_of conjuncts.items condition_few
operator_few (operator.Probe p) =
    let keys = each_few leaves_in nodes p.key.items leaves_few in
    let on = each_few leaves_within nodes_of p.on.items condition_few in
    omega (arith, keys, on, length-append (flat_map leaves_in p.key.items) (flat_map leaves_within p.on.items))

sink_few : (s : Sink) → length (sink_leaves s) ≤ sink_size nodes s
sink_few (sink.Build b) = each_few leaves_in nodes b.key.items leaves_few
sink_few (sink.Select items) = each_few leaves_in nodes items.items leaves_few

pipeline_few : (p : Pipeline) → length (pipeline_leaves p) ≤ size nodes nodes_of p
pipeline_few p =
    let operators = each_few operator_leaves (operator_size nodes nodes_of) p.operators.items operator_few in
    omega (arith, operators, sink_few p.sink, length-append (flat_map operator_leaves p.operators.items) (sink_leaves p.sink))

pub few_words : (ps : List Pipeline) → length (query_words ps) ≤ sum_by (size nodes nodes_of) ps
few_words ps = omega (arith, words_less (flat_map pipeline_leaves ps), each_few pipeline_leaves (size nodes nodes_of) ps pipeline_few)
