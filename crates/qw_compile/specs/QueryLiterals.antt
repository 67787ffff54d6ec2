-- The literals of pipelines (ISO/IEC 9075:1992, 5.3), in the order in which they stand in their trees.
use Rattle.std.specs.Prelude.{ℕ, List, ◌++◌}
use Rattle.std.specs.List.{flat_map}
use Rattle.qw_leaves.specs.declared.leaf.Leaf.{Leaf}
use Rattle.qw_read.specs.declared.constant.Word.{Word}
use Rattle.qw_physical.specs.declared.pipeline.Operator.{Operator}
use Rattle.qw_physical.specs.declared.pipeline.Operator.TheVariants as operator
use Rattle.qw_physical.specs.declared.pipeline.Pipeline.{Pipeline}
use Rattle.qw_physical.specs.declared.pipeline.Sink.{Sink}
use Rattle.qw_physical.specs.declared.pipeline.Sink.TheVariants as sink
use Rattle.qw_leaves.specs.Leaves.{leaves_in, leaves_within, texts_among}
use Rattle.qw_compile.specs.Words.{words_among}

-- the leaves of a pipeline's trees: of its operators, and then of its sink
abbrev pub operator_leaves : Operator → List Leaf
operator_leaves (operator.Filter conjuncts) = flat_map leaves_within conjuncts.items
operator_leaves (operator.Probe p) = flat_map leaves_in p.key.items ++ flat_map leaves_within p.on.items

abbrev pub sink_leaves : Sink → List Leaf
sink_leaves (sink.Build b) = flat_map leaves_in b.key.items
sink_leaves (sink.Select items) = flat_map leaves_in items.items

abbrev pub pipeline_leaves : Pipeline → List Leaf
pipeline_leaves p = flat_map operator_leaves p.operators.items ++ sink_leaves p.sink

-- the texts of all pipelines
abbrev pub query_texts : List Pipeline → List (List ℕ)
query_texts pipelines = texts_among (flat_map pipeline_leaves pipelines)

abbrev pub query_words : List Pipeline → List Word
query_words pipelines = words_among (flat_map pipeline_leaves pipelines)
