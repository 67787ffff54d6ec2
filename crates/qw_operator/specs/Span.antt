-- How long what is emitted for a pipeline's row may be, by its trees and what is innermost.
use Rattle.std.specs.Prelude.{ℕ, ◌+◌, ◌*◌, List, [], ◌∷◌, length, sum_by}
use Rattle.qw_scalar.specs.Nodes.{nodes, nodes_of}
use Rattle.qw_physical.specs.declared.pipeline.Operator.{Operator}
use Rattle.qw_physical.specs.declared.pipeline.Operator.TheVariants as operator
use Rattle.qw_physical.specs.declared.pipeline.Probe.{Probe}
use Rattle.qw_physical.specs.declared.pipeline.Sink.{Sink}
use Rattle.qw_physical.specs.declared.pipeline.Sink.TheVariants as sink

-- the most steps and locals of a sink's block
abbrev pub sink_span : Sink → ℕ
sink_span (sink.Build b) = 400 * sum_by nodes b.key.items + 205 * length b.key.items + 13 * length b.kept.items + 100
sink_span (sink.Select items) = 400 * sum_by nodes items.items + 20 * length items.items + 100

-- the most steps and locals of an operator's block, beside what is within it
abbrev pub probe_span : Probe → ℕ
probe_span p = 400 * sum_by nodes p.key.items + 358 * length p.key.items + 27 * length p.kept.items + 420 * sum_by nodes_of p.on.items + 100

abbrev pub operator_span : Operator → ℕ
operator_span (operator.Filter conjuncts) = 420 * sum_by nodes_of conjuncts.items
operator_span (operator.Probe p) = probe_span p

-- the operators, and within them so much
abbrev pub span : List Operator → (inner : ℕ) → ℕ
span [] inner = inner
span (o ∷ operators) inner = operator_span o + span operators inner
