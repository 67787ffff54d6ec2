-- How many steps and locals pipelines have at most, by their nodes, their keys and their lookups.
use Rattle.std.proofs.Common.{ℕ, ◌+◌, ◌*◌, ◌≤◌, List, [], ◌∷◌, length, map, sum_by, arith}
use Rattle.std.specs.List.{AllByRecursion}
use Rattle.std.proofs.lemmas.List.Sums.{sum_by-cons}
use Rattle.qw_scalar.specs.Nodes.{nodes, nodes_of}
use Rattle.qw_expr.specs.Computes.{Known}
use Rattle.qw_read.specs.declared.reader.Reader.{Reader}
use Rattle.qw_physical.specs.Coded.{operator_of, sink_of}
use Rattle.qw_physical.specs.Sizes.{operator_size, sink_size, size}
use Rattle.qw_physical.specs.declared.pipeline.Operator.{Operator}
use Rattle.qw_physical.specs.declared.pipeline.Operator.TheVariants as operator
use Rattle.qw_physical.specs.declared.pipeline.Pipeline.{Pipeline}
use Rattle.qw_physical.specs.declared.pipeline.Sink.{Sink}
use Rattle.qw_physical.specs.declared.pipeline.Sink.TheVariants as sink
use Rattle.qw_operator.specs.Span.{sink_span, span}
use Rattle.qw_operator.specs.Takes.{CanCarry, CanSink}
use Rattle.qw_compile.specs.CourseSpan.{course_span}
use Rattle.qw_compile.specs.Limits.{AreShort, keys_built, keys_of_operator, keys_of_sink, keys_sought, lookups, one_lookup}
use Rattle.qw_compile.specs.QueryLocals.{readers_over}
use Rattle.qw_leaves.proofs.TreeLeaves.{many_nodes}

-- ---- a pipeline
few_sink : (s : Sink) → CanSink (sink_of s) → sink_span s ≤ 420 * sink_size nodes s + 185 * keys_of_sink s + 6756
few_sink (sink.Build b) can = let kept : length b.kept.items ≤ 512 = can.1 in omega (arith, kept, many_nodes b.key.items)
few_sink (sink.Select items) can = omega (arith, many_nodes items.items)

pub few_operators : (os : List Operator) (s : Sink) (known : List Known) → CanCarry known (map operator_of os) (sink_of s)
    → span os (sink_span s) ≤ 420 * (sum_by (operator_size nodes nodes_of) os + sink_size nodes s) + 338 * sum_by keys_of_operator os + 185 * keys_of_sink s + 13924 * sum_by one_lookup os + 6756
few_operators [] s known can = let own = few_sink s can.1 in omega (arith, own)
few_operators (operator.Filter cs ∷ os) s known can =
    let rest = few_operators os s known can.1 in
    omega (
      arith,
      rest,
      sum_by-cons (operator_size nodes nodes_of) (operator.Filter cs) os,
      sum_by-cons keys_of_operator (operator.Filter cs) os,
      sum_by-cons one_lookup (operator.Filter cs) os,
    )
few_operators (operator.Probe p ∷ os) s known can =
    let rest = few_operators os s _ can.3 in
    let kept : length p.kept.items ≤ 512 = can.1.1 in
    omega (
      arith,
      rest,
      kept,
      many_nodes p.key.items,
      sum_by-cons (operator_size nodes nodes_of) (operator.Probe p) os,
      sum_by-cons keys_of_operator (operator.Probe p) os,
      sum_by-cons one_lookup (operator.Probe p) os,
    )

-- what is known where it is emitted doesn't matter
pub record CanBe (p : Pipeline) : Type 0 where
  pub known : List Known
  pub takes : CanCarry known (map operator_of p.operators.items) (sink_of p.sink)

few_steps : (readers : List Reader) (p : Pipeline) → CanBe p → length (readers_over p.entry readers) ≤ 64
    → course_span readers p ≤ 420 * size nodes nodes_of p + 338 * keys_sought p + 185 * keys_built p + 13924 * lookups p + 16008
few_steps readers p can few = let own = few_operators p.operators.items p.sink can.known can.takes in omega (arith, own, few)

-- ---- all of them
pub all_steps : (readers : List Reader) → ((entry : ℕ) → length (readers_over entry readers) ≤ 64) → (ps : List Pipeline) → AllByRecursion CanBe ps
    → sum_by (course_span readers) ps ≤ 420 * sum_by (size nodes nodes_of) ps + 338 * sum_by keys_sought ps + 185 * sum_by keys_built ps + 13924 * sum_by lookups ps + 16008 * length ps
all_steps readers few [] can = omega arith
all_steps readers few (p ∷ ps) can =
    let rest = all_steps readers few ps can.1 in
    let own = few_steps readers p can.0 (few p.entry) in
    omega (
      arith,
      rest,
      own,
      sum_by-cons (course_span readers) p ps,
      sum_by-cons (size nodes nodes_of) p ps,
      sum_by-cons keys_sought p ps,
      sum_by-cons keys_built p ps,
      sum_by-cons lookups p ps,
    )

pub short_steps : (readers : List Reader) → ((entry : ℕ) → length (readers_over entry readers) ≤ 64) → (ps : List Pipeline) → AllByRecursion CanBe ps → AreShort ps → sum_by (course_span readers) ps ≤ 2013572
short_steps readers few ps can short = let all = all_steps readers few ps can in omega (arith, all, short.few_nodes, short.few_keys, short.matched, short.few_lookups, short.few)
