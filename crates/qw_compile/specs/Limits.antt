-- Queries of a size that is always compiled, and their pipelines.
use Rattle.std.specs.Prelude.{ℕ, ◌+◌, ◌≤◌, List, length, sum_by}
use Rattle.qw_scalar.specs.Nodes.{nodes, nodes_of}
use Rattle.qw_meaning.specs.Query.{QueryParts}
use Rattle.qw_algebra.specs.Sizes.{query_size}
use Rattle.qw_physical.specs.Sizes.{size, weight_in, weight_within}
use Rattle.qw_physical.specs.declared.pipeline.Operator.{Operator}
use Rattle.qw_physical.specs.declared.pipeline.Operator.TheVariants as operator
use Rattle.qw_physical.specs.declared.pipeline.Pipeline.{Pipeline}
use Rattle.qw_physical.specs.declared.pipeline.Sink.{Sink}
use Rattle.qw_physical.specs.declared.pipeline.Sink.TheVariants as sink

-- how many nodes the trees of the query have, and how many octets the text literals in them (ISO/IEC 9075:1992, 5.3)
pub record IsShort (parts : QueryParts) : Type 0 where
  pub few_nodes : query_size nodes nodes_of parts ≤ 4012
  pub few_octets : query_size (weight_in length) (weight_within length) parts ≤ 16384

-- how many expressions there are in the key of a table, and in the keys that are looked up; and how many tables are
abbrev pub keys_of_sink : Sink → ℕ
keys_of_sink (sink.Build b) = length b.key.items
keys_of_sink (sink.Select items) = 0

abbrev pub keys_built : Pipeline → ℕ
keys_built p = keys_of_sink p.sink

abbrev pub keys_of_operator : Operator → ℕ
keys_of_operator (operator.Filter conjuncts) = 0
keys_of_operator (operator.Probe p) = length p.key.items

abbrev pub keys_sought : Pipeline → ℕ
keys_sought p = sum_by keys_of_operator p.operators.items

abbrev pub one_lookup : Operator → ℕ
one_lookup (operator.Filter conjuncts) = 0
one_lookup (operator.Probe p) = 1

abbrev pub lookups : Pipeline → ℕ
lookups p = sum_by one_lookup p.operators.items

-- The pipelines of such a query. The two operands of an equality that is a key stand in them for its three nodes or more.
pub record AreShort (ps : List Pipeline) : Type 0 where
  pub few_nodes : sum_by (size nodes nodes_of) ps + sum_by keys_built ps ≤ 4012
  pub few_keys : sum_by keys_built ps ≤ 1000
  pub matched : sum_by keys_sought ps ≤ sum_by keys_built ps
  pub few_lookups : sum_by lookups ps ≤ 7
  pub few : length ps ≤ 8
