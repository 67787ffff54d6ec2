-- A short query with DISTINCT that isn't grouped has short pipelines, with what makes a row of each key behind them.
use Rattle.std.proofs.Common.{◌≡◌, ◌∙◌, ◌+◌, ◌≤◌, List, [], length, sum_by, ap, arith}
use Rattle.std.proofs.lemmas.List.{length-map}
use Rattle.qw_scalar.specs.Nodes.{nodes, nodes_of}
use Rattle.qw_scalar.specs.Tree.{expression_of}
use Rattle.qw_meaning.specs.Query.{QueryParts, query_of}
use Rattle.qw_algebra.specs.Sizes.{query_size}
use Rattle.qw_physical.specs.Sizes.{size}
use Rattle.qw_physical.specs.declared.pipeline.Pipeline.{Pipeline}
use Rattle.qw_physical.specs.declared.pipeline.ReadColumn.{ReadColumn}
use Rattle.qw_group_pipeline.specs.declared.columns.ValueColumn.{ValueColumn}
use Rattle.qw_compile.specs.Limits.{AreShort, keys_built, keys_sought, lookups}
use Rattle.qw_compile_whole.specs.DistinctLimits.{IsShortDistinct}
use Rattle.qw_compile_whole.specs.GroupColumns.{key_from}
use Rattle.qw_compile_whole.specs.GroupedLimits.{AreShortGrouped}
use Rattle.qw_compile_whole.specs.WholeDistinct.{distinct_columns}
use Rattle.qw_compile_whole.proofs.PlainDistinctReady.{group_over_long}

pub distinct_short : (parts : QueryParts) → IsShortDistinct parts → (ps : List Pipeline) (behind : Pipeline) → AreShort ps → sum_by (size nodes nodes_of) ps + sum_by keys_built ps ≤ query_size nodes nodes_of parts → (key : List ReadColumn) (values : List ValueColumn) →
    key ≡ key_from 0 (distinct_columns 0 (query_of parts).items) → values ≡ [] → size nodes nodes_of behind ≡ length key → keys_sought behind + (keys_built behind + lookups behind) ≡ 0 → AreShortGrouped ps behind (length key + length values)
distinct_short parts fits ps behind are keyed key values key_is none sized alone = record {
  before = are;
  alone = alone;
  few_nodes =
      (let few = fits.few_keys in
      let many = ap (λ (l : List ReadColumn). length l) key_is ∙ (group_over_long 0 (query_of parts).items ∙ length-map parts.items expression_of) in
      omega (arith, few, keyed, many, ap (λ (l : List ValueColumn). length l) none, sized));
}
