-- A short grouped query has few text literals, and short pipelines.
use Rattle.std.proofs.Common.{◌≡◌, ℕ, ◌+◌, ◌≤◌, List, [], ◌++◌, length, length-append, sum_by, ap, ◌∙◌, arith}
use Rattle.std.specs.List.{concat, flat_map}
use Rattle.std.proofs.lemmas.List.Sums.{sum_by-append}
use Rattle.qw_scalar.specs.Nodes.{nodes, nodes_of}
use Rattle.qw_scalar.specs.Texts.{texts_in, texts_within}
use Rattle.qw_meaning.specs.Query.{QueryParts}
use Rattle.qw_algebra.specs.Sizes.{query_size}
use Rattle.qw_grouped.specs.Query.{GroupedParts}
use Rattle.qw_physical.specs.Sizes.{size}
use Rattle.qw_physical.specs.declared.pipeline.Pipeline.{Pipeline}
use Rattle.qw_compile.specs.Limits.{AreShort, IsShort, keys_built, keys_sought, lookups}
use Rattle.qw_compile.specs.WrittenTexts.{texts_of_query}
use Rattle.qw_compile.proofs.TextsFew.{in_query, octets_are}
use Rattle.qw_compile.proofs.TextsWithin.{query_weighs}
use Rattle.qw_compile_whole.specs.GroupedLimits.{AreShortGrouped}
use Rattle.qw_compile_whole.specs.WholeLimits.{IsShortGrouped, front_size}
use Rattle.qw_compile_whole.specs.WholeTexts.{front_texts, texts_of_grouped}

abbrev behind_texts : GroupedParts → List (List ℕ)
behind_texts parts = flat_map texts_within parts.having ++ flat_map texts_in parts.items

module _ (parts : GroupedParts) (short : IsShortGrouped parts) (before : QueryParts) (sizes : query_size nodes nodes_of before ≡ front_size nodes nodes_of parts + length parts.columns) (texts : texts_of_query before ≡ front_texts parts) where
  octets_apart : length (concat (texts_of_grouped parts)) ≡ sum_by (λ (t : List ℕ). length t) (front_texts parts) + sum_by (λ (t : List ℕ). length t) (behind_texts parts)
  octets_apart = octets_are (texts_of_grouped parts) ∙ sum_by-append (λ (t : List ℕ). length t) (front_texts parts) (behind_texts parts)

  pub front_short : IsShort before
  front_short =
      let nodes_few = short.few_nodes in
      let octets_few = short.few_octets in
      record {
        few_nodes = omega (arith, nodes_few, sizes);
        few_octets = omega (arith, octets_few, octets_apart, query_weighs (λ (t : List ℕ). length t) before, ap (λ (ts : List (List ℕ)). sum_by (λ (t : List ℕ). length t) ts) texts);
      }

  pub few_texts : length (texts_of_grouped parts) ≤ 4012
  few_texts =
      let nodes_few = short.few_nodes in
      let front = in_query before in
      let behind = in_query (record { sources = []; conjuncts = parts.having; items = parts.items }) in
      omega (arith, nodes_few, sizes, front, behind, ap (λ (ts : List (List ℕ)). length ts) texts, length-append (front_texts parts) (behind_texts parts))

  pub short_pipelines : (ps : List Pipeline) (behind : Pipeline) → AreShort ps → sum_by (size nodes nodes_of) ps + sum_by keys_built ps ≤ query_size nodes nodes_of before → size nodes nodes_of behind ≤ sum_by nodes_of parts.having + sum_by nodes parts.items →
      keys_sought behind + (keys_built behind + lookups behind) ≡ 0 → (columns : ℕ) → columns ≡ length parts.columns + length parts.functions → AreShortGrouped ps behind columns
  short_pipelines ps behind are keyed small alone columns many =
      let nodes_few = short.few_nodes in
      record {
        before = are;
        alone = alone;
        few_nodes = omega (arith, nodes_few, sizes, keyed, small, many);
      }
