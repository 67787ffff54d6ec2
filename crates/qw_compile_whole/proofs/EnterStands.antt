-- The statement of a grouped query with DISTINCT, of what its parts are: what is done at the distinct rows can be emitted, and a short query has short pipelines.
use Rattle.std.proofs.Common.{◌≡◌, ◌∙◌, ℕ, ◌+◌, ◌≤◌, List, [], ◌++◌, length, sum_by, sym, subst, subst₂, refl, arith}
use Rattle.std.specs.List.{AllByRecursion}
use Rattle.std.proofs.lemmas.List.{length-map}
use Rattle.qw_scalar.specs.Nodes.{nodes, nodes_of}
use Rattle.qw_scalar.specs.Tree.{expression_of}
use Rattle.qw_scalar.specs.Typing.{IsTyped}
use Rattle.qw_meaning.specs.Query.{QueryParts}
use Rattle.qw_meaning.specs.Select.{IsItemOver, Specification}
use Rattle.qw_algebra.specs.Sizes.{query_size}
use Rattle.qw_algebra.proofs.Lists.{all_more}
use Rattle.qw_grouped.specs.Grouped.{Grouped, IsGroupColumn, IsGrouped}
use Rattle.qw_grouped.specs.Query.{GroupedParts, grouped_of}
use Rattle.qw_module.specs.declared.instruction.ValType.{ValType}
use Rattle.qw_map.specs.Layout.{Layout}
use Rattle.qw_map.specs.declared.layout.Used.{Used}
use Rattle.qw_low.specs.declared.step.LowStep.{LowStep}
use Rattle.qw_expr.specs.Computes.{Known}
use Rattle.qw_physical.specs.Physical.{Operator, Pipeline, Sink}
use Rattle.qw_physical.specs.Sizes.{size}
use Rattle.qw_physical.specs.declared.pipeline.Pipeline as coded
use Rattle.qw_physical.specs.declared.pipeline.ReadColumn.{ReadColumn}
use Rattle.qw_operator.specs.Takes.{AreSized, CanCarry}
use Rattle.qw_operator.specs.Grouping.{Group}
use Rattle.qw_group_pipeline.specs.Groups.{all_anywhere}
use Rattle.qw_group_pipeline.specs.declared.columns.ValueColumn.{ValueColumn}
use Rattle.qw_compile.specs.Limits.{AreShort, keys_built, keys_sought, lookups}
use Rattle.qw_compile_whole.specs.DistinctMade.{IsDistinctMade}
use Rattle.qw_compile_whole.specs.DistinctOf.{IsAgain}
use Rattle.qw_compile_whole.specs.GroupColumns.{IsBehind, key_from}
use Rattle.qw_compile_whole.specs.GroupedDistinctLimits.{IsShortGroupedDistinct}
use Rattle.qw_compile_whole.specs.GroupedLimits.{AreShortGrouped}
use Rattle.qw_compile_whole.specs.GroupedPlaced.{Selects}
use Rattle.qw_compile_whole.specs.WholeDistinct.{distinct_columns, distinct_grouping}
use Rattle.qw_compile_whole.specs.WholeLimits.{IsShortGrouped, front_size}
use Rattle.qw_compile_whole.proofs.DistinctTogether.{distinct_together}
use Rattle.qw_compile_whole.proofs.GroupBounded.{GoTogether}
use Rattle.qw_compile_whole.proofs.GroupedReady.{follow_long, key_long}
use Rattle.qw_compile_whole.proofs.WholeBehind.{columns_many}

-- ---- the distinct rows
abbrev pub shown_of : Grouped → Specification
shown_of query = record { sources = query.sources; conjuncts = query.conjuncts; items = query.items }

pub items_typed : (query : Grouped) → IsGrouped query → AllByRecursion IsTyped query.items
items_typed query grouped = all_more (IsItemOver (IsGroupColumn query)) IsTyped query.items (λ e h. h.0.0) grouped.items

-- the key of their table has a column for each item
pub again_many : (query : Grouped) → length (key_from 0 (distinct_columns 0 query.items)) ≡ length query.items
again_many query = key_long 0 (distinct_columns 0 query.items) ∙ columns_many 0 query.items

pub again_together : (query : Grouped) → IsGrouped query → (g : Group) (literals : List Known) → g.columns ≡ length query.items → g.functions ≡ [] → length g.values ≡ length query.items →
    GoTogether (distinct_grouping (shown_of query)) g (key_from 0 (distinct_columns 0 query.items)) [] literals
again_together query grouped g literals columns functions values = distinct_together (shown_of query) g literals (items_typed query grouped) grouped.some_item grouped.few_items columns functions values

any_together : (query : Grouped) → IsGrouped query → (literals : List Known) → GoTogether (distinct_grouping (shown_of query)) (record { table = 0; columns = length query.items; functions = []; values = query.items }) (key_from 0 (distinct_columns 0 query.items)) [] literals
any_together query grouped literals = again_together query grouped (record { table = 0; columns = length query.items; functions = []; values = query.items }) literals refl refl refl

pub again_few : (query : Grouped) → IsGrouped query → length (key_from 0 (distinct_columns 0 query.items)) ≤ 512
again_few query grouped = let few = grouped.few_items in let many = again_many query in omega (arith, few, many)

pub again_sized : (query : Grouped) → IsGrouped query → AreSized (key_from 0 (distinct_columns 0 query.items))
again_sized query grouped = (any_together query grouped []).sized

pub again_can : (query : Grouped) → IsGrouped query → (again : Pipeline) → IsAgain query.items again → (literals : List Known) → CanCarry (all_anywhere (key_from 0 (distinct_columns 0 query.items)) [] ++ literals) again.operators again.sink
again_can query grouped again is literals =
    subst₂ (λ (os : List Operator) (k : Sink). CanCarry (all_anywhere (key_from 0 (distinct_columns 0 query.items)) [] ++ literals) os k) (sym is.operators_are) (sym is.sink_is) (any_together query grouped literals).takes

pub items_many : (query : Grouped) (behind : Pipeline) → IsBehind query behind → (n : ℕ) → n ≡ length (key_from 0 (distinct_columns 0 query.items)) → Selects (λ items. length items ≡ n) behind.sink
items_many query behind h n is =
    let long : length h.items ≡ n = (let follow = follow_long query.items h.items h.items_follow in let many = again_many query in omega (arith, follow, many, is)) in
    subst (Selects (λ items. length items ≡ n)) (sym h.sink_is) long

-- ---- the statement
pub distinct_as : (tables many : ℕ) (ts texts : List (List ℕ)) (ps : List coded.Pipeline) (ks key : List ReadColumn) (vs values : List ValueColumn) (behind : coded.Pipeline) (found_key key_again : List ReadColumn) (found_values values_again : List ValueColumn) (again : coded.Pipeline) (cs columns : List ReadColumn) (used : List Used)
    (layout : Layout) (code : List LowStep) (locals : List ValType) → tables ≡ many → ts ≡ texts → ks ≡ key → vs ≡ values → found_key ≡ key_again → found_values ≡ values_again → cs ≡ columns → IsDistinctMade tables ts ps ks vs behind found_key found_values again cs used layout code locals →
    IsDistinctMade many texts ps key values behind key_again values_again again columns used layout code locals
distinct_as tables many ts texts ps ks key vs values behind found_key key_again found_values values_again again cs columns used layout code locals one two three four five six seven h =
    subst (λ (n : ℕ). IsDistinctMade n texts ps key values behind key_again values_again again columns used layout code locals) one
    (subst (λ (l : List (List ℕ)). IsDistinctMade tables l ps key values behind key_again values_again again columns used layout code locals) two
    (subst (λ (l : List ReadColumn). IsDistinctMade tables ts ps l values behind key_again values_again again columns used layout code locals) three
    (subst (λ (l : List ValueColumn). IsDistinctMade tables ts ps ks l behind key_again values_again again columns used layout code locals) four
    (subst (λ (l : List ReadColumn). IsDistinctMade tables ts ps ks vs behind l values_again again columns used layout code locals) five
    (subst (λ (l : List ValueColumn). IsDistinctMade tables ts ps ks vs behind found_key l again columns used layout code locals) six
    (subst (λ (l : List ReadColumn). IsDistinctMade tables ts ps ks vs behind found_key found_values again l used layout code locals) seven h))))))

-- ---- a short query
pub short_below : (parts : GroupedParts) → IsShortGroupedDistinct parts → IsShortGrouped parts
short_below parts short = let few = short.few_nodes in record { few_nodes = omega (arith, few); few_octets = short.few_octets }

pub short_again : (parts : GroupedParts) → IsShortGroupedDistinct parts → (before : QueryParts) → query_size nodes nodes_of before ≡ front_size nodes nodes_of parts + length parts.columns → (ps : List coded.Pipeline) (behind : coded.Pipeline) → AreShort ps →
    sum_by (size nodes nodes_of) ps + sum_by keys_built ps ≤ query_size nodes nodes_of before → size nodes nodes_of behind ≤ sum_by nodes_of parts.having + sum_by nodes parts.items → keys_sought behind + (keys_built behind + lookups behind) ≡ 0 →
    (columns keys : ℕ) → columns ≡ length parts.columns + length parts.functions → keys ≡ length (key_from 0 (distinct_columns 0 (grouped_of parts).items)) → AreShortGrouped ps behind (columns + keys)
short_again parts short before sizes ps behind are keyed small alone columns keys many again =
    let nodes_few = short.few_nodes in
    let items = again_many (grouped_of parts) in
    let mapped = length-map parts.items expression_of in
    record {
      before = are;
      alone = alone;
      few_nodes = omega (arith, nodes_few, sizes, keyed, small, many, again, items, mapped);
    }
