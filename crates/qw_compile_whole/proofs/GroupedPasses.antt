-- The passes of a grouped query meet what its statement rests on, and those of a short query are short.
use Rattle.std.proofs.Common.{◌≡◌, ◌∙◌, ◌≤◌, ◌+◌, ℕ, eqb, Contains, List, [], ◌∷◌, ◌++◌, length, sym, ap, subst, subst₂, arith}
use Rattle.std.specs.List.{AllByRecursion, IsDistinct, concat}
use Rattle.std.proofs.lemmas.List.{length-map}
use Rattle.qw_types.specs.Value.{IsSized}
use Rattle.qw_meaning.specs.Query.{query_of}
use Rattle.qw_meaning.specs.Select.{entries_of}
use Rattle.qw_grouped.specs.Query.{GroupedParts, function_of, grouped_of}
use Rattle.qw_physical.specs.Coded.{pipeline_of}
use Rattle.qw_physical.specs.Named.{numbers}
use Rattle.qw_physical.specs.declared.pipeline.Pipeline.{Pipeline}
use Rattle.qw_physical.specs.declared.pipeline.ReadColumn.{ReadColumn}
use Rattle.qw_operator.specs.Takes.{AreSized, CanCarry}
use Rattle.qw_operator.specs.Grouping.{Group}
use Rattle.qw_group_pipeline.specs.Groups.{all_anywhere}
use Rattle.qw_group_pipeline.specs.declared.columns.ValueColumn.{ValueColumn}
use Rattle.qw_map.specs.declared.layout.Used.{Used}
use Rattle.qw_compile.specs.Limits.{AreShort}
use Rattle.qw_compile.specs.QueryLiterals.{query_texts}
use Rattle.qw_compile.specs.QueryMade.{CanStand, literals_by}
use Rattle.qw_compile.proofs.Laid.{used_many}
use Rattle.qw_compile.proofs.Planned.{are_sized, few_made}
use Rattle.qw_compile_whole.specs.GroupColumns.{key_from}
use Rattle.qw_compile_whole.specs.GroupedDistinctLimits.{IsShortGroupedDistinct}
use Rattle.qw_compile_whole.specs.GroupedLimits.{AreShortGrouped}
use Rattle.qw_compile_whole.specs.GroupedPasses.{AreGroupedPasses}
use Rattle.qw_compile_whole.specs.StatementOf.{IsPlannedOf}
use Rattle.qw_compile_whole.specs.WholeDistinct.{distinct_columns}
use Rattle.qw_compile_whole.specs.WholeLimits.{IsShortGrouped}
use Rattle.qw_compile_whole.specs.declared.grouped_passes.GroupedPasses.{GroupedPasses}
use Rattle.qw_compile_whole.proofs.ColumnTypes.{key_sized, values_sized}
use Rattle.qw_compile_whole.proofs.EnterStands.{short_again, short_below}
use Rattle.qw_compile_whole.proofs.GroupedReady.{behind_can, few_both, key_long, values_long}
use Rattle.qw_compile_whole.proofs.GroupedStands.{front_stands}
use Rattle.qw_compile_whole.proofs.ShortGrouped.{few_texts, front_short, short_pipelines}
use Rattle.qw_compile_whole.proofs.SingleStands.{no_key}

module _ (parts : GroupedParts) (passes : GroupedPasses) (are : AreGroupedPasses parts passes) where
  pub passes_few : length passes.pipelines.items ≤ 8
  passes_few = (few_made are.before are.kept passes.columns.items passes.pipelines.items are.are are.of).1

  -- their texts are among the query's
  passes_among : AllByRecursion (Contains passes.texts.items) (query_texts (passes.pipelines.items ++ passes.behind ∷ []))
  passes_among = subst (λ (ts : List (List ℕ)). AllByRecursion (Contains ts) (query_texts (passes.pipelines.items ++ passes.behind ∷ []))) (sym are.texts_are) are.among

  -- where the columns are given as `cs`
  module _ (cs : List ReadColumn) (viewed : cs ≡ passes.columns.items) where
    pub passes_used : length passes.used.items ≡ length cs
    passes_used = used_many (entries_of (grouped_of parts).sources) passes.columns.items passes.used.items are.used_at ∙ ap (λ (l : List ReadColumn). length l) (sym viewed)

    pub passes_sized : AllByRecursion (λ (column : ReadColumn). IsSized column.ty) cs
    passes_sized = subst (AllByRecursion (λ (column : ReadColumn). IsSized column.ty)) (sym viewed) (are_sized (entries_of (query_of are.before).sources) passes.columns.items are.are.sized are.are.declared)

    pub passes_once : IsDistinct eqb (numbers cs)
    passes_once = subst (λ (l : List ReadColumn). IsDistinct eqb (numbers l)) (sym viewed) are.are.once

    pub passes_stand : (tables : ℕ) → AllByRecursion (λ (p : Pipeline). CanStand tables passes.texts.items (passes.pipelines.items ++ passes.behind ∷ []) cs (pipeline_of p)) passes.pipelines.items
    passes_stand tables =
        subst (λ (l : List ReadColumn). AllByRecursion (λ (p : Pipeline). CanStand tables passes.texts.items (passes.pipelines.items ++ passes.behind ∷ []) l (pipeline_of p)) passes.pipelines.items) (sym viewed)
        (front_stands are.before are.kept passes.columns.items passes.pipelines.items are.are are.of tables passes.texts.items passes.behind passes_among)

    -- and what is behind the groups can be done at them
    pub passes_walk : (tables : ℕ) (key : List ReadColumn) (values : List ValueColumn) → key ≡ passes.groups.key.items → values ≡ passes.groups.values.items →
        CanCarry (all_anywhere key values ++ literals_by tables (length cs) passes.texts.items (passes.pipelines.items ++ passes.behind ∷ [])) (pipeline_of passes.behind).operators (pipeline_of passes.behind).sink
    passes_walk tables key values key_is values_are =
        subst₂ (λ (k : List ReadColumn) (v : List ValueColumn). CanCarry (all_anywhere k v ++ literals_by tables (length cs) passes.texts.items (passes.pipelines.items ++ passes.behind ∷ [])) (pipeline_of passes.behind).operators (pipeline_of passes.behind).sink)
        (sym (key_is ∙ are.key_is)) (sym (values_are ∙ are.values_are)) (behind_can (grouped_of parts) are.grouped passes.behind are.behind_is tables (length cs) passes.texts.items passes.pipelines.items passes_among)

  -- ---- the groups
  pub no_keys : parts.columns ≡ [] → passes.groups.key.items ≡ []
  no_keys none = are.key_is ∙ no_key (grouped_of parts) none

  pub groups_many : length passes.groups.key.items + length passes.groups.values.items ≡ length parts.columns + length parts.functions
  groups_many =
      let one = ap (λ (l : List ReadColumn). length l) are.key_is ∙ key_long 0 (grouped_of parts).columns in
      let two = ap (λ (l : List ValueColumn). length l) are.values_are ∙ values_long (length (grouped_of parts).columns) (grouped_of parts).functions in
      let three = length-map parts.functions function_of in
      omega (arith, one, two, three)

  pub few_groups : length passes.groups.key.items + length passes.groups.values.items ≤ 512
  few_groups = let few = few_both (grouped_of parts) are.grouped in let mapped = length-map parts.functions function_of in omega (arith, few, groups_many, mapped)

  pub sized_groups : AreSized passes.groups.key.items × AllByRecursion (λ (v : ValueColumn). IsSized v.ty) passes.groups.values.items
  sized_groups = (
    subst AreSized (sym are.key_is) (key_sized (grouped_of parts) are.grouped are.sized_entries),
    subst (AllByRecursion (λ (v : ValueColumn). IsSized v.ty)) (sym are.values_are) (values_sized (grouped_of parts) are.grouped),
  )

  -- ---- of a short query
  module _ (fits : IsShortGrouped parts) where
    pub few_literals : (length passes.texts.items ≤ 4012) × (length (concat passes.texts.items) ≤ 16384)
    few_literals = subst (λ (ts : List (List ℕ)). (length ts ≤ 4012) × (length (concat ts) ≤ 16384)) (sym are.texts_are) (few_texts parts fits are.before are.before_nodes are.before_texts, fits.few_octets)

    passes_short : AreShort passes.pipelines.items
    passes_short = are.short (front_short parts fits are.before are.before_nodes are.before_texts)

    pub short_passes : AreShortGrouped passes.pipelines.items passes.behind (length passes.groups.key.items + length passes.groups.values.items)
    short_passes = short_pipelines parts fits are.before are.before_nodes are.before_texts passes.pipelines.items passes.behind passes_short are.keyed are.small are.alone _ groups_many

    -- also without a key
    pub single_short : parts.columns ≡ [] → (values : List ValueColumn) → values ≡ passes.groups.values.items → AreShortGrouped passes.pipelines.items passes.behind (length values)
    single_short none values viewed =
        let many : length passes.groups.key.items + length passes.groups.values.items ≡ length values = omega (arith, ap (λ (l : List ReadColumn). length l) (no_keys none), ap (λ (l : List ValueColumn). length l) viewed) in
        subst (λ (n : ℕ). AreShortGrouped passes.pipelines.items passes.behind n) many short_passes

  pub short_passes_again : IsShortGroupedDistinct parts → (keys : ℕ) → keys ≡ length (key_from 0 (distinct_columns 0 (grouped_of parts).items)) →
      AreShortGrouped passes.pipelines.items passes.behind (length passes.groups.key.items + length passes.groups.values.items + keys)
  short_passes_again fits keys again = short_again parts fits are.before are.before_nodes passes.pipelines.items passes.behind (passes_short (short_below parts fits)) are.keyed are.small are.alone _ keys groups_many again

  -- ---- the statement, of what is made of them
  pub planned_as : (IsMade : (ps : List Pipeline) → Group → (behind : Pipeline) → (columns : List ReadColumn) → List Used → Type 0) (group : Group) → IsMade passes.pipelines.items group passes.behind passes.columns.items passes.used.items → IsPlannedOf parts IsMade
  planned_as IsMade group made = record {
    before = are.before;
    before_is = are.before_is;
    before_texts = are.before_texts;
    kept = are.kept;
    columns = passes.columns.items;
    are = are.are;
    used = passes.used.items;
    used_at = are.used_at;
    ps = passes.pipelines.items;
    of = are.of;
    behind = passes.behind;
    behind_is = are.behind_is;
    among = are.among;
    group = group;
    made = made;
  }
