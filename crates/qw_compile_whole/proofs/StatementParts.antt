-- What the statements of grouped queries have in common, with GROUP BY or without, with DISTINCT or not: what reaches the groups, what is behind them, and the
-- columns of the grouped table.
use Rattle.std.proofs.Common.{◌≡◌, ◌∙◌, ◌≤◌, ◌<◌, ◌^◌, ℕ, true, Bool, Contains, IsUtf8, Some, None, Option, List, [], ◌∷◌, ◌++◌, drop, length, map, refl, sym, ap, ap₂, subst, subst₂, arith}
use Rattle.std.specs.List.{AllByRecursion}
use Rattle.std.proofs.lemmas.List.{length-map, map-append}
use Rattle.std.proofs.Math.Seq.{drop-append_seam}
use Rattle.std.specs.declared.cmp.Ordering.TheVariants as ordering
use Rattle.qw_types.specs.ValueOrder.{is_same_row, value_order}
use Rattle.qw_types.specs.Value.{IsSized}
use Rattle.qw_types.specs.declared.kind.Kind.{Kind}
use Rattle.qw_types.specs.declared.schema.ColumnType.{ColumnType}
use Rattle.qw_types.specs.declared.value.Val.{Val}
use Rattle.qw_linear.specs.Memory.{AreOctets, page}
use Rattle.qw_module.specs.declared.instruction.ValType.{ValType}
use Rattle.qw_scalar.specs.Typing.{kind_of}
use Rattle.qw_map.specs.Layout.{Layout, descriptor_size, entry_offset}
use Rattle.qw_map.specs.declared.layout.Used.{Used}
use Rattle.qw_meaning.specs.Outcome.{flow}
use Rattle.qw_meaning.specs.Query.{QueryParts, query_of}
use Rattle.qw_meaning.specs.Select.{AreOfEntries, Entry, Source, Specification, entries_of}
use Rattle.qw_grouped.specs.Grouped.{Grouped, IsGrouped, arguments_of, expression_of_column, front}
use Rattle.qw_grouped.specs.Query.{GroupedParts, grouped_of}
use Rattle.qw_grouped.specs.Whole as asked
use Rattle.qw_leaves.specs.Leaves.{HasLeaves, OfText}
use Rattle.qw_leaves.proofs.LeafLists.{all_front}
use Rattle.qw_read.specs.Constants.{IsSmall}
use Rattle.qw_physical.specs.Coded.{pipeline_of}
use Rattle.qw_physical.specs.Named.{numbers}
use Rattle.qw_physical.specs.Physical.{Operator, Pipeline, Sink, filter, select}
use Rattle.qw_physical.specs.Typed.{IsTypedOperator, IsTypedPhysical, IsTypedSink}
use Rattle.qw_physical.specs.declared.pipeline.Pipeline as coded
use Rattle.qw_physical.specs.declared.pipeline.ReadColumn.{ReadColumn}
use Rattle.qw_operator.specs.Carries.{result_kinds}
use Rattle.qw_operator.specs.Takes.{CanCarry}
use Rattle.qw_promise.specs.Compiled.{GoesWith, IsUsedOf}
use Rattle.qw_operator.specs.Grouping.{CanGroup, Group}
use Rattle.qw_group_pipeline.specs.Groups.{all_anywhere}
use Rattle.qw_group_pipeline.specs.declared.columns.ValueColumn.{ValueColumn}
use Rattle.qw_group_pipeline.proofs.GroupsFeed.{AreNumbered}
use Rattle.qw_group_pipeline.proofs.ValuesCome.{column_for}
use Rattle.qw_compile.specs.QueryColumns.{AreColumnsOf}
use Rattle.qw_compile.specs.QueryLiterals.{query_texts, query_words}
use Rattle.qw_compile.specs.QueryMade.{literals_by}
use Rattle.qw_compile.specs.QueryPasses.{ArePipelinesOf}
use Rattle.qw_compile.specs.UsedColumns.{AreUsedAt}
use Rattle.qw_compile.specs.WrittenTexts.{texts_of_query}
use Rattle.qw_compile.proofs.Planned.{as_many}
use Rattle.qw_compile.proofs.QueryTyped.{IsLeading, types}
use Rattle.qw_whole.specs.WholePromises.{promise_of_whole}
use Rattle.qw_compile_whole.specs.GroupColumns.{IsBehind, key_columns, value_columns}
use Rattle.qw_compile_whole.specs.GroupedPlaced.{group_over}
use Rattle.qw_compile_whole.specs.GuardedStatements.{guard_for}
use Rattle.qw_compile_whole.specs.WholeTexts.{front_texts, texts_of_grouped}
use Rattle.qw_compile_whole.proofs.ColumnTypes.{arguments_are, key_sized, values_of_kinds}
use Rattle.qw_compile_whole.proofs.FoldedBehind.{with_behind}
use Rattle.qw_compile_whole.proofs.FrontLed.{FrontOf, front_kinds, result_leads, small_words, used_columns}
use Rattle.qw_compile_whole.proofs.GroupBounded.{GoTogether}
use Rattle.qw_compile_whole.proofs.GroupFew.{pairs_few}
use Rattle.qw_compile_whole.proofs.GroupTexts.{argument_texts}
use Rattle.qw_compile_whole.proofs.GroupedPlacing.{group_can}
use Rattle.qw_compile_whole.proofs.GroupedReady.{behind_can, can_group, follow_long, functions_kinds, items_follow, key_long, key_numbered, tests_follow, values_long, values_numbered}
use Rattle.qw_compile_whole.proofs.SingleAlone.{single_alone}
use Rattle.qw_compile_whole.proofs.SingleBounded.{GoAlone}
use Rattle.qw_compile_whole.proofs.WhichCounted.{uncounted_few}

pub record PartsOf (parts : GroupedParts) (layout : Layout) : Type 0 where
  pub source : FrontOf (texts_of_grouped parts) layout
  pub before_is : query_of source.parts ≡ front (grouped_of parts)
  pub before_texts : texts_of_query source.parts ≡ front_texts parts
  pub behind_is : IsBehind (grouped_of parts) (pipeline_of source.behind)
  pub columns_is : source.group.columns ≡ length (key_columns (grouped_of parts))
  pub functions_are : source.group.functions ≡ map (λ (v : ValueColumn). v.function) (value_columns (grouped_of parts))
  pub utf8 : AllByRecursion IsUtf8 (texts_of_grouped parts)

-- by what the record of a statement has of them
abbrev pub parts_by : (parts : GroupedParts) (layout : Layout) (before : QueryParts) (before_is : query_of before ≡ front (grouped_of parts)) (before_texts : texts_of_query before ≡ front_texts parts) (kept columns : List ReadColumn) (are : AreColumnsOf before kept columns)
    (used : List Used) (used_at : AreUsedAt (entries_of (grouped_of parts).sources) (numbers columns) used) (used_are : layout.columns ≡ used) (ps : List coded.Pipeline) (of : ArePipelinesOf before kept ps) (behind : coded.Pipeline) (behind_is : IsBehind (grouped_of parts) (pipeline_of behind))
    (among : AllByRecursion (Contains (texts_of_grouped parts)) (query_texts (ps ++ behind ∷ []))) (building : List Pipeline) (last : Pipeline) (whole : map pipeline_of ps ≡ building ++ last ∷ []) (group : Group) (values_are : last.sink ≡ select group.values)
    (columns_is : group.columns ≡ length (key_columns (grouped_of parts))) (functions_are : group.functions ≡ map (λ (v : ValueColumn). v.function) (value_columns (grouped_of parts))) (utf8 : AllByRecursion IsUtf8 (texts_of_grouped parts)) → PartsOf parts layout
parts_by parts layout before before_is before_texts kept columns are used used_at used_are ps of behind behind_is among building last whole group values_are columns_is functions_are utf8 = record {
  source = record {
    parts = before;
    kept = kept;
    columns = columns;
    are = are;
    used = used;
    used_at = subst (λ (q : Specification). AreUsedAt (entries_of q.sources) (numbers columns) used) (sym before_is) used_at;
    used_are = used_are;
    ps = ps;
    of = of;
    behind = behind;
    among = among;
    building = building;
    last = last;
    whole = whole;
    group = group;
    values_are = values_are;
  };
  before_is = before_is;
  before_texts = before_texts;
  behind_is = behind_is;
  columns_is = columns_is;
  functions_are = functions_are;
  utf8 = utf8;
}

module _ {parts : GroupedParts} {layout : Layout} (given : PartsOf parts layout) where
  abbrev query : Grouped
  query = grouped_of parts

  -- with HAVING and the select list as they are evaluated
  abbrev pub folded_query : Grouped
  folded_query = with_behind (grouped_of parts) given.behind_is.having given.behind_is.items

  pub folded_kinds : map (λ (k : Kind). Some k) layout.cells ≡ result_kinds (pipeline_of given.source.behind).sink → map kind_of given.behind_is.items ≡ map (λ (k : Kind). Some k) layout.cells
  folded_kinds kinds_are = sym (ap result_kinds given.behind_is.sink_is) ∙ sym kinds_are

  pub items_long : length given.behind_is.items ≡ length (grouped_of parts).items
  items_long = follow_long query.items given.behind_is.items given.behind_is.items_follow

  pub arguments_utf8 : AllByRecursion (HasLeaves (OfText IsUtf8)) (arguments_of (grouped_of parts).functions)
  arguments_utf8 = argument_texts IsUtf8 given.source.parts query given.before_is (subst (AllByRecursion IsUtf8) (sym given.before_texts) (all_front IsUtf8 (front_texts parts) _ given.utf8))

  pub sized_sources : AllByRecursion (λ (e : Entry). AllByRecursion (λ (c : ColumnType). IsSized c.ty) e.columns) (entries_of (grouped_of parts).sources)
  sized_sources = subst (λ (s : Specification). AllByRecursion (λ (e : Entry). AllByRecursion (λ (c : ColumnType). IsSized c.ty) e.columns) (entries_of s.sources)) given.before_is given.source.are.sized

  -- ---- over tables
  module _ (tables : List (List (List Val))) (loaded : AreOfEntries (entries_of (grouped_of parts).sources) tables) where
    pub loaded_front : AreOfEntries (entries_of (query_of given.source.parts).sources) tables
    loaded_front = subst (λ (s : Specification). AreOfEntries (entries_of s.sources) tables) (sym given.before_is) loaded

    -- where rows aren't counted there are at most two entries, and few rows
    pub fewer : guard_for (length given.source.ps) (length (value_columns (grouped_of parts))) ≡ None → 1 ≤ length (grouped_of parts).functions → length (flow (front (grouped_of parts)) tables).rows < 10 ^ 18
    fewer none h =
        let f : FrontOf (texts_of_grouped parts) layout = given.source in
        let entries_many : length f.ps ≡ length (entries_of query.sources) = as_many f.parts f.kept f.columns f.ps f.are f.of ∙ ap (λ (s : Specification). length (entries_of s.sources)) given.before_is in
        let values_many = values_long (length query.columns) query.functions in
        let few = uncounted_few (length f.ps) (length (value_columns query)) none (omega (arith, h, values_many)) in
        pairs_few (front query) tables loaded (omega (arith, few, entries_many))

module _ (row_is : (row other : List Val) → is_same_row row other ≡ true → row ≡ other) (value_is : (a : Val) → value_order a a ≡ ordering.Equal)
    (parts : GroupedParts) (grouped : IsGrouped (grouped_of parts)) {layout : Layout} (given : PartsOf parts layout) where
  abbrev f : FrontOf (texts_of_grouped parts) layout
  f = given.source

  abbrev asked_query : Grouped
  asked_query = grouped_of parts

  abbrev texts : List (List ℕ)
  texts = texts_of_grouped parts

  abbrev behind : Pipeline
  behind = pipeline_of given.source.behind

  -- ---- the layout
  pub goes_with : (distinct : Bool) → map kind_of asked_query.items ≡ map (λ (k : Kind). Some k) layout.cells → descriptor_size layout ≤ page → AreOctets layout.literals → GoesWith (promise_of_whole (record { body = asked.grouped (grouped_of parts); distinct = distinct })) layout
  goes_with distinct cells small octets = record {
    columns = subst (λ (ss : List Source). AllByRecursion (IsUsedOf (entries_of ss)) layout.columns) (ap (λ (s : Specification). s.sources) given.before_is) (used_columns f);
    cells = cells;
    small = small;
    literals = octets;
  }

  -- ---- types
  behind_typed : IsTypedPhysical behind
  behind_typed = record {
    operators = subst (AllByRecursion IsTypedOperator) (sym given.behind_is.operators_are) ((tests_follow asked_query asked_query.having given.behind_is.having given.behind_is.having_follow grouped.having).0, tt);
    sink = subst IsTypedSink (sym given.behind_is.sink_is) (items_follow asked_query asked_query.items given.behind_is.items given.behind_is.items_follow grouped.items).0;
  }

  pub all_small : AllByRecursion IsSmall (query_words (given.source.ps ++ given.source.behind ∷ []))
  all_small = small_words f behind_typed

  pub behind_leads : (T : ℕ) → length given.source.ps ≤ T → (own : List ValType) →
      IsLeading (types T (entry_offset (length given.source.columns)) given.source.columns (texts_of_grouped parts) (query_words (given.source.ps ++ given.source.behind ∷ [])) own) (pipeline_of given.source.behind)
  behind_leads T room own = result_leads f T room own behind given.behind_is.having given.behind_is.items given.behind_is.operators_are given.behind_is.sink_is (omega (arith, items_long given, grouped.few_items))

  -- ---- the grouped table
  kinds_front : map kind_of f.group.values ≡ map kind_of (front asked_query).items
  kinds_front = front_kinds f row_is value_is ∙ ap (λ (s : Specification). map kind_of s.items) given.before_is

  pub groups_can : CanGroup given.source.group
  groups_can = group_can f.group (group_over 0 (key_columns asked_query) (value_columns asked_query) f.group.values) given.columns_is given.functions_are refl (can_group asked_query grouped 0 f.group.values kinds_front)

  module _ (T : ℕ) where
    can_walk : CanCarry (all_anywhere (key_columns asked_query) (value_columns asked_query) ++ literals_by T (length layout.columns) texts (f.ps ++ f.behind ∷ [])) (filter given.behind_is.having ∷ []) (select given.behind_is.items)
    can_walk =
        subst₂ (λ (os : List Operator) (k : Sink). CanCarry (all_anywhere (key_columns asked_query) (value_columns asked_query) ++ literals_by T (length layout.columns) texts (f.ps ++ f.behind ∷ [])) os k) given.behind_is.operators_are given.behind_is.sink_is
        (behind_can asked_query grouped f.behind given.behind_is T (length layout.columns) texts f.ps f.among)

    pub together : 1 ≤ length parts.columns → AllByRecursion (λ (e : Entry). AllByRecursion (λ (c : ColumnType). IsSized c.ty) e.columns) (entries_of (grouped_of parts).sources) →
        GoTogether (folded_query given) given.source.group (key_columns (grouped_of parts)) (value_columns (grouped_of parts)) (literals_by T (length layout.columns) (texts_of_grouped parts) (given.source.ps ++ given.source.behind ∷ []))
    together some sized =
        let keyed = key_long 0 asked_query.columns in
        let grouped_is = given.columns_is in
        let place : f.group.columns ≡ length (map kind_of (map expression_of_column asked_query.columns)) = omega (arith, keyed, grouped_is, length-map asked_query.columns expression_of_column, length-map (map expression_of_column asked_query.columns) kind_of) in
        record {
          can = groups_can;
          some = omega (arith, keyed, grouped_is, some);
          many = omega (arith, keyed, grouped_is);
          functions = given.functions_are ∙ functions_kinds (length asked_query.columns) asked_query.functions;
          key_many = sym given.columns_is;
          theirs = sym given.functions_are;
          arguments = ap₂ (λ (n : ℕ) (l : List (Option Kind)). drop n l) place (kinds_front ∙ map-append kind_of (map expression_of_column asked_query.columns) (arguments_of asked_query.functions))
              ∙ (drop-append_seam (map kind_of (map expression_of_column asked_query.columns)) (map kind_of (arguments_of asked_query.functions)) ∙ arguments_are asked_query grouped);
          kinds = values_of_kinds asked_query grouped;
          sized = key_sized asked_query grouped sized;
          numbered = key_numbered 0 asked_query.columns;
          numbered_values = subst (λ (n : ℕ). AreNumbered n (map column_for (value_columns asked_query))) (sym keyed) (values_numbered (length asked_query.columns) asked_query.functions);
          takes = can_walk;
        }

    -- where all rows are one group
    pub alone : length parts.columns ≡ 0 → GoAlone (folded_query given) given.source.group (value_columns (grouped_of parts)) (literals_by T (length layout.columns) (texts_of_grouped parts) (given.source.ps ++ given.source.behind ∷ []))
    alone none =
        let no_columns : f.group.columns ≡ 0 = let keyed = key_long 0 asked_query.columns in let grouped_is = given.columns_is in omega (arith, keyed, grouped_is, none) in
        single_alone asked_query grouped none f.behind given.behind_is T (length layout.columns) texts f.ps f.among f.group groups_can no_columns given.functions_are kinds_front
