-- The module around the steps of a query with DISTINCT that isn't grouped is the compiled form of what is promised of it (ISO/IEC 9075:1992, 7.9).
use Rattle.std.proofs.Common.{◌≡◌, ◌∙◌, ◌≤◌, ℕ, true, false, IsUtf8, Some, None, Option, List, [], ◌∷◌, ◌++◌, length, map, sym, ap, subst, arith}
use Rattle.std.specs.List.{AllByRecursion, AllZip}
use Rattle.std.proofs.lemmas.List.{length-map}
use Rattle.std.specs.declared.cmp.Ordering.TheVariants as ordering
use Rattle.qw_types.specs.ValueOrder.{is_same_row, value_order}
use Rattle.qw_types.specs.declared.kind.Kind.{Kind}
use Rattle.qw_types.specs.declared.value.Val.{Val}
use Rattle.qw_linear.specs.Memory.{page}
use Rattle.qw_module.specs.declared.instruction.ValType.{ValType}
use Rattle.qw_module.specs.declared.module.Module.{Module}
use Rattle.qw_scalar.specs.Expression.{Expression}
use Rattle.qw_scalar.specs.Typing.{kind_of}
use Rattle.qw_map.specs.Layout.{Layout, descriptor_size}
use Rattle.qw_meaning.specs.Outcome.{flow}
use Rattle.qw_meaning.specs.Query.{QueryParts, query_of}
use Rattle.qw_meaning.specs.Select.{AreOfEntries, Entry, Specification, entries_of}
use Rattle.qw_grouped.specs.Grouped.{Grouped, expression_of_column, widest}
use Rattle.qw_grouped.specs.Whole as asked
use Rattle.qw_low.specs.declared.step.LowStep.{LowStep}
use Rattle.qw_read.specs.Constants.{IsSmall}
use Rattle.qw_read.specs.declared.constant.Word.{Word}
use Rattle.qw_physical.specs.Coded.{pipeline_of}
use Rattle.qw_physical.specs.Physical.{filter, select}
use Rattle.qw_physical.specs.Typed.{IsTypedOperator, IsTypedSink}
use Rattle.qw_physical.specs.declared.pipeline.ReadColumn.{ReadColumn}
use Rattle.qw_operator.specs.Carries.{result_kinds}
use Rattle.qw_operator.proofs.PairRows.{IsHeld}
use Rattle.qw_promise.specs.Compiled.{GoesWith, IsCompiled}
use Rattle.qw_emit.specs.Alike.{AreAlike}
use Rattle.qw_compile.specs.QueryLiterals.{query_words}
use Rattle.qw_compile.specs.WrittenTexts.{texts_of_query}
use Rattle.qw_compile.proofs.LiteralOctets.{literal_octets}
use Rattle.qw_compile.proofs.QueryReach.{table_of}
use Rattle.qw_whole.specs.WholePromises.{promise_of_whole}
use Rattle.qw_compile_whole.specs.GroupColumns.{key_from}
use Rattle.qw_compile_whole.specs.PlainDistinctOf.{IsPlainDistinctOf}
use Rattle.qw_compile_whole.specs.WholeDistinct.{distinct_columns, distinct_grouping}
use Rattle.qw_compile_whole.proofs.FrontLed.{FrontOf, built_low, columns_many, end_leads, front_kinds, front_leads, laid_columns, literals_over, result_leads, small_words, used_columns}
use Rattle.qw_compile_whole.proofs.GroupBounded.{GoTogether}
use Rattle.qw_compile_whole.proofs.GuardedCompiled.{grouped_compiled}
use Rattle.qw_compile_whole.proofs.GroupTexts.{list_texts}
use Rattle.qw_compile_whole.proofs.GroupedFinished.{MakesModule, built_at, few_by, gathered_at, leads_at, made_by, walked_at}
use Rattle.qw_compile_whole.proofs.HeldRows.{rows_held}
use Rattle.qw_compile_whole.proofs.PlainDistinctReady.{behind_valued, items_kinds, kinds_back, together_as}
use Rattle.qw_compile_whole.proofs.WholeBehind.{columns_many as again_many}
use Rattle.qw_compile_whole.proofs.WhichCounted.{without_functions}
use Rattle.qw_compile_whole.proofs.WholeKept.{asked_once, distinct_kept, distinct_rows, given_up_once}

module _ (row_is : (row other : List Val) → is_same_row row other ≡ true → row ≡ other) (value_is : (a : Val) → value_order a a ≡ ordering.Equal)
    (parts : QueryParts) (layout : Layout) (code : List LowStep) (locals : List ValType) (s : IsPlainDistinctOf parts layout code locals) (small : descriptor_size layout ≤ page) where
  abbrev query : Specification
  query = query_of parts

  abbrev grouping : Grouped
  grouping = distinct_grouping (query_of parts)

  abbrev entries : List Entry
  entries = entries_of query.sources

  abbrev T : ℕ
  T = length s.ps

  abbrev texts : List (List ℕ)
  texts = texts_of_query parts

  abbrev words : List Word
  words = query_words (s.ps ++ s.behind ∷ [])

  abbrev source : FrontOf (texts_of_query parts) layout
  source = record {
    parts = parts;
    kept = s.kept;
    columns = s.columns;
    are = s.are;
    used = s.used;
    used_at = s.used_at;
    used_are = s.made.columns_are;
    ps = s.ps;
    of = s.of;
    behind = s.behind;
    among = s.among;
    building = s.made.building;
    last = s.made.gathering;
    whole = s.made.pipelines_are;
    group = s.group;
    values_are = s.made.values_are;
  }

  abbrev key : List ReadColumn
  key = key_from 0 (distinct_columns 0 query.items)

  values_many : length s.group.values ≡ length query.items
  values_many =
      let kinds = ap (λ (l : List (Option Kind)). length l) (front_kinds source row_is value_is) in
      omega (arith, kinds, length-map s.group.values kind_of, length-map query.items kind_of)

  go_together : GoTogether grouping s.group key [] (literals_over source T)
  go_together = together_as parts s.kept s.columns s.ps s.are s.group (literals_over source T) s.made.columns_is s.made.functions_are values_many

  shown_kinds : map kind_of grouping.items ≡ map (λ (k : Kind). Some k) layout.cells
  shown_kinds = sym (ap result_kinds s.sink_is) ∙ sym s.made.kinds_are

  goes_with : GoesWith (promise_of_whole (asked_once query)) layout
  goes_with = record {
    columns = used_columns source;
    cells = sym (kinds_back 0 query.items (items_kinds parts s.kept s.columns s.ps s.are)) ∙ shown_kinds;
    small = small;
    literals = literal_octets texts layout.literals s.made.utf8 s.made.octets_are;
  }

  all_small : AllByRecursion IsSmall words
  all_small = small_words source (record {
    operators = subst (AllByRecursion IsTypedOperator) (sym s.operators_are) (tt, tt);
    sink = subst IsTypedSink (sym s.sink_is) (behind_valued parts s.kept s.columns s.ps s.are);
  })

  -- ---- over tables
  held : (tables : List (List (List Val))) → AreOfEntries (entries_of (query_of parts).sources) tables → AllByRecursion (λ (row : List Val). AllZip (λ (e : Expression) (v : Val). IsHeld (widest (kind_of e)) false v) (query_of parts).items row) (flow (query_of parts) tables).rows
  held tables loaded = rows_held query tables s.are.specification loaded s.are.sized (list_texts IsUtf8 parts s.made.utf8)

  -- ---- the module, which counts no row
  pub plain_distinct_finished : AreAlike (entries_of (query_of parts).sources) → length code ≤ 2097152 → (m : Module) → MakesModule code locals m → IsCompiled (promise_of_whole (record { body = asked.plain (query_of parts); distinct = true })) layout m
  plain_distinct_finished alike short m made =
      let own : List ValType = s.made.builds_own ++ (s.made.gathers_own ++ s.made.walk_own) in
      let n : ℕ = length layout.columns in
      let many = columns_many source in
      let none = without_functions T in
      let few_items = s.are.specification.few_items in
      grouped_compiled (promise_of_whole (asked_once query)) layout T s.columns texts words (table_of entries) (laid_columns source) s.made.octets_are s.made.utf8 all_small s.made.leads s.made.sets s.made.building s.made.gathering grouping s.group key [] s.made.fields s.made.field_kinds
      s.made.values_are shown_kinds s.made.table_is (built_low source) s.made.builds s.made.gathers s.made.walk s.made.builds_own s.made.gathers_own s.made.walk_own goes_with (leads_at s.made None none n many) s.made.sets_all go_together (built_at s.made None none n many)
      (gathered_at s.made None none n many) (walked_at s.made None none n many (filter [] ∷ []) (select grouping.items) s.operators_are s.sink_is) (few_by s.made None none short) alike (λ tables. given_up_once row_is value_is source)
      (λ tables loaded. distinct_kept row_is value_is source T (omega arith) go_together tables loaded (held tables loaded))
      (λ tables stoods loaded built quiet over. distinct_rows row_is value_is source T (omega arith) go_together tables loaded (held tables loaded) stoods built quiet)
      m (made_by s.made None none m made small short all_small (built_low source) go_together.can tt (front_leads source T (omega arith) own) (end_leads source T (omega arith) own)
      (result_leads source T (omega arith) own (pipeline_of s.behind) [] (map expression_of_column (distinct_columns 0 query.items)) s.operators_are s.sink_is (omega (arith, length-map (distinct_columns 0 query.items) expression_of_column, again_many 0 query.items, few_items))))
