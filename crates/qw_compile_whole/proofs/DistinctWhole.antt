-- The module around the steps of a grouped query with DISTINCT is the compiled form of what is promised of the query.
use Rattle.std.proofs.Common.{◌≡◌, ◌∙◌, ◌≤◌, ◌<◌, ℕ, ◌+◌, IsTrue, true, Option, Some, None, List, [], ◌∷◌, ◌++◌, length, map, refl, sym, ap, ap₂, subst, subst₂, arith}
use Rattle.std.proofs.lemmas.List.{length-map}
use Rattle.std.specs.List.{AllByRecursion}
use Rattle.std.specs.declared.cmp.Ordering.TheVariants as ordering
use Rattle.qw_types.specs.Value.{IsSized}
use Rattle.qw_types.specs.ValueOrder.{is_same_row, value_order}
use Rattle.qw_types.specs.Kind.{type_kind}
use Rattle.qw_types.specs.declared.kind.Kind.{Kind}
use Rattle.qw_types.specs.declared.kind.Kind.TheVariants as kinds
use Rattle.qw_types.specs.declared.schema.ColumnType.{ColumnType}
use Rattle.qw_types.specs.declared.value.Val.{Val}
use Rattle.qw_linear.specs.Memory.{page}
use Rattle.qw_module.specs.declared.instruction.ValType.{ValType}
use Rattle.qw_module.specs.declared.module.Module.{Module}
use Rattle.qw_scalar.specs.Expression.{Expression}
use Rattle.qw_scalar.specs.Typing.{HasKind, has_kind, kind_of}
use Rattle.qw_map.specs.Layout.{Layout, descriptor_size}
use Rattle.qw_meaning.specs.Query.{query_of}
use Rattle.qw_meaning.specs.Select.{Entry, IsItemOver, entries_of}
use Rattle.qw_grouped.specs.Grouped.{Grouped, IsGroupColumn, IsGrouped, expression_of_column, widest}
use Rattle.qw_algebra.proofs.Lists.{all_more}
use Rattle.qw_grouped.specs.Query.{GroupedParts, grouped_of}
use Rattle.qw_grouped.specs.Whole.{Whole}
use Rattle.qw_grouped.specs.Whole as asked
use Rattle.qw_low.specs.declared.step.LowStep.{LowStep}
use Rattle.qw_low.specs.Syntax.{Statement}
use Rattle.qw_read.specs.Texts.{LeadsToAll}
use Rattle.qw_physical.specs.Coded.{pipeline_of}
use Rattle.qw_physical.specs.Physical.{Operator, Sink, filter, select}
use Rattle.qw_physical.specs.declared.pipeline.Pipeline as coded
use Rattle.qw_physical.specs.declared.pipeline.ReadColumn.{ReadColumn}
use Rattle.qw_operator.specs.Carries.{directory, result_kinds}
use Rattle.qw_promise.specs.Compiled.{GoesWith, IsCompiled}
use Rattle.qw_emit.specs.Alike.{AreAlike}
use Rattle.qw_emit.specs.RunsOf.{IsMadeOf}
use Rattle.qw_group_pipeline.specs.Groups.{Grouping, InEnd, IsGroupPipeline, IsGroupPipelineTo}
use Rattle.qw_group_pipeline.specs.declared.columns.ValueColumn.{ValueColumn}
use Rattle.qw_compile.specs.QueryLocals.{own_start}
use Rattle.qw_compile.specs.QueryMade.{literal_locals, literals_by, readers_by, texts_by}
use Rattle.qw_compile.specs.Statements.{AreCourses}
use Rattle.qw_compile.proofs.LiteralOctets.{literal_octets}
use Rattle.qw_compile.proofs.QueryReach.{table_of}
use Rattle.qw_whole.specs.WholePromises.{promise_of_whole}
use Rattle.qw_compile_whole.specs.DistinctOf.{IsDistinctOf}
use Rattle.qw_compile_whole.specs.DistinctStatements.{distinct_block_of}
use Rattle.qw_compile_whole.specs.GroupColumns.{key_columns, key_from, value_columns}
use Rattle.qw_compile_whole.specs.GuardedStatements.{IsGatheringBy, guard_for}
use Rattle.qw_compile_whole.specs.WholeDistinct.{distinct_columns, distinct_grouping}
use Rattle.qw_compile_whole.specs.WholeTexts.{texts_of_grouped}
use Rattle.qw_compile_whole.proofs.ColumnTypes.{values_of_kinds}
use Rattle.qw_compile_whole.proofs.FrontLed.{built_one_less, columns_many, end_leads, front_leads, front_words, laid_columns, literals_over, result_leads}
use Rattle.qw_compile_whole.proofs.GroupBounded.{GoTogether}
use Rattle.qw_compile_whole.proofs.DistinctCompiled.{distinct_compiled}
use Rattle.qw_compile_whole.proofs.EnterStands.{again_together}
use Rattle.qw_compile_whole.proofs.GroupedFinished.{MakesModule, few_steps}
use Rattle.qw_compile_whole.proofs.GroupedTyped.{distinct_typed}
use Rattle.qw_compile_whole.proofs.GuardedFronts.{guard_is}
use Rattle.qw_compile_whole.proofs.OnceCounted.{few_or_many}
use Rattle.qw_compile_whole.proofs.StatementParts.{PartsOf, parts_by, all_small, fewer, folded_query, goes_with, groups_can, items_long, together}
use Rattle.qw_compile_whole.proofs.WholeBehind.{columns_many as again_many}
use Rattle.qw_compile_whole.proofs.WholeOnce.{given_up_distinct, shown}

chosen_same : (a b : List Expression) → select a ≡ select b → a ≡ b
chosen_same a b e = cc

-- a column of the second table has its item's kind
widest_kind : (k : Option Kind) → IsTrue (has_kind k) → (let o : Option Kind = Some (type_kind (widest k)) in o) ≡ k
widest_kind None h = absurd cc
widest_kind (Some (kinds.Number s)) h = refl
widest_kind (Some kinds.Date) h = refl
widest_kind (Some kinds.Text) h = refl

once_kinds : (n : ℕ) (items : List Expression) → AllByRecursion HasKind items → map kind_of (map expression_of_column (distinct_columns n items)) ≡ map kind_of items
once_kinds n [] h = refl
once_kinds n (e ∷ items) h = ap₂ (λ (k : Option Kind) (l : List (Option Kind)). k ∷ l) (widest_kind (kind_of e) h.0) (once_kinds (n + 1) items h.1)

module _ (row_is : (row other : List Val) → is_same_row row other ≡ true → row ≡ other) (value_is : (a : Val) → value_order a a ≡ ordering.Equal)
    (parts : GroupedParts) (grouped : IsGrouped (grouped_of parts)) (some : 1 ≤ length parts.columns)
    (sized : AllByRecursion (λ (e : Entry). AllByRecursion (λ (c : ColumnType). IsSized c.ty) e.columns) (entries_of (grouped_of parts).sources))
    (layout : Layout) (code : List LowStep) (locals : List ValType) (s : IsDistinctOf parts layout code locals) (small : descriptor_size layout ≤ page) where
  abbrev query : Grouped
  query = grouped_of parts

  abbrev given : PartsOf parts layout
  given =
      parts_by parts layout s.before s.before_is s.before_texts s.kept s.columns s.are s.used s.used_at s.made.columns_are s.ps s.of s.behind s.behind_is s.among s.made.building s.made.gathering s.made.pipelines_are s.made.group s.made.values_are s.made.columns_is s.made.functions_are s.made.utf8

  abbrev T : ℕ
  T = length s.ps + 1

  abbrev key : List ReadColumn
  key = key_columns query

  abbrev values : List ValueColumn
  values = value_columns query

  abbrev all : List coded.Pipeline
  all = s.ps ++ s.behind ∷ []

  abbrev key_again : List ReadColumn
  key_again = key_from 0 (distinct_columns 0 query.items)

  abbrev guard : Option ℕ
  guard = guard_for (length s.ps) (length values)

  abbrev whole : Whole
  whole = record { body = asked.grouped (grouped_of parts); distinct = true }

  abbrev own : List ValType
  own = s.made.builds_own ++ (s.made.gathers_own ++ (s.made.enters_own ++ s.made.walk_own))

  abbrev block : Statement
  block = distinct_block_of guard T (descriptor_size layout) s.made.leads s.made.sets s.made.builds (length s.made.building) s.made.gathers s.made.enters s.made.walk

  room : length s.made.building + 1 < T
  room = let one = built_one_less given.source in omega (arith, one)

  kinds_are : map kind_of (map expression_of_column (distinct_columns 0 query.items)) ≡ map (λ (k : Kind). Some k) layout.cells
  kinds_are = sym (ap result_kinds s.again_is.sink_is) ∙ sym s.made.kinds_are

  goes : GoesWith (promise_of_whole whole) layout
  goes = goes_with row_is value_is parts grouped given true (sym (once_kinds 0 query.items (all_more (IsItemOver (IsGroupColumn query)) HasKind query.items (λ e h. h.0.1) grouped.items)) ∙ kinds_are) small (literal_octets (texts_of_grouped parts) layout.literals s.made.utf8 s.made.octets_are)

  go_together : GoTogether (folded_query given) s.made.group key values (literals_over given.source T)
  go_together = together row_is value_is parts grouped given T some sized

  -- ---- the second table
  into_items : s.made.into.values ≡ s.behind_is.items
  into_items = chosen_same s.made.into.values s.behind_is.items (sym s.made.into_values ∙ s.behind_is.sink_is)

  into_many : length s.made.into.values ≡ length query.items
  into_many = ap (λ (l : List Expression). length l) into_items ∙ items_long given

  go_again : GoTogether (distinct_grouping (shown query)) s.made.into key_again [] (literals_over given.source T)
  go_again = again_together query grouped s.made.into (literals_over given.source T) (s.made.into_columns ∙ into_many) s.made.into_functions into_many

  -- ---- over so many columns
  abbrev first : ℕ
  first = own_start T (literal_locals (texts_of_grouped parts) all) (length s.columns)

  abbrev Enters : ℕ → List Operator → Type 0
  Enters k os = IsGroupPipelineTo (InEnd (Grouping s.made.into_fields s.made.into) os) (literals_by T k (texts_of_grouped parts) all) (directory (length s.made.building)) (first + length s.made.builds_own + length s.made.gathers_own) key values s.made.enters s.made.enters_own

  abbrev Walks : ℕ → List Operator → Sink → Type 0
  Walks k os snk = IsGroupPipeline (literals_by T k (texts_of_grouped parts) all) (directory (length s.made.building + 1)) (first + length s.made.builds_own + length s.made.gathers_own + length s.made.enters_own) key_again [] os snk s.made.walk s.made.walk_own

  entered : Enters (length s.columns) (filter s.behind_is.having ∷ [])
  entered = subst (λ (os : List Operator). Enters (length s.columns) os) s.behind_is.operators_are s.made.entered

  pub distinct_whole : AreAlike (entries_of (grouped_of parts).sources) → length code ≤ 2097152 → (m : Module) → MakesModule code locals m → IsCompiled (promise_of_whole (record { body = asked.grouped (grouped_of parts); distinct = true })) layout m
  distinct_whole alike short m made =
      let many = columns_many given.source in
      let led = end_leads given.source T (omega arith) own in
      let few_items = grouped.few_items in
      let again_leads = result_leads given.source T (omega arith) own (pipeline_of s.again) [] (map expression_of_column (distinct_columns 0 query.items)) s.again_is.operators_are s.again_is.sink_is (omega (arith, length-map (distinct_columns 0 query.items) expression_of_column, again_many 0 query.items, few_items)) in
      distinct_compiled (promise_of_whole whole) layout T s.columns (texts_of_grouped parts) (front_words given.source) (table_of (entries_of (query_of s.before).sources)) (laid_columns given.source) s.made.octets_are s.made.utf8 (all_small row_is value_is parts grouped given) s.made.leads s.made.sets s.made.building s.made.gathering (folded_query given)
      s.made.group key values s.made.fields s.made.field_kinds (distinct_grouping (shown query)) s.made.into key_again [] s.made.into_fields s.made.into_kinds into_items s.made.values_are kinds_are s.made.table_is s.made.into_table room
      s.made.builds s.made.gathers s.made.enters s.made.walk s.made.builds_own s.made.gathers_own s.made.enters_own s.made.walk_own guard (guard_is (length s.ps) (length values)) goes
      (subst (λ (k : ℕ). LeadsToAll (texts_by T k (texts_of_grouped parts)) s.made.leads) many s.made.leads_all) s.made.sets_all go_together go_again
      (subst (λ (k : ℕ). AreCourses (literals_by T k (texts_of_grouped parts) all) (readers_by T (texts_of_grouped parts) all s.columns) first s.made.building s.made.builds s.made.builds_own) many s.made.built)
      (subst (λ (k : ℕ). IsGatheringBy guard (literals_by T k (texts_of_grouped parts) all) (readers_by T (texts_of_grouped parts) all s.columns) (first + length s.made.builds_own) s.made.gathering s.made.group s.made.fields s.made.gathers s.made.gathers_own) many s.made.gathered)
      (subst (λ (k : ℕ). Enters k (filter s.behind_is.having ∷ [])) many entered)
      (subst₂ (λ (os : List Operator) (k : Sink). Walks (length layout.columns) os k) s.again_is.operators_are s.again_is.sink_is (subst (λ (k : ℕ). Walks k (pipeline_of s.again).operators (pipeline_of s.again).sink) many s.made.walked))
      led (few_steps code block s.made.code_is short) alike (λ tables. given_up_distinct row_is value_is parts grouped given)
      (λ tables loaded. few_or_many row_is value_is parts grouped given T (omega arith) go_together tables loaded s.made.into go_again into_items guard (guard_is (length s.ps) (length values)) (fewer given tables loaded))
      m (subst (λ (l : List ValType). IsMadeOf m block (length l)) s.made.locals_are
      (made block s.made.code_is
      (distinct_typed T (texts_of_grouped parts) s.ps s.behind s.columns s.used layout code locals small (all_small row_is value_is parts grouped given) key values key_again s.again s.behind_is.having s.made room entered (groups_can row_is value_is parts grouped given) go_again.can (values_of_kinds query grouped)
      (front_leads given.source T (omega arith) own) led again_leads) (few_steps code block s.made.code_is short)))
