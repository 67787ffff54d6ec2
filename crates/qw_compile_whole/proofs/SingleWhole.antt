-- The module around the steps of a query with set functions and no GROUP BY is the compiled form of what is promised of the query.
use Rattle.std.proofs.Common.{◌≡◌, ◌∙◌, ◌≤◌, ℕ, ◌+◌, ◌^◌, true, false, Option, Some, None, List, [], ◌∷◌, ◌++◌, length, refl, ap, subst, subst₂, arith}
use Rattle.std.specs.List.{AllByRecursion}
use Rattle.std.specs.declared.cmp.Ordering.TheVariants as ordering
use Rattle.qw_types.specs.Value.{IsSized}
use Rattle.qw_types.specs.ValueOrder.{is_same_row, value_order}
use Rattle.qw_types.specs.declared.schema.ColumnType.{ColumnType}
use Rattle.qw_types.specs.declared.value.Val.{Val}
use Rattle.qw_linear.specs.Memory.{page}
use Rattle.qw_module.specs.declared.instruction.ValType.{ValType}
use Rattle.qw_module.specs.declared.instruction.ValType.TheVariants.{I32}
use Rattle.qw_module.specs.declared.module.Module.{Module}
use Rattle.qw_map.specs.Layout.{Layout, descriptor_size, entry_offset}
use Rattle.qw_meaning.specs.Query.{query_of}
use Rattle.qw_meaning.specs.Select.{Entry, entries_of}
use Rattle.qw_grouped.specs.Grouped.{Grouped, IsGrouped}
use Rattle.qw_grouped.specs.Query.{GroupedParts, grouped_of}
use Rattle.qw_grouped.specs.Whole.{Whole}
use Rattle.qw_grouped.specs.Whole as asked
use Rattle.qw_low.specs.declared.step.LowStep.{LowStep}
use Rattle.qw_low.specs.Size.{size}
use Rattle.qw_low.specs.Steps.{steps_of}
use Rattle.qw_low.specs.Syntax.{Statement}
use Rattle.qw_low.specs.Typing.{IsTyped}
use Rattle.qw_read.specs.Texts.{LeadsToAll}
use Rattle.qw_physical.specs.Coded.{pipeline_of}
use Rattle.qw_physical.specs.Physical.{Operator, Sink, filter, select}
use Rattle.qw_physical.specs.declared.pipeline.Pipeline as coded
use Rattle.qw_operator.specs.Carries.{directory}
use Rattle.qw_operator.proofs.CarriedTyped.{AreLed}
use Rattle.qw_promise.specs.Compiled.{GoesWith, IsCompiled}
use Rattle.qw_emit.specs.Alike.{AreAlike}
use Rattle.qw_emit.specs.RunsOf.{IsMadeOf}
use Rattle.qw_group_pipeline.specs.Groups.{InSink, IsOneRow}
use Rattle.qw_group_pipeline.specs.declared.columns.ValueColumn.{ValueColumn}
use Rattle.qw_compile.specs.QueryLocals.{own_start, query_locals}
use Rattle.qw_compile.specs.QueryMade.{literal_locals, literals_by, readers_by, texts_by}
use Rattle.qw_compile.specs.Statements.{AreCourses}
use Rattle.qw_compile.proofs.LiteralOctets.{literal_octets}
use Rattle.qw_compile.proofs.QueryReach.{table_of}
use Rattle.qw_compile.proofs.QueryTyped.{types}
use Rattle.qw_whole.specs.WholePromises.{promise_of_whole}
use Rattle.qw_compile_whole.specs.GroupColumns.{key_columns, value_columns}
use Rattle.qw_compile_whole.specs.GuardedSingles.{IsTakingBy, one_group_block_by}
use Rattle.qw_compile_whole.specs.GuardedStatements.{guard_for}
use Rattle.qw_compile_whole.specs.SingleOf.{IsSingleOf}
use Rattle.qw_compile_whole.specs.WholeTexts.{texts_of_grouped}
use Rattle.qw_compile_whole.proofs.ColumnTypes.{values_of_kinds}
use Rattle.qw_compile_whole.proofs.FoldedBehind.{kinds_folded}
use Rattle.qw_compile_whole.proofs.FrontLed.{built_low, columns_many, end_leads, front_leads, front_words, laid_columns, literals_over}
use Rattle.qw_compile_whole.proofs.GroupKept.{given_up, walked_rows}
use Rattle.qw_compile_whole.proofs.GroupedFinished.{MakesModule, few_steps}
use Rattle.qw_compile_whole.proofs.StatementParts.{PartsOf, parts_by, all_small, alone, behind_leads, fewer, folded_kinds, folded_query, goes_with, groups_can}
use Rattle.qw_compile_whole.proofs.GroupedReady.{key_long}
use Rattle.qw_compile_whole.proofs.GroupedTyped.{single_typed}
use Rattle.qw_compile_whole.proofs.SingleBounded.{GoAlone}
use Rattle.qw_compile_whole.proofs.SingleCompiled.{single_compiled, single_long_compiled}
use Rattle.qw_compile_whole.proofs.SingleKept.{long_kept, single_kept}
use Rattle.qw_compile_whole.proofs.WhichCounted.{counted_there}

module _ (row_is : (row other : List Val) → is_same_row row other ≡ true → row ≡ other) (value_is : (a : Val) → value_order a a ≡ ordering.Equal)
    (parts : GroupedParts) (grouped : IsGrouped (grouped_of parts)) (none : length parts.columns ≡ 0)
    (sized : AllByRecursion (λ (e : Entry). AllByRecursion (λ (c : ColumnType). IsSized c.ty) e.columns) (entries_of (grouped_of parts).sources))
    (layout : Layout) (code : List LowStep) (locals : List ValType) (s : IsSingleOf parts layout code locals) (small : descriptor_size layout ≤ page) where
  abbrev query : Grouped
  query = grouped_of parts

  columns_is : s.group.columns ≡ length (key_columns (grouped_of parts))
  columns_is = let keyed = key_long 0 query.columns in let no_columns = s.made.no_columns in omega (arith, keyed, no_columns, none)

  abbrev given : PartsOf parts layout
  given =
      parts_by parts layout s.before s.before_is s.before_texts s.kept s.columns s.are s.used s.used_at s.made.columns_are s.ps s.of s.behind s.behind_is s.among s.made.building s.made.taking s.made.pipelines_are s.group s.made.values_are columns_is s.made.functions_are s.made.utf8

  abbrev T : ℕ
  T = length s.ps

  abbrev all : List coded.Pipeline
  all = s.ps ++ s.behind ∷ []

  abbrev values : List ValueColumn
  values = value_columns query

  abbrev whole : Whole
  whole = record { body = asked.grouped (grouped_of parts); distinct = false }

  abbrev own : List ValType
  own = s.made.builds_own ++ (s.made.takes_own ++ s.made.one_own)

  goes : GoesWith (promise_of_whole whole) layout
  goes = goes_with row_is value_is parts grouped given false (kinds_folded query (pipeline_of s.behind) s.behind_is ∙ folded_kinds given s.made.kinds_are) small (literal_octets (texts_of_grouped parts) layout.literals s.made.utf8 s.made.octets_are)

  go_alone : GoAlone (folded_query given) s.group values (literals_over given.source T)
  go_alone = alone row_is value_is parts grouped given T none

  -- ---- with the columns of the layout
  abbrev first : ℕ
  first = own_start T (literal_locals (texts_of_grouped parts) all) (length s.columns)

  leads_at : LeadsToAll (texts_by T (length layout.columns) (texts_of_grouped parts)) s.made.leads
  leads_at = subst (λ (k : ℕ). LeadsToAll (texts_by T k (texts_of_grouped parts)) s.made.leads) (columns_many given.source) s.made.leads_all

  built_at : AreCourses (literals_by T (length layout.columns) (texts_of_grouped parts) all) (readers_by T (texts_of_grouped parts) all s.columns) first s.made.building s.made.builds s.made.builds_own
  built_at = subst (λ (k : ℕ). AreCourses (literals_by T k (texts_of_grouped parts) all) (readers_by T (texts_of_grouped parts) all s.columns) first s.made.building s.made.builds s.made.builds_own) (columns_many given.source) s.made.built

  abbrev Makes : ℕ → List Operator → Sink → Type 0
  Makes k os snk = IsOneRow (InSink os snk) (literals_by T k (texts_of_grouped parts) all) (directory (length s.made.building)) (first + length s.made.builds_own + length s.made.takes_own) values s.made.one s.made.one_own

  made_at : Makes (length layout.columns) (filter s.behind_is.having ∷ []) (select s.behind_is.items)
  made_at =
      subst₂ (λ (os : List Operator) (k : Sink). Makes (length layout.columns) os k) s.behind_is.operators_are s.behind_is.sink_is
      (subst (λ (k : ℕ). Makes k (pipeline_of s.behind).operators (pipeline_of s.behind).sink) (columns_many given.source) s.made.made)

  -- ---- rows are counted or not
  abbrev block : Option ℕ → Statement
  block g = one_group_block_by g T (descriptor_size layout) s.made.leads s.made.sets s.made.builds (length s.made.building) (length s.group.functions) s.made.takes s.made.one

  module _ (guard : Option ℕ) (guard_is : guard_for T (length values) ≡ guard) where
    taken_at : IsTakingBy guard (literals_by T (length layout.columns) (texts_of_grouped parts) all) (readers_by T (texts_of_grouped parts) all s.columns) (first + length s.made.builds_own) s.made.taking s.group s.made.fields s.made.takes s.made.takes_own
    taken_at =
        subst₂ (λ (g : Option ℕ) (k : ℕ). IsTakingBy g (literals_by T k (texts_of_grouped parts) all) (readers_by T (texts_of_grouped parts) all s.columns) (first + length s.made.builds_own) s.made.taking s.group s.made.fields s.made.takes s.made.takes_own) guard_is (columns_many given.source) s.made.taken

    code_by : code ≡ steps_of (block guard)
    code_by = s.made.code_is ∙ ap (λ (g : Option ℕ). steps_of (block g)) guard_is

    few_by : length code ≤ 2097152 → size (block guard) ≤ 2 ^ 22
    few_by short = few_steps code (block guard) code_by short

  pub single_whole : AreAlike (entries_of (grouped_of parts).sources) → length code ≤ 2097152 → (m : Module) → MakesModule code locals m → IsCompiled (promise_of_whole (record { body = asked.grouped (grouped_of parts); distinct = false })) layout m
  single_whole alike short m made = by_guard (guard_for T (length values)) refl
    where
      led : AreLed (types T (entry_offset (length s.columns)) s.columns (texts_of_grouped parts) (front_words given.source) own) s.made.taking.operators
      led = end_leads given.source T (omega arith) own

      is_made : (guard : Option ℕ) (is : guard_for T (length values) ≡ guard) → IsMadeOf m (block guard) (length (query_locals T (length (texts_of_grouped parts)) (length (front_words given.source)) s.columns own))
      is_made guard is =
          subst (λ (l : List ValType). IsMadeOf m (block guard) (length l)) s.made.locals_are
          (made (block guard) (code_by guard is)
          (subst (λ (g : Option ℕ). IsTyped (I32 ∷ locals) (block g)) is
          (single_typed T (texts_of_grouped parts) s.ps s.behind s.columns s.used layout code locals small (all_small row_is value_is parts grouped given) s.group values s.made (built_low given.source) (groups_can row_is value_is parts grouped given) (values_of_kinds query grouped)
          (front_leads given.source T (omega arith) own) led (behind_leads row_is value_is parts grouped given T (omega arith) own))) (few_by guard is short))

      by_guard : (guard : Option ℕ) → guard_for T (length values) ≡ guard → IsCompiled (promise_of_whole whole) layout m
      by_guard None uncounted =
          single_compiled (promise_of_whole whole) layout T s.columns (texts_of_grouped parts) (front_words given.source) (table_of (entries_of (query_of s.before).sources)) (laid_columns given.source) s.made.octets_are s.made.utf8 (all_small row_is value_is parts grouped given) s.made.leads s.made.sets s.made.building s.made.taking (folded_query given)
          s.group values s.made.fields s.made.field_kinds s.made.values_are (folded_kinds given s.made.kinds_are) s.made.table_is (built_low given.source) s.made.builds s.made.takes s.made.one s.made.builds_own s.made.takes_own s.made.one_own goes leads_at s.made.sets_all go_alone built_at (taken_at None uncounted) made_at (few_by None uncounted short) alike (λ tables. given_up row_is value_is parts grouped given)
          (λ tables loaded. single_kept row_is value_is parts grouped given T (omega arith) go_alone tables loaded (fewer given tables loaded uncounted)) (λ tables stoods loaded. walked_rows row_is value_is parts grouped given tables loaded stoods) m (is_made None uncounted)
      by_guard (Some z) is =
          let counts : guard_for T (length values) ≡ Some 4 = counted_there T (length values) z is in
          single_long_compiled (promise_of_whole whole) layout T s.columns (texts_of_grouped parts) (front_words given.source) (table_of (entries_of (query_of s.before).sources)) (laid_columns given.source) s.made.octets_are s.made.utf8 (all_small row_is value_is parts grouped given) s.made.leads s.made.sets s.made.building s.made.taking (folded_query given)
          s.group values s.made.fields s.made.field_kinds s.made.values_are (folded_kinds given s.made.kinds_are) s.made.table_is (built_low given.source) s.made.builds s.made.takes s.made.one s.made.builds_own s.made.takes_own s.made.one_own goes
          leads_at s.made.sets_all go_alone built_at (taken_at (Some 4) counts) made_at led (few_by (Some 4) counts short) alike (λ tables. given_up row_is value_is parts grouped given)
          (λ tables loaded. long_kept row_is value_is parts grouped given T (omega arith) go_alone tables loaded) (λ tables stoods loaded. walked_rows row_is value_is parts grouped given tables loaded stoods) m (is_made (Some 4) counts)
