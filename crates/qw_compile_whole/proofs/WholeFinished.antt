-- The module around a grouped query's steps is the compiled form of what is promised of the query.
use Rattle.std.proofs.Common.{◌≡◌, ◌∙◌, ◌≤◌, ℕ, ◌^◌, ◌⊎◌, inl, inr, true, false, Option, Some, None, List, [], ◌∷◌, ◌++◌, length, refl, ⊎_elim, arith}
use Rattle.std.proofs.lemmas.Bool.{cases_lt}
use Rattle.std.specs.List.{AllByRecursion}
use Rattle.std.specs.declared.cmp.Ordering.TheVariants as ordering
use Rattle.qw_types.specs.Value.{IsSized}
use Rattle.qw_types.specs.ValueOrder.{is_same_row, value_order}
use Rattle.qw_types.specs.declared.schema.ColumnType.{ColumnType}
use Rattle.qw_types.specs.declared.value.Val.{Val}
use Rattle.qw_linear.specs.Memory.{page}
use Rattle.qw_module.specs.declared.instruction.ValType.{ValType}
use Rattle.qw_module.specs.declared.module.Module.{Module}
use Rattle.qw_map.specs.Layout.{Layout, descriptor_size}
use Rattle.qw_meaning.specs.Outcome.{flow}
use Rattle.qw_meaning.specs.Query.{query_of}
use Rattle.qw_meaning.specs.Select.{AreOfEntries, Entry, entries_of}
use Rattle.qw_grouped.specs.Grouped.{Grouped, IsGrouped, front}
use Rattle.qw_grouped.specs.Query.{GroupedParts, grouped_of}
use Rattle.qw_grouped.specs.Whole.{Whole}
use Rattle.qw_grouped.specs.Whole as asked
use Rattle.qw_low.specs.declared.step.LowStep.{LowStep}
use Rattle.qw_physical.specs.Coded.{pipeline_of}
use Rattle.qw_physical.specs.Physical.{filter, select}
use Rattle.qw_physical.specs.declared.pipeline.ReadColumn.{ReadColumn}
use Rattle.qw_promise.specs.Compiled.{GoesWith, IsCompiled}
use Rattle.qw_emit.specs.Alike.{AreAlike}
use Rattle.qw_emit.specs.RunsOf.{IsMadeOf}
use Rattle.qw_group_pipeline.specs.declared.columns.ValueColumn.{ValueColumn}
use Rattle.qw_compile.specs.QueryLocals.{query_locals}
use Rattle.qw_compile.proofs.LiteralOctets.{literal_octets}
use Rattle.qw_compile.proofs.LocalsPlaced.{literal_count}
use Rattle.qw_compile.proofs.QueryReach.{table_of}
use Rattle.qw_whole.specs.WholePromises.{promise_of_whole}
use Rattle.qw_compile_whole.specs.GroupColumns.{key_columns, value_columns}
use Rattle.qw_compile_whole.specs.GuardedStatements.{guard_for, guarded_block_of}
use Rattle.qw_compile_whole.specs.StatementOf.{IsStatementOf}
use Rattle.qw_compile_whole.specs.WholeTexts.{texts_of_grouped}
use Rattle.qw_compile_whole.proofs.ColumnTypes.{values_of_kinds}
use Rattle.qw_compile_whole.proofs.FoldedBehind.{kinds_folded}
use Rattle.qw_compile_whole.proofs.FrontLed.{built_low, columns_many, end_leads, front_at, front_leads, front_words, laid_columns, literals_over}
use Rattle.qw_compile_whole.proofs.GroupBounded.{GoTogether}
use Rattle.qw_compile_whole.proofs.GuardedCompiled.{AreFew, AreMany, grouped_compiled, guarded_compiled}
use Rattle.qw_compile_whole.proofs.GroupKept.{first_kept, given_up, group_kept, rows_many, walked_rows}
use Rattle.qw_compile_whole.proofs.GroupedFinished.{MakesModule, built_at, few_by, gathered_at, leads_at, made_by, walked_at}
use Rattle.qw_compile_whole.proofs.StatementParts.{PartsOf, parts_by, all_small, behind_leads, fewer, folded_kinds, folded_query, goes_with, groups_can, together}
use Rattle.qw_compile_whole.proofs.WhichCounted.{counted_there}

module _ (row_is : (row other : List Val) → is_same_row row other ≡ true → row ≡ other) (value_is : (a : Val) → value_order a a ≡ ordering.Equal)
    (parts : GroupedParts) (grouped : IsGrouped (grouped_of parts)) (some : 1 ≤ length parts.columns)
    (sized : AllByRecursion (λ (e : Entry). AllByRecursion (λ (c : ColumnType). IsSized c.ty) e.columns) (entries_of (grouped_of parts).sources))
    (layout : Layout) (code : List LowStep) (locals : List ValType) (s : IsStatementOf parts layout code locals) (small : descriptor_size layout ≤ page) where
  abbrev query : Grouped
  query = grouped_of parts

  abbrev given : PartsOf parts layout
  given =
      parts_by parts layout s.before s.before_is s.before_texts s.kept s.columns s.are s.used s.used_at s.made.columns_are s.ps s.of s.behind s.behind_is s.among s.made.building s.made.gathering s.made.pipelines_are s.group s.made.values_are s.made.columns_is s.made.functions_are s.made.utf8

  abbrev T : ℕ
  T = length s.ps

  abbrev key : List ReadColumn
  key = key_columns query

  abbrev values : List ValueColumn
  values = value_columns query

  abbrev whole : Whole
  whole = record { body = asked.grouped (grouped_of parts); distinct = false }

  abbrev own : List ValType
  own = s.made.builds_own ++ (s.made.gathers_own ++ s.made.walk_own)

  goes : GoesWith (promise_of_whole whole) layout
  goes = goes_with row_is value_is parts grouped given false (kinds_folded query (pipeline_of s.behind) s.behind_is ∙ folded_kinds given s.made.kinds_are) small (literal_octets (texts_of_grouped parts) layout.literals s.made.utf8 s.made.octets_are)

  go_together : GoTogether (folded_query given) s.group key values (literals_over given.source T)
  go_together = together row_is value_is parts grouped given T some sized

  few_or_many : (tables : List (List (List Val))) → AreOfEntries (entries_of query.sources) tables →
      AreFew (promise_of_whole whole) T (literal_count (texts_of_grouped parts) (front_words given.source)) s.columns (texts_of_grouped parts) (front_words given.source) (front_at given.source) (table_of (entries_of (query_of s.before).sources)) s.made.building s.made.gathering (folded_query given) s.group key values (given_up row_is value_is parts grouped given) tables
      ⊎ AreMany (promise_of_whole whole) T (literal_count (texts_of_grouped parts) (front_words given.source)) s.columns (texts_of_grouped parts) (front_words given.source) (front_at given.source) (table_of (entries_of (query_of s.before).sources)) s.made.building s.made.gathering s.group (given_up row_is value_is parts grouped given) tables
  few_or_many tables loaded = ⊎_elim
      (λ less. inl (record {
        bounded = group_kept row_is value_is parts grouped given tables loaded T (omega arith) go_together (λ some_function. less);
        fewer = λ stoods stood. (let same = rows_many row_is value_is parts grouped given tables loaded stoods stood in omega (arith, same, less));
        same = walked_rows row_is value_is parts grouped given tables loaded;
      }))
      (λ more. inr (record {
        bounded = first_kept row_is value_is parts grouped given tables loaded T (omega arith) go_together;
        more = λ stoods stood. (let same = rows_many row_is value_is parts grouped given tables loaded stoods stood in omega (arith, same, more));
      }))
      (cases_lt (length (flow (front query) tables).rows) (10 ^ 18))

  pub whole_finished : AreAlike (entries_of (grouped_of parts).sources) → length code ≤ 2097152 → (m : Module) → MakesModule code locals m → IsCompiled (promise_of_whole (record { body = asked.grouped (grouped_of parts); distinct = false })) layout m
  whole_finished alike short m made = by_guard (guard_for T (length values)) refl
    where
      is_made : (guard : Option ℕ) → guard_for T (length values) ≡ guard → IsMadeOf m (guarded_block_of guard T (descriptor_size layout) s.made.leads s.made.sets s.made.builds (length s.made.building) s.made.gathers s.made.walk) (length (query_locals T (length (texts_of_grouped parts)) (length (front_words given.source)) s.columns own))
      is_made guard is =
          made_by s.made guard is m made small short (all_small row_is value_is parts grouped given) (built_low given.source) (groups_can row_is value_is parts grouped given) (values_of_kinds query grouped)
          (front_leads given.source T (omega arith) own) (end_leads given.source T (omega arith) own) (behind_leads row_is value_is parts grouped given T (omega arith) own)

      by_guard : (guard : Option ℕ) → guard_for T (length values) ≡ guard → IsCompiled (promise_of_whole whole) layout m
      by_guard None none =
          let n : ℕ = length layout.columns in
          let many = columns_many given.source in
          grouped_compiled (promise_of_whole whole) layout T s.columns (texts_of_grouped parts) (front_words given.source) (table_of (entries_of (query_of s.before).sources)) (laid_columns given.source) s.made.octets_are s.made.utf8 (all_small row_is value_is parts grouped given) s.made.leads s.made.sets s.made.building s.made.gathering (folded_query given)
          s.group key values s.made.fields s.made.field_kinds s.made.values_are (folded_kinds given s.made.kinds_are) s.made.table_is (built_low given.source) s.made.builds s.made.gathers s.made.walk s.made.builds_own s.made.gathers_own s.made.walk_own goes
          (leads_at s.made None none n many) s.made.sets_all go_together (built_at s.made None none n many)
          (gathered_at s.made None none n many) (walked_at s.made None none n many (filter s.behind_is.having ∷ []) (select s.behind_is.items) s.behind_is.operators_are s.behind_is.sink_is)
          (few_by s.made None none short) alike (λ tables. given_up row_is value_is parts grouped given)
          (λ tables loaded. group_kept row_is value_is parts grouped given tables loaded T (omega arith) go_together (fewer given tables loaded none))
          (λ tables stoods loaded. walked_rows row_is value_is parts grouped given tables loaded stoods) m (is_made None none)
      by_guard (Some z) is =
          let counts : guard_for T (length values) ≡ Some 4 = counted_there T (length values) z is in
          let n : ℕ = length layout.columns in
          let many = columns_many given.source in
          guarded_compiled (promise_of_whole whole) layout T s.columns (texts_of_grouped parts) (front_words given.source) (table_of (entries_of (query_of s.before).sources)) (laid_columns given.source) s.made.octets_are s.made.utf8 (all_small row_is value_is parts grouped given) s.made.leads s.made.sets s.made.building s.made.gathering (folded_query given)
          s.group key values s.made.fields s.made.field_kinds s.made.values_are (folded_kinds given s.made.kinds_are) s.made.table_is (built_low given.source) s.made.builds s.made.gathers s.made.walk s.made.builds_own s.made.gathers_own s.made.walk_own goes
          (leads_at s.made (Some 4) counts n many) s.made.sets_all go_together (built_at s.made (Some 4) counts n many)
          (gathered_at s.made (Some 4) counts n many) (walked_at s.made (Some 4) counts n many (filter s.behind_is.having ∷ []) (select s.behind_is.items) s.behind_is.operators_are s.behind_is.sink_is)
          (end_leads given.source T (omega arith) own) (few_by s.made (Some 4) counts short) alike (λ tables. given_up row_is value_is parts grouped given) (λ tables loaded. few_or_many tables loaded) m (is_made (Some 4) counts)
