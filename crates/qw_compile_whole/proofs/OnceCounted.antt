-- The pipelines that are made of a grouped query with DISTINCT keep what is promised of it, whether the rows that go into groups are counted or not: where they are,
-- there are few or many of them (ISO/IEC 9075:1992, 7.7 to 7.9).
use Rattle.std.proofs.Common.{◌≡◌, ◌≤◌, ◌<◌, ℕ, ◌^◌, ◌⊎◌, inl, inr, true, IsUtf8, Option, Some, None, List, [], length, refl, ap, subst, ⊎_elim, arith}
use Rattle.std.proofs.lemmas.Bool.{cases_lt}
use Rattle.std.specs.List.Sorted.{IsPermutation}
use Rattle.std.specs.declared.cmp.Ordering.TheVariants as ordering
use Rattle.qw_types.specs.ValueOrder.{is_same_row, value_order}
use Rattle.qw_types.specs.declared.value.Val.{Val}
use Rattle.qw_meaning.specs.Outcome.{flow}
use Rattle.qw_meaning.specs.Query.{query_of}
use Rattle.qw_meaning.specs.Select.{AreOfEntries, Specification, entries_of}
use Rattle.qw_grouped.specs.Grouped.{Grouped, IsGrouped, front}
use Rattle.qw_operator.specs.Grouping.{Group}
use Rattle.qw_compile.proofs.QueryReach.{table_of}
use Rattle.qw_whole.specs.WholePromises.{promise_of_whole}
use Rattle.qw_compile_whole.specs.GroupColumns.{key_columns, key_from, value_columns}
use Rattle.qw_compile_whole.specs.WholeDistinct.{distinct_columns, distinct_grouping}
use Rattle.qw_compile_whole.proofs.DistinctCompiled.{AreFewOnce}
use Rattle.qw_compile_whole.proofs.GroupBounded.{GoTogether}
use Rattle.qw_compile_whole.proofs.GroupKept.{rows_many}
use Rattle.qw_compile_whole.proofs.GuardedCompiled.{AreMany}
use Rattle.qw_compile_whole.proofs.GroupTexts.{group_list_texts}
use Rattle.qw_compile_whole.proofs.GuardedFronts.{IsGuard}
use Rattle.qw_compile_whole.proofs.HeldGroups.{behind_held}
use Rattle.qw_compile_whole.proofs.WholeOnce.{asked_distinct, given_up_distinct, once_first, once_kept, once_rows, shown}
use Rattle.qw_map.specs.Layout.{Layout}
use Rattle.qw_grouped.specs.Query.{GroupedParts, grouped_of}
use Rattle.qw_compile_whole.specs.WholeTexts.{texts_of_grouped}
use Rattle.qw_compile_whole.proofs.FrontLed.{front_at, front_count, front_words, literals_over}
use Rattle.qw_compile_whole.proofs.StatementParts.{PartsOf, arguments_utf8, folded_query, sized_sources}

module _ (row_is : (row other : List Val) → is_same_row row other ≡ true → row ≡ other) (value_is : (a : Val) → value_order a a ≡ ordering.Equal)
    (parts : GroupedParts) (whole : IsGrouped (grouped_of parts)) {layout : Layout} (given : PartsOf parts layout)
    (T : ℕ) (room : length given.source.ps ≤ T) (together : GoTogether (folded_query given) given.source.group (key_columns (grouped_of parts)) (value_columns (grouped_of parts)) (literals_over given.source T))
    (tables : List (List (List Val))) (loaded : AreOfEntries (entries_of (grouped_of parts).sources) tables)
    (into : Group) (together_again : GoTogether (distinct_grouping (shown (grouped_of parts))) into (key_from 0 (distinct_columns 0 (grouped_of parts).items)) [] (literals_over given.source T)) (into_values : into.values ≡ given.behind_is.items) where
  abbrev query : Grouped
  query = grouped_of parts

  abbrev Few : Option ℕ → Type 0
  Few guard = AreFewOnce guard (promise_of_whole (asked_distinct query)) T (front_count given.source) given.source.columns (texts_of_grouped parts) (front_words given.source) (front_at given.source) (table_of (entries_of (query_of given.source.parts).sources)) given.source.building given.source.last
      (folded_query given) given.source.group (key_columns query) (value_columns query) (distinct_grouping (shown query)) into (key_from 0 (distinct_columns 0 query.items)) []
      (given_up_distinct row_is value_is parts whole given) tables

  abbrev Many : Type 0
  Many = AreMany (promise_of_whole (asked_distinct query)) T (front_count given.source) given.source.columns (texts_of_grouped parts) (front_words given.source) (front_at given.source) (table_of (entries_of (query_of given.source.parts).sources)) given.source.building given.source.last given.source.group (given_up_distinct row_is value_is parts whole given) tables

  abbrev reaching : List (List Val)
  reaching = (flow (front query) tables).rows

  from_front : (rows : List (List Val)) → IsPermutation (flow (query_of given.source.parts) tables).rows rows → IsPermutation (flow (front query) tables).rows rows
  from_front rows from = subst (λ (s : Specification). IsPermutation (flow s tables).rows rows) given.before_is from

  are_few : (guard : Option ℕ) → (1 ≤ length query.functions → length (flow (front query) tables).rows < 10 ^ 18) → (guard ≡ Some 4 → length (flow (front query) tables).rows < 10 ^ 18) → Few guard
  are_few guard few less = record {
    bounded = once_kept row_is value_is parts whole given T room together tables loaded few
        into together_again into_values (λ rows from. behind_held query whole tables loaded (sized_sources given) (arguments_utf8 given) (group_list_texts IsUtf8 parts given.utf8) rows (from_front rows from) few);
    fewer = λ counts stoods stood. (let same = rows_many row_is value_is parts whole given tables loaded stoods stood in let all = less counts in omega (arith, same, all));
    same = λ stoods entered stood none over from none_again.
        once_rows row_is value_is parts whole given T room together tables loaded few
        into together_again into_values (λ rows from. behind_held query whole tables loaded (sized_sources given) (arguments_utf8 given) (group_list_texts IsUtf8 parts given.utf8) rows (from_front rows from) few) stoods stood none over entered from;
  }

  are_many : 10 ^ 18 ≤ length (flow (front query) tables).rows → Many
  are_many more = record {
    bounded = once_first row_is value_is parts whole given T room together tables loaded;
    more = λ stoods stood. (let same = rows_many row_is value_is parts whole given tables loaded stoods stood in omega (arith, same, more));
  }

  differ : (let none : Option ℕ = None in none) ≡ Some 4 → ⊥
  differ e = absurd cc

  -- where they aren't counted, there are few for any set function
  pub few_or_many : (guard : Option ℕ) → IsGuard guard → (guard ≡ None → 1 ≤ length query.functions → length (flow (front query) tables).rows < 10 ^ 18) →
      Few guard ⊎ ((guard ≡ Some 4) × Many)
  few_or_many None is_guard few = inl (are_few None (few refl) (λ counts. absurd (differ counts)))
  few_or_many (Some z) is_guard few =
      ⊎_elim (λ less. inl (are_few (Some z) (λ some_function. less) (λ counts. less))) (λ more. inr (ap (λ (k : ℕ). let o : Option ℕ = Some k in o) is_guard, are_many more)) (cases_lt (length reaching) (10 ^ 18))
