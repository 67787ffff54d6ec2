-- The pipelines that are made of a grouped query with DISTINCT keep what is promised of it: the rows that HAVING and the select list make go into a second table
-- of groups, over all their columns, and the walk over that one makes each of them once (ISO/IEC 9075:1992, 7.7 to 7.9).
use Rattle.std.proofs.Common.{◌≡◌, ◌∙◌, ◌≤◌, ◌<◌, ℕ, ◌+◌, ◌-◌, ◌*◌, ◌/◌, ◌^◌, max, true, false, List, [], ◌∷◌, ◌++◌, length, Ok, sym, ap, ap₂, subst, subst₂, arith}
use Rattle.std.specs.List.{AllByRecursion, AllZip}
use Rattle.std.specs.List.Sorted.{IsPermutation}
use Rattle.std.proofs.ByRecursion.{all_shuffled}
use Rattle.std.proofs.lemmas.List.{length-map}
use Rattle.std.proofs.lemmas.List.Sorted.{IsPermutation-refl, IsPermutation-sym, IsPermutation-trans, length_permutation}
use Rattle.std.specs.declared.cmp.Ordering.TheVariants as ordering
use Rattle.qw_types.specs.ValueOrder.{is_same_row, value_order}
use Rattle.qw_types.specs.declared.code.Code.{Code}
use Rattle.qw_types.specs.declared.value.Val.{Val}
use Rattle.qw_linear.specs.Memory.{page}
use Rattle.qw_layout.specs.Hash.{slot}
use Rattle.qw_layout.specs.Row.{entry_size}
use Rattle.qw_scalar.specs.Expression.{Expression}
use Rattle.qw_scalar.specs.Typing.{kind_of}
use Rattle.qw_meaning.specs.Flow as clauses
use Rattle.qw_meaning.specs.Flow.{Flow, each}
use Rattle.qw_meaning.specs.Outcome.{IsSameOutcome, Rows, ended, flow, outcome}
use Rattle.qw_meaning.specs.Query.{query_of}
use Rattle.qw_meaning.specs.Select.{AreOfEntries, Specification, entries_of}
use Rattle.qw_grouped.specs.Grouped.{Grouped, IsGrouped, expression_of_column, front, kinds_of, widest}
use Rattle.qw_grouped.specs.Groups.{behind_front, function_values, grouped_flow, grouped_table, key_of, keys, members, once}
use Rattle.qw_grouped.specs.Whole.{Whole, grouped, whole_outcome}
use Rattle.qw_grouped.specs.declared.set_function.SetFunctionKind.{SetFunctionKind}
use Rattle.qw_grouped.proofs.GroupLemmas.{once_permuted}
use Rattle.qw_grouped.proofs.OrderLemmas as order
use Rattle.qw_grouped.proofs.TypedGroups.{all_once}
use Rattle.qw_meaning.proofs.ListLemmas.{all_more}
use Rattle.qw_pipe.specs.General.{general_hashing}
use Rattle.qw_pipe.specs.Octets.{greatest_entry, table_count, table_octets}
use Rattle.qw_map.specs.Layout.{Layout, row_size}
use Rattle.qw_feed.specs.Feeds.{Tells, spend}
use Rattle.qw_table.specs.Tables.{in_slot}
use Rattle.qw_physical.specs.Coded.{pipeline_of}
use Rattle.qw_physical.specs.Courses.{cost}
use Rattle.qw_physical.specs.Physical.{filter, select}
use Rattle.qw_physical.proofs.Orders.{Alike}
use Rattle.qw_operator.proofs.PairRows.{AreStored, IsHeld}
use Rattle.qw_operator.proofs.Stood.{Stood}
use Rattle.qw_emit.proofs.Answered.{IsTold}
use Rattle.qw_operator.specs.Costs.{cost_to}
use Rattle.qw_operator.specs.Grouping.{Group, turn_of}
use Rattle.qw_group_pipeline.specs.Groups.{most_read}
use Rattle.qw_group_pipeline.proofs.RowFeeds.{by_result}
use Rattle.qw_group_pipeline.proofs.ValuesCome.{AreRead, functions_of}
use Rattle.qw_compile.specs.PlannedQueries.{kept_by, placed, planned_units}
use Rattle.qw_compile.proofs.Greatest.{greatest_small}
use Rattle.qw_compile.proofs.PipelineRuns.{AreStood, fed_over}
use Rattle.qw_compile.proofs.QueryReach.{table_of}
use Rattle.qw_whole.specs.GroupTables.{chosen_units, distinct_octets, distinct_size, distinct_units, group_octets, group_size, group_units, rows_behind}
use Rattle.qw_whole.specs.WholePromises.{planned_rows, whole_pages, whole_units}
use Rattle.qw_whole.proofs.EntrySizes.{group_small}
use Rattle.qw_whole.proofs.GrowingTables.{distinct_keys}
use Rattle.qw_whole.proofs.PermutedTables.{distinct_permuted}
use Rattle.qw_compile_whole.specs.GroupColumns.{key_columns, key_from, value_columns}
use Rattle.qw_compile_whole.specs.WholeDistinct.{distinct_columns, distinct_grouping}
use Rattle.qw_compile_whole.proofs.EnterBounded.{EnterReach, IsDistinctBounded}
use Rattle.qw_compile_whole.proofs.FirstBounded.{IsFirstBounded}
use Rattle.qw_compile_whole.proofs.GroupBounded.{GatherReach, GoTogether, WalkReach, group_width, groups_paid, walked_of}
use Rattle.qw_compile_whole.proofs.GroupCore.{first_bounded, gather_reach, group_octets_less, keys_stored, values_are_read}
use Rattle.qw_compile_whole.proofs.GroupKept.{few_spec, from_front, from_walk, keys_ok, octets_low, row_less, some_column, units_low, values_ok, walked_rows}
use Rattle.qw_compile_whole.proofs.GroupOnce.{enters_less, made_long, turns_once}
use Rattle.qw_compile_whole.proofs.GroupPlanned.{built_many, fed_alike, rows_planned}
use Rattle.qw_compile_whole.proofs.GroupReach.{budget, builds_reach, builds_told, last_told, most, pays}
use Rattle.qw_compile_whole.proofs.GroupRead.{compared_within, read_less}
use Rattle.qw_compile_whole.proofs.GroupShares.{groups_within}
use Rattle.qw_compile_whole.proofs.GroupTold.{told_any}
use Rattle.qw_compile_whole.proofs.GroupTotals.{total}
use Rattle.qw_compile_whole.proofs.WholeBehind.{behind_once, columns_many, units_once}
use Rattle.qw_compile_whole.proofs.WholeKept.{no_values, refused_alone, stored_row}
use Rattle.qw_grouped.specs.Query.{GroupedParts, grouped_of}
use Rattle.qw_compile_whole.specs.WholeTexts.{texts_of_grouped}
use Rattle.qw_compile_whole.proofs.FrontLed.{front_at, front_count, front_words, literals_over}
use Rattle.qw_compile_whole.proofs.FoldedBehind.{behind_folded}
use Rattle.qw_compile_whole.proofs.StatementParts.{PartsOf, folded_query, items_long, loaded_front}

-- a query, each row of whose result is wanted once
abbrev pub asked_distinct : Grouped → Whole
asked_distinct query = record { body = grouped query; distinct = true }

-- the select list as a query of its own, whose rows are those that are put into the second table
abbrev pub shown : Grouped → Specification
shown query = record { sources = query.sources; conjuncts = query.conjuncts; items = query.items }

same_once : (rows others made : List (List Val)) (cs : List Code) → IsSameOutcome (ended rows cs) (Rows others) → IsPermutation made others → IsSameOutcome (ended (once rows) cs) (Rows (once made))
same_once rows others made [] h p = once_permuted rows made (IsPermutation-trans rows others made h (IsPermutation-sym made others p))
same_once rows others made (c ∷ cs) h p = absurd h

module _ (row_is : (row other : List Val) → is_same_row row other ≡ true → row ≡ other) (value_is : (a : Val) → value_order a a ≡ ordering.Equal)
    (parts : GroupedParts) (whole : IsGrouped (grouped_of parts)) {layout : Layout} (given : PartsOf parts layout) where
  abbrev query : Grouped
  query = grouped_of parts

  -- the most that may be stored at once
  abbrev widest_stored : ℕ
  widest_stored = max (row_size (length query.items)) (max (distinct_size (length query.items)) (max (group_size query) (greatest_entry (kept_by (query_of given.source.parts)) (placed (query_of given.source.parts)))))

  -- what may be given up of a page
  abbrev pub given_up_distinct : ℕ
  given_up_distinct = page - max (row_size (length query.items)) (max (distinct_size (length query.items)) (max (group_size query) (greatest_entry (kept_by (query_of given.source.parts)) (placed (query_of given.source.parts)))))

  widest_low : widest_stored ≤ 24216
  widest_low = low (row_size (length (query_of given.source.parts).items)) (greatest_entry (kept_by (query_of given.source.parts)) (placed (query_of given.source.parts))) (group_size query) (length query.items) (greatest_small (query_of given.source.parts) given.source.are.specification) (group_small query whole) whole.few_items
    where
      low : (r e g q : ℕ) → max r e ≤ 24216 → g ≤ 16408 → q ≤ 512 → max (8 + 16 * q) (max (24 + 16 * (q + 0) + 32 * 0) (max g e)) ≤ 24216
      low r e g q a b d = omega (arith, a, b, d)

  -- with the conjuncts of HAVING and the items as they are evaluated
  module _ (T : ℕ) (room : length given.source.ps ≤ T) (together : GoTogether (folded_query given) given.source.group (key_columns (grouped_of parts)) (value_columns (grouped_of parts)) (literals_over given.source T))
      (tables : List (List (List Val))) (loaded : AreOfEntries (entries_of (grouped_of parts).sources) tables) where
    abbrev n : ℕ
    n = length query.columns

    abbrev kinds : List SetFunctionKind
    kinds = kinds_of query.functions

    abbrev folded : Grouped
    folded = folded_query given

    abbrev again : Grouped
    again = distinct_grouping (shown query)

    -- the rows that are put into the second table, by the plan
    abbrev planned : List (List Val)
    planned = planned_rows (query_of given.source.parts) tables

    abbrev behind : List (List Val)
    behind = rows_behind query (planned_rows (query_of given.source.parts) tables)

    abbrev N : ℕ
    N = 1 + (((planned_units (query_of given.source.parts) tables + group_units general_hashing query (planned_rows (query_of given.source.parts) tables)) + distinct_units general_hashing (rows_behind query (planned_rows (query_of given.source.parts) tables))) + length (once (rows_behind query (planned_rows (query_of given.source.parts) tables))))

    abbrev S : ℕ
    S = ((table_octets (kept_by (query_of given.source.parts)) tables (placed (query_of given.source.parts)) + group_octets query (planned_rows (query_of given.source.parts) tables)) + distinct_octets (length query.items) (rows_behind query (planned_rows (query_of given.source.parts) tables)))
        + length (once (rows_behind query (planned_rows (query_of given.source.parts) tables))) * row_size (length query.items)

    abbrev M : ℕ
    M = most given_up_distinct S 2 given.source.building

    abbrev Told : ℕ → Type 0
    Told raised = IsTold (whole_outcome (asked_distinct query) tables) raised

    some : 1 ≤ length query.columns
    some = some_column row_is value_is parts whole given tables loaded T room together

    told_front : (raised : ℕ) → IsTold (outcome (query_of given.source.parts) tables) raised → Told raised
    told_front raised h =
        told_any (grouped_flow query tables).rows (once (grouped_flow query tables).rows) (grouped_flow query tables).codes raised
        (from_front row_is value_is parts whole given tables loaded raised h)

    units_few : (rows : List (List Val)) → IsPermutation rows (planned_rows (query_of given.source.parts) tables) → group_units general_hashing folded rows ≤ group_units general_hashing query (planned_rows (query_of given.source.parts) tables)
    units_few = units_low row_is value_is parts whole given tables loaded

    octets_few : (rows : List (List Val)) → IsPermutation rows (planned_rows (query_of given.source.parts) tables) → group_octets folded rows ≤ group_octets query (planned_rows (query_of given.source.parts) tables)
    octets_few = octets_low row_is value_is parts whole given tables loaded

    less_row : 8 + 16 * length (query_of given.source.parts).items ≤ group_size query
    less_row = row_less row_is value_is parts whole given

    rows_fit : 8 + 16 * length (query_of given.source.parts).items ≤ widest_stored
    rows_fit = let less = less_row in omega (arith, less)

    items_fit : row_size (length given.behind_is.items) ≤ widest_stored
    items_fit = less (length given.behind_is.items) (length query.items) (max (distinct_size (length query.items)) (max (group_size query) (greatest_entry (kept_by (query_of given.source.parts)) (placed (query_of given.source.parts))))) (items_long given)
      where
        less : (i q m : ℕ) → i ≡ q → 8 + 16 * i ≤ max (8 + 16 * q) m
        less i q m e = omega (arith, e)

    units_are : N ≡ 1 + whole_units (asked_distinct query) tables
    units_are = ap (λ (s : Specification). 1 + (((planned_units s tables + group_units general_hashing query (planned_rows s tables)) + distinct_units general_hashing (rows_behind query (planned_rows s tables))) + length (once (rows_behind query (planned_rows s tables))))) given.before_is

    pages_are : M ≡ whole_pages (asked_distinct query) tables
    pages_are =
        ap (λ (k : ℕ). 2 + 2 * (k + 2) + S / given_up_distinct) (built_many row_is value_is given.source)
        ∙ (count (table_count (placed (query_of given.source.parts))) (S / given_up_distinct)
        ∙ ap (λ (s : Specification). 2 + 2 * ((table_count (placed s) + 1) + 1)
        + (((table_octets (kept_by s) tables (placed s) + group_octets query (planned_rows s tables)) + distinct_octets (length query.items) (rows_behind query (planned_rows s tables))) + length (once (rows_behind query (planned_rows s tables))) * row_size (length query.items))
        / (page - max (row_size (length query.items)) (max (distinct_size (length query.items)) (max (group_size query) (greatest_entry (kept_by s) (placed s)))))) given.before_is)
      where
        count : (c q : ℕ) → 2 + 2 * (c + 2) + q ≡ 2 + 2 * ((c + 1) + 1) + q
        count c q = omega arith

    -- ---- up to the groups, however many rows there are
    abbrev IsFirst : (most N : ℕ) → Type 0
    IsFirst most_pages most_units = IsFirstBounded T (front_count given.source) given.source.columns (texts_of_grouped parts) (front_words given.source) (front_at given.source) (table_of (entries_of (query_of given.source.parts).sources)) given.source.building given.source.last given.source.group Told given_up_distinct most_pages most_units tables

    pub once_first : IsFirst (whole_pages (asked_distinct query) tables) (1 + whole_units (asked_distinct query) tables)
    once_first =
        subst₂ IsFirst pages_are units_are
        (first_bounded row_is value_is given.source folded some less_row widest_stored widest_low items_fit (omega arith) (omega arith) T room (key_columns query) (value_columns query) together tables (loaded_front given tables loaded) Told told_front
        (group_units general_hashing query planned) (group_octets query planned) units_few octets_few S 2 N (omega arith) (omega arith) (omega arith))

    -- ---- where the rows are few enough to be counted and summed, a second table
    module _ (few : 1 ≤ length query.functions → length (flow (front query) tables).rows < 10 ^ 18)
        (into : Group) (together_again : GoTogether (distinct_grouping (shown query)) into (key_from 0 (distinct_columns 0 query.items)) [] (literals_over given.source T)) (into_values : into.values ≡ given.behind_is.items)
        (held : (rows : List (List Val)) → IsPermutation (flow (query_of given.source.parts) tables).rows rows → AllByRecursion (λ (row : List Val). AllZip (λ (e : Expression) (v : Val). IsHeld (widest (kind_of e)) false v) query.items row) (behind_front query (record { rows = rows; codes = [] })).rows) where
      told_walk : (fed : Flow (List Val)) → Alike fed (flow (query_of given.source.parts) tables) → fed.codes ≡ [] → (raised : ℕ) → Tells (walked_of folded fed.rows).codes raised → Told raised
      told_walk fed same none raised tells =
          told_any (grouped_flow query tables).rows (once (grouped_flow query tables).rows) (grouped_flow query tables).codes raised
          (from_walk row_is value_is parts whole given tables loaded fed same none raised tells)

      keys_good : (rows : List (List Val)) → IsPermutation (flow (query_of given.source.parts) tables).rows rows → AllByRecursion (λ (k : List Val). AreStored (key_columns query) k) (keys (length query.columns) rows)
      keys_good = keys_ok row_is value_is parts whole given tables loaded T room together few

      values_good : (rows : List (List Val)) → IsPermutation (flow (query_of given.source.parts) tables).rows rows → AllByRecursion (λ (k : List Val). (vs : List Val) → function_values (length query.columns) (kinds_of query.functions) (members (length query.columns) k rows) ≡ Ok vs → AreRead (value_columns query) vs) (keys (length query.columns) rows)
      values_good = values_ok row_is value_is parts whole given tables loaded T room together few

      module _ (stoods : List Stood) (stood : AreStood tables [] given.source.building stoods) where
        abbrev rows : List (List Val)
        rows = (fed_over tables stoods given.source.last).rows

        abbrev before : ℕ
        before = budget given_up_distinct tables given.source.building (length given.source.building)

        gathers : GatherReach T (front_count given.source) given.source.columns (literals_over given.source T) tables given_up_distinct M N (table_of (entries_of (query_of given.source.parts).sources)) given.source.group stoods given.source.last (budget given_up_distinct tables given.source.building (length given.source.building))
        gathers = gather_reach row_is value_is given.source folded some less_row widest_stored widest_low items_fit (omega arith) (omega arith) T room (key_columns query) (value_columns query) together tables (loaded_front given tables loaded) Told told_front
            (group_units general_hashing query planned) (group_octets query planned) units_few octets_few S 2 N (omega arith) (omega arith) (omega arith) (few_spec row_is value_is parts whole given tables loaded few) told_walk keys_good values_good stoods stood

        keys_there : AllByRecursion (λ (k : List Val). AreStored (key_columns query) k) (keys given.source.group.columns rows)
        keys_there = keys_stored row_is value_is given.source folded some less_row widest_stored widest_low items_fit (omega arith) (omega arith) T room (key_columns query) (value_columns query) together tables (loaded_front given tables loaded) Told told_front
            (group_units general_hashing query planned) (group_octets query planned) units_few octets_few S 2 N (omega arith) (omega arith) (omega arith) (few_spec row_is value_is parts whole given tables loaded few) told_walk keys_good values_good stoods stood

        values_there : AllByRecursion (λ (k : List Val). (vs : List Val) → function_values (length (key_columns query)) (functions_of (value_columns query)) (members given.source.group.columns k rows) ≡ Ok vs → AreRead (value_columns query) vs) (keys given.source.group.columns rows)
        values_there = values_are_read row_is value_is given.source folded some less_row widest_stored widest_low items_fit (omega arith) (omega arith) T room (key_columns query) (value_columns query) together tables (loaded_front given tables loaded) Told told_front
            (group_units general_hashing query planned) (group_octets query planned) units_few octets_few S 2 N (omega arith) (omega arith) (omega arith) (few_spec row_is value_is parts whole given tables loaded few) told_walk keys_good values_good stoods stood

        paid_for : (octets : ℕ) → table_octets (kept_by (query_of given.source.parts)) tables (placed (query_of given.source.parts)) + octets ≤ S → before + 2 * given_up_distinct + octets + 2 * given_up_distinct < (M + 1) * given_up_distinct
        paid_for = pays row_is value_is given.source widest_stored widest_low rows_fit (omega arith) T room tables (loaded_front given tables loaded) (group_units general_hashing query planned) (group_octets query planned) S 2 N (omega arith) (omega arith) stoods stood

        first_octets : 4096 + length (keys given.source.group.columns rows) * group_width given.source.group ≤ group_octets query planned
        first_octets = group_octets_less row_is value_is given.source folded some less_row widest_stored widest_low items_fit (omega arith) (omega arith) T room (key_columns query) (value_columns query) together tables (loaded_front given tables loaded) Told told_front
            (group_units general_hashing query planned) (group_octets query planned) units_few octets_few S 2 N (omega arith) (omega arith) (omega arith) stoods stood

        by_planned : IsPermutation (fed_over tables stoods given.source.last).rows (planned_rows (query_of given.source.parts) tables)
        by_planned = rows_planned row_is value_is given.source tables (loaded_front given tables loaded) stoods stood

        alike_flow : Alike (fed_over tables stoods given.source.last) (flow (query_of given.source.parts) tables)
        alike_flow = fed_alike row_is value_is given.source tables (loaded_front given tables loaded) stoods stood

        of_flow : IsPermutation (flow (query_of given.source.parts) tables).rows (fed_over tables stoods given.source.last).rows
        of_flow = IsPermutation-sym (fed_over tables stoods given.source.last).rows (flow (query_of given.source.parts) tables).rows alike_flow.0

        -- ---- the rows that are put into the second table
        abbrev W : List (List Val)
        W = (walked_of (folded_query given) (fed_over tables stoods given.source.last).rows).rows

        W_is : (behind_front query (record { rows = (fed_over tables stoods given.source.last).rows; codes = [] })).rows ≡ W
        W_is = ap (λ (f : Flow (List Val)). f.rows) (behind_folded query (pipeline_of given.source.behind) given.behind_is (record { rows = (fed_over tables stoods given.source.last).rows; codes = [] }))

        W_planned : IsPermutation W (rows_behind query (planned_rows (query_of given.source.parts) tables))
        W_planned =
            let same = order.behind_alike query (record { rows = rows; codes = [] }) (record { rows = planned; codes = [] }) (record { rows = by_planned; codes = IsPermutation-refl [] }) in
            subst (λ (rs : List (List Val)). IsPermutation rs behind) W_is same.rows

        W_long : AllByRecursion (λ (r : List Val). length r ≡ length query.items) W
        W_long =
            subst (λ (m : ℕ). AllByRecursion (λ (r : List Val). length r ≡ m) W) (items_long given)
            (made_long given.behind_is.items (each (clauses.kept given.behind_is.having) (grouped_table n kinds (record { rows = rows; codes = [] }))))

        W_held : AllByRecursion (λ (row : List Val). AllZip (λ (e : Expression) (v : Val). IsHeld (widest (kind_of e)) false v) query.items row) W
        W_held = subst (AllByRecursion (λ (row : List Val). AllZip (λ (e : Expression) (v : Val). IsHeld (widest (kind_of e)) false v) query.items row)) W_is (held rows of_flow)

        -- ---- the walk whose rows go there
        into_columns : into.columns ≡ length query.items
        into_columns = together_again.many ∙ columns_many 0 query.items

        width_into : group_width into ≡ distinct_size (length query.items)
        width_into = ap₂ (λ (c m : ℕ). entry_size c 0 m) into_columns (ap (λ (fs : List SetFunctionKind). length fs) together_again.functions)

        fits_into : group_width into + given_up_distinct ≤ page
        fits_into = let width = width_into in let low = widest_low in fit (group_width into) (distinct_size (length query.items)) widest_stored width (omega arith) low
          where
            fit : (w d m : ℕ) → w ≡ d → d ≤ m → m ≤ 24216 → w + (page - m) ≤ page
            fit w d m e a b = omega (arith, e, a, b)

        no_function : 1 ≤ length into.functions → length W < 10 ^ 18
        no_function some_function = absurd (let none = ap (λ (fs : List SetFunctionKind). length fs) together_again.functions in omega (arith, some_function, none))

        -- of rows in any order
        module _ (entered : List (List Val)) (from : IsPermutation entered (walked_of (folded_query given) (fed_over tables stoods given.source.last).rows).rows) where
          entered_long : AllByRecursion (λ (r : List Val). length r ≡ length query.items) entered
          entered_long = all_shuffled (λ (r : List Val). length r ≡ length query.items) W entered (IsPermutation-sym entered W from) W_long

          entered_held : AllByRecursion (λ (row : List Val). AllZip (λ (e : Expression) (v : Val). IsHeld (widest (kind_of e)) false v) query.items row) entered
          entered_held = all_shuffled (λ (row : List Val). AllZip (λ (e : Expression) (v : Val). IsHeld (widest (kind_of e)) false v) query.items row) W entered (IsPermutation-sym entered W from) W_held

          entered_planned : IsPermutation entered (rows_behind query (planned_rows (query_of given.source.parts) tables))
          entered_planned = IsPermutation-trans entered W behind from W_planned

          keys_once : keys into.columns entered ≡ once entered
          keys_once = ap (λ (c : ℕ). keys c entered) into_columns ∙ distinct_keys (length query.items) entered entered_long

          once_many : length (once entered) ≡ length (once (rows_behind query (planned_rows (query_of given.source.parts) tables)))
          once_many = sym (length_permutation (once entered) (once behind) (once_permuted entered behind entered_planned))

          second_octets : 4096 + length (keys into.columns entered) * group_width into ≡ distinct_octets (length query.items) (rows_behind query (planned_rows (query_of given.source.parts) tables))
          second_octets = ap₂ (λ (k w : ℕ). 4096 + k * w) (ap (λ (l : List (List Val)). length l) keys_once ∙ once_many) width_into

          second_units : distinct_units general_hashing entered ≡ distinct_units general_hashing (rows_behind query (planned_rows (query_of given.source.parts) tables))
          second_units = distinct_permuted general_hashing entered behind entered_planned

          -- where the rows of the result stand behind both tables
          both_paid : (octets : ℕ) → octets ≤ length (once (rows_behind query (planned_rows (query_of given.source.parts) tables))) * row_size (length query.items) →
              groups_paid given_up_distinct into (groups_paid given_up_distinct given.source.group before rows) entered + octets + 2 * given_up_distinct < (M + 1) * given_up_distinct
          both_paid octets few_octets =
              turned before given_up_distinct (length (keys given.source.group.columns rows) * group_width given.source.group) (length (keys into.columns entered) * group_width into) octets ((M + 1) * given_up_distinct)
              (paid_for (((4096 + length (keys given.source.group.columns rows) * group_width given.source.group) + (4096 + length (keys into.columns entered) * group_width into)) + octets)
              (less (table_octets (kept_by (query_of given.source.parts)) tables (placed (query_of given.source.parts))) (4096 + length (keys given.source.group.columns rows) * group_width given.source.group) (group_octets query planned)
              (4096 + length (keys into.columns entered) * group_width into) (distinct_octets (length query.items) behind) octets (length (once behind) * row_size (length query.items)) first_octets second_octets few_octets))
            where
              less : (j a p b d o r : ℕ) → a ≤ p → b ≡ d → o ≤ r → j + ((a + b) + o) ≤ ((j + p) + d) + r
              less j a p b d o r e f h = omega (arith, e, f, h)

              turned : (b u v w o m : ℕ) → b + 2 * u + (((4096 + v) + (4096 + w)) + o) + 2 * u < m → ((b + u + 4096 + v) + u + 4096 + w) + o + 2 * u < m
              turned b u v w o m h = omega (arith, h)

          -- ---- the walk over the second table
          again_behind : walked_of (distinct_grouping (shown query)) entered ≡ record { rows = once entered; codes = [] }
          again_behind = behind_once (shown query) whole.some_item entered entered_long

          again_stored : AllByRecursion (λ (k : List Val). AreStored (key_from 0 (distinct_columns 0 query.items)) k) (keys into.columns entered)
          again_stored =
              subst (AllByRecursion (λ (k : List Val). AreStored (key_from 0 (distinct_columns 0 query.items)) k)) (sym keys_once)
              (all_more (λ (row : List Val). AllZip (λ (e : Expression) (v : Val). IsHeld (widest (kind_of e)) false v) query.items row) (λ (k : List Val). AreStored (key_from 0 (distinct_columns 0 query.items)) k) (once entered)
              (λ k h. stored_row 0 0 query.items k h)
              (all_once (λ (row : List Val). AllZip (λ (e : Expression) (v : Val). IsHeld (widest (kind_of e)) false v) query.items row) entered entered_held))

          again_typed : AllByRecursion (λ (k : List Val). (vs : List Val) → function_values (length (key_from 0 (distinct_columns 0 query.items))) (functions_of []) (members into.columns k entered) ≡ Ok vs → AreRead [] vs) (keys into.columns entered)
          again_typed = each_one (keys into.columns entered)
            where
              each_one : (ks : List (List Val)) → AllByRecursion (λ (k : List Val). (vs : List Val) → function_values (length (key_from 0 (distinct_columns 0 query.items))) (functions_of []) (members into.columns k entered) ≡ Ok vs → AreRead [] vs) ks
              each_one [] = tt
              each_one (k ∷ ks) = (no_values, each_one ks)

          again_cost : 1025 + spend (λ (k : List Val). most_read (functions_of []) + by_result (function_values (length (key_from 0 (distinct_columns 0 query.items))) (functions_of []) (members into.columns k entered)) (λ vs. cost [] (filter again.having ∷ []) (select again.items) (k ++ vs))) (keys into.columns entered) ≤ N
          again_cost =
              let m : ℕ = length (distinct_columns 0 query.items) in
              let place : length (key_from 0 (distinct_columns 0 query.items)) ≡ m = together_again.key_many ∙ together_again.many in
              let functions : functions_of [] ≡ [] = together_again.theirs ∙ together_again.functions in
              let some_again : 1 ≤ m = (let many = columns_many 0 query.items in let has = whole.some_item in omega (arith, many, has)) in
              let all = groups_within again entered some_again (most_read []) (read_less []) in
              subst (λ (c : ℕ). 1025 + spend (λ (k : List Val). most_read (functions_of []) + by_result (function_values (length (key_from 0 (distinct_columns 0 query.items))) (functions_of []) (members c k entered)) (λ vs. cost [] (filter again.having ∷ []) (select again.items) (k ++ vs))) (keys c entered) ≤ N) (sym together_again.many)
              (subst (λ (l : ℕ). 1025 + spend (λ (k : List Val). most_read (functions_of []) + by_result (function_values l (functions_of []) (members m k entered)) (λ vs. cost [] (filter again.having ∷ []) (select again.items) (k ++ vs))) (keys m entered) ≤ N) (sym place)
              (subst (λ (fs : List SetFunctionKind). 1025 + spend (λ (k : List Val). most_read fs + by_result (function_values m fs (members m k entered)) (λ vs. cost [] (filter again.having ∷ []) (select again.items) (k ++ vs))) (keys m entered) ≤ N) (sym functions)
              (more (spend (λ (k : List Val). most_read [] + by_result (function_values m [] (members m k entered)) (λ vs. cost [] (filter again.having ∷ []) (select again.items) (k ++ vs))) (keys m entered)) (group_units general_hashing again entered) (distinct_units general_hashing entered) (distinct_units general_hashing behind)
              (planned_units (query_of given.source.parts) tables) (group_units general_hashing query planned) (length (once behind)) all (units_once (shown query) whole.some_item entered entered_long general_hashing) second_units)))
            where
              more : (s f d e u q r : ℕ) → 1025 + s ≤ 1 + f → f ≡ d → d ≡ e → 1025 + s ≤ 1 + (((u + q) + e) + r)
              more s f d e u q r a b c = omega (arith, a, b, c)

          again_cells : length again.items ≡ length query.items
          again_cells = length-map (distinct_columns 0 query.items) expression_of_column ∙ columns_many 0 query.items

          again_fits : 8 + 16 * length again.items + given_up_distinct ≤ page
          again_fits = let low = widest_low in fit (length again.items) (length query.items) widest_stored again_cells (omega arith) low
            where
              fit : (a q m : ℕ) → a ≡ q → 8 + 16 * q ≤ m → m ≤ 24216 → 8 + 16 * a + (page - m) ≤ page
              fit a q m e b c = omega (arith, e, b, c)

          again_octets : length (walked_of again entered).rows * (8 + 16 * length again.items) ≡ length (once (rows_behind query (planned_rows (query_of given.source.parts) tables))) * row_size (length query.items)
          again_octets = ap₂ (λ (k w : ℕ). k * (8 + 16 * w)) (ap (λ (f : Flow (List Val)). length f.rows) again_behind ∙ once_many) again_cells

          again_reach : WalkReach again into (key_from 0 (distinct_columns 0 query.items)) [] given_up_distinct M N entered (groups_paid given_up_distinct into (groups_paid given_up_distinct given.source.group before rows) entered)
          again_reach = record {
            stored = again_stored;
            typed = again_typed;
            cost = again_cost;
            fits = again_fits;
            enough = both_paid (length (walked_of again entered).rows * (8 + 16 * length again.items)) (let same = again_octets in omega (arith, same));
          }

          again_told : (raised : ℕ) → Tells (walked_of (distinct_grouping (shown query)) entered).codes raised → Told raised
          again_told raised tells = refused_alone (whole_outcome (asked_distinct query) tables) raised (subst (λ (f : Flow (List Val)). Tells f.codes raised) again_behind tells)

        -- ---- the walk into it
        abbrev entries : List Val → ℕ
        entries row = length (in_slot slot (slot (key_of into.columns row)) (keys into.columns (walked_of (folded_query given) (fed_over tables stoods given.source.last).rows).rows))

        abbrev chosen : List Val → ℕ
        chosen row = chosen_units into.columns into.functions row

        enter_cost : 1025 + spend (λ (k : List Val). most_read (functions_of (value_columns query)) + by_result (function_values (length (key_columns query)) (functions_of (value_columns query)) (members given.source.group.columns k rows)) (λ vs. cost_to into.values (turn_of into entries chosen) [] (filter given.behind_is.having ∷ []) (k ++ vs))) (keys given.source.group.columns rows) ≤ N
        enter_cost =
            let place : length (key_columns query) ≡ n = together.key_many ∙ together.many in
            let functions : functions_of (value_columns query) ≡ kinds = together.theirs ∙ together.functions in
            let less = enters_less folded (turn_of into entries chosen) rows some (most_read kinds) in
            let all = groups_within folded rows some (most_read kinds) (read_less kinds) in
            let turns = turns_once (shown query) whole.some_item W W_long into.columns into.functions together_again.many together_again.functions in
            subst (λ (c : ℕ). 1025 + spend (λ (k : List Val). most_read (functions_of (value_columns query)) + by_result (function_values (length (key_columns query)) (functions_of (value_columns query)) (members c k rows)) (λ vs. cost_to into.values (turn_of into entries chosen) [] (filter given.behind_is.having ∷ []) (k ++ vs))) (keys c rows) ≤ N) (sym together.many)
            (subst (λ (m : ℕ). 1025 + spend (λ (k : List Val). most_read (functions_of (value_columns query)) + by_result (function_values m (functions_of (value_columns query)) (members n k rows)) (λ vs. cost_to into.values (turn_of into entries chosen) [] (filter given.behind_is.having ∷ []) (k ++ vs))) (keys n rows) ≤ N) (sym place)
            (subst (λ (fs : List SetFunctionKind). 1025 + spend (λ (k : List Val). most_read fs + by_result (function_values n fs (members n k rows)) (λ vs. cost_to into.values (turn_of into entries chosen) [] (filter given.behind_is.having ∷ []) (k ++ vs))) (keys n rows) ≤ N) (sym functions)
            (subst (λ (es : List Expression). 1025 + spend (λ (k : List Val). most_read kinds + by_result (function_values n kinds (members n k rows)) (λ vs. cost_to es (turn_of into entries chosen) [] (filter given.behind_is.having ∷ []) (k ++ vs))) (keys n rows) ≤ N) (sym into_values)
            (summed (spend (λ (k : List Val). most_read kinds + by_result (function_values n kinds (members n k rows)) (λ vs. cost_to given.behind_is.items (turn_of into entries chosen) [] (filter given.behind_is.having ∷ []) (k ++ vs))) (keys n rows))
            (spend (λ (k : List Val). most_read kinds + by_result (function_values n kinds (members n k rows)) (λ vs. cost [] (filter given.behind_is.having ∷ []) (select given.behind_is.items) (k ++ vs))) (keys n rows))
            (total (turn_of into entries chosen) W) (group_units general_hashing folded rows) (group_units general_hashing query planned) (distinct_units general_hashing W) (distinct_units general_hashing behind) (planned_units (query_of given.source.parts) tables) (length (once behind))
            less all (units_few rows by_planned) turns (second_units W (IsPermutation-refl W))))))
          where
            summed : (a s t f q d e u r : ℕ) → a ≤ s + t → 1025 + s ≤ 1 + f → f ≤ q → t ≤ d → d ≡ e → 1025 + a ≤ 1 + (((u + q) + e) + r)
            summed a s t f q d e u r i h l m p = omega (arith, i, h, l, m, p)

        enter_reach : EnterReach folded given.source.group (key_columns query) (value_columns query) into given_up_distinct M N rows (groups_paid given_up_distinct given.source.group before rows)
        enter_reach = record {
          stored = keys_there;
          typed = values_there;
          entries = entries;
          chosen = chosen;
          met = λ row. omega arith;
          compared = λ row. compared_within into.columns into.functions row (chosen row) (omega arith);
          cost = enter_cost;
          few = no_function;
          fits = fits_into;
          enough = (let paid = both_paid W (IsPermutation-refl W) 0 (omega arith) in omega (arith, paid));
        }

      -- ---- all of it
      abbrev IsKept : (most N : ℕ) → Type 0
      IsKept most_pages most_units = IsDistinctBounded T (front_count given.source) given.source.columns (texts_of_grouped parts) (front_words given.source) (front_at given.source) (table_of (entries_of (query_of given.source.parts).sources)) given.source.building given.source.last (folded_query given) given.source.group (key_columns query) (value_columns query)
          (distinct_grouping (shown query)) into (key_from 0 (distinct_columns 0 query.items)) [] (λ raised. IsTold (whole_outcome (asked_distinct query) tables) raised) given_up_distinct most_pages most_units tables

      pub once_kept : IsKept (whole_pages (asked_distinct query) tables) (1 + whole_units (asked_distinct query) tables)
      once_kept = subst₂ IsKept pages_are units_are (record {
        some = omega arith;
        u_low = omega arith;
        budget = λ i. budget given_up_distinct tables given.source.building i;
        reached = builds_reach row_is value_is given.source widest_stored widest_low rows_fit (omega arith) T room tables (loaded_front given tables loaded) (group_units general_hashing query planned) (group_octets query planned) S 2 N (omega arith) (omega arith);
        told = builds_told row_is value_is given.source widest_stored widest_low rows_fit (omega arith) T room tables (loaded_front given tables loaded) (group_units general_hashing query planned) (group_octets query planned) S 2 N (omega arith) (omega arith) Told told_front;
        gathered = λ stoods stood. gathers stoods stood;
        told_gathered = last_told row_is value_is given.source widest_stored widest_low rows_fit (omega arith) T room tables (loaded_front given tables loaded) (group_units general_hashing query planned) (group_octets query planned) S 2 N (omega arith) (omega arith) Told told_front;
        entered = λ stoods stood none. enter_reach stoods stood;
        told_entered = λ stoods stood none raised tells. told_walk (fed_over tables stoods given.source.last) (alike_flow stoods stood) none raised tells;
        walked = λ stoods stood none over entered from. again_reach stoods stood entered from;
        told_walked = λ stoods stood none over entered from raised tells. again_told stoods stood entered from raised tells;
      })

      -- the rows of the second walk are the query's
      pub once_rows : (stoods : List Stood) → AreStood tables [] given.source.building stoods → (fed_over tables stoods given.source.last).codes ≡ [] → (walked_of (folded_query given) (fed_over tables stoods given.source.last).rows).codes ≡ [] →
          (entered : List (List Val)) → IsPermutation entered (walked_of (folded_query given) (fed_over tables stoods given.source.last).rows).rows →
          IsSameOutcome (whole_outcome (asked_distinct query) tables) (Rows (walked_of (distinct_grouping (shown query)) entered).rows)
      once_rows stoods stood none over entered from =
          let same = walked_rows row_is value_is parts whole given tables loaded stoods stood none over in
          subst (λ (f : Flow (List Val)). IsSameOutcome (whole_outcome (asked_distinct query) tables) (Rows f.rows)) (sym (again_behind stoods stood entered from))
          (same_once (grouped_flow query tables).rows (W stoods stood) entered (grouped_flow query tables).codes same from)
