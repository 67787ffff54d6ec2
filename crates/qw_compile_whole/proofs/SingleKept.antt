-- The pipelines that are made of a query with set functions and no GROUP BY keep what is promised of it: the areas of its set functions take the rows, and the row of
-- the one group is made of their values (ISO/IEC 9075:1992, 7.8, 7.9).
use Rattle.qw_compile_whole.proofs.FirstTakenBounded.{FirstTake, IsFirstTaken, IsLongBounded}
use Rattle.qw_compile_whole.proofs.SingleBounded.{GoAlone, IsSingleBounded, OneReach, TakeReach, areas_paid}
use Rattle.qw_compile_whole.proofs.GroupKept.{arguments_have, asked_whole, few_spec, from_front, from_walk, given_up, kinds_have, one_result, pages_are, row_less, stored_kept, units_are, units_kept, widest_kept, widest_low}
use Rattle.qw_compile_whole.proofs.GroupShares.{alone_within, chosen_within}
use Rattle.qw_compile_whole.proofs.GroupTyped.{alone_typed, AreTypedValues}
use Rattle.qw_compile_whole.proofs.GroupUtf8.{alone_utf8}
use Rattle.qw_whole.specs.GroupTables.{chosen_units, group_octets, group_size, group_units, rows_behind}
use Rattle.std.proofs.Common.{◌≡◌, ◌∙◌, ◌≤◌, ◌<◌, ℕ, ◌+◌, ◌*◌, ◌^◌, max, true, List, [], ◌∷◌, length, map, Ok, sym, ap, ap₂, subst, subst₂, arith, refl}
use Rattle.std.specs.List.Sorted.{IsPermutation}
use Rattle.std.proofs.lemmas.List.{length-map}
use Rattle.std.proofs.lemmas.List.Sorted.{IsPermutation-sym, length_permutation, IsPermutation-refl}
use Rattle.qw_types.specs.ValueOrder.{is_same_row, value_order}
use Rattle.qw_types.specs.declared.value.Val.{Val}
use Rattle.qw_linear.specs.Memory.{page}
use Rattle.qw_meaning.specs.Flow.{Flow}
use Rattle.qw_meaning.specs.Outcome.{flow}
use Rattle.qw_meaning.specs.Query.{query_of}
use Rattle.qw_meaning.specs.Select.{AreOfEntries, Specification, entries_of}
use Rattle.qw_grouped.specs.Grouped.{Grouped, SetFunction, front, kinds_of, IsGrouped, type_of_function}
use Rattle.qw_grouped.specs.Groups.{function_values, groups, behind_front}
use Rattle.qw_grouped.specs.declared.set_function.SetFunctionKind.{SetFunctionKind}
use Rattle.qw_pipe.specs.General.{general_hashing}
use Rattle.qw_pipe.specs.Octets.{greatest_entry, table_octets}
use Rattle.qw_map.specs.Layout.{Layout, row_size}
use Rattle.qw_physical.specs.Coded.{pipeline_of}
use Rattle.qw_physical.specs.Courses.{cost}
use Rattle.qw_physical.specs.Physical.{filter, select}
use Rattle.qw_physical.proofs.Orders.{Alike}
use Rattle.qw_operator.proofs.Stood.{Stood, built_of}
use Rattle.qw_emit.proofs.Answered.{IsTold}
use Rattle.qw_operator.specs.Costs.{pipeline_cost_to}
use Rattle.qw_group_pipeline.specs.Groups.{most_read}
use Rattle.qw_group_pipeline.proofs.RowFeeds.{by_result}
use Rattle.qw_group_pipeline.proofs.ValuesCome.{AreRead, functions_of}
use Rattle.qw_compile.specs.PlannedQueries.{kept_by, placed, planned_units}
use Rattle.qw_compile.proofs.PipelineRuns.{AreStood, fed_over}
use Rattle.qw_compile.proofs.QueryReach.{scan_column, scan_table, table_of}
use Rattle.qw_whole.specs.WholePromises.{planned_rows, whole_pages, whole_units}
use Rattle.qw_compile_whole.proofs.GroupBounded.{walked_of}
use Rattle.qw_compile_whole.proofs.GroupPlanned.{fed_alike, last_scans, rows_planned}
use Rattle.qw_compile_whole.proofs.GroupReach.{budget, builds_reach, builds_told, finds, last_told, most, pays, turned_cost}
use Rattle.qw_compile_whole.proofs.GroupRead.{compared_within, read_less, values_read}
use Rattle.qw_compile_whole.proofs.GroupTotals.{total}
use Rattle.qw_types.specs.Kind.{IsRowOf, type_kind}
use Rattle.qw_grouped.specs.Whole.{whole_outcome}
use Rattle.qw_whole.proofs.PermutedTables.{groups_permuted}
use Rattle.qw_compile_whole.specs.GroupColumns.{value_columns}
use Rattle.std.specs.declared.cmp.Ordering.TheVariants as ordering
use Rattle.qw_grouped.proofs.OrderLemmas as order
use Rattle.qw_grouped.specs.Query.{GroupedParts, grouped_of}
use Rattle.qw_compile_whole.specs.WholeTexts.{texts_of_grouped}
use Rattle.qw_compile_whole.proofs.FrontLed.{front_at, front_count, front_words, literals_over}
use Rattle.qw_compile_whole.proofs.FoldedBehind.{behind_folded}
use Rattle.qw_compile_whole.proofs.FoldedUnits.{units_folded}
use Rattle.qw_compile_whole.proofs.StatementParts.{PartsOf, arguments_utf8, folded_query, items_long, loaded_front, sized_sources}

module _ (row_is : (row other : List Val) → is_same_row row other ≡ true → row ≡ other) (value_is : (a : Val) → value_order a a ≡ ordering.Equal)
    (parts : GroupedParts) (whole : IsGrouped (grouped_of parts)) {layout : Layout} (given : PartsOf parts layout) where
  abbrev query : Grouped
  query = grouped_of parts

  abbrev widest : ℕ
  widest = widest_kept row_is value_is parts whole given

  low : widest_kept row_is value_is parts whole given ≤ 24216
  low = widest_low row_is value_is parts whole given

  -- with the conjuncts of HAVING and the items as they are evaluated
  module _ (T : ℕ) (room : length given.source.ps ≤ T) (alone : GoAlone (folded_query given) given.source.group (value_columns (grouped_of parts)) (literals_over given.source T))
      (tables : List (List (List Val))) (loaded : AreOfEntries (entries_of (grouped_of parts).sources) tables) where
    -- where there are set functions, fewer than 10^18 rows come
    abbrev IsFew : Type 0
    IsFew = 1 ≤ length query.functions → length (flow (front query) tables).rows < 10 ^ 18

    abbrev kinds : List SetFunctionKind
    kinds = kinds_of query.functions

    abbrev folded : Grouped
    folded = folded_query given

    abbrev planned : List (List Val)
    planned = planned_rows (query_of given.source.parts) tables

    abbrev up : ℕ
    up = given_up row_is value_is parts whole given

    abbrev N : ℕ
    N = units_kept row_is value_is parts whole given tables loaded

    abbrev S : ℕ
    S = stored_kept row_is value_is parts whole given tables loaded

    abbrev M : ℕ
    M = most up S 1 given.source.building

    abbrev Told : ℕ → Type 0
    Told raised = IsTold (whole_outcome (asked_whole query) tables) raised

    functions_many : length given.source.group.functions ≡ length query.functions
    functions_many = ap (λ (fs : List SetFunctionKind). length fs) alone.functions ∙ length-map query.functions (λ (f : SetFunction). f.kind)

    rows_fit : 8 + 16 * length (query_of given.source.parts).items ≤ widest
    rows_fit = let less = row_less row_is value_is parts whole given in omega (arith, less)

    fits_given : (size : ℕ) → size ≤ widest → size + up ≤ page
    fits_given size h = let few_octets = low in omega (arith, h, few_octets)

    -- the areas are among the octets of the groups' table
    areas_low : 32 * length given.source.group.functions ≤ group_octets query (planned_rows (query_of given.source.parts) tables)
    areas_low =
        let one = ap (λ (m : ℕ). length (groups m planned)) alone.no_columns in
        less (length given.source.group.functions) (length query.functions) (length query.columns) (group_octets query planned) functions_many (ap (λ (k : ℕ). 4096 + k * group_size query) one)
      where
        less : (a f c o : ℕ) → a ≡ f → o ≡ 4096 + 1 * (24 + 16 * (c + 0) + 32 * f) → 32 * a ≤ o
        less a f c o e h = omega (arith, e, h)

    area_fits : 32 * length given.source.group.functions ≤ widest
    area_fits = let many = functions_many in less (length given.source.group.functions) (length query.functions) (length query.columns) (row_size (length query.items)) (greatest_entry (kept_by (query_of given.source.parts)) (placed (query_of given.source.parts))) many
      where
        less : (a f c r e : ℕ) → a ≡ f → 32 * a ≤ max r (max (24 + 16 * (c + 0) + 32 * f) e)
        less a f c r e m = omega (arith, m)

    -- ---- where the tables of joins stand
    module _ (stoods : List Stood) (stood : AreStood tables [] given.source.building stoods) where
      abbrev rows : List (List Val)
      rows = (fed_over tables stoods given.source.last).rows

      abbrev before : ℕ
      before = budget up tables given.source.building (length given.source.building)

      abbrev chosen : List Val → ℕ
      chosen row = chosen_units 0 given.source.group.functions row

      by_plan : IsPermutation (fed_over tables stoods given.source.last).rows (planned_rows (query_of given.source.parts) tables)
      by_plan = rows_planned row_is value_is given.source tables (loaded_front given tables loaded) stoods stood

      alike : Alike (fed_over tables stoods given.source.last) (flow (query_of given.source.parts) tables)
      alike = fed_alike row_is value_is given.source tables (loaded_front given tables loaded) stoods stood

      from_flow : IsPermutation (flow (front query) tables).rows (fed_over tables stoods given.source.last).rows
      from_flow = subst (λ (s : Specification). IsPermutation (flow s tables).rows rows) given.before_is (IsPermutation-sym (fed_over tables stoods given.source.last).rows (flow (query_of given.source.parts) tables).rows alike.0)

      rows_few : IsFew → 1 ≤ length query.functions → length (fed_over tables stoods given.source.last).rows < 10 ^ 18
      rows_few few some = let less = few_spec row_is value_is parts whole given tables loaded few some in let same = length_permutation (fed_over tables stoods given.source.last).rows (flow (query_of given.source.parts) tables).rows alike.0 in omega (arith, less, same)

      few_by : length (fed_over tables stoods given.source.last).rows < 10 ^ 18 → IsFew
      few_by less some = let same = length_permutation (flow (front query) tables).rows (fed_over tables stoods given.source.last).rows from_flow in omega (arith, less, same)

      -- units
      units_less : group_units general_hashing folded rows ≤ group_units general_hashing query (planned_rows (query_of given.source.parts) tables)
      units_less = less (group_units general_hashing folded rows) (group_units general_hashing query rows) (group_units general_hashing query planned) (units_folded query (pipeline_of given.source.behind) given.behind_is general_hashing rows) (groups_permuted general_hashing query rows planned by_plan)
        where
          less : (a b c : ℕ) → b ≡ a → b ≡ c → a ≤ c
          less a b c e f = omega (arith, e, f)

      turns : total chosen (fed_over tables stoods given.source.last).rows ≤ group_units general_hashing folded rows
      turns =
          subst (λ (fs : List SetFunctionKind). total (λ (row : List Val). chosen_units 0 fs row) rows ≤ group_units general_hashing folded rows) (sym alone.functions)
          (subst (λ (c : ℕ). total (λ (row : List Val). chosen_units c kinds row) rows ≤ group_units general_hashing folded rows) alone.no_columns (chosen_within folded rows))

      take_cost : 1 + pipeline_cost_to given.source.group.values chosen tables (built_of stoods) given.source.last ≤ N
      take_cost = let less = units_less in let taken = turns in turned_cost row_is value_is given.source widest low rows_fit (omega arith) T room tables (loaded_front given tables loaded) (group_units general_hashing query planned) (group_octets query planned) S 1 N (omega arith) (omega arith) stoods stood chosen (omega (arith, less, taken))

      made_cost : 1 + (most_read (functions_of (value_columns query)) + by_result (function_values 0 (functions_of (value_columns query)) rows) (cost [] (filter folded.having ∷ []) (select folded.items))) ≤ N
      made_cost =
          let functions : functions_of (value_columns query) ≡ kinds = alone.theirs ∙ alone.functions in
          subst (λ (fs : List SetFunctionKind). 1 + (most_read fs + by_result (function_values 0 fs rows) (cost [] (filter folded.having ∷ []) (select folded.items))) ≤ N) (sym functions)
          (more (most_read kinds + by_result (function_values 0 kinds rows) (cost [] (filter folded.having ∷ []) (select folded.items))) (group_units general_hashing folded rows) (group_units general_hashing query planned) (planned_units (query_of given.source.parts) tables) (length (rows_behind query planned))
          (alone_within folded rows alone.no_columns (most_read kinds) (read_less kinds)) units_less)
        where
          more : (s f q u r : ℕ) → s ≤ f → f ≤ q → 1 + s ≤ 1 + ((u + q) + r)
          more s f q u r h e = omega (arith, h, e)

      -- pages
      result_low : length (walked_of folded rows).rows * (8 + 16 * length folded.items) ≤ length (rows_behind query (planned_rows (query_of given.source.parts) tables)) * row_size (length query.items)
      result_low =
          let same = order.behind_alike query (record { rows = rows; codes = [] }) (record { rows = planned; codes = [] }) (record { rows = by_plan; codes = IsPermutation-refl [] }) in
          let count : length (walked_of folded rows).rows ≡ length (rows_behind query planned) = sym (ap (λ (f : Flow (List Val)). length f.rows) (behind_folded query (pipeline_of given.source.behind) given.behind_is (record { rows = rows; codes = [] })))
          ∙ sym (length_permutation (behind_front query (record { rows = rows; codes = [] })).rows (rows_behind query planned) same.rows) in
          let equal = ap₂ (λ (k w : ℕ). k * (8 + 16 * w)) count (items_long given) in
          omega (arith, equal)

      take_pays : areas_paid given.source.group before + 2 * up < (M + 1) * up
      take_pays =
          turned before up (32 * length given.source.group.functions) ((M + 1) * up)
          (pays row_is value_is given.source widest low rows_fit (omega arith) T room tables (loaded_front given tables loaded) (group_units general_hashing query planned) (group_octets query planned) S 1 N (omega arith) (omega arith) stoods stood
          (32 * length given.source.group.functions) (less (table_octets (kept_by (query_of given.source.parts)) tables (placed (query_of given.source.parts))) (32 * length given.source.group.functions) (group_octets query planned) (length (rows_behind query planned) * row_size (length query.items)) areas_low))
        where
          less : (j o p r : ℕ) → o ≤ p → j + o ≤ (j + p) + r
          less j o p r e = omega (arith, e)

          turned : (b u o m : ℕ) → b + 1 * u + o + 2 * u < m → b + o + 2 * u < m
          turned b u o m h = omega (arith, h)

      made_pays : areas_paid given.source.group before + length (walked_of folded rows).rows * (8 + 16 * length folded.items) + 2 * up < (M + 1) * up
      made_pays =
          turned before up (32 * length given.source.group.functions) (length (walked_of folded rows).rows * (8 + 16 * length folded.items)) ((M + 1) * up)
          (pays row_is value_is given.source widest low rows_fit (omega arith) T room tables (loaded_front given tables loaded) (group_units general_hashing query planned) (group_octets query planned) S 1 N (omega arith) (omega arith) stoods stood (32 * length given.source.group.functions + length (walked_of folded rows).rows * (8 + 16 * length folded.items))
          (less (table_octets (kept_by (query_of given.source.parts)) tables (placed (query_of given.source.parts))) (32 * length given.source.group.functions) (group_octets query planned) (length (walked_of folded rows).rows * (8 + 16 * length folded.items)) (length (rows_behind query planned) * row_size (length query.items)) areas_low result_low))
        where
          less : (j o p w r : ℕ) → o ≤ p → w ≤ r → j + (o + w) ≤ (j + p) + r
          less j o p w r e f = omega (arith, e, f)

          turned : (b u o w m : ℕ) → b + 1 * u + (o + w) + 2 * u < m → b + o + w + 2 * u < m
          turned b u o w m h = omega (arith, h)

      values_typed_at : IsFew → (vs : List Val) → function_values (length query.columns) kinds rows ≡ Ok vs → AreTypedValues query vs
      values_typed_at few = by_count query.functions refl
        where
          none_come : query.functions ≡ [] → (vs : List Val) → function_values (length query.columns) kinds rows ≡ Ok vs → AreTypedValues query vs
          none_come none vs come =
              let values_none : vs ≡ [] = one_result vs (sym (ap (λ (l : List SetFunction). function_values (length query.columns) (kinds_of l) rows) none) ∙ come) in
              subst (λ (l : List SetFunction). IsRowOf (map type_kind (map type_of_function l)) vs) (sym none) (subst (λ (l : List Val). IsRowOf [] l) (sym values_none) tt)

          by_count : (fs : List SetFunction) → query.functions ≡ fs → (vs : List Val) → function_values (length query.columns) kinds rows ≡ Ok vs → AreTypedValues query vs
          by_count [] is = none_come is
          by_count (f ∷ fs) is =
              let some : 1 ≤ length query.functions = subst (λ (l : List SetFunction). 1 ≤ length l) (sym is) (omega arith) in
              alone_typed query whole tables loaded rows from_flow (sized_sources given) alone.no_columns (rows_few few some)

      made_typed : IsFew → (vs : List Val) → function_values 0 (functions_of (value_columns query)) rows ≡ Ok vs → AreRead (value_columns query) vs
      made_typed few vs come =
          let functions : functions_of (value_columns query) ≡ kinds = alone.theirs ∙ alone.functions in
          let theirs : function_values (length query.columns) kinds rows ≡ Ok vs = ap (λ (c : ℕ). function_values c kinds rows) alone.no_columns ∙ (ap (λ (fs : List SetFunctionKind). function_values 0 fs rows) (sym functions) ∙ come) in
          values_read (length query.columns) query.functions vs (kinds_have query.functions (arguments_have row_is value_is parts whole given)) (values_typed_at few vs theirs) (alone_utf8 query whole tables loaded (sized_sources given) (arguments_utf8 given) rows from_flow vs theirs)

      -- ---- what is reached
      first_take : FirstTake T (front_count given.source) given.source.columns (literals_over given.source T) tables up M N (table_of (entries_of (query_of given.source.parts).sources)) given.source.group stoods given.source.last before
      first_take = record {
        table_is = scan_table (entries_of (query_of given.source.parts).sources) given.source.last (last_scans row_is value_is given.source);
        has_column = scan_column (entries_of (query_of given.source.parts).sources) given.source.columns given.source.are.each given.source.last (last_scans row_is value_is given.source);
        finds = finds row_is value_is given.source widest low rows_fit (omega arith) T room tables (loaded_front given tables loaded) (group_units general_hashing query planned) (group_octets query planned) S 1 N (omega arith) (omega arith) stoods stood;
        chosen = chosen;
        compared = λ row. compared_within 0 given.source.group.functions row (chosen row) (omega arith);
        cost = take_cost;
        fits = fits_given (32 * length given.source.group.functions) area_fits;
        enough = take_pays;
      }

      take_reach : IsFew → TakeReach T (front_count given.source) given.source.columns (literals_over given.source T) tables up M N (table_of (entries_of (query_of given.source.parts).sources)) given.source.group stoods given.source.last before
      take_reach few = record {
        table_is = first_take.table_is;
        has_column = first_take.has_column;
        finds = first_take.finds;
        chosen = first_take.chosen;
        compared = first_take.compared;
        cost = first_take.cost;
        few = λ some. rows_few few (let many = functions_many in omega (arith, some, many));
        fits = first_take.fits;
        enough = first_take.enough;
      }

      one_reach : IsFew → OneReach folded (value_columns query) up M N rows (areas_paid given.source.group before)
      one_reach few = record {
        typed = made_typed few;
        cost = made_cost;
        fits = fits_given (8 + 16 * length given.behind_is.items) (let same = (items_long given) in less (length given.behind_is.items) (length query.items) (max (group_size query) (greatest_entry (kept_by (query_of given.source.parts)) (placed (query_of given.source.parts)))) same);
        enough = made_pays;
      }
        where
          less : (i q m : ℕ) → i ≡ q → 8 + 16 * i ≤ max (8 + 16 * q) m
          less i q m e = omega (arith, e)

    -- ---- all of it
    abbrev IsKept : (most N : ℕ) → Type 0
    IsKept most_pages most_units = IsSingleBounded T (front_count given.source) given.source.columns (texts_of_grouped parts) (front_words given.source) (front_at given.source) (table_of (entries_of (query_of given.source.parts).sources)) given.source.building given.source.last (folded_query given) given.source.group (value_columns query) (λ raised. IsTold (whole_outcome (asked_whole query) tables) raised)
        (given_up row_is value_is parts whole given) most_pages most_units tables

    bounded : IsFew → IsKept M N
    bounded few = record {
      some = omega arith;
      u_low = omega arith;
      budget = λ i. budget up tables given.source.building i;
      reached = builds_reach row_is value_is given.source widest low rows_fit (omega arith) T room tables (loaded_front given tables loaded) (group_units general_hashing query planned) (group_octets query planned) S 1 N (omega arith) (omega arith);
      told = builds_told row_is value_is given.source widest low rows_fit (omega arith) T room tables (loaded_front given tables loaded) (group_units general_hashing query planned) (group_octets query planned) S 1 N (omega arith) (omega arith) Told (from_front row_is value_is parts whole given tables loaded);
      taken = λ stoods stood. take_reach stoods stood few;
      told_taken = last_told row_is value_is given.source widest low rows_fit (omega arith) T room tables (loaded_front given tables loaded) (group_units general_hashing query planned) (group_octets query planned) S 1 N (omega arith) (omega arith) Told (from_front row_is value_is parts whole given tables loaded);
      made = λ stoods stood none. one_reach stoods stood few;
      told_made = λ stoods stood none raised tells. from_walk row_is value_is parts whole given tables loaded (fed_over tables stoods given.source.last) (alike stoods stood) none raised tells;
    }

    -- however many rows come
    first_bounded : IsFirstTaken T (front_count given.source) given.source.columns (texts_of_grouped parts) (front_words given.source) (front_at given.source) (table_of (entries_of (query_of given.source.parts).sources)) given.source.building given.source.last given.source.group (λ raised. IsTold (whole_outcome (asked_whole query) tables) raised)
        (given_up row_is value_is parts whole given) M N tables
    first_bounded = record {
      some = omega arith;
      u_low = omega arith;
      budget = λ i. budget up tables given.source.building i;
      reached = builds_reach row_is value_is given.source widest low rows_fit (omega arith) T room tables (loaded_front given tables loaded) (group_units general_hashing query planned) (group_octets query planned) S 1 N (omega arith) (omega arith);
      told = builds_told row_is value_is given.source widest low rows_fit (omega arith) T room tables (loaded_front given tables loaded) (group_units general_hashing query planned) (group_octets query planned) S 1 N (omega arith) (omega arith) Told (from_front row_is value_is parts whole given tables loaded);
      taken = λ stoods stood. first_take stoods stood;
      told_taken = last_told row_is value_is given.source widest low rows_fit (omega arith) T room tables (loaded_front given tables loaded) (group_units general_hashing query planned) (group_octets query planned) S 1 N (omega arith) (omega arith) Told (from_front row_is value_is parts whole given tables loaded);
    }

    abbrev IsKeptLong : (most N : ℕ) → Type 0
    IsKeptLong most_pages most_units = IsLongBounded T (front_count given.source) given.source.columns (texts_of_grouped parts) (front_words given.source) (front_at given.source) (table_of (entries_of (query_of given.source.parts).sources)) given.source.building given.source.last (folded_query given) given.source.group (value_columns query) (λ raised. IsTold (whole_outcome (asked_whole query) tables) raised)
        (given_up row_is value_is parts whole given) most_pages most_units tables

    long_bounded : IsKeptLong M N
    unfolding first_bounded
    long_bounded = record {
      first = first_bounded;
      made = λ stoods stood none less. one_reach stoods stood (few_by stoods stood less);
      told_made = λ stoods stood none less raised tells. from_walk row_is value_is parts whole given tables loaded (fed_over tables stoods given.source.last) (alike stoods stood) none raised tells;
    }

    pub single_kept : IsFew → IsKept (whole_pages (asked_whole query) tables) (1 + whole_units (asked_whole query) tables)
    single_kept few = subst₂ IsKept (pages_are row_is value_is parts whole given tables loaded) (units_are row_is value_is parts whole given tables loaded) (bounded few)

    pub long_kept : IsKeptLong (whole_pages (asked_whole query) tables) (1 + whole_units (asked_whole query) tables)
    long_kept = subst₂ IsKeptLong (pages_are row_is value_is parts whole given tables loaded) (units_are row_is value_is parts whole given tables loaded) long_bounded
