-- Pipelines whose rows go into groups, and the walk over the groups, stay within bounds of units and pages, whatever it is that the groups are made for: those of
-- GROUP BY, or distinct rows (ISO/IEC 9075:1992, 7.7 to 7.9).
use Rattle.std.proofs.Common.{◌≡◌, ◌∙◌, ◌≤◌, ◌<◌, ℕ, ◌+◌, ◌-◌, ◌*◌, ◌^◌, true, List, [], ◌∷◌, ◌++◌, length, take, Ok, sym, ap, ap₂, subst, arith}
use Rattle.std.specs.List.{AllByRecursion}
use Rattle.std.specs.List.Sorted.{IsPermutation}
use Rattle.std.proofs.lemmas.List.{length-map}
use Rattle.std.proofs.lemmas.Nat.{mul-le}
use Rattle.std.proofs.lemmas.List.Sorted.{IsPermutation-sym, length_permutation}
use Rattle.std.specs.declared.cmp.Ordering.TheVariants as ordering
use Rattle.qw_types.specs.ValueOrder.{is_same_row, value_order}
use Rattle.qw_types.specs.declared.value.Val.{Val}
use Rattle.qw_linear.specs.Memory.{page}
use Rattle.qw_layout.specs.Hash.{slot}
use Rattle.qw_layout.specs.Row.{entry_size}
use Rattle.qw_meaning.specs.Flow.{Flow}
use Rattle.qw_meaning.specs.Outcome.{flow, outcome}
use Rattle.qw_meaning.specs.Query.{query_of}
use Rattle.qw_meaning.specs.Select.{AreOfEntries, Specification, entries_of}
use Rattle.qw_grouped.specs.Grouped.{Grouped, SetFunction, kinds_of}
use Rattle.qw_grouped.specs.Groups.{function_values, groups, key_of, keys, members}
use Rattle.qw_grouped.specs.declared.set_function.SetFunctionKind.{SetFunctionKind}
use Rattle.qw_pipe.specs.General.{general_hashing}
use Rattle.qw_pipe.specs.Octets.{greatest_entry, table_octets}
use Rattle.qw_map.specs.Layout.{Layout, row_size}
use Rattle.qw_feed.specs.Feeds.{Tells, spend}
use Rattle.qw_table.specs.Keys.{text_octets}
use Rattle.qw_table.specs.Tables.{in_slot}
use Rattle.qw_physical.specs.Courses.{cost}
use Rattle.qw_physical.specs.Physical.{filter, select}
use Rattle.qw_physical.specs.declared.pipeline.ReadColumn.{ReadColumn}
use Rattle.qw_physical.proofs.Orders.{Alike}
use Rattle.qw_operator.proofs.PairRows.{AreStored}
use Rattle.qw_operator.proofs.Stood.{Stood, built_of}
use Rattle.qw_emit.proofs.Answered.{IsTold}
use Rattle.qw_operator.specs.Costs.{pipeline_cost_to}
use Rattle.qw_operator.specs.Grouping.{turn_of}
use Rattle.qw_group_pipeline.specs.Groups.{most_read}
use Rattle.qw_group_pipeline.specs.declared.columns.ValueColumn.{ValueColumn}
use Rattle.qw_group_pipeline.proofs.RowFeeds.{by_result}
use Rattle.qw_group_pipeline.proofs.ValuesCome.{AreRead, functions_of}
use Rattle.qw_compile.specs.PlannedQueries.{greatest, kept_by, placed, planned_units}
use Rattle.qw_compile.proofs.PipelineRuns.{AreStood, fed_over}
use Rattle.qw_compile.proofs.QueryReach.{scan_column, scan_table, table_of}
use Rattle.qw_whole.specs.GroupTables.{chosen_units, group_octets, group_size, group_units}
use Rattle.qw_whole.specs.WholePromises.{planned_rows}
use Rattle.qw_compile_whole.proofs.GroupBounded.{GatherReach, GoTogether, IsGroupBounded, WalkReach, group_width, groups_paid, rows_met, walked_of}
use Rattle.qw_compile_whole.proofs.FirstBounded.{FirstReach, IsFirstBounded, reach_with}
use Rattle.qw_compile_whole.proofs.GroupPlanned.{fed_alike, last_scans, rows_planned}
use Rattle.qw_compile_whole.proofs.GroupReach.{budget, builds_reach, builds_told, finds, last_told, most, pays, turned_cost}
use Rattle.qw_compile_whole.proofs.GroupRead.{compared_within, read_less}
use Rattle.qw_compile_whole.proofs.GroupShares.{groups_many, groups_within, rows_within}
use Rattle.qw_compile_whole.proofs.GroupTotals.{total}
use Rattle.qw_compile_whole.proofs.FrontLed.{FrontOf, front_at, front_count, front_words, literals_over}

-- ---- numbers
fits_page : (size greatest : ℕ) → size ≤ greatest → greatest ≤ 24216 → size + (page - greatest) ≤ page
fits_page size greatest h g = omega (arith, h, g)

module _ (row_is : (row other : List Val) → is_same_row row other ≡ true → row ≡ other) (value_is : (a : Val) → value_order a a ≡ ordering.Equal)
    {texts : List (List ℕ)} {layout : Layout} (source : FrontOf texts layout)
    (query : Grouped) (some_column : 1 ≤ length query.columns) (row_less : 8 + 16 * length (query_of source.parts).items ≤ group_size query)
    (widest : ℕ) (widest_low : widest ≤ 24216) (items_fit : row_size (length query.items) ≤ widest) (group_fits : group_size query ≤ widest) (joins_fit : greatest_entry (kept_by (query_of source.parts)) (placed (query_of source.parts)) ≤ widest) where
  abbrev spec : Specification
  spec = query_of source.parts

  -- what may be given up of a page
  abbrev given_up : ℕ
  given_up = page - widest

  rows_fit : 8 + 16 * length (query_of source.parts).items ≤ widest
  rows_fit = omega (arith, row_less, group_fits)

  module _ (T : ℕ) (room : length source.ps ≤ T) (key : List ReadColumn) (values : List ValueColumn) (together : GoTogether query source.group key values (literals_over source T))
      (tables : List (List (List Val))) (loaded : AreOfEntries (entries_of (query_of source.parts).sources) tables)
      (Told : ℕ → Type 0) (front_tells : (raised : ℕ) → IsTold (outcome (query_of source.parts) tables) raised → Told raised)
      (units_for octets_for : ℕ) (units_low : (rows : List (List Val)) → IsPermutation rows (planned_rows (query_of source.parts) tables) → group_units general_hashing query rows ≤ units_for)
      (octets_low : (rows : List (List Val)) → IsPermutation rows (planned_rows (query_of source.parts) tables) → group_octets query rows ≤ octets_for)
      (S beside N : ℕ) (some_beside : 1 ≤ beside) (units_within : 1 + (planned_units (query_of source.parts) tables + units_for) ≤ N)
      (octets_within : table_octets (kept_by (query_of source.parts)) tables (placed (query_of source.parts)) + octets_for ≤ S) where
    abbrev n : ℕ
    n = length query.columns

    abbrev kinds : List SetFunctionKind
    kinds = kinds_of query.functions

    -- ---- where the tables of joins stand
    module _ (stoods : List Stood) (stood : AreStood tables [] source.building stoods) where
      abbrev rows : List (List Val)
      rows = (fed_over tables stoods source.last).rows

      abbrev chosen : List Val → ℕ
      chosen row = chosen_units source.group.columns source.group.functions row

      abbrev entries : List Val → ℕ
      entries row = length (in_slot slot (slot (key_of source.group.columns row)) (keys source.group.columns (fed_over tables stoods source.last).rows))

      pub by_plan : IsPermutation (fed_over tables stoods source.last).rows (planned_rows (query_of source.parts) tables)
      by_plan = rows_planned row_is value_is source tables loaded stoods stood

      pub alike : Alike (fed_over tables stoods source.last) (flow (query_of source.parts) tables)
      alike = fed_alike row_is value_is source tables loaded stoods stood

      pub from_flow : IsPermutation (flow (query_of source.parts) tables).rows (fed_over tables stoods source.last).rows
      from_flow = IsPermutation-sym (fed_over tables stoods source.last).rows (flow (query_of source.parts) tables).rows alike.0

      -- units
      units_less : group_units general_hashing query (fed_over tables stoods source.last).rows ≤ units_for
      units_less = units_low (fed_over tables stoods source.last).rows by_plan

      turns : total (turn_of source.group entries chosen) (fed_over tables stoods source.last).rows ≤ group_units general_hashing query (fed_over tables stoods source.last).rows
      turns =
          let many : source.group.columns ≡ n = together.many in
          let functions : source.group.functions ≡ kinds = together.functions in
          subst (λ (c : ℕ). total (λ (v : List Val). text_octets (take c v) + length (in_slot slot (slot (key_of c v)) (keys c rows)) * (1 + text_octets (take c v)) + chosen_units c source.group.functions v) rows ≤ group_units general_hashing query rows) (sym many)
          (subst (λ (fs : List SetFunctionKind). total (λ (v : List Val). text_octets (take n v) + length (in_slot slot (slot (key_of n v)) (keys n rows)) * (1 + text_octets (take n v)) + chosen_units n fs v) rows ≤ group_units general_hashing query rows) (sym functions)
          (rows_within query rows some_column))

      gather_cost : 1 + pipeline_cost_to source.group.values (turn_of source.group entries chosen) tables (built_of stoods) source.last ≤ N
      gather_cost = let less = units_less in let taken = turns in turned_cost row_is value_is source widest widest_low rows_fit joins_fit T room tables loaded units_for octets_for S beside N units_within octets_within stoods stood (turn_of source.group entries chosen) (omega (arith, less, taken))

      pub walk_cost : 1025 + spend (λ (k : List Val). most_read (functions_of values) + by_result (function_values (length key) (functions_of values) (members source.group.columns k rows)) (λ vs. cost [] (filter query.having ∷ []) (select query.items) (k ++ vs))) (keys source.group.columns rows) ≤ N
      walk_cost =
          let many : source.group.columns ≡ n = together.many in
          let place : length key ≡ n = together.key_many ∙ many in
          let functions : functions_of values ≡ kinds = together.theirs ∙ together.functions in
          let all = groups_within query rows some_column (most_read kinds) (read_less kinds) in
          subst (λ (c : ℕ). 1025 + spend (λ (k : List Val). most_read (functions_of values) + by_result (function_values (length key) (functions_of values) (members c k rows)) (λ vs. cost [] (filter query.having ∷ []) (select query.items) (k ++ vs))) (keys c rows) ≤ N) (sym many)
          (subst (λ (m : ℕ). 1025 + spend (λ (k : List Val). most_read (functions_of values) + by_result (function_values m (functions_of values) (members n k rows)) (λ vs. cost [] (filter query.having ∷ []) (select query.items) (k ++ vs))) (keys n rows) ≤ N) (sym place)
          (subst (λ (fs : List SetFunctionKind). 1025 + spend (λ (k : List Val). most_read fs + by_result (function_values n fs (members n k rows)) (λ vs. cost [] (filter query.having ∷ []) (select query.items) (k ++ vs))) (keys n rows) ≤ N) (sym functions)
          (more (spend (λ (k : List Val). most_read kinds + by_result (function_values n kinds (members n k rows)) (λ vs. cost [] (filter query.having ∷ []) (select query.items) (k ++ vs))) (keys n rows)) (group_units general_hashing query rows) units_for (planned_units spec tables) N all units_less units_within)))
        where
          more : (s f q u m : ℕ) → 1025 + s ≤ 1 + f → f ≤ q → 1 + (u + q) ≤ m → 1025 + s ≤ m
          more s f q u m h e g = omega (arith, h, e, g)

      -- pages
      width_is : group_width source.group ≡ group_size query
      width_is = ap₂ (λ (c m : ℕ). entry_size c 0 m) together.many (ap (λ (fs : List SetFunctionKind). length fs) together.functions ∙ length-map query.functions (λ (f : SetFunction). f.kind))

      pub group_octets_less : 4096 + length (keys source.group.columns rows) * group_width source.group ≤ octets_for
      group_octets_less =
          let count : length (keys source.group.columns rows) ≡ length (groups n rows) = ap (λ (c : ℕ). length (keys c rows)) together.many ∙ sym (groups_many n rows some_column) in
          by_same (4096 + length (keys source.group.columns rows) * group_width source.group) (group_octets query rows) octets_for (ap₂ (λ (k w : ℕ). 4096 + k * w) count width_is) (octets_low rows by_plan)
        where
          by_same : (a b c : ℕ) → a ≡ b → b ≤ c → a ≤ c
          by_same a b c e h = omega (arith, e, h)

      -- one of the tables that may stand there
      one_beside : 1 * given_up ≤ beside * given_up
      one_beside = mul-le 1 given_up beside given_up some_beside (omega arith)

      gather_pays : groups_paid given_up source.group (budget given_up tables source.building (length source.building)) rows + 2 * given_up < (most given_up S beside source.building + 1) * given_up
      gather_pays =
          turned (budget given_up tables source.building (length source.building)) given_up (beside * given_up) (length (keys source.group.columns rows) * group_width source.group) ((most given_up S beside source.building + 1) * given_up) one_beside
          (pays row_is value_is source widest widest_low rows_fit joins_fit T room tables loaded units_for octets_for S beside N units_within octets_within stoods stood (4096 + length (keys source.group.columns rows) * group_width source.group)
          (less (table_octets (kept_by spec) tables (placed spec)) (4096 + length (keys source.group.columns rows) * group_width source.group) octets_for group_octets_less octets_within))
        where
          less : (j o p : ℕ) → o ≤ p → j + p ≤ S → j + o ≤ S
          less j o p e h = omega (arith, e, h)

          turned : (b u v k m : ℕ) → 1 * u ≤ v → b + v + (4096 + k) + 2 * u < m → b + u + 4096 + k + 2 * u < m
          turned b u v k m e h = omega (arith, e, h)

      -- ---- what is reached
      first_reach : FirstReach T (front_count source) source.columns (literals_over source T) tables given_up (most given_up S beside source.building) N (table_of (entries_of spec.sources)) source.group stoods source.last (budget given_up tables source.building (length source.building))
      first_reach = record {
        table_is = scan_table (entries_of spec.sources) source.last (last_scans row_is value_is source);
        has_column = scan_column (entries_of spec.sources) source.columns source.are.each source.last (last_scans row_is value_is source);
        finds = finds row_is value_is source widest widest_low rows_fit joins_fit T room tables loaded units_for octets_for S beside N units_within octets_within stoods stood;
        entries = entries;
        chosen = chosen;
        met = λ row. omega arith;
        compared = λ row. compared_within source.group.columns source.group.functions row (chosen row) (omega arith);
        cost = gather_cost;
        few = tt;
        fits = (let width = width_is in let fit = fits_page (group_size query) widest group_fits widest_low in omega (arith, width, fit));
        enough = gather_pays;
      }

    -- ---- all of it up to the groups
    pub first_bounded : IsFirstBounded T (front_count source) source.columns texts (front_words source) (front_at source) (table_of (entries_of (query_of source.parts).sources)) source.building source.last source.group Told given_up (most given_up S beside source.building) N tables
    first_bounded = record {
      some = omega (arith, units_within);
      u_low = omega arith;
      budget = λ i. budget given_up tables source.building i;
      reached = builds_reach row_is value_is source widest widest_low rows_fit joins_fit T room tables loaded units_for octets_for S beside N units_within octets_within;
      told = builds_told row_is value_is source widest widest_low rows_fit joins_fit T room tables loaded units_for octets_for S beside N units_within octets_within Told front_tells;
      gathered = λ stoods stood. first_reach stoods stood;
      told_gathered = last_told row_is value_is source widest widest_low rows_fit joins_fit T room tables loaded units_for octets_for S beside N units_within octets_within Told front_tells;
    }

    -- ---- where the rows are few enough to be counted and summed
    module _ (few : 1 ≤ length query.functions → length (flow (query_of source.parts) tables).rows < 10 ^ 18)
        (walk_tells : (fed : Flow (List Val)) → Alike fed (flow (query_of source.parts) tables) → fed.codes ≡ [] → (raised : ℕ) → Tells (walked_of query fed.rows).codes raised → Told raised)
        (keys_ok : (rows : List (List Val)) → IsPermutation (flow (query_of source.parts) tables).rows rows → AllByRecursion (λ (k : List Val). AreStored key k) (keys (length query.columns) rows))
        (values_ok : (rows : List (List Val)) → IsPermutation (flow (query_of source.parts) tables).rows rows → AllByRecursion (λ (k : List Val). (vs : List Val) → function_values (length query.columns) (kinds_of query.functions) (members (length query.columns) k rows) ≡ Ok vs → AreRead values vs) (keys (length query.columns) rows)) where
      module _ (stoods : List Stood) (stood : AreStood tables [] source.building stoods) where
        abbrev reaching : List (List Val)
        reaching = (fed_over tables stoods source.last).rows

        rows_few : 1 ≤ length query.functions → length (fed_over tables stoods source.last).rows < 10 ^ 18
        rows_few some = let less = few some in let same = length_permutation (fed_over tables stoods source.last).rows (flow (query_of source.parts) tables).rows (alike stoods stood).0 in omega (arith, less, same)

        -- kinds
        pub keys_stored : AllByRecursion (λ (k : List Val). AreStored key k) (keys source.group.columns reaching)
        keys_stored = subst (λ (c : ℕ). AllByRecursion (λ (k : List Val). AreStored key k) (keys c reaching)) (sym together.many) (keys_ok reaching (from_flow stoods stood))

        pub values_are_read : AllByRecursion (λ (k : List Val). (vs : List Val) → function_values (length key) (functions_of values) (members source.group.columns k reaching) ≡ Ok vs → AreRead values vs) (keys source.group.columns reaching)
        values_are_read =
            subst (λ (c : ℕ). AllByRecursion (λ (k : List Val). (vs : List Val) → function_values (length key) (functions_of values) (members c k reaching) ≡ Ok vs → AreRead values vs) (keys c reaching)) (sym together.many)
            (subst (λ (m : ℕ). AllByRecursion (λ (k : List Val). (vs : List Val) → function_values m (functions_of values) (members n k reaching) ≡ Ok vs → AreRead values vs) (keys n reaching)) (sym (together.key_many ∙ together.many))
            (subst (λ (fs : List SetFunctionKind). AllByRecursion (λ (k : List Val). (vs : List Val) → function_values n fs (members n k reaching) ≡ Ok vs → AreRead values vs) (keys n reaching)) (sym (together.theirs ∙ together.functions)) (values_ok reaching (from_flow stoods stood))))

        pub gather_reach : GatherReach T (front_count source) source.columns (literals_over source T) tables given_up (most given_up S beside source.building) N (table_of (entries_of spec.sources)) source.group stoods source.last (budget given_up tables source.building (length source.building))
        gather_reach =
            reach_with (Unit {0}) (1 ≤ length source.group.functions → length (rows_met tables stoods source.last) < 10 ^ 18) T (front_count source) source.columns (literals_over source T) tables given_up (most given_up S beside source.building) N (table_of (entries_of spec.sources)) source.group stoods source.last (budget given_up tables source.building (length source.building))
            (first_reach stoods stood) (λ some. rows_few (let many = ap (λ (fs : List SetFunctionKind). length fs) together.functions in let count = length-map query.functions (λ (f : SetFunction). f.kind) in omega (arith, some, many, count)))

      -- ---- the walk, whose rows are the result: so many, each of its cells
      module _ (rows_for : ℕ) (rows_low : (rows : List (List Val)) → IsPermutation rows (planned_rows (query_of source.parts) tables) → length (walked_of query rows).rows ≤ rows_for)
          (rows_within : (table_octets (kept_by (query_of source.parts)) tables (placed (query_of source.parts)) + octets_for) + rows_for * row_size (length query.items) ≤ S) where
        module _ (stoods : List Stood) (stood : AreStood tables [] source.building stoods) where
          abbrev met_rows : List (List Val)
          met_rows = (fed_over tables stoods source.last).rows

          result_octets : length (walked_of query met_rows).rows * (8 + 16 * length query.items) ≤ rows_for * row_size (length query.items)
          result_octets = mul-le (length (walked_of query met_rows).rows) (8 + 16 * length query.items) rows_for (row_size (length query.items)) (rows_low met_rows (by_plan stoods stood)) (omega arith)

          walk_pays : groups_paid given_up source.group (budget given_up tables source.building (length source.building)) met_rows + length (walked_of query met_rows).rows * (8 + 16 * length query.items) + 2 * given_up < (most given_up S beside source.building + 1) * given_up
          walk_pays =
              turned (budget given_up tables source.building (length source.building)) given_up (beside * given_up) (length (keys source.group.columns met_rows) * group_width source.group) (length (walked_of query met_rows).rows * (8 + 16 * length query.items)) ((most given_up S beside source.building + 1) * given_up) (one_beside stoods stood)
              (pays row_is value_is source widest widest_low rows_fit joins_fit T room tables loaded units_for octets_for S beside N units_within octets_within stoods stood ((4096 + length (keys source.group.columns met_rows) * group_width source.group) + length (walked_of query met_rows).rows * (8 + 16 * length query.items))
              (less (table_octets (kept_by spec) tables (placed spec)) (4096 + length (keys source.group.columns met_rows) * group_width source.group) (length (walked_of query met_rows).rows * (8 + 16 * length query.items)) octets_for (rows_for * row_size (length query.items)) (group_octets_less stoods stood) result_octets rows_within))
            where
              less : (j o w p r : ℕ) → o ≤ p → w ≤ r → (j + p) + r ≤ S → j + (o + w) ≤ S
              less j o w p r e f h = omega (arith, e, f, h)

              turned : (b u v k w m : ℕ) → 1 * u ≤ v → b + v + ((4096 + k) + w) + 2 * u < m → b + u + 4096 + k + w + 2 * u < m
              turned b u v k w m e h = omega (arith, e, h)

          walk_reach : WalkReach query source.group key values given_up (most given_up S beside source.building) N met_rows (groups_paid given_up source.group (budget given_up tables source.building (length source.building)) met_rows)
          walk_reach = record {
            stored = keys_stored stoods stood;
            typed = values_are_read stoods stood;
            cost = walk_cost stoods stood;
            fits = fits_page (row_size (length query.items)) widest items_fit widest_low;
            enough = walk_pays;
          }

        -- ---- all of it
        pub group_bounded : IsGroupBounded T (front_count source) source.columns texts (front_words source) (front_at source) (table_of (entries_of (query_of source.parts).sources)) source.building source.last query source.group key values Told
            given_up (most given_up S beside source.building) N tables
        group_bounded = record {
          some = omega (arith, units_within);
          u_low = omega arith;
          budget = λ i. budget given_up tables source.building i;
          reached = builds_reach row_is value_is source widest widest_low rows_fit joins_fit T room tables loaded units_for octets_for S beside N units_within octets_within;
          told = builds_told row_is value_is source widest widest_low rows_fit joins_fit T room tables loaded units_for octets_for S beside N units_within octets_within Told front_tells;
          gathered = λ stoods stood. gather_reach stoods stood;
          told_gathered = last_told row_is value_is source widest widest_low rows_fit joins_fit T room tables loaded units_for octets_for S beside N units_within octets_within Told front_tells;
          walked = λ stoods stood none. walk_reach stoods stood;
          told_walked = λ stoods stood none raised tells. walk_tells (fed_over tables stoods source.last) (alike stoods stood) none raised tells;
        }
