-- The pipelines that are made of a grouped query keep what is promised of it: they stay within its units and pages, what they raise is told by its outcome, and
-- the rows of the walk over the groups are its rows (ISO/IEC 9075:1992, 7.7 to 7.9).
use Rattle.std.proofs.Common.{◌≡◌, ◌∙◌, ◌≤◌, ◌<◌, ℕ, ◌+◌, ◌-◌, ◌*◌, ◌/◌, ◌^◌, max, true, false, List, [], ◌∷◌, ◌++◌, length, length-append, map, Result, Ok, refl, sym, ap, ap₂, subst, subst₂, arith}
use Rattle.std.specs.List.{AllByRecursion}
use Rattle.std.specs.List.Sorted.{IsPermutation}
use Rattle.std.proofs.lemmas.List.{length-map}
use Rattle.std.proofs.lemmas.List.Sorted.{IsPermutation-refl, length_permutation}
use Rattle.std.specs.declared.cmp.Ordering.TheVariants as ordering
use Rattle.qw_types.specs.Kind.{IsRowOf, type_kind}
use Rattle.qw_types.specs.ValueOrder.{is_same_row, value_order}
use Rattle.qw_types.specs.declared.code.Code.{Code}
use Rattle.qw_types.specs.declared.value.Val.{Val}
use Rattle.qw_linear.specs.Memory.{page}
use Rattle.qw_scalar.specs.Typing.{HasKind}
use Rattle.qw_meaning.specs.Flow.{Flow}
use Rattle.qw_meaning.specs.Outcome.{IsSameOutcome, Rows, flow, outcome}
use Rattle.qw_meaning.specs.Query.{query_of}
use Rattle.qw_meaning.specs.Select.{AreOfEntries, IsColumnOf, IsItemOver, Specification, entries_of}
use Rattle.qw_grouped.specs.Grouped.{Grouped, IsGrouped, SetFunction, arguments_of, expression_of_column, front, kinds_of, type_of_function}
use Rattle.qw_grouped.specs.Groups.{behind_front, function_values, keys, members}
use Rattle.qw_grouped.specs.Whole.{Whole, grouped, whole_outcome}
use Rattle.qw_grouped.specs.declared.set_function.SetFunctionKind.{SetFunctionKind}
use Rattle.qw_grouped.proofs.OrderLemmas as order
use Rattle.qw_grouped.proofs.TypedGroups.{all_behind}
use Rattle.qw_meaning.proofs.ListLemmas.{all_more}
use Rattle.qw_pipe.specs.General.{general_hashing}
use Rattle.qw_pipe.specs.Octets.{greatest_entry, table_count, table_octets}
use Rattle.qw_map.specs.Layout.{Layout, row_size}
use Rattle.qw_feed.specs.Feeds.{Tells}
use Rattle.qw_physical.specs.Coded.{pipeline_of}
use Rattle.qw_physical.proofs.Orders.{Alike}
use Rattle.qw_operator.proofs.PairRows.{AreStored}
use Rattle.qw_operator.proofs.Stood.{Stood}
use Rattle.qw_emit.proofs.Answered.{IsTold}
use Rattle.qw_group_pipeline.proofs.ValuesCome.{AreRead}
use Rattle.qw_compile.specs.PlannedQueries.{kept_by, placed, planned_units}
use Rattle.qw_compile.proofs.Greatest.{greatest_small}
use Rattle.qw_compile.proofs.PipelineRuns.{AreStood, fed_over}
use Rattle.qw_compile.proofs.QueryReach.{table_of}
use Rattle.qw_whole.specs.GroupTables.{group_octets, group_size, group_units, rows_behind}
use Rattle.qw_whole.specs.WholePromises.{planned_rows, whole_pages, whole_units}
use Rattle.qw_whole.proofs.EntrySizes.{group_small}
use Rattle.qw_whole.proofs.PermutedTables.{groups_permuted, octets_permuted}
use Rattle.qw_compile_whole.specs.GroupColumns.{key_columns, value_columns}
use Rattle.qw_compile_whole.proofs.FirstBounded.{IsFirstBounded}
use Rattle.qw_compile_whole.proofs.GroupBounded.{GoTogether, IsGroupBounded, walked_of}
use Rattle.qw_compile_whole.proofs.GroupCore.{first_bounded, group_bounded}
use Rattle.qw_compile_whole.proofs.GroupPlanned.{built_many, fed_alike}
use Rattle.qw_compile_whole.proofs.GroupReach.{most}
use Rattle.qw_compile_whole.proofs.GroupRead.{key_stored, values_read}
use Rattle.qw_compile_whole.proofs.GroupTold.{front_told, walk_rows, walk_told}
use Rattle.qw_compile_whole.proofs.GroupTyped.{IsTypedKey, AreTypedValues, keys_typed, values_typed}
use Rattle.qw_compile_whole.proofs.GroupUtf8.{values_utf8}
use Rattle.qw_grouped.specs.Query.{GroupedParts, grouped_of}
use Rattle.qw_compile_whole.specs.WholeTexts.{texts_of_grouped}
use Rattle.qw_compile_whole.proofs.FrontLed.{front_at, front_count, front_words, literals_over}
use Rattle.qw_compile_whole.proofs.FoldedBehind.{behind_folded}
use Rattle.qw_compile_whole.proofs.FoldedUnits.{units_folded}
use Rattle.qw_compile_whole.proofs.StatementParts.{PartsOf, arguments_utf8, folded_query, items_long, loaded_front, sized_sources}

-- ---- lists
pub kinds_have : (functions : List SetFunction) → AllByRecursion HasKind (arguments_of functions) → AllByRecursion (λ (f : SetFunction). HasKind f.argument) functions
kinds_have [] h = tt
kinds_have (f ∷ functions) h = (h.0, kinds_have functions h.1)

abbrev pub asked_whole : Grouped → Whole
asked_whole query = record { body = grouped query; distinct = false }

pub one_result : (vs : List Val) → (let r : Result (List Val) Code = Ok [] in r) ≡ Ok vs → vs ≡ []
one_result [] e = refl
one_result (v ∷ vs) e = absurd cc

module _ (row_is : (row other : List Val) → is_same_row row other ≡ true → row ≡ other) (value_is : (a : Val) → value_order a a ≡ ordering.Equal)
    (parts : GroupedParts) (whole : IsGrouped (grouped_of parts)) {layout : Layout} (given : PartsOf parts layout) where
  abbrev query : Grouped
  query = grouped_of parts

  -- the most that may be stored at once, and what may be given up of a page
  abbrev pub widest_kept : ℕ
  widest_kept = max (row_size (length query.items)) (max (group_size query) (greatest_entry (kept_by (query_of given.source.parts)) (placed (query_of given.source.parts))))

  abbrev pub given_up : ℕ
  given_up = page - widest_kept

  pub widest_low : widest_kept ≤ 24216
  widest_low = low (row_size (length (query_of given.source.parts).items)) (greatest_entry (kept_by (query_of given.source.parts)) (placed (query_of given.source.parts))) (group_size query) (length query.items) (greatest_small (query_of given.source.parts) given.source.are.specification) (group_small query whole) whole.few_items
    where
      low : (r e g q : ℕ) → max r e ≤ 24216 → g ≤ 16408 → q ≤ 512 → max (8 + 16 * q) (max g e) ≤ 24216
      low r e g q a b d = omega (arith, a, b, d)

  pub row_less : 8 + 16 * length (query_of given.source.parts).items ≤ group_size query
  row_less =
      less (length (query_of given.source.parts).items) (length query.columns) (length query.functions) (ap (λ (s : Specification). length s.items) given.before_is
      ∙ (length-append (map expression_of_column query.columns) (arguments_of query.functions) ∙ ap₂ (λ (a b : ℕ). a + b) (length-map query.columns expression_of_column) (length-map query.functions (λ (f : SetFunction). f.argument))))
    where
      less : (i c f : ℕ) → i ≡ c + f → 8 + 16 * i ≤ 24 + 16 * (c + 0) + 32 * f
      less i c f m = omega (arith, m)

  pub arguments_have : AllByRecursion HasKind (arguments_of query.functions)
  arguments_have =
      all_behind HasKind (map expression_of_column query.columns) (arguments_of query.functions)
      (all_more (IsItemOver (IsColumnOf (entries_of query.sources))) HasKind (map expression_of_column query.columns ++ arguments_of query.functions) (λ e h. h.0.1) whole.front.items)

  module _ (tables : List (List (List Val))) (loaded : AreOfEntries (entries_of (grouped_of parts).sources) tables) where
    -- as many rows go into groups as reach them by the query
    pub rows_many : (stoods : List Stood) → AreStood tables [] given.source.building stoods → length (fed_over tables stoods given.source.last).rows ≡ length (flow (front query) tables).rows
    rows_many stoods stood =
        let alike = fed_alike row_is value_is given.source tables (loaded_front given tables loaded) stoods stood in
        sym (length_permutation (fed_over tables stoods given.source.last).rows (flow (query_of given.source.parts) tables).rows alike.0) ∙ ap (λ (s : Specification). length (flow s tables).rows) given.before_is

    pub from_front : (raised : ℕ) → IsTold (outcome (query_of given.source.parts) tables) raised → IsTold (whole_outcome (asked_whole query) tables) raised
    from_front raised h = front_told query tables raised (subst (λ (s : Specification). IsTold (outcome s tables) raised) given.before_is h)

    pub from_walk : (fed : Flow (List Val)) → Alike fed (flow (query_of given.source.parts) tables) → fed.codes ≡ [] → (raised : ℕ) → Tells (walked_of (folded_query given) fed.rows).codes raised → IsTold (whole_outcome (asked_whole query) tables) raised
    from_walk fed alike none raised tells =
        walk_told query tables fed (subst (λ (s : Specification). Alike fed (flow s tables)) given.before_is alike) none raised (subst (λ (f : Flow (List Val)). Tells f.codes raised) (sym (behind_folded query (pipeline_of given.source.behind) given.behind_is (record { rows = fed.rows; codes = [] }))) tells)

    pub few_spec : (1 ≤ length query.functions → length (flow (front query) tables).rows < 10 ^ 18) → 1 ≤ length query.functions → length (flow (query_of given.source.parts) tables).rows < 10 ^ 18
    few_spec few some = subst (λ (s : Specification). length (flow s tables).rows < 10 ^ 18) (sym given.before_is) (few some)

    -- the rows of the walk are the query's
    pub walked_rows : (stoods : List Stood) → AreStood tables [] given.source.building stoods → (fed_over tables stoods given.source.last).codes ≡ [] → (walked_of (folded_query given) (fed_over tables stoods given.source.last).rows).codes ≡ [] →
        IsSameOutcome (whole_outcome (asked_whole query) tables) (Rows (walked_of (folded_query given) (fed_over tables stoods given.source.last).rows).rows)
    walked_rows stoods stood none over =
        let fed : Flow (List Val) = fed_over tables stoods given.source.last in
        let same = behind_folded query (pipeline_of given.source.behind) given.behind_is (record { rows = (fed_over tables stoods given.source.last).rows; codes = [] }) in
        walk_rows query tables (fed_over tables stoods given.source.last) (subst (λ (s : Specification). Alike fed (flow s tables)) given.before_is (fed_alike row_is value_is given.source tables (loaded_front given tables loaded) stoods stood)) none
        (ap (λ (f : Flow (List Val)). f.codes) same ∙ over) (walked_of (folded_query given) (fed_over tables stoods given.source.last).rows).rows
        (subst (λ (f : Flow (List Val)). IsPermutation (behind_front query (record { rows = (fed_over tables stoods given.source.last).rows; codes = [] })).rows f.rows) same (IsPermutation-refl (behind_front query (record { rows = (fed_over tables stoods given.source.last).rows; codes = [] })).rows))

    -- ---- within the promise
    abbrev planned : List (List Val)
    planned = planned_rows (query_of given.source.parts) tables

    abbrev pub units_kept : ℕ
    units_kept = 1 + ((planned_units (query_of given.source.parts) tables + group_units general_hashing query (planned_rows (query_of given.source.parts) tables)) + length (rows_behind query (planned_rows (query_of given.source.parts) tables)))

    abbrev pub stored_kept : ℕ
    stored_kept = (table_octets (kept_by (query_of given.source.parts)) tables (placed (query_of given.source.parts)) + group_octets query (planned_rows (query_of given.source.parts) tables)) + length (rows_behind query (planned_rows (query_of given.source.parts) tables)) * row_size (length query.items)

    pub units_low : (rows : List (List Val)) → IsPermutation rows (planned_rows (query_of given.source.parts) tables) → group_units general_hashing (folded_query given) rows ≤ group_units general_hashing query (planned_rows (query_of given.source.parts) tables)
    units_low rows p =
        less (group_units general_hashing (folded_query given) rows) (group_units general_hashing query rows) (group_units general_hashing query planned) (units_folded query (pipeline_of given.source.behind) given.behind_is general_hashing rows) (groups_permuted general_hashing query rows planned p)
      where
        less : (a b c : ℕ) → b ≡ a → b ≡ c → a ≤ c
        less a b c e f = omega (arith, e, f)

    pub octets_low : (rows : List (List Val)) → IsPermutation rows (planned_rows (query_of given.source.parts) tables) → group_octets (folded_query given) rows ≤ group_octets query (planned_rows (query_of given.source.parts) tables)
    octets_low rows p = less (group_octets query rows) (group_octets query planned) (octets_permuted query rows planned p)
      where
        less : (a b : ℕ) → a ≡ b → a ≤ b
        less a b e = omega (arith, e)

    rows_low : (rows : List (List Val)) → IsPermutation rows (planned_rows (query_of given.source.parts) tables) → length (walked_of (folded_query given) rows).rows ≤ length (rows_behind query (planned_rows (query_of given.source.parts) tables))
    rows_low rows p =
        let same = order.behind_alike query (record { rows = rows; codes = [] }) (record { rows = planned; codes = [] }) (record { rows = p; codes = IsPermutation-refl [] }) in
        less (length (walked_of (folded_query given) rows).rows) (length (behind_front query (record { rows = rows; codes = [] })).rows) (length (rows_behind query planned))
        (ap (λ (f : Flow (List Val)). length f.rows) (behind_folded query (pipeline_of given.source.behind) given.behind_is (record { rows = rows; codes = [] }))) (length_permutation (behind_front query (record { rows = rows; codes = [] })).rows (behind_front query (record { rows = planned; codes = [] })).rows same.rows)
      where
        less : (a b c : ℕ) → b ≡ a → c ≡ b → a ≤ c
        less a b c e f = omega (arith, e, f)

    pub units_are : units_kept ≡ 1 + whole_units (asked_whole query) tables
    units_are = ap (λ (s : Specification). 1 + ((planned_units s tables + group_units general_hashing query (planned_rows s tables)) + length (rows_behind query (planned_rows s tables)))) given.before_is

    pub pages_are : most given_up stored_kept 1 given.source.building ≡ whole_pages (asked_whole query) tables
    pages_are =
        ap (λ (k : ℕ). 2 + 2 * (k + 1) + stored_kept / given_up) (built_many row_is value_is given.source)
        ∙ ap (λ (s : Specification). 2 + 2 * (table_count (placed s) + 1) + ((table_octets (kept_by s) tables (placed s) + group_octets query (planned_rows s tables)) + length (rows_behind query (planned_rows s tables)) * row_size (length query.items))
        / (page - max (row_size (length query.items)) (max (group_size query) (greatest_entry (kept_by s) (placed s))))) given.before_is

    -- with the conjuncts of HAVING and the items as they are evaluated
    module _ (T : ℕ) (room : length given.source.ps ≤ T) (together : GoTogether (folded_query given) given.source.group (key_columns (grouped_of parts)) (value_columns (grouped_of parts)) (literals_over given.source T)) where
      abbrev n : ℕ
      n = length query.columns

      abbrev kinds : List SetFunctionKind
      kinds = kinds_of query.functions

      pub some_column : 1 ≤ length query.columns
      some_column = let some = together.some in let many = together.many in omega (arith, some, many)

      -- ---- up to the groups, however many rows there are
      abbrev IsFirst : (most N : ℕ) → Type 0
      IsFirst pages N = IsFirstBounded T (front_count given.source) given.source.columns (texts_of_grouped parts) (front_words given.source) (front_at given.source) (table_of (entries_of (query_of given.source.parts).sources)) given.source.building given.source.last given.source.group (λ raised. IsTold (whole_outcome (asked_whole query) tables) raised) given_up pages N tables

      pub first_kept : IsFirst (whole_pages (asked_whole query) tables) (1 + whole_units (asked_whole query) tables)
      first_kept =
          subst₂ IsFirst pages_are units_are
          (first_bounded row_is value_is given.source (folded_query given) some_column row_less widest_kept widest_low (omega (arith, items_long given)) (omega arith) (omega arith) T room (key_columns query) (value_columns query) together tables (loaded_front given tables loaded)
          (λ raised. IsTold (whole_outcome (asked_whole query) tables) raised) from_front (group_units general_hashing query planned) (group_octets query planned) units_low octets_low stored_kept 1 units_kept (omega arith) (omega arith) (omega arith))

      -- ---- where the rows are few enough to be counted and summed
      module _ (few : 1 ≤ length query.functions → length (flow (front query) tables).rows < 10 ^ 18) where
        -- of rows that reach the groups, in any order
        module _ (rows : List (List Val)) (from : IsPermutation (flow (query_of given.source.parts) tables).rows rows) where
          from_flow : IsPermutation (flow (front query) tables).rows rows
          from_flow = subst (λ (s : Specification). IsPermutation (flow s tables).rows rows) given.before_is from

          rows_few : 1 ≤ length query.functions → length rows < 10 ^ 18
          rows_few some = let less = few some in let same = length_permutation (flow (front query) tables).rows rows from_flow in omega (arith, less, same)

          pub keys_ok : AllByRecursion (λ (k : List Val). AreStored (key_columns query) k) (keys (length query.columns) rows)
          keys_ok =
              all_more (IsTypedKey query) (λ (k : List Val). AreStored (key_columns query) k) (keys n rows) (λ k h. key_stored 0 query.columns k h) (keys_typed query whole tables loaded rows from_flow)

          -- where there is no set function, there is no value
          values_typed_at : AllByRecursion (λ (k : List Val). (vs : List Val) → function_values n kinds (members n k rows) ≡ Ok vs → AreTypedValues query vs) (keys n rows)
          values_typed_at = by_count query.functions refl
            where
              none_come : (fs : List SetFunction) → query.functions ≡ fs → fs ≡ [] → (k vs : List Val) → function_values n kinds (members n k rows) ≡ Ok vs → AreTypedValues query vs
              none_come fs is empty k vs come =
                  let none : query.functions ≡ [] = is ∙ empty in
                  let values_none : vs ≡ [] = one_result vs (sym (ap (λ (l : List SetFunction). function_values n (kinds_of l) (members n k rows)) none) ∙ come) in
                  subst (λ (l : List SetFunction). IsRowOf (map type_kind (map type_of_function l)) vs) (sym none) (subst (λ (l : List Val). IsRowOf [] l) (sym values_none) tt)

              each : (ks : List (List Val)) → query.functions ≡ [] → AllByRecursion (λ (k : List Val). (vs : List Val) → function_values n kinds (members n k rows) ≡ Ok vs → AreTypedValues query vs) ks
              each [] none = tt
              each (k ∷ ks) none = ((λ vs come. none_come [] none refl k vs come), each ks none)

              by_count : (fs : List SetFunction) → query.functions ≡ fs → AllByRecursion (λ (k : List Val). (vs : List Val) → function_values n kinds (members n k rows) ≡ Ok vs → AreTypedValues query vs) (keys n rows)
              by_count [] is = each (keys n rows) is
              by_count (f ∷ fs) is =
                  let some : 1 ≤ length query.functions = subst (λ (l : List SetFunction). 1 ≤ length l) (sym is) (omega arith) in
                  values_typed query whole tables loaded rows from_flow (sized_sources given) some_column (rows_few some)

          pub values_ok : AllByRecursion (λ (k : List Val). (vs : List Val) → function_values (length query.columns) (kinds_of query.functions) (members (length query.columns) k rows) ≡ Ok vs → AreRead (value_columns query) vs) (keys (length query.columns) rows)
          values_ok =
              all_more (λ (k : List Val). (vs : List Val) → function_values n kinds (members n k rows) ≡ Ok vs → AreTypedValues query vs) (λ (k : List Val). (vs : List Val) → function_values n kinds (members n k rows) ≡ Ok vs → AreRead (value_columns query) vs) (keys n rows)
              (λ k typed vs come. values_read (length query.columns) query.functions vs (kinds_have query.functions arguments_have) (typed vs come) (values_utf8 query whole tables loaded (sized_sources given) (arguments_utf8 given) rows from_flow k vs come)) values_typed_at

        -- ---- all of it
        abbrev IsKept : (most N : ℕ) → Type 0
        IsKept pages N = IsGroupBounded T (front_count given.source) given.source.columns (texts_of_grouped parts) (front_words given.source) (front_at given.source) (table_of (entries_of (query_of given.source.parts).sources)) given.source.building given.source.last
            (folded_query given) given.source.group (key_columns query) (value_columns query) (λ raised. IsTold (whole_outcome (asked_whole query) tables) raised) given_up pages N tables

        pub group_kept : IsKept (whole_pages (asked_whole query) tables) (1 + whole_units (asked_whole query) tables)
        group_kept =
            let cells = ap (λ (c : ℕ). length (rows_behind query planned) * row_size c) (items_long given) in
            subst₂ IsKept pages_are units_are
            (group_bounded row_is value_is given.source (folded_query given) some_column row_less widest_kept widest_low (omega (arith, items_long given)) (omega arith) (omega arith) T room (key_columns query) (value_columns query) together tables (loaded_front given tables loaded)
            (λ raised. IsTold (whole_outcome (asked_whole query) tables) raised) from_front (group_units general_hashing query planned) (group_octets query planned) units_low octets_low stored_kept 1 units_kept (omega arith) (omega arith) (omega arith)
            (few_spec few) from_walk keys_ok values_ok (length (rows_behind query planned)) rows_low (omega (arith, cells)))
