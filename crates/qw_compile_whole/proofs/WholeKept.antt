-- The pipelines that are made of a query with DISTINCT keep what is promised of it: the rows of its select list go into groups over all their columns, and the
-- walk over the groups makes each of them once (ISO/IEC 9075:1992, 7.9).
use Rattle.std.proofs.Common.{◌≡◌, ◌∙◌, ◌≤◌, ◌<◌, ℕ, ◌+◌, ◌-◌, ◌*◌, ◌/◌, ◌^◌, max, true, false, inl, List, [], ◌∷◌, length, map, Result, Ok, refl, sym, ap, subst, ⊎_elim, arith}
use Rattle.std.specs.List.{AllByRecursion, AllZip}
use Rattle.std.specs.List.Sorted.{IsPermutation}
use Rattle.std.proofs.ByRecursion.{all_shuffled}
use Rattle.std.proofs.lemmas.List.{length-map}
use Rattle.std.proofs.lemmas.List.Sorted.{IsPermutation-sym, length_permutation}
use Rattle.std.specs.declared.cmp.Ordering.TheVariants as ordering
use Rattle.qw_types.specs.ValueOrder.{is_same_row, value_order}
use Rattle.qw_types.specs.declared.code.Code.{Code}
use Rattle.qw_types.specs.declared.value.Val.{Val}
use Rattle.qw_linear.specs.Memory.{page}
use Rattle.qw_layout.specs.Row.{entry_size}
use Rattle.qw_scalar.specs.Expression.{Expression}
use Rattle.qw_scalar.specs.Typing.{kind_of}
use Rattle.qw_meaning.specs.Flow.{Flow}
use Rattle.qw_meaning.specs.Outcome.{IsSameOutcome, Outcome, Rows, ended, flow}
use Rattle.qw_meaning.specs.Query.{query_of}
use Rattle.qw_meaning.specs.Select.{AreOfEntries, Specification, entries_of}
use Rattle.qw_rewrite.proofs.Grounds.{flow_of_query}
use Rattle.qw_grouped.specs.Grouped.{Grouped, expression_of_column, kinds_of, widest}
use Rattle.qw_grouped.specs.Groups.{function_values, keys, members, once}
use Rattle.qw_grouped.specs.Whole.{Whole, plain, whole_outcome}
use Rattle.qw_grouped.proofs.GroupLemmas.{once_permuted}
use Rattle.qw_grouped.proofs.TypedGroups.{all_once}
use Rattle.qw_meaning.proofs.ListLemmas.{all_more}
use Rattle.qw_pipe.specs.General.{general_hashing}
use Rattle.qw_pipe.specs.Octets.{greatest_entry, table_octets}
use Rattle.qw_map.specs.Layout.{Layout, row_size}
use Rattle.qw_feed.specs.Feeds.{Tells}
use Rattle.qw_physical.proofs.Orders.{Alike}
use Rattle.qw_operator.proofs.PairRows.{AreStored, IsHeld}
use Rattle.qw_operator.proofs.Stood.{Stood}
use Rattle.qw_emit.proofs.Answered.{IsTold}
use Rattle.qw_group_pipeline.proofs.ValuesCome.{AreRead}
use Rattle.qw_compile.specs.PlannedQueries.{kept_by, placed}
use Rattle.qw_compile.proofs.Greatest.{greatest_small}
use Rattle.qw_compile.proofs.PipelineRuns.{AreStood, fed_over}
use Rattle.qw_compile.proofs.QueryReach.{table_of}
use Rattle.qw_whole.specs.GroupTables.{distinct_octets, distinct_size, distinct_units, group_octets, group_size, group_units}
use Rattle.qw_whole.specs.WholePromises.{planned_rows, whole_pages, whole_units}
use Rattle.qw_whole.proofs.GrowingTables.{distinct_keys}
use Rattle.qw_whole.proofs.PermutedTables.{distinct_octets_permuted, distinct_permuted}
use Rattle.qw_compile_whole.specs.WholeDistinct.{distinct_columns, distinct_grouping}
use Rattle.qw_compile_whole.specs.GroupColumns.{key_from}
use Rattle.qw_compile_whole.proofs.WholeBehind.{behind_once, columns_many, octets_once, rows_long, units_once}
use Rattle.qw_compile_whole.proofs.GroupBounded.{GoTogether, IsGroupBounded, walked_of}
use Rattle.qw_compile_whole.proofs.GroupCore.{group_bounded}
use Rattle.qw_compile_whole.proofs.GroupPlanned.{built_many, fed_alike}
use Rattle.qw_compile_whole.proofs.GroupReach.{most}
use Rattle.qw_compile_whole.proofs.GroupTold.{none_left, told_any}
use Rattle.qw_compile_whole.proofs.FrontLed.{FrontOf, front_at, front_count, front_words, literals_over}

abbrev pub asked_once : Specification → Whole
asked_once query = record { body = plain query; distinct = true }

pub refused_alone : (out : Outcome) (raised : ℕ) → Tells [] raised → IsTold out raised
refused_alone out raised tells = ⊎_elim inl (λ it. absurd (omega (arith, it.1.1))) tells

-- ---- keys
pub stored_row : (n m : ℕ) (items : List Expression) (row : List Val) → AllZip (λ (e : Expression) (v : Val). IsHeld (widest (kind_of e)) false v) items row → AreStored (key_from n (distinct_columns m items)) row
stored_row n m [] [] h = tt
stored_row n m [] (v ∷ row) h = absurd h
stored_row n m (e ∷ items) [] h = absurd h
stored_row n m (e ∷ items) (v ∷ row) h = (h.0, stored_row (n + 1) (m + 1) items row h.1)

pub no_values : (vs : List Val) → (let r : Result (List Val) Code = Ok [] in r) ≡ Ok vs → AreRead [] vs
no_values [] e = tt
no_values (v ∷ vs) e = absurd cc

module _ (row_is : (row other : List Val) → is_same_row row other ≡ true → row ≡ other) (value_is : (a : Val) → value_order a a ≡ ordering.Equal)
    {texts : List (List ℕ)} {layout : Layout} (source : FrontOf texts layout) where
  abbrev spec : Specification
  spec = query_of source.parts

  abbrev cells : ℕ
  cells = length (query_of source.parts).items

  many : length (distinct_columns 0 (query_of source.parts).items) ≡ length (query_of source.parts).items
  many = columns_many 0 (query_of source.parts).items

  some_item : 1 ≤ length (query_of source.parts).items
  some_item = source.are.specification.some_item

  -- what may be given up of a page
  abbrev pub given_up_once : ℕ
  given_up_once = page - max (row_size (length (query_of source.parts).items)) (max (distinct_size (length (query_of source.parts).items)) (greatest_entry (kept_by (query_of source.parts)) (placed (query_of source.parts))))

  size_is : group_size (distinct_grouping (query_of source.parts)) ≡ distinct_size (length (query_of source.parts).items)
  size_is = ap (λ (n : ℕ). entry_size n 0 0) many

  cells_are : length (map expression_of_column (distinct_columns 0 (query_of source.parts).items)) ≡ length (query_of source.parts).items
  cells_are = length-map (distinct_columns 0 (query_of source.parts).items) expression_of_column ∙ many

  row_less : 8 + 16 * length (query_of source.parts).items ≤ group_size (distinct_grouping (query_of source.parts))
  row_less = let same = size_is in less (length spec.items) (group_size (distinct_grouping spec)) same
    where
      less : (c s : ℕ) → s ≡ 24 + 16 * (c + 0) + 32 * 0 → 8 + 16 * c ≤ s
      less c s e = omega (arith, e)

  widest_low : max (row_size (length (query_of source.parts).items)) (max (distinct_size (length (query_of source.parts).items)) (greatest_entry (kept_by (query_of source.parts)) (placed (query_of source.parts)))) ≤ 24216
  widest_low = low (length spec.items) (greatest_entry (kept_by spec) (placed spec)) (greatest_small spec source.are.specification) source.are.specification.few_items
    where
      low : (c e : ℕ) → max (8 + 16 * c) e ≤ 24216 → c ≤ 512 → max (8 + 16 * c) (max (24 + 16 * (c + 0) + 32 * 0) e) ≤ 24216
      low c e a b = omega (arith, a, b)

  module _ (T : ℕ) (room : length source.ps ≤ T) (together : GoTogether (distinct_grouping (query_of source.parts)) source.group (key_from 0 (distinct_columns 0 (query_of source.parts).items)) [] (literals_over source T))
      (tables : List (List (List Val))) (loaded : AreOfEntries (entries_of (query_of source.parts).sources) tables)
      (held : AllByRecursion (λ (row : List Val). AllZip (λ (e : Expression) (v : Val). IsHeld (widest (kind_of e)) false v) (query_of source.parts).items row) (flow (query_of source.parts) tables).rows) where
    abbrev asked : Grouped
    asked = distinct_grouping (query_of source.parts)

    abbrev planned : List (List Val)
    planned = planned_rows (query_of source.parts) tables

    no_function : 1 ≤ length asked.functions → length (flow (query_of source.parts) tables).rows < 10 ^ 18
    no_function some = absurd (let none : 1 ≤ 0 = some in omega (arith, none))

    planned_are : planned_rows (query_of source.parts) tables ≡ (flow (query_of source.parts) tables).rows
    planned_are = ap (λ (f : Flow (List Val)). f.rows) (flow_of_query (query_of source.parts) tables (placed (query_of source.parts)) source.are.specification loaded source.of.sized refl)

    -- ---- rows in another order
    module _ (rows : List (List Val)) (from : IsPermutation (flow (query_of source.parts) tables).rows rows) where
      long : AllByRecursion (λ (r : List Val). length r ≡ length (query_of source.parts).items) rows
      long = all_shuffled (λ (r : List Val). length r ≡ length (query_of source.parts).items) (flow (query_of source.parts) tables).rows rows from (rows_long (query_of source.parts) tables)

      keys_are_once : keys (length (distinct_columns 0 (query_of source.parts).items)) rows ≡ once rows
      keys_are_once = ap (λ (n : ℕ). keys n rows) many ∙ distinct_keys (length (query_of source.parts).items) rows long

      keys_ok : AllByRecursion (λ (k : List Val). AreStored (key_from 0 (distinct_columns 0 (query_of source.parts).items)) k) (keys (length (distinct_columns 0 (query_of source.parts).items)) rows)
      keys_ok =
          subst (AllByRecursion (λ (k : List Val). AreStored (key_from 0 (distinct_columns 0 (query_of source.parts).items)) k)) (sym keys_are_once)
          (all_more (λ (row : List Val). AllZip (λ (e : Expression) (v : Val). IsHeld (widest (kind_of e)) false v) (query_of source.parts).items row) (λ (k : List Val). AreStored (key_from 0 (distinct_columns 0 (query_of source.parts).items)) k) (once rows)
          (λ k h. stored_row 0 0 (query_of source.parts).items k h)
          (all_once (λ (row : List Val). AllZip (λ (e : Expression) (v : Val). IsHeld (widest (kind_of e)) false v) (query_of source.parts).items row) rows
          (all_shuffled (λ (row : List Val). AllZip (λ (e : Expression) (v : Val). IsHeld (widest (kind_of e)) false v) (query_of source.parts).items row) (flow (query_of source.parts) tables).rows rows from held)))

      values_ok : AllByRecursion (λ (k : List Val). (vs : List Val) → function_values (length (distinct_columns 0 (query_of source.parts).items)) (kinds_of asked.functions) (members (length (distinct_columns 0 (query_of source.parts).items)) k rows) ≡ Ok vs → AreRead [] vs)
          (keys (length (distinct_columns 0 (query_of source.parts).items)) rows)
      values_ok = each (keys (length (distinct_columns 0 (query_of source.parts).items)) rows)
        where
          each : (ks : List (List Val)) → AllByRecursion (λ (k : List Val). (vs : List Val) → function_values (length (distinct_columns 0 (query_of source.parts).items)) (kinds_of asked.functions) (members (length (distinct_columns 0 (query_of source.parts).items)) k rows) ≡ Ok vs → AreRead [] vs) ks
          each [] = tt
          each (k ∷ ks) = (no_values, each ks)

    from_planned : (rows : List (List Val)) → IsPermutation rows (planned_rows (query_of source.parts) tables) → IsPermutation (flow (query_of source.parts) tables).rows rows
    from_planned rows p = subst (λ (rs : List (List Val)). IsPermutation rs rows) planned_are (IsPermutation-sym rows planned p)

    units_low : (rows : List (List Val)) → IsPermutation rows (planned_rows (query_of source.parts) tables) → group_units general_hashing (distinct_grouping (query_of source.parts)) rows ≤ distinct_units general_hashing (planned_rows (query_of source.parts) tables)
    units_low rows p =
        less (group_units general_hashing asked rows) (distinct_units general_hashing rows) (distinct_units general_hashing planned) (units_once (query_of source.parts) some_item rows (long rows (from_planned rows p)) general_hashing) (distinct_permuted general_hashing rows planned p)
      where
        less : (a b c : ℕ) → a ≡ b → b ≡ c → a ≤ c
        less a b c e f = omega (arith, e, f)

    octets_low : (rows : List (List Val)) → IsPermutation rows (planned_rows (query_of source.parts) tables) → group_octets (distinct_grouping (query_of source.parts)) rows ≤ distinct_octets (length (query_of source.parts).items) (planned_rows (query_of source.parts) tables)
    octets_low rows p =
        less (group_octets asked rows) (distinct_octets (length (query_of source.parts).items) rows) (distinct_octets (length (query_of source.parts).items) planned) (octets_once (query_of source.parts) some_item rows (long rows (from_planned rows p))) (distinct_octets_permuted (length (query_of source.parts).items) rows planned p)
      where
        less : (a b c : ℕ) → a ≡ b → b ≡ c → a ≤ c
        less a b c e f = omega (arith, e, f)

    rows_low : (rows : List (List Val)) → IsPermutation rows (planned_rows (query_of source.parts) tables) → length (walked_of (distinct_grouping (query_of source.parts)) rows).rows ≤ length (once (planned_rows (query_of source.parts) tables))
    rows_low rows p =
        less (length (walked_of asked rows).rows) (length (once rows)) (length (once planned)) (ap (λ (f : Flow (List Val)). length f.rows) (behind_once (query_of source.parts) some_item rows (long rows (from_planned rows p)))) (length_permutation (once rows) (once planned) (once_permuted rows planned p))
      where
        less : (a b c : ℕ) → a ≡ b → c ≡ b → a ≤ c
        less a b c e f = omega (arith, e, f)

    walk_tells : (fed : Flow (List Val)) → Alike fed (flow (query_of source.parts) tables) → fed.codes ≡ [] → (raised : ℕ) → Tells (walked_of (distinct_grouping (query_of source.parts)) fed.rows).codes raised → IsTold (whole_outcome (asked_once (query_of source.parts)) tables) raised
    walk_tells fed alike none raised tells =
        let from = IsPermutation-sym fed.rows (flow (query_of source.parts) tables).rows alike.0 in
        refused_alone (whole_outcome (asked_once (query_of source.parts)) tables) raised (subst (λ (f : Flow (List Val)). Tells f.codes raised) (behind_once (query_of source.parts) some_item fed.rows (long fed.rows from)) tells)

    -- ---- all of it
    abbrev IsKept : (most N : ℕ) → Type 0
    IsKept pages N = IsGroupBounded T (front_count source) source.columns texts (front_words source) (front_at source) (table_of (entries_of (query_of source.parts).sources)) source.building source.last
        (distinct_grouping (query_of source.parts)) source.group (key_from 0 (distinct_columns 0 (query_of source.parts).items)) [] (λ raised. IsTold (whole_outcome (asked_once (query_of source.parts)) tables) raised) given_up_once pages N tables

    abbrev stored_once : ℕ
    stored_once = (table_octets (kept_by (query_of source.parts)) tables (placed (query_of source.parts)) + distinct_octets (length (query_of source.parts).items) (planned_rows (query_of source.parts) tables)) + length (once (planned_rows (query_of source.parts) tables)) * row_size (length (query_of source.parts).items)

    pages_are : most given_up_once stored_once 1 source.building ≡ whole_pages (asked_once (query_of source.parts)) tables
    pages_are = ap (λ (k : ℕ). 2 + 2 * (k + 1) + stored_once / given_up_once) (built_many row_is value_is source)

    pub distinct_kept : IsKept (whole_pages (asked_once (query_of source.parts)) tables) (1 + whole_units (asked_once (query_of source.parts)) tables)
    distinct_kept =
        let same = many in
        let size = size_is in
        let items = cells_are in
        let cells = ap (λ (c : ℕ). length (once planned) * row_size c) cells_are in
        subst (λ (m : ℕ). IsKept m (1 + whole_units (asked_once (query_of source.parts)) tables)) pages_are
        (group_bounded row_is value_is source (distinct_grouping (query_of source.parts)) (omega (arith, same, some_item)) row_less
        (max (row_size (length (query_of source.parts).items)) (max (distinct_size (length (query_of source.parts).items)) (greatest_entry (kept_by (query_of source.parts)) (placed (query_of source.parts))))) widest_low (omega (arith, items)) (omega (arith, size)) (omega arith) T room (key_from 0 (distinct_columns 0 (query_of source.parts).items)) [] together tables loaded
        (λ raised. IsTold (whole_outcome (asked_once (query_of source.parts)) tables) raised) (told_any (flow (query_of source.parts) tables).rows (once (flow (query_of source.parts) tables).rows) (flow (query_of source.parts) tables).codes) (distinct_units general_hashing planned) (distinct_octets (length (query_of source.parts).items) planned) units_low octets_low
        stored_once 1 (1 + whole_units (asked_once (query_of source.parts)) tables) (omega arith) (omega arith) (omega arith) no_function walk_tells keys_ok values_ok (length (once planned)) rows_low (omega (arith, cells)))

    -- the rows of the walk are the query's
    pub distinct_rows : (stoods : List Stood) → AreStood tables [] source.building stoods → (fed_over tables stoods source.last).codes ≡ [] →
        IsSameOutcome (whole_outcome (asked_once (query_of source.parts)) tables) (Rows (walked_of (distinct_grouping (query_of source.parts)) (fed_over tables stoods source.last).rows).rows)
    distinct_rows stoods stood none =
        let fed : Flow (List Val) = fed_over tables stoods source.last in
        let alike = fed_alike row_is value_is source tables loaded stoods stood in
        let from = IsPermutation-sym (fed_over tables stoods source.last).rows (flow (query_of source.parts) tables).rows alike.0 in
        let quiet : (flow (query_of source.parts) tables).codes ≡ [] = none_left (flow (query_of source.parts) tables).codes (subst (λ (cs : List Code). IsPermutation cs (flow (query_of source.parts) tables).codes) none alike.1) in
        let behind = behind_once (query_of source.parts) some_item fed.rows (long fed.rows from) in
        subst (λ (rs : List (List Val)). IsSameOutcome (whole_outcome (asked_once (query_of source.parts)) tables) (Rows rs)) (sym (ap (λ (f : Flow (List Val)). f.rows) behind))
        (subst (λ (cs : List Code). IsSameOutcome (ended (once (flow (query_of source.parts) tables).rows) cs) (Rows (once fed.rows))) (sym quiet) (once_permuted (flow (query_of source.parts) tables).rows fed.rows from))
