-- The bounds of a query are those of its well placed plan.
use Rattle.std.proofs.Common.{arith, ◌≡◌, ℕ, ◌+◌, ◌*◌, sum_by, true, false, Bool, List, length, map, refl, sym, ap, ap₂}
use Rattle.std.proofs.lemmas.List.{length-map}
use Rattle.qw_types.specs.declared.value.Val.{Val}
use Rattle.qw_meaning.specs.Flow.{each, kept}
use Rattle.qw_meaning.specs.Select.{Specification}
use Rattle.qw_grouped.specs.Grouped.{Grouped, SetFunction, front, kinds_of}
use Rattle.qw_grouped.specs.Groups.{groups, key_of}
use Rattle.qw_grouped.specs.Whole.{Body, Whole, grouped, plain}
use Rattle.qw_pipe.specs.General.{general_hashing}
use Rattle.qw_pipe.specs.Octets as joins
use Rattle.qw_pipe.specs.Units.{made_units, tested_units}
use Rattle.qw_plan.specs.Placed.{placed_plan}
use Rattle.qw_plan.specs.Plan.{Plan, rows, written}
use Rattle.qw_plan.specs.Stages.{select_of}
use Rattle.qw_plan.specs.Widths.{plan_width}
use Rattle.qw_compile.specs.PlannedQueries.{kept_by, placed, planned_units}
use Rattle.qw_layout.specs.Row.{entry_size}
use Rattle.qw_whole.specs.GroupTables.{all_groups, chosen_units, distinct_octets, distinct_size, distinct_units, group_keys, group_octets, group_size, read_units, rows_behind, table_octets, table_units}
use Rattle.qw_whole.specs.PlanBounds.{columns_kept, plan_pages, plan_rows, plan_taken, plan_units}
use Rattle.qw_whole.specs.WholePromises.{Taken, body_units, one_more, pages_for, planned_rows, result_rows, taken, taken_by_joins, units_before, whole_pages, whole_units}
use Rattle.qw_whole.proofs.PlanColumns.{greatest_same, kept_same, octets_same}

abbrev pub plan_of : Whole → Plan
plan_of query = placed_plan (written (select_of query))

-- ---- units
shuffle : (u a b c d e : ℕ) → u + (a + b + c + d + e) ≡ (u + (a + b + c)) + (d + e)
shuffle u a b c d e = omega arith

grouped_units : (query : Grouped) (tables : List (List (List Val))) → body_units (grouped query) tables ≡ plan_units general_hashing tables (plan_of (record { body = grouped query; distinct = false }))
grouped_units query tables =
    let rs : List (List Val) = planned_rows (front query) tables in
    let n : ℕ = length query.columns in
    let functions = kinds_of query.functions in
    shuffle (planned_units (front query) tables) (table_units general_hashing (group_keys n rs) (map (key_of n) rs)) (sum_by (chosen_units n functions) rs) (length (groups n rs) * read_units functions)
    (tested_units query.having (all_groups query rs).rows) (made_units query.items (each (kept query.having) (all_groups query rs)).rows)

units_by_body : (body : Body) (is_distinct : Bool) (tables : List (List (List Val)))
    → units_before (record { body = body; distinct = is_distinct }) tables ≡ plan_units general_hashing tables (plan_of (record { body = body; distinct = is_distinct }))
units_by_body (plain specification) false tables = refl
units_by_body (plain specification) true tables = refl
units_by_body (grouped query) false tables = grouped_units query tables
units_by_body (grouped query) true tables = ap (λ (n : ℕ). n + distinct_units general_hashing (rows_behind query (planned_rows (front query) tables))) (grouped_units query tables)

-- the rows of the result are those that the plan makes
rows_by_body : (body : Body) (is_distinct : Bool) (tables : List (List (List Val)))
    → result_rows (record { body = body; distinct = is_distinct }) tables ≡ plan_rows tables (plan_of (record { body = body; distinct = is_distinct }))
rows_by_body (plain specification) false tables = refl
rows_by_body (plain specification) true tables = refl
rows_by_body (grouped query) false tables = refl
rows_by_body (grouped query) true tables = refl

pub same_units : (query : Whole) (tables : List (List (List Val)))
    → whole_units query tables ≡ plan_units general_hashing tables (placed_plan (written (select_of query))) + length (plan_rows tables (placed_plan (written (select_of query))))
same_units query tables =
    ap₂ (λ (n : ℕ) (made : List (List Val)). n + length made) (units_by_body query.body query.distinct tables) (rows_by_body query.body query.distinct tables)

-- ---- pages
few_kinds : (query : Grouped) → length (kinds_of query.functions) ≡ length query.functions
few_kinds query = length-map query.functions (λ (f : SetFunction). f.kind)

joins_taken : (specification : Specification) (tables : List (List (List Val))) → taken_by_joins specification tables ≡ plan_taken tables (rows (placed specification))
joins_taken specification tables =
    let same : (entries : List ℕ) → kept_by specification entries ≡ columns_kept (placed specification) entries = λ entries. sym (kept_same specification entries) in
    ap₂ (λ (octets greatest : ℕ). record { tables = joins.table_count (placed specification); octets = octets; greatest = greatest })
    (octets_same (kept_by specification) (columns_kept (placed specification)) same tables (placed specification))
    (greatest_same (kept_by specification) (columns_kept (placed specification)) same (placed specification))

-- with a table of groups
grouped_taken : (query : Grouped) (tables : List (List (List Val)))
    → one_more (taken_by_joins (front query) tables) (group_octets query (planned_rows (front query) tables)) (group_size query)
    ≡ plan_taken tables (plan_of (record { body = grouped query; distinct = false }))
grouped_taken query tables =
    let count : ℕ = length (groups (length query.columns) (planned_rows (front query) tables)) in
    ap₂ (λ (t : Taken) (size : ℕ). one_more t (table_octets size count) size) (joins_taken (front query) tables) (ap (λ (n : ℕ). entry_size (length query.columns) 0 n) (sym (few_kinds query)))

taken_by_cases : (body : Body) (is_distinct : Bool) (tables : List (List (List Val)))
    → taken (record { body = body; distinct = is_distinct }) tables ≡ plan_taken tables (plan_of (record { body = body; distinct = is_distinct }))
taken_by_cases (plain specification) false tables = joins_taken specification tables
taken_by_cases (plain specification) true tables =
    let n : ℕ = length specification.items in
    ap (λ (t : Taken). one_more t (distinct_octets n (planned_rows specification tables)) (distinct_size n)) (joins_taken specification tables)
taken_by_cases (grouped query) false tables = grouped_taken query tables
taken_by_cases (grouped query) true tables =
    let n : ℕ = length query.items in
    ap (λ (t : Taken). one_more t (distinct_octets n (rows_behind query (planned_rows (front query) tables))) (distinct_size n)) (grouped_taken query tables)

pub same_taken : (query : Whole) (tables : List (List (List Val))) → taken query tables ≡ plan_taken tables (placed_plan (written (select_of query)))
same_taken query tables = taken_by_cases query.body query.distinct tables

abbrev pages_with : Whole → (tables : List (List (List Val))) → Taken → ℕ
pages_with query tables t = pages_for t (length (plan_rows tables (plan_of query))) (plan_width (plan_of query))

pages_by_body : (body : Body) (is_distinct : Bool) (tables : List (List (List Val)))
    → whole_pages (record { body = body; distinct = is_distinct }) tables ≡ plan_pages tables (plan_of (record { body = body; distinct = is_distinct }))
pages_by_body (plain specification) false tables = ap (pages_with (record { body = plain specification; distinct = false }) tables) (taken_by_cases (plain specification) false tables)
pages_by_body (plain specification) true tables = ap (pages_with (record { body = plain specification; distinct = true }) tables) (taken_by_cases (plain specification) true tables)
pages_by_body (grouped query) false tables = ap (pages_with (record { body = grouped query; distinct = false }) tables) (taken_by_cases (grouped query) false tables)
pages_by_body (grouped query) true tables = ap (pages_with (record { body = grouped query; distinct = true }) tables) (taken_by_cases (grouped query) true tables)

pub same_pages : (query : Whole) (tables : List (List (List Val))) → whole_pages query tables ≡ plan_pages tables (placed_plan (written (select_of query)))
same_pages query tables = pages_by_body query.body query.distinct tables
