-- Bounds of a query over one table.
use Rattle.std.proofs.Common.{◌≡◌, ◌∙◌, ℕ, ◌+◌, ◌-◌, ◌*◌, ◌/◌, ◌≤◌, max, true, not, List, [], ◌∷◌, ◌++◌, length, sum_by, refl, ap, ap₂, arith, append-nil}
use Rattle.std.specs.List.{AllByRecursion, filter as filter_list}
use Rattle.std.proofs.lemmas.List.Sums.{sum_by-cons}
use Rattle.qw_types.specs.Contents.{rows_of}
use Rattle.qw_types.specs.declared.value.Val.{Val}
use Rattle.qw_linear.specs.Memory.{page}
use Rattle.qw_scalar.specs.Evaluation.{at_row}
use Rattle.qw_scalar.specs.Expression.{Condition, Expression}
use Rattle.qw_scalar.specs.Units.{units_of, units_of_all, units_of_items}
use Rattle.qw_meaning.specs.Flow.{Flow, each, kept, selected}
use Rattle.qw_meaning.specs.From.{entry_flow, from_sources}
use Rattle.qw_meaning.specs.Outcome.{flow}
use Rattle.qw_meaning.specs.Select.{AreOfEntries, Entry, IsSpecification, Specification, alone}
use Rattle.qw_algebra.specs.Columns.{condition_names_column}
use Rattle.qw_algebra.specs.Node.{Node, scan, filter, project, node_flow}
use Rattle.qw_algebra.specs.Written.{written}
use Rattle.qw_algebra.proofs.Flows.{each_none}
use Rattle.qw_pipe.specs.General.{general_hashing}
use Rattle.qw_pipe.specs.Units.{made_units, tested_units}
use Rattle.qw_pipe.specs.Units as pipe
use Rattle.qw_rewrite.specs.Placed.{IsSizedPlan}
use Rattle.qw_rewrite.specs.Sift.{are_quiet, moved, stayed}
use Rattle.qw_rewrite.proofs.Grounds.{flow_of_query}
use Rattle.qw_rewrite.proofs.Moved.{moved_all, stayed_all}
use Rattle.qw_rewrite.proofs.Sifting.{all_front}
use Rattle.qw_map.specs.Layout.{row_size}
use Rattle.qw_compile.specs.PlannedQueries.{page_bound, placed, units}

-- a query over one table
abbrev pub over : Entry → List Condition → List Expression → Specification
over entry conjuncts items = record { sources = alone entry ∷ []; conjuncts = conjuncts; items = items }

none_sum : (f : List Val → ℕ) (xs : List (List Val)) → ((x : List Val) → f x ≡ 0) → sum_by f xs ≡ 0
none_sum f [] none = refl
none_sum f (x ∷ xs) none = let rest = none_sum f xs none in omega (arith, sum_by-cons f x xs, none x, rest)

-- ---- conjuncts that all go to the scan

all_named : (cs : List Condition) → AllByRecursion (λ c. condition_names_column c ≡ true) cs → filter_list condition_names_column cs ≡ cs
all_named [] h = refl
all_named (c ∷ cs) h = rw h.0 (ap (λ (rest : List Condition). c ∷ rest) (all_named cs h.1))

none_unnamed : (cs : List Condition) → AllByRecursion (λ c. condition_names_column c ≡ true) cs → filter_list (λ c. not (condition_names_column c)) cs ≡ []
none_unnamed [] h = refl
none_unnamed (c ∷ cs) h = rw h.0 (none_unnamed cs h.1)

all_moved : (cs : List Condition) → are_quiet cs ≡ true → AllByRecursion (λ c. condition_names_column c ≡ true) cs → moved true cs ≡ cs
all_moved cs quiet named = ap (filter_list condition_names_column) (all_front cs quiet).0 ∙ all_named cs named

none_stay : (cs : List Condition) → are_quiet cs ≡ true → AllByRecursion (λ c. condition_names_column c ≡ true) cs → stayed true cs ≡ []
none_stay cs quiet named =
    let front = all_front cs quiet in
    ap₂ (λ (xs ys : List Condition). filter_list (λ c. not (condition_names_column c)) xs ++ ys) front.0 front.1 ∙ append-nil (filter_list (λ c. not (condition_names_column c)) cs) ∙ none_unnamed cs named

abbrev plan : List Expression → (stay go : List Condition) → (table : ℕ) → Node
plan items stay go table = project (filter stay (filter go (scan 0 table))) items

pub units_at_scan : (tables : List (List (List Val))) (entry : Entry) (conjuncts : List Condition) (items : List Expression) → are_quiet conjuncts ≡ true
    → AllByRecursion (λ c. condition_names_column c ≡ true) conjuncts
    → units (over entry conjuncts items) tables
    ≡ length (rows_of tables entry.table) + length (flow (over entry conjuncts items) tables).rows
    + (sum_by (λ (row : List Val). units_of_all conjuncts (at_row row)) (from_sources (alone entry ∷ []) tables).rows
    + sum_by (λ (row : List Val). units_of_items items (at_row row)) (each (kept conjuncts) (from_sources (alone entry ∷ []) tables)).rows)
units_at_scan tables entry conjuncts items quiet named =
    let all : Flow (List Val) = from_sources (alone entry ∷ []) tables in
    let whole : units (over entry conjuncts items) tables ≡ pipe.units_of general_hashing tables (plan items [] conjuncts entry.table) + length (node_flow tables (plan items [] conjuncts entry.table)).rows =
    ap₂ (λ (stay go : List Condition). pipe.units_of general_hashing tables (plan items stay go entry.table) + length (node_flow tables (plan items stay go entry.table)).rows) (none_stay conjuncts quiet named)
    (append-nil (moved true conjuncts) ∙ all_moved conjuncts quiet named) in
    let none : tested_units [] (each (kept conjuncts) all).rows ≡ 0 = none_sum (λ (row : List Val). units_of_all [] (at_row row)) (each (kept conjuncts) all).rows (λ row. refl) in
    let made : made_units items (each (kept []) (each (kept conjuncts) all)).rows + length (each (selected items) (each (kept []) (each (kept conjuncts) all))).rows
    ≡ made_units items (each (kept conjuncts) all).rows + length (each (selected items) (each (kept conjuncts) all)).rows =
    ap (λ (f : Flow (List Val)). made_units items f.rows + length (each (selected items) f).rows) (each_none (each (kept conjuncts) all)) in
    omega (arith, whole, none, made)

-- ---- queries that compare no texts

nothing_compared : (cs : List Condition) → ((row : List Val) → units_of_all cs (at_row row) ≡ 0) → AllByRecursion (λ c. (row : List Val) → units_of c (at_row row) ≤ 0) cs
nothing_compared [] h = tt
nothing_compared (c ∷ cs) h = ((λ row. let both = h row in omega (arith, both)), nothing_compared cs (λ row. let both = h row in omega (arith, both)))

none_compared : (cs : List Condition) (row : List Val) → AllByRecursion (λ c. (row : List Val) → units_of c (at_row row) ≤ 0) cs → units_of_all cs (at_row row) ≡ 0
none_compared [] row h = refl
none_compared (c ∷ cs) row h = let first = h.0 row in let rest = none_compared cs row h.1 in omega (arith, first, rest)

pub units_without_texts : (tables : List (List (List Val))) (entry : Entry) (conjuncts : List Condition) (items : List Expression) → IsSpecification (over entry conjuncts items)
    → AreOfEntries (entry ∷ []) tables → IsSizedPlan (written (over entry conjuncts items)) → ((row : List Val) → units_of_all conjuncts (at_row row) ≡ 0) → ((row : List Val) → units_of_items items (at_row row) ≡ 0)
    → units (over entry conjuncts items) tables ≡ length (rows_of tables entry.table) + length (flow (over entry conjuncts items) tables).rows
units_without_texts tables entry conjuncts items whole of sized conjuncts_none items_none =
    let query : Specification = over entry conjuncts items in
    let P : Condition → Type 0 = λ c. (row : List Val) → units_of c (at_row row) ≤ 0 in
    let parts : AllByRecursion P conjuncts = nothing_compared conjuncts conjuncts_none in
    let go : List Condition = moved true conjuncts ++ [] in
    let stay : List Condition = stayed true conjuncts in
    let scanned : Flow (List Val) = entry_flow tables 0 entry.table in
    let moves : AllByRecursion P (moved true conjuncts) = moved_all P true conjuncts parts in
    let stays : AllByRecursion P stay = stayed_all P true conjuncts parts in
    let first : tested_units go scanned.rows ≡ 0 =
    ap (λ (cs : List Condition). tested_units cs scanned.rows) (append-nil (moved true conjuncts))
    ∙ none_sum (λ (row : List Val). units_of_all (moved true conjuncts) (at_row row)) scanned.rows (λ row. none_compared (moved true conjuncts) row moves) in
    let second : tested_units stay (each (kept go) scanned).rows ≡ 0 =
    none_sum (λ (row : List Val). units_of_all stay (at_row row)) (each (kept go) scanned).rows (λ row. none_compared stay row stays) in
    let third : sum_by (λ (row : List Val). units_of_items items (at_row row)) (each (kept stay) (each (kept go) scanned)).rows ≡ 0 =
    none_sum (λ (row : List Val). units_of_items items (at_row row)) (each (kept stay) (each (kept go) scanned)).rows items_none in
    let rows : length (node_flow tables (placed query)).rows ≡ length (flow query tables).rows = ap (λ (f : Flow (List Val)). length f.rows) (flow_of_query query tables (placed query) whole of sized refl) in
    let scans : length (rows_of tables entry.table) ≡ length (rows_of tables entry.table) = refl in
    omega (arith, first, second, third, rows, scans)

-- ---- pages

pub pages_of_rows : (tables : List (List (List Val))) (entry : Entry) (conjuncts : List Condition) (items : List Expression) → IsSpecification (over entry conjuncts items)
    → AreOfEntries (entry ∷ []) tables → IsSizedPlan (written (over entry conjuncts items))
    → page_bound (over entry conjuncts items) tables ≡ 2 + length (flow (over entry conjuncts items) tables).rows * row_size (length items) / (page - row_size (length items))
pages_of_rows tables entry conjuncts items whole of sized =
    let query : Specification = over entry conjuncts items in
    let rows : length (node_flow tables (placed query)).rows ≡ length (flow query tables).rows = ap (λ (f : Flow (List Val)). length f.rows) (flow_of_query query tables (placed query) whole of sized refl) in
    let none : (n : ℕ) → 0 + n ≡ n = λ n. omega arith in
    let greatest : (n : ℕ) → max n 0 ≡ n = λ n. omega arith in
    ap₂ (λ (n size : ℕ). 2 + n / (page - size)) (none (length (node_flow tables (placed query)).rows * row_size (length items)) ∙ ap (λ (n : ℕ). n * row_size (length items)) rows) (greatest (row_size (length items)))
