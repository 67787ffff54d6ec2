-- DISTINCT as groups: what comes of the groups of rows, over all their columns, are the rows, each once; and that takes the units and the octets that are
-- counted of distinct rows (ISO/IEC 9075:1992, 7.9).
use Rattle.std.proofs.Common.{◌≡◌, ◌∙◌, ◌≤◌, ℕ, zero, suc, ◌+◌, ◌*◌, List, [], ◌∷◌, ◌++◌, length, length-append, map, sum_by, Result, Ok, Err, slice_get, refl, sym, ap, ap₂, subst, append_assoc, append-nil, arith}
use Rattle.std.specs.List.{AllByRecursion, flat_map}
use Rattle.std.proofs.lemmas.List.{take_all}
use Rattle.std.proofs.lemmas.List.Sums.{sum_by-cons}
use Rattle.qw_types.specs.Arithmetic.{◌>>=◌}
use Rattle.qw_types.specs.declared.code.Code.{Code}
use Rattle.qw_types.specs.declared.value.Val.{Val}
use Rattle.qw_layout.specs.Row.{entry_size}
use Rattle.qw_scalar.specs.Evaluation.{Environment, at_row, cell_of, value_of}
use Rattle.qw_scalar.specs.Expression.{Expression}
use Rattle.qw_scalar.specs.Units.{units_of_all, units_of_items}
use Rattle.qw_meaning.specs.Flow.{Flow, codes_given, each, kept, rows_given, selected, values_of}
use Rattle.qw_meaning.specs.From.{from_sources}
use Rattle.qw_meaning.specs.Outcome.{flow}
use Rattle.qw_meaning.specs.Select.{Specification}
use Rattle.qw_grouped.specs.Grouped.{expression_of_column}
use Rattle.qw_grouped.specs.Groups.{Group, behind_front, group_row, grouped_table, groups, key_of, keys, members, once}
use Rattle.qw_grouped.specs.declared.query.GroupedColumn.{GroupedColumn}
use Rattle.qw_grouped.proofs.TypedGroups.{all_once}
use Rattle.qw_meaning.proofs.ListLemmas.{all_flat_map}
use Rattle.qw_pipe.specs.Units.{Hashing, tested_units}
use Rattle.qw_whole.specs.GroupTables.{all_groups, chosen_units, distinct_octets, distinct_units, group_keys, group_octets, group_units, read_units, table_octets, table_units}
use Rattle.qw_whole.proofs.GrowingTables.{distinct_keys}
use Rattle.qw_compile_whole.specs.WholeDistinct.{distinct_columns, distinct_grouping}
use Rattle.qw_compile_whole.proofs.GroupShares.{groups_many, keys_are}

-- ---- columns of a grouped table are the values of its row
pub columns_many : (n : ℕ) (items : List Expression) → length (distinct_columns n items) ≡ length items
columns_many n [] = refl
columns_many n (e ∷ items) = ap suc (columns_many (n + 1) items)

value_here : (front : List Val) (v : Val) (vs : List Val) → cell_of (slice_get (front ++ v ∷ vs) (length front)) ≡ v
value_here [] v vs = refl
value_here (w ∷ front) v vs = value_here front v vs

values_are : (front vs : List Val) (items : List Expression) → length vs ≡ length items → values_of (map expression_of_column (distinct_columns (length front) items)) (at_row (front ++ vs)) ≡ Ok vs
values_are front [] [] same = refl
values_are front [] (e ∷ items) same = absurd (omega (arith, same))
values_are front (v ∷ vs) [] same = absurd (omega (arith, same))
values_are front (v ∷ vs) (e ∷ items) same =
    let less : length vs ≡ length items = omega (arith, same) in
    let count : length (front ++ v ∷ []) ≡ length front + 1 = length-append front (v ∷ []) in
    let rest : values_of (map expression_of_column (distinct_columns (length front + 1) items)) (at_row (front ++ v ∷ vs)) ≡ Ok vs =
    subst (λ (n : ℕ). values_of (map expression_of_column (distinct_columns n items)) (at_row (front ++ v ∷ vs)) ≡ Ok vs) count
    (subst (λ (row : List Val). values_of (map expression_of_column (distinct_columns (length (front ++ v ∷ [])) items)) (at_row row) ≡ Ok vs) (append_assoc front (v ∷ []) vs) (values_are (front ++ v ∷ []) vs items less)) in
    rw (value_here front v vs, rest) refl

selected_is : (items : List Expression) (row : List Val) → length row ≡ length items → selected (map expression_of_column (distinct_columns 0 items)) row ≡ Ok (row ∷ [])
selected_is items row same = ap (λ (r : Result (List Val) Code). r >>= (λ values. let q : Result (List (List Val)) Code = Ok (values ∷ []) in q)) (values_are [] row items same)

-- ---- clauses that leave each row as it is
same_rows : (f : List Val → Result (List (List Val)) Code) (rows : List (List Val)) → AllByRecursion (λ (r : List Val). f r ≡ Ok (r ∷ [])) rows → flat_map (λ (r : List Val). rows_given (f r)) rows ≡ rows
same_rows f [] h = refl
same_rows f (r ∷ rows) h = ap₂ (λ (xs ys : List (List Val)). xs ++ ys) (ap (λ (q : Result (List (List Val)) Code). rows_given q) h.0) (same_rows f rows h.1)

no_codes : (f : List Val → Result (List (List Val)) Code) (rows : List (List Val)) → AllByRecursion (λ (r : List Val). f r ≡ Ok (r ∷ [])) rows → flat_map (λ (r : List Val). codes_given (f r)) rows ≡ []
no_codes f [] h = refl
no_codes f (r ∷ rows) h = ap₂ (λ (xs ys : List Code). xs ++ ys) (ap (λ (q : Result (List (List Val)) Code). codes_given q) h.0) (no_codes f rows h.1)

flow_is : (rows others : List (List Val)) (codes : List Code) → rows ≡ others → codes ≡ [] → (let f : Flow (List Val) = record { rows = rows; codes = codes } in f) ≡ record { rows = others; codes = [] }
flow_is rows others codes e g = ap₂ (λ (rs : List (List Val)) (cs : List Code). let f : Flow (List Val) = record { rows = rs; codes = cs } in f) e g

left_as : (f : List Val → Result (List (List Val)) Code) (rows : List (List Val)) → AllByRecursion (λ (r : List Val). f r ≡ Ok (r ∷ [])) rows → each f (record { rows = rows; codes = [] }) ≡ record { rows = rows; codes = [] }
left_as f rows h = flow_is (flat_map (λ (r : List Val). rows_given (f r)) rows) rows (flat_map (λ (r : List Val). codes_given (f r)) rows) (same_rows f rows h) (no_codes f rows h)

-- ---- the grouped table
groups_are : (n : ℕ) (rows : List (List Val)) → 1 ≤ n → groups n rows ≡ map (λ (key : List Val). record { key = key; rows = members n key rows }) (keys n rows)
groups_are zero rows some = absurd (omega (arith, some))
groups_are (suc n) rows some = refl

keys_back : (n : ℕ) (rows ks : List (List Val)) → flat_map (λ (g : Group). rows_given (group_row n [] g)) (map (λ (key : List Val). let g : Group = record { key = key; rows = members n key rows } in g) ks) ≡ ks
keys_back n rows [] = refl
keys_back n rows (k ∷ ks) = ap₂ (λ (key : List Val) (rest : List (List Val)). key ∷ rest) (append-nil k) (keys_back n rows ks)

none_raised : (n : ℕ) (gs : List Group) → flat_map (λ (g : Group). codes_given (group_row n [] g)) gs ≡ []
none_raised n [] = refl
none_raised n (g ∷ gs) = none_raised n gs

table_is : (n : ℕ) (rows : List (List Val)) → 1 ≤ n → AllByRecursion (λ (r : List Val). length r ≡ n) rows → grouped_table n [] (record { rows = rows; codes = [] }) ≡ record { rows = once rows; codes = [] }
table_is n rows some long =
    flow_is (flat_map (λ (g : Group). rows_given (group_row n [] g)) (groups n rows)) (once rows) (flat_map (λ (g : Group). codes_given (group_row n [] g)) (groups n rows))
    (ap (λ (gs : List Group). flat_map (λ (g : Group). rows_given (group_row n [] g)) gs) (groups_are n rows some) ∙ (keys_back n rows (keys n rows) ∙ distinct_keys n rows long)) (none_raised n (groups n rows))

-- ---- rows of a select list
pub long_values : (items : List Expression) (env : Environment) (vs : List Val) → values_of items env ≡ Ok vs → length vs ≡ length items
long_values [] env vs come = let none : vs ≡ [] = cc in ap (λ (l : List Val). length l) none
long_values (e ∷ items) env vs come = one (value_of e env) (values_of items env) (λ ws is. long_values items env ws is) come
  where
    one : (r : Result Val Code) (q : Result (List Val) Code) → ((ws : List Val) → q ≡ Ok ws → length ws ≡ length items) → (r >>= (λ value. q >>= (λ values. let s : Result (List Val) Code = Ok (value ∷ values) in s))) ≡ Ok vs → length vs ≡ suc (length items)
    one (Ok v) (Ok ws) later made =
        let same : vs ≡ v ∷ ws = cc in
        ap (λ (l : List Val). length l) same ∙ ap suc (later ws refl)
    one (Ok v) (Err code) later made = absurd cc
    one (Err code) q later made = absurd cc

pub rows_long : (query : Specification) (tables : List (List (List Val))) → AllByRecursion (λ (r : List Val). length r ≡ length query.items) (flow query tables).rows
rows_long query tables =
    all_flat_map (λ (r : List Val). Unit {0}) (λ (r : List Val). length r ≡ length query.items) (λ (row : List Val). rows_given (selected query.items row)) (each (kept query.conjuncts) (from_sources query.sources tables)).rows
    (λ row t. one row (values_of query.items (at_row row)) refl) (any (each (kept query.conjuncts) (from_sources query.sources tables)).rows)
  where
    any : (rows : List (List Val)) → AllByRecursion (λ (r : List Val). Unit {0}) rows
    any [] = tt
    any (r ∷ rows) = (tt, any rows)

    one : (row : List Val) (q : Result (List Val) Code) → values_of query.items (at_row row) ≡ q → AllByRecursion (λ (r : List Val). length r ≡ length query.items) (rows_given (q >>= (λ values. let s : Result (List (List Val)) Code = Ok (values ∷ []) in s)))
    one row (Ok vs) is = (long_values query.items (at_row row) vs is, tt)
    one row (Err code) is = tt

-- ---- a query
module _ (query : Specification) (some : 1 ≤ length query.items) where
  many : length (distinct_columns 0 query.items) ≡ length query.items
  many = columns_many 0 query.items

  -- over rows of so many values
  module _ (rows : List (List Val)) (long : AllByRecursion (λ (r : List Val). length r ≡ length query.items) rows) where
    table : grouped_table (length (distinct_columns 0 query.items)) [] (record { rows = rows; codes = [] }) ≡ record { rows = once rows; codes = [] }
    table = subst (λ (n : ℕ). grouped_table n [] (record { rows = rows; codes = [] }) ≡ record { rows = once rows; codes = [] }) (sym many) (table_is (length query.items) rows some long)

    kept_as : (rs : List (List Val)) → AllByRecursion (λ (r : List Val). kept [] r ≡ Ok (r ∷ [])) rs
    kept_as [] = tt
    kept_as (r ∷ rs) = (refl, kept_as rs)

    selected_as : (rs : List (List Val)) → AllByRecursion (λ (r : List Val). length r ≡ length query.items) rs → AllByRecursion (λ (r : List Val). selected (map expression_of_column (distinct_columns 0 query.items)) r ≡ Ok (r ∷ [])) rs
    selected_as [] h = tt
    selected_as (r ∷ rs) h = (selected_is query.items r h.0, selected_as rs h.1)

    -- the rows, each once
    pub behind_once : behind_front (distinct_grouping query) (record { rows = rows; codes = [] }) ≡ record { rows = once rows; codes = [] }
    behind_once =
        ap (λ (f : Flow (List Val)). each (selected (map expression_of_column (distinct_columns 0 query.items))) (each (kept []) f)) table
        ∙ (ap (each (selected (map expression_of_column (distinct_columns 0 query.items)))) (left_as (kept []) (once rows) (kept_as (once rows)))
        ∙ left_as (selected (map expression_of_column (distinct_columns 0 query.items))) (once rows) (selected_as (once rows) (all_once (λ (r : List Val). length r ≡ length query.items) rows long)))

    -- ---- units
    keys_once : keys (length (distinct_columns 0 query.items)) rows ≡ once rows
    keys_once = ap (λ (n : ℕ). keys n rows) many ∙ distinct_keys (length query.items) rows long

    some_column : 1 ≤ length (distinct_columns 0 query.items)
    some_column = let same = many in omega (arith, some, same)

    whole_keys : (n : ℕ) (rs : List (List Val)) → AllByRecursion (λ (r : List Val). length r ≡ n) rs → map (key_of n) rs ≡ rs
    whole_keys n [] h = refl
    whole_keys n (r ∷ rs) h = ap₂ (λ (x : List Val) (rest : List (List Val)). x ∷ rest) (take_all n r (omega (arith, h.0))) (whole_keys n rs h.1)

    sum_none : {A : Type 0} (f : A → ℕ) (xs : List A) → ((x : A) → f x ≡ 0) → sum_by f xs ≡ 0
    sum_none f [] none = refl
    sum_none f (x ∷ xs) none = let one = sum_by-cons f x xs in let own = none x in let rest = sum_none f xs none in omega (arith, one, own, rest)

    columns_none : (columns : List GroupedColumn) (env : Environment) → units_of_items (map expression_of_column columns) env ≡ 0
    columns_none [] env = refl
    columns_none (c ∷ columns) env = let rest = columns_none columns env in omega (arith, rest)

    pub units_once : (h : Hashing) → group_units h (distinct_grouping query) rows ≡ distinct_units h rows
    units_once h =
        let n : ℕ = length (distinct_columns 0 query.items) in
        let shown : List Expression = map expression_of_column (distinct_columns 0 query.items) in
        let seen : Flow (List Val) = all_groups (distinct_grouping query) rows in
        told (table_units h (group_keys n rows) (map (key_of n) rows)) (sum_by (chosen_units n []) rows) (length (groups n rows) * read_units []) (tested_units [] seen.rows) (sum_by (λ (row : List Val). units_of_items shown (at_row row)) (each (kept []) seen).rows)
        (table_units h (once rows) rows)
        (ap₂ (λ (es ks : List (List Val)). table_units h es ks) (keys_are n rows some_column ∙ keys_once) (ap (λ (m : ℕ). map (key_of m) rows) many ∙ whole_keys (length query.items) rows long))
        (sum_none (chosen_units n []) rows (λ x. refl)) (none_times (length (groups n rows))) (sum_none (λ (row : List Val). units_of_all [] (at_row row)) seen.rows (λ x. refl))
        (sum_none (λ (row : List Val). units_of_items shown (at_row row)) (each (kept []) seen).rows (λ x. columns_none (distinct_columns 0 query.items) (at_row x)))
      where
        none_times : (k : ℕ) → k * 0 ≡ 0
        none_times k = omega arith

        told : (t c r d s u : ℕ) → t ≡ u → c ≡ 0 → r ≡ 0 → d ≡ 0 → s ≡ 0 → t + c + r + d + s ≡ u
        told t c r d s u e f g i j = omega (arith, e, f, g, i, j)

    pub octets_once : group_octets (distinct_grouping query) rows ≡ distinct_octets (length query.items) rows
    octets_once =
        ap₂ (λ (size k : ℕ). table_octets size k) (ap (λ (n : ℕ). entry_size n 0 0) many) (groups_many (length (distinct_columns 0 query.items)) rows some_column ∙ ap (λ (l : List (List Val)). length l) keys_once)
