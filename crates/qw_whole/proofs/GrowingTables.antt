-- A table of groups while rows come: keys that were there stay, a slot has no more entries than at last, and members are those so far.
use native.Mathlib.Nat.{suc-mul}
use Rattle.std.proofs.Common.{◌≡◌, ◌∙◌, ◌≤◌, ℕ, zero, suc, ◌+◌, ◌*◌, nat_eq, if◌then◌else◌, not, Bool, true, false, List, [], ◌∷◌, ◌++◌, map, length, sum_by, length-append, refl, sym, ap, ap₂, arith}
use Rattle.std.specs.List.{AllByRecursion, filter}
use Rattle.std.proofs.lemmas.List.{map-append, take_all}
use Rattle.std.proofs.lemmas.List.Elements.{filter-append}
use Rattle.std.proofs.lemmas.List.Sums.{sum_by-cons}
use Rattle.qw_types.specs.ValueOrder.{is_same_row}
use Rattle.qw_types.specs.declared.value.Val.{Val}
use Rattle.qw_grouped.specs.Groups.{Group, groups, key_of, keys, members, once}

abbrev unlike : List Val → List Val → Bool
unlike row other = not (is_same_row row other)

-- ---- keys

begun : (xs ys : List (List Val)) → (zs : List (List Val)) × (once (xs ++ ys) ≡ once xs ++ zs)
begun [] ys = (once ys, refl)
begun (x ∷ xs) ys =
    let rest = begun xs ys in (
      filter (unlike x) rest.0,
      ap (λ (l : List (List Val)). x ∷ filter (unlike x) l) rest.1 ∙ ap (λ (l : List (List Val)). x ∷ l) (filter-append (unlike x) (once xs) rest.0),
    )

pub keys_begun : (columns : ℕ) (rows more : List (List Val)) → (others : List (List Val)) × (keys columns (rows ++ more) ≡ keys columns rows ++ others)
keys_begun columns rows more =
    let rest = begun (map (key_of columns) rows) (map (key_of columns) more) in
    (rest.0, ap (λ (l : List (List Val)). once l) (map-append (key_of columns) rows more) ∙ rest.1)

pub slot_grows : (slot : List Val → ℕ) (j columns : ℕ) (rows more : List (List Val))
    → length (filter (λ key. nat_eq (slot key) j) (keys columns rows)) ≤ length (filter (λ key. nat_eq (slot key) j) (keys columns (rows ++ more)))
slot_grows slot j columns rows more =
    let rest = keys_begun columns rows more in
    let is_there : List Val → Bool = λ key. nat_eq (slot key) j in
    let many = ap (λ (l : List (List Val)). length (filter is_there l)) rest.1 ∙ ap (λ (l : List (List Val)). length l) (filter-append is_there (keys columns rows) rest.0)
    ∙ length-append (filter is_there (keys columns rows)) (filter is_there rest.0) in
    omega (arith, many)

-- what a row meets, as how many entries its slot has
pub met_many : (is_there : List Val → Bool) (n : ℕ) (entries : List (List Val)) → sum_by (λ other. if is_there other then n else 0) entries ≡ length (filter is_there entries) * n
met_many is_there n [] = omega arith
met_many is_there n (x ∷ entries) = sum_by-cons (λ other. if is_there other then n else 0) x entries ∙ one (is_there x) (met_many is_there n entries)
  where
    none : (m : ℕ) → 0 + m ≡ m
    none m = omega arith

    turned : (one_more others all : ℕ) → all ≡ others + one_more → one_more + others ≡ all
    turned one_more others all e = omega (arith, e)

    one : (b : Bool) → sum_by (λ other. if is_there other then n else 0) entries ≡ length (filter is_there entries) * n
        → (if b then n else 0) + sum_by (λ other. if is_there other then n else 0) entries ≡ length (if b then x ∷ filter is_there entries else filter is_there entries) * n
    one true e = ap (λ (m : ℕ). n + m) e ∙ turned n (length (filter is_there entries) * n) (suc (length (filter is_there entries)) * n) (suc-mul (length (filter is_there entries)) n)
    one false e = none (sum_by (λ other. if is_there other then n else 0) entries) ∙ e

-- ---- members

pub members_more : (columns : ℕ) (key : List Val) (rows more : List (List Val)) → members columns key (rows ++ more) ≡ members columns key rows ++ members columns key more
members_more columns key rows more = filter-append (λ row. is_same_row key (key_of columns row)) rows more

-- ---- without GROUP BY

pub all_members : (rows : List (List Val)) → members 0 [] rows ≡ rows
all_members [] = refl
all_members (row ∷ rows) = ap (λ (rest : List (List Val)). row ∷ rest) (all_members rows)

no_other : (rows : List (List Val)) → filter (unlike []) (keys 0 rows) ≡ []
no_other [] = refl
no_other (row ∷ rows) = ap (filter (unlike [])) (no_other rows)

-- a group for each key, with its members, where there is a row or a grouped column
pub groups_of_keys : (columns : ℕ) (row : List Val) (rows : List (List Val))
    → groups columns (row ∷ rows) ≡ map (λ key. record { key = key; rows = members columns key (row ∷ rows) }) (keys columns (row ∷ rows))
groups_of_keys zero row rows =
    let made : List Val → Group = λ key. record { key = key; rows = members 0 key (row ∷ rows) } in
    ap (λ (l : List (List Val)). record { key = []; rows = l } ∷ []) (sym (all_members (row ∷ rows)))
    ∙ ap (λ (l : List (List Val)). map made ([] ∷ l)) (sym (no_other rows))
groups_of_keys (suc columns) row rows = refl

-- ---- DISTINCT

whole_keys : (n : ℕ) (rows : List (List Val)) → AllByRecursion (λ (row : List Val). length row ≡ n) rows → map (key_of n) rows ≡ rows
whole_keys n [] h = refl
whole_keys n (row ∷ rows) h = ap₂ (λ (r : List Val) (rest : List (List Val)). r ∷ rest) (take_all n row (omega (arith, h.0))) (whole_keys n rows h.1)

-- the distinct rows are the keys of a table over all their columns
pub distinct_keys : (n : ℕ) (rows : List (List Val)) → AllByRecursion (λ (row : List Val). length row ≡ n) rows → keys n rows ≡ once rows
distinct_keys n rows h = ap (λ (l : List (List Val)). once l) (whole_keys n rows h)
