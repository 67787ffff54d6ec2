-- What tables of groups and of distinct rows take is the same of rows in another order.
use Rattle.std.proofs.Common.{◌≡◌, ◌∙◌, ℕ, zero, suc, ◌+◌, ◌*◌, nat_eq, if◌then◌else◌, List, [], ◌∷◌, map, length, sum_by, refl, sym, ap, ap₂, subst}
use Rattle.std.specs.List.Sorted.{IsPermutation}
use Rattle.std.proofs.lemmas.List.{length-map}
use Rattle.std.proofs.lemmas.List.Sorted.{IsPermutation-map, IsPermutation-refl, length_permutation, sum_by-IsPermutation}
use Rattle.std.proofs.lemmas.List.Sums.{sum_by-cons}
use Rattle.qw_types.specs.Value.{text_octets}
use Rattle.qw_types.specs.declared.value.Val.{Val}
use Rattle.qw_scalar.specs.Evaluation.{at_row}
use Rattle.qw_scalar.specs.Expression.{Expression}
use Rattle.qw_scalar.specs.Units.{units_of_all, units_of_items}
use Rattle.qw_meaning.specs.Flow.{each, kept}
use Rattle.qw_grouped.specs.Grouped.{Grouped, kinds_of}
use Rattle.qw_grouped.specs.Groups.{Group, groups, key_of, keys, members, once}
use Rattle.qw_grouped.specs.declared.set_function.SetFunctionKind.{SetFunctionKind}
use Rattle.qw_grouped.proofs.GroupLemmas.{once_permuted}
use Rattle.qw_grouped.proofs.OrderLemmas.{Alike, each_alike, table_alike}
use Rattle.qw_pipe.specs.Units.{Hashing, made_units}
use Rattle.qw_whole.specs.GroupTables.{all_groups, chosen_units, distinct_octets, distinct_size, distinct_units, group_keys, group_octets, group_size, group_units, read_units, table_octets, table_units, unraised}

-- ---- sums

sum_same : {A : Type 0} (f g : A → ℕ) (xs : List A) → ((x : A) → f x ≡ g x) → sum_by f xs ≡ sum_by g xs
sum_same f g [] h = refl
sum_same f g (x ∷ xs) h = sum_by-cons f x xs ∙ ap₂ (λ a b. a + b) (h x) (sum_same f g xs h) ∙ sym (sum_by-cons g x xs)

pub sum_permuted : {A : Type 0} (f g : A → ℕ) (xs ys : List A) → ((x : A) → f x ≡ g x) → IsPermutation xs ys → sum_by f xs ≡ sum_by g ys
sum_permuted f g xs ys same h = sum_same f g xs same ∙ sym (sum_by-IsPermutation g xs ys h)

-- ---- a table

-- the entries in the slot of a key, each with the octets of its texts
abbrev met : Hashing → (many : ℕ) → (entries : List (List Val)) → List Val → ℕ
met h many entries key = sum_by (λ other. if nat_eq (h.slot many other) (h.slot many key) then 1 + text_octets key else 0) entries

met_permuted : (h : Hashing) (entries others : List (List Val)) → IsPermutation entries others → (key : List Val) → met h (length entries) entries key ≡ met h (length others) others key
met_permuted h entries others p key =
    ap (λ (n : ℕ). met h n entries key) (sym (length_permutation entries others p))
    ∙ sym (sum_by-IsPermutation (λ other. if nat_eq (h.slot (length others) other) (h.slot (length others) key) then 1 + text_octets key else 0) entries others p)

pub table_permuted : (h : Hashing) (entries others keys more : List (List Val)) → IsPermutation entries others → IsPermutation keys more → table_units h entries keys ≡ table_units h others more
table_permuted h entries others keys more p q =
    let long : length entries ≡ length others = sym (length_permutation entries others p) in
    ap₂ (λ (a b : ℕ). a + b)
    (ap₂ (λ (a b : ℕ). a + b) (ap₂ (λ (a b : ℕ). a + b) long (sym (sum_by-IsPermutation h.folded keys more q))) (ap h.slots long))
    (sum_permuted (met h (length entries) entries) (met h (length others) others) keys more (met_permuted h entries others p) q)

-- ---- groups

keyed_back : (columns : ℕ) (rows ks : List (List Val)) → map (λ (g : Group). g.key) (map (λ key. record { key = key; rows = members columns key rows }) ks) ≡ ks
keyed_back columns rows [] = refl
keyed_back columns rows (k ∷ ks) = ap (λ (rest : List (List Val)). k ∷ rest) (keyed_back columns rows ks)

pub keys_permuted : (columns : ℕ) (rows others : List (List Val)) → IsPermutation rows others → IsPermutation (group_keys columns rows) (group_keys columns others)
keys_permuted zero rows others h = IsPermutation-refl ([] ∷ [])
keys_permuted (suc columns) rows others h =
    subst (λ (l : List (List Val)). IsPermutation l (group_keys (suc columns) others)) (sym (keyed_back (suc columns) rows (keys (suc columns) rows)))
    (subst (λ (l : List (List Val)). IsPermutation (keys (suc columns) rows) l) (sym (keyed_back (suc columns) others (keys (suc columns) others)))
    (once_permuted (map (key_of (suc columns)) rows) (map (key_of (suc columns)) others) (IsPermutation-map (key_of (suc columns)) rows others h)))

pub groups_many : (columns : ℕ) (rows others : List (List Val)) → IsPermutation rows others → length (groups columns rows) ≡ length (groups columns others)
groups_many columns rows others h =
    sym (length-map (groups columns rows) (λ (g : Group). g.key))
    ∙ sym (length_permutation (group_keys columns rows) (group_keys columns others) (keys_permuted columns rows others h))
    ∙ length-map (groups columns others) (λ (g : Group). g.key)

pub made_permuted : (items : List Expression) (rows others : List (List Val)) → IsPermutation rows others → made_units items rows ≡ made_units items others
made_permuted items rows others h = sym (sum_by-IsPermutation (λ (row : List Val). units_of_items items (at_row row)) rows others h)

pub groups_permuted : (h : Hashing) (query : Grouped) (rows others : List (List Val)) → IsPermutation rows others → group_units h query rows ≡ group_units h query others
groups_permuted h query rows others p =
    let columns : ℕ = length query.columns in
    let functions : List SetFunctionKind = kinds_of query.functions in
    let alike : Alike (all_groups query rows) (all_groups query others) = table_alike columns functions (unraised rows) (unraised others) (record { rows = p; codes = IsPermutation-refl [] }) in
    ap₂ (λ (a b : ℕ). a + b)
    (ap₂ (λ (a b : ℕ). a + b)
    (ap₂ (λ (a b : ℕ). a + b)
    (ap₂ (λ (a b : ℕ). a + b)
    (table_permuted h (group_keys columns rows) (group_keys columns others) (map (key_of columns) rows) (map (key_of columns) others) (keys_permuted columns rows others p) (IsPermutation-map (key_of columns) rows others p))
    (sym (sum_by-IsPermutation (chosen_units columns functions) rows others p)))
    (ap (λ (n : ℕ). n * read_units functions) (groups_many columns rows others p)))
    (sym (sum_by-IsPermutation (λ (row : List Val). units_of_all query.having (at_row row)) (all_groups query rows).rows (all_groups query others).rows alike.rows)))
    (made_permuted query.items (each (kept query.having) (all_groups query rows)).rows (each (kept query.having) (all_groups query others)).rows
    (each_alike (kept query.having) (all_groups query rows) (all_groups query others) alike).rows)

pub octets_permuted : (query : Grouped) (rows others : List (List Val)) → IsPermutation rows others → group_octets query rows ≡ group_octets query others
octets_permuted query rows others p = ap (λ (n : ℕ). table_octets (group_size query) n) (groups_many (length query.columns) rows others p)

-- ---- distinct rows

once_many : (rows others : List (List Val)) → IsPermutation rows others → length (once rows) ≡ length (once others)
once_many rows others p = sym (length_permutation (once rows) (once others) (once_permuted rows others p))

pub distinct_permuted : (h : Hashing) (rows others : List (List Val)) → IsPermutation rows others → distinct_units h rows ≡ distinct_units h others
distinct_permuted h rows others p = table_permuted h (once rows) (once others) rows others (once_permuted rows others p) p

pub distinct_octets_permuted : (items : ℕ) (rows others : List (List Val)) → IsPermutation rows others → distinct_octets items rows ≡ distinct_octets items others
distinct_octets_permuted items rows others p = ap (λ (n : ℕ). table_octets (distinct_size items) n) (once_many rows others p)
