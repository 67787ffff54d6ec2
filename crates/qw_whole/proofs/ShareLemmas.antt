-- The units of a grouped query are those of its entries and slots, and the shares of rows and of groups.
use native.Mathlib.Nat.{suc-mul}
use Rattle.std.proofs.Common.{◌≡◌, ◌∙◌, ℕ, suc, ◌+◌, ◌*◌, List, [], ◌∷◌, ◌++◌, map, length, sum_by, ap, arith}
use Rattle.std.specs.List.{flat_map}
use Rattle.std.proofs.lemmas.List.Concat.{flat_map-append}
use Rattle.std.proofs.lemmas.List.Sums.{sum_by-append, sum_by-cons}
use Rattle.qw_types.specs.declared.value.Val.{Val}
use Rattle.qw_scalar.specs.Evaluation.{at_row}
use Rattle.qw_scalar.specs.Expression.{Expression}
use Rattle.qw_scalar.specs.Units.{units_of_all, units_of_items}
use Rattle.qw_meaning.specs.Flow.{each, kept, rows_given}
use Rattle.qw_grouped.specs.Grouped.{Grouped, kinds_of}
use Rattle.qw_grouped.specs.Groups.{Group, group_row, groups, key_of, once}
use Rattle.qw_grouped.specs.declared.set_function.SetFunctionKind.{SetFunctionKind}
use Rattle.qw_pipe.specs.Units.{Hashing, made_units, tested_units}
use Rattle.qw_whole.specs.GroupTables.{all_groups, chosen_units, distinct_units, group_keys, group_units, read_units}
use Rattle.qw_whole.specs.Shares.{behind_units, group_share, key_share, met_units, row_share}

-- ---- rows

added : {A B : Type 0} (key : A → B) (f g : B → ℕ) (k : A → ℕ) (xs : List A) → sum_by (λ x. f (key x) + g (key x) + k x) xs ≡ sum_by f (map key xs) + sum_by g (map key xs) + sum_by k xs
added key f g k [] = omega arith
added key f g k (x ∷ xs) =
    let rest = added key f g k xs in
    omega (arith, rest, sum_by-cons (λ y. f (key y) + g (key y) + k y) x xs, sum_by-cons f (key x) (map key xs), sum_by-cons g (key x) (map key xs), sum_by-cons k x xs)

-- ---- groups

made_append : (items : List Expression) (xs ys : List (List Val)) → made_units items (xs ++ ys) ≡ made_units items xs + made_units items ys
made_append items xs ys = sum_by-append (λ (row : List Val). units_of_items items (at_row row)) xs ys

four : (t u v a b c d whole made : ℕ) → t ≡ u + v → whole ≡ made → made ≡ c + d → a ≡ u + c → b ≡ v + d → t + whole ≡ a + b
four t u v a b c d whole made e f g h k = omega (arith, e, f, g, h, k)

behind_append : (query : Grouped) (xs ys : List (List Val)) → behind_units query (xs ++ ys) ≡ behind_units query xs + behind_units query ys
behind_append query xs ys =
    let keeps : List Val → List (List Val) = λ row. rows_given (kept query.having row) in
    four (tested_units query.having (xs ++ ys)) (tested_units query.having xs) (tested_units query.having ys) (behind_units query xs) (behind_units query ys)
    (made_units query.items (flat_map keeps xs)) (made_units query.items (flat_map keeps ys))
    (made_units query.items (flat_map keeps (xs ++ ys))) (made_units query.items (flat_map keeps xs ++ flat_map keeps ys))
    (sum_by-append (λ (row : List Val). units_of_all query.having (at_row row)) xs ys)
    (ap (made_units query.items) (flat_map-append keeps xs ys))
    (made_append query.items (flat_map keeps xs) (flat_map keeps ys))
    (omega arith) (omega arith)

one_more : (a b c rest all : ℕ) → a ≡ b + c → c ≡ rest → all ≡ b + rest → a ≡ all
one_more a b c rest all e f g = omega (arith, e, f, g)

behind_each : (query : Grouped) (made : Group → List (List Val)) (gs : List Group) → behind_units query (flat_map made gs) ≡ sum_by (λ g. behind_units query (made g)) gs
behind_each query made [] = omega arith
behind_each query made (g ∷ gs) =
    one_more (behind_units query (made g ++ flat_map made gs)) (behind_units query (made g)) (behind_units query (flat_map made gs)) (sum_by (λ g. behind_units query (made g)) gs)
    (sum_by (λ g. behind_units query (made g)) (g ∷ gs))
    (behind_append query (made g) (flat_map made gs)) (behind_each query made gs) (sum_by-cons (λ g. behind_units query (made g)) g gs)

read_more : (all rest many others more n : ℕ) → all ≡ n + more + rest → rest ≡ many + others → all ≡ many + n + (more + others)
read_more all rest many others more n e f = omega (arith, e, f)

reads : {A : Type 0} (n : ℕ) (f : A → ℕ) (xs : List A) → sum_by (λ x. n + f x) xs ≡ length xs * n + sum_by f xs
reads n f [] = omega arith
reads n f (x ∷ xs) =
    read_more (sum_by (λ y. n + f y) (x ∷ xs)) (sum_by (λ y. n + f y) xs) (length xs * n) (sum_by f xs) (f x) n (sum_by-cons (λ y. n + f y) x xs) (reads n f xs)
    ∙ summed (length xs * n + n) (f x + sum_by f xs) (suc (length xs) * n) (sum_by f (x ∷ xs)) (suc-mul (length xs) n) (sum_by-cons f x xs)
  where
    summed : (a b c d : ℕ) → c ≡ a → d ≡ b → a + b ≡ c + d
    summed a b c d e g = omega (arith, e, g)

-- ---- both

told : (e f s m c r t d rows_all groups_all behind : ℕ) → rows_all ≡ f + m + c → groups_all ≡ r + behind → t + d ≡ behind → e + f + s + m + c + r + t + d ≡ e + s + rows_all + groups_all
told e f s m c r t d rows_all groups_all behind x y z = omega (arith, x, y, z)

pub units_told : (h : Hashing) (query : Grouped) (rows : List (List Val))
    → group_units h query rows ≡ length (group_keys (length query.columns) rows) + h.slots (length (group_keys (length query.columns) rows))
    + sum_by (row_share h query rows) rows + sum_by (group_share query) (groups (length query.columns) rows)
units_told h query rows =
    let columns : ℕ = length query.columns in
    let functions : List SetFunctionKind = kinds_of query.functions in
    let entries : List (List Val) = group_keys columns rows in
    let ks : List (List Val) = map (key_of columns) rows in
    let made : Group → List (List Val) = λ g. rows_given (group_row columns functions g) in
    let all : List Group = groups columns rows in
    told (length entries) (sum_by h.folded ks) (h.slots (length entries)) (sum_by (met_units h entries) ks) (sum_by (chosen_units columns functions) rows)
    (length all * read_units functions) (tested_units query.having (all_groups query rows).rows) (made_units query.items (each (kept query.having) (all_groups query rows)).rows)
    (sum_by (row_share h query rows) rows) (sum_by (group_share query) all) (sum_by (λ g. behind_units query (made g)) all)
    (added (key_of columns) h.folded (met_units h entries) (chosen_units columns functions) rows)
    (reads (read_units functions) (λ g. behind_units query (made g)) all)
    (behind_each query made all)

-- ---- DISTINCT

two_added : {A : Type 0} (f g : A → ℕ) (xs : List A) → sum_by (λ x. f x + g x) xs ≡ sum_by f xs + sum_by g xs
two_added f g [] = omega arith
two_added f g (x ∷ xs) =
    let rest = two_added f g xs in
    omega (arith, rest, sum_by-cons (λ y. f y + g y) x xs, sum_by-cons f x xs, sum_by-cons g x xs)

both_told : (e f s m all : ℕ) → all ≡ f + m → e + f + s + m ≡ e + s + all
both_told e f s m all x = omega (arith, x)

pub distinct_told : (h : Hashing) (rows : List (List Val))
    → distinct_units h rows ≡ length (once rows) + h.slots (length (once rows)) + sum_by (key_share h (once rows)) rows
distinct_told h rows =
    both_told (length (once rows)) (sum_by h.folded rows) (h.slots (length (once rows))) (sum_by (met_units h (once rows)) rows) (sum_by (key_share h (once rows)) rows)
    (two_added h.folded (met_units h (once rows)) rows)
