-- What holds of all rows that come into a table of groups holds while they come: of a beginning of them, or of a part of them in any order.
use Rattle.std.proofs.Common.{◌≡◌, ℕ, ◌+◌, ◌≤◌, ◌==◌, if◌then◌else◌, Bool, List, ◌++◌, length, length-append, append_assoc, map, refl, ap, ◌∙◌, sym, subst, arith}
use Rattle.std.specs.List.Sorted.{IsPermutation}
use Rattle.std.proofs.lemmas.List.Sorted.{IsPermutation-map, length_permutation, sum_by-IsPermutation}
use Rattle.qw_types.specs.declared.value.Val.{Val}
use Rattle.qw_layout.specs.Hash.{slot}
use Rattle.qw_grouped.specs.Groups.{key_of, keys}
use Rattle.qw_grouped.proofs.GroupLemmas.{once_permuted}
use Rattle.qw_table.specs.Tables.{in_slot}
use Rattle.qw_whole.proofs.GrowingTables.{keys_begun, met_many, slot_grows}

-- these are the first of those rows
abbrev pub IsBeginning : (all rows : List (List Val)) → Type 0
IsBeginning all rows = (more : List (List Val)) × (rows ++ more ≡ all)

pub beginning_first : (all rows more : List (List Val)) → IsBeginning all (rows ++ more) → IsBeginning all rows
beginning_first all rows more h = (more ++ h.0, sym (append_assoc rows more h.0) ∙ h.1)

pub beginning_few : (all rows : List (List Val)) → IsBeginning all rows → length rows ≤ length all
beginning_few all rows h = let count = sym (length-append rows h.0) ∙ ap (λ (l : List (List Val)). length l) h.1 in omega (arith, count)

-- no more keys
pub keys_fewer : (columns : ℕ) (all rows : List (List Val)) → IsBeginning all rows → length (keys columns rows) ≤ length (keys columns all)
keys_fewer columns all rows h =
    let begun = keys_begun columns rows h.0 in
    let count : length (keys columns all) ≡ length (keys columns rows) + length begun.0 =
    ap (λ (l : List (List Val)). length (keys columns l)) (sym h.1) ∙ (ap (λ (l : List (List Val)). length l) begun.1 ∙ length-append (keys columns rows) begun.0) in
    omega (arith, count)

-- no more of them in a slot
pub slot_fewer : (j columns : ℕ) (all rows : List (List Val)) → IsBeginning all rows → length (in_slot slot j (keys columns rows)) ≤ length (in_slot slot j (keys columns all))
slot_fewer j columns all rows h = subst (λ (l : List (List Val)). length (in_slot slot j (keys columns rows)) ≤ length (in_slot slot j (keys columns l))) h.1 (slot_grows slot j columns rows h.0)

-- ---- or of a part of them, in any order
-- these rows and others are all of those
abbrev pub IsPart : (all rows : List (List Val)) → Type 0
IsPart all rows = (more : List (List Val)) × IsPermutation (rows ++ more) all

pub part_first : (all rows more : List (List Val)) → IsPart all (rows ++ more) → IsPart all rows
part_first all rows more h = (more ++ h.0, subst (λ (l : List (List Val)). IsPermutation l all) (append_assoc rows more h.0) h.1)

pub part_few : (all rows : List (List Val)) → IsPart all rows → length rows ≤ length all
part_few all rows h = let count = length_permutation (rows ++ h.0) all h.1 in let two = length-append rows h.0 in omega (arith, count, two)

keys_turned : (columns : ℕ) (rows others : List (List Val)) → IsPermutation rows others → IsPermutation (keys columns rows) (keys columns others)
keys_turned columns rows others h = once_permuted (map (key_of columns) rows) (map (key_of columns) others) (IsPermutation-map (key_of columns) rows others h)

pub part_keys : (columns : ℕ) (all rows : List (List Val)) → IsPart all rows → length (keys columns rows) ≤ length (keys columns all)
part_keys columns all rows h =
    let fewer = keys_fewer columns (rows ++ h.0) rows (h.0, refl) in
    let same = length_permutation (keys columns (rows ++ h.0)) (keys columns all) (keys_turned columns (rows ++ h.0) all h.1) in
    omega (arith, fewer, same)

-- how many are in a slot doesn't depend on their order
slot_turned : (j : ℕ) (xs ys : List (List Val)) → IsPermutation xs ys → length (in_slot slot j ys) ≡ length (in_slot slot j xs)
slot_turned j xs ys h =
    let is_there : List Val → Bool = λ (v : List Val). slot v == j in
    let here = met_many is_there 1 xs in
    let there = met_many is_there 1 ys in
    let same = sum_by-IsPermutation (λ (v : List Val). if slot v == j then 1 else 0) xs ys h in
    omega (arith, here, there, same)

pub part_slot : (j columns : ℕ) (all rows : List (List Val)) → IsPart all rows → length (in_slot slot j (keys columns rows)) ≤ length (in_slot slot j (keys columns all))
part_slot j columns all rows h =
    let fewer = slot_fewer j columns (rows ++ h.0) rows (h.0, refl) in
    let same = slot_turned j (keys columns (rows ++ h.0)) (keys columns all) (keys_turned columns (rows ++ h.0) all h.1) in
    omega (arith, fewer, same)
