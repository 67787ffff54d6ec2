-- A list and its reverse.
use Rattle.std.proofs.Common.{◌≡◌, ℕ, ◌+◌, ◌-◌, ◌≤◌, ◌<◌, List, [], ◌∷◌, ◌++◌, get_or, slice_get, Some, length, take, drop, reverse, sym, ap, ◌∙◌, arith, length-drop}
use Rattle.std.specs.List.{swap_remove}
use Rattle.std.proofs.Math.Seq.{drop-append_seam, drop-length}
use Rattle.std.proofs.lemmas.Option.{slice_get-get_or}
use Rattle.std.proofs.lemmas.List.{take-append-drop, reverse-append, length-reverse, reverse-reverse, take_all, take-set}
use Rattle.qw_machine.proofs.ListFacts.{drop-get}

-- the front of a list, reversed, is the end of the reversed list
pub reverse-take : {T : Type 0} (n : ℕ) (xs : List T) → reverse (take n xs) ≡ drop (length xs - n) (reverse xs)
reverse-take {T} n xs =
    let whole : reverse xs ≡ reverse (drop n xs) ++ reverse (take n xs) =
    ap reverse (sym (take-append-drop n xs)) ∙ reverse-append (take n xs) (drop n xs) in
    let long : length (reverse (drop n xs)) ≡ length xs - n = length-reverse (drop n xs) ∙ length-drop n xs in
    rw (whole, ← long) (sym (drop-append_seam (reverse (drop n xs)) (reverse (take n xs))))

-- the values that were pushed last, in the order in which they were pushed, are the end of the list
reverse-take-reverse : {T : Type 0} (n : ℕ) (xs : List T) → reverse (take n (reverse xs)) ≡ drop (length xs - n) xs
reverse-take-reverse {T} n xs =
    reverse-take n (reverse xs) ∙ ap (λ (k : ℕ). drop (k - n) (reverse (reverse xs))) (length-reverse xs) ∙ ap (drop (length xs - n)) (reverse-reverse xs)

-- so they are where they are read one after another, as far as the end
pub read-last : {T : Type 0} (xs ys : List T) (long n index : ℕ) → ys ≡ xs → long ≡ length xs →
    length (take (length ys - (long - n)) (drop (long - n) ys)) ≤ index →
    take index (take (length ys - (long - n)) (drop (long - n) ys)) ≡ reverse (take n (reverse xs))
read-last {T} xs ys long n index same long_is all =
    let enough : length (drop (long - n) ys) ≤ length ys - (long - n) = omega (arith, length-drop (long - n) ys) in
    take_all index (take (length ys - (long - n)) (drop (long - n) ys)) all
    ∙ take_all (length ys - (long - n)) (drop (long - n) ys) enough
    ∙ rw (same, long_is) (sym (reverse-take-reverse n xs))

-- and the others are the front of it
pub reverse-front : {T : Type 0} (n : ℕ) (xs : List T) → n ≤ length xs → reverse (take (length xs - n) xs) ≡ drop n (reverse xs)
reverse-front {T} n xs fewer =
    let e : length xs - (length xs - n) ≡ n = omega arith in
    reverse-take (length xs - n) xs ∙ ap (λ (k : ℕ). drop k (reverse xs)) e

-- the last value of a list, taken out, is the first of the reversed list
pub last_removed : {T : Type 0} (xs : List T) (v : T) → 0 < length xs → v ≡ get_or xs (length xs - 1) v →
    reverse xs ≡ v ∷ reverse (swap_remove xs (length xs - 1) v)
last_removed {T} xs v some read =
    let last : ℕ = length xs - 1 in
    let front : swap_remove xs last v ≡ take last xs = take-set xs last (get_or xs last v) in
    let found : slice_get xs last ≡ Some v = slice_get-get_or xs last v (omega (arith, some)) ∙ ap (λ (x : T). Some x) (sym read) in
    let next : last + 1 ≡ length xs = omega (arith, some) in
    let end : drop last xs ≡ v ∷ [] = drop-get xs last v found ∙ ap (λ (ys : List T). v ∷ ys) (ap (λ (n : ℕ). drop n xs) next ∙ drop-length xs) in
    rw front (ap reverse (sym (take-append-drop last xs)) ∙ reverse-append (take last xs) (drop last xs) ∙ ap (λ (ys : List T). reverse ys ++ reverse (take last xs)) end)

-- the last value of a list is the first of the reversed list
pub first_is_last : {T : Type 0} (xs : List T) (v : T) → 0 < length xs → v ≡ get_or xs (length xs - 1) v → reverse xs ≡ v ∷ drop 1 (reverse xs)
first_is_last {T} xs v some read =
    let is = last_removed xs v some read in
    is ∙ ap (λ (ys : List T). v ∷ drop 1 ys) (sym is)
