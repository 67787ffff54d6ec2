-- Lists cut at an index, joined, and what holds of each element.
use Rattle.std.proofs.Common.{◌≡◌, ℕ, zero, suc, ◌+◌, ◌-◌, ◌<◌, ◌≤◌, List, [], ◌∷◌, ◌++◌, length, take, drop, Some, slice_get, refl, subst, sym, ap, ap₂, ◌∙◌, arith, length-append, append-nil, append_assoc}
use Rattle.std.proofs.Math.Seq.{drop-append_seam, take-append_seam, take-length}
use Rattle.std.proofs.lemmas.List.{length-take-le, length-drop, drop_all, take-append-le}
use Rattle.qw_machine.specs.Inner.Points.{above, under}
use Rattle.std.specs.List.{AllByRecursion}
use Rattle.std.proofs.lemmas.Option.{same_Some, none-some}

-- what begins at an index
pub drop-get : {T : Type 0} (xs : List T) (i : ℕ) (x : T) → slice_get xs i ≡ Some x → drop i xs ≡ x ∷ drop (i + 1) xs
drop-get [] i x found = absurd (none-some x found)
drop-get (y ∷ xs) zero x found = ap (λ z. z ∷ xs) (same_Some y x found)
drop-get (y ∷ xs) (suc i) x found = let e : suc i + 1 ≡ suc (i + 1) = omega arith in rw e (drop-get xs i x found)

pub first_dropped : {T : Type 0} (xs : List T) (i j : ℕ) (x y : T) (ys : List T) → slice_get xs i ≡ Some x → j ≡ i → drop j xs ≡ y ∷ ys → y ≡ x
first_dropped xs i j x y ys found same cut =
    let e : y ∷ ys ≡ x ∷ drop (i + 1) xs = sym cut ∙ ap (λ k. drop k xs) same ∙ drop-get xs i x found in cc

-- what holds of each element holds of the one at an index
pub all-at : {T : Type 0} (P : T → Type 0) (xs : List T) (i : ℕ) (x : T) → AllByRecursion P xs → slice_get xs i ≡ Some x → P x
all-at P [] i x all found = absurd (none-some x found)
all-at P (y ∷ xs) zero x all found = subst P (same_Some y x found) all.0
all-at P (y ∷ xs) (suc i) x all found = all-at P xs i x all.1 found

-- an element of two lists joined is one of the first or one of the second
pub get-first : {T : Type 0} (xs ys : List T) (i : ℕ) → i < length xs → slice_get (xs ++ ys) i ≡ slice_get xs i
get-first [] ys i inside = absurd (omega arith)
get-first (x ∷ xs) ys zero inside = refl
get-first (x ∷ xs) ys (suc i) inside = get-first xs ys i (omega arith)

pub get-second : {T : Type 0} (xs ys : List T) (i : ℕ) → slice_get (xs ++ ys) (length xs + i) ≡ slice_get ys i
get-second [] ys i = let e : 0 + i ≡ i = omega arith in ap (slice_get ys) e
get-second (x ∷ xs) ys i = let e : suc (length xs) + i ≡ suc (length xs + i) = omega arith in rw e (get-second xs ys i)

-- the operands above and under the first so many that were pushed, where they lie so
pub above-append : (base : ℕ) (own below : List ℕ) → length below ≡ base → above base (own ++ below) ≡ own
above-append base own below same =
    let count : length (own ++ below) - base ≡ length own = omega (arith, length-append own below) in
    ap (λ (n : ℕ). take n (own ++ below)) count ∙ take-append_seam own below

pub under-append : (base : ℕ) (own below : List ℕ) → length below ≡ base → under base (own ++ below) ≡ below
under-append base own below same =
    let count : length (own ++ below) - base ≡ length own = omega (arith, length-append own below) in
    ap (λ (n : ℕ). drop n (own ++ below)) count ∙ drop-append_seam own below

-- so many of the first operands on those under a base, where these lie so
pub kept-append : (count base : ℕ) (operands own below upper lower : List ℕ) → operands ≡ own ++ below → count ≤ length own → under base (own ++ below) ≡ upper ++ lower →
    take count operands ++ under base operands ≡ (take count own ++ upper) ++ lower
kept-append count base operands own below upper lower are enough cut =
    ap (λ (xs : List ℕ). take count xs ++ under base xs) are
    ∙ ap₂ (λ (xs ys : List ℕ). xs ++ ys) (take-append-le count own below enough) cut
    ∙ sym (append_assoc (take count own) upper lower)

-- a list whose end is replaced, cut where the new end begins
pub take-front : (n : ℕ) (xs ys : List ℕ) → n ≤ length xs → take n (take n xs ++ ys) ≡ take n xs
take-front n xs ys h =
    let long : length (take n xs) ≡ n = length-take-le n xs h in
    ap (λ (k : ℕ). take k (take n xs ++ ys)) (sym long) ∙ take-append_seam (take n xs) ys

pub drop-front : (n : ℕ) (xs ys : List ℕ) → n ≤ length xs → drop n (take n xs ++ ys) ≡ ys
drop-front n xs ys h =
    let long : length (take n xs) ≡ n = length-take-le n xs h in
    ap (λ (k : ℕ). drop k (take n xs ++ ys)) (sym long) ∙ drop-append_seam (take n xs) ys

-- the end of a list from an index on, by how long it is
pub take-end : (n : ℕ) (xs : List ℕ) → take (length xs - n) (drop n xs) ≡ drop n xs
take-end n xs = ap (λ (k : ℕ). take k (drop n xs)) (sym (length-drop n xs)) ∙ take-length (drop n xs)

pub append-none : (n : ℕ) (xs ys : List ℕ) → ys ++ drop (length xs - n) (drop n xs) ≡ ys
append-none n xs ys = ap (λ (zs : List ℕ). ys ++ zs) (drop_all (length xs - n) (drop n xs) (omega (arith, length-drop n xs))) ∙ append-nil ys
