-- Sums over lists.
use Rattle.std.proofs.Common.{◌≡◌, ◌∙◌, ℕ, ◌+◌, ◌≤◌, Bool, true, false, ◌||◌, if◌then◌else◌, List, [], ◌∷◌, ◌++◌, map, length, sum_by, refl, sym, ap, ap₂, arith}
use Rattle.std.specs.List.{AllByRecursion, filter, flat_map, list_any}
use Rattle.std.specs.List.Sorted.{IsPermutation}
use Rattle.std.proofs.lemmas.List.Sorted.{sum_by-IsPermutation}
use Rattle.std.proofs.lemmas.List.Sums.{sum_by-cons}
use Rattle.qw_feed.specs.Feeds.{spend}

abbrev pub total : {A : Type 0} → (A → ℕ) → List A → ℕ
total f [] = 0
total f (x ∷ xs) = f x + total f xs

pub sum_is : {A : Type 0} (f : A → ℕ) (xs : List A) → sum_by f xs ≡ total f xs
sum_is f [] = refl
sum_is f (x ∷ xs) = sum_by-cons f x xs ∙ ap (λ n. f x + n) (sum_is f xs)

pub total_permuted : {A : Type 0} (f : A → ℕ) (xs ys : List A) → IsPermutation xs ys → total f ys ≡ total f xs
total_permuted f xs ys h = sym (sum_is f ys) ∙ sum_by-IsPermutation f xs ys h ∙ sum_is f xs

pub total_append : {A : Type 0} (f : A → ℕ) (xs ys : List A) → total f (xs ++ ys) ≡ total f xs + total f ys
total_append f [] ys = omega arith
total_append f (x ∷ xs) ys = let rest = total_append f xs ys in omega (arith, rest)

pub total_map : {A B : Type 0} (f : B → ℕ) (g : A → B) (xs : List A) → total f (map g xs) ≡ total (λ x. f (g x)) xs
total_map f g [] = refl
total_map f g (x ∷ xs) = ap (λ n. f (g x) + n) (total_map f g xs)

pub total_flat : {A B : Type 0} (f : B → ℕ) (g : A → List B) (xs : List A) → total f (flat_map g xs) ≡ total (λ x. total f (g x)) xs
total_flat f g [] = refl
total_flat f g (x ∷ xs) = total_append f (g x) (flat_map g xs) ∙ ap (λ n. total f (g x) + n) (total_flat f g xs)

pub total_same : {A : Type 0} (f g : A → ℕ) (xs : List A) → ((x : A) → f x ≡ g x) → total f xs ≡ total g xs
total_same f g [] h = refl
total_same f g (x ∷ xs) h = ap₂ (λ a b. a + b) (h x) (total_same f g xs h)

pub both_less : (a b c d : ℕ) → a ≤ b → c ≤ d → a + c ≤ b + d
both_less a b c d h g = omega (arith, h, g)

pub total_less : {A : Type 0} (f g : A → ℕ) (xs : List A) → ((x : A) → f x ≤ g x) → total f xs ≤ total g xs
total_less f g [] h = omega arith
total_less f g (x ∷ xs) h = both_less (f x) (g x) (total f xs) (total g xs) (h x) (total_less f g xs h)

pub total_less_all : {A : Type 0} (f g : A → ℕ) (xs : List A) → AllByRecursion (λ x. f x ≤ g x) xs → total f xs ≤ total g xs
total_less_all f g [] h = omega arith
total_less_all f g (x ∷ xs) h = both_less (f x) (g x) (total f xs) (total g xs) h.0 (total_less_all f g xs h.1)

four : (a b c d p q : ℕ) → p ≡ c + d → a + b + p ≡ (a + c) + (b + d)
four a b c d p q e = omega (arith, e)

pub total_plus : {A : Type 0} (f g : A → ℕ) (xs : List A) → total (λ x. f x + g x) xs ≡ total f xs + total g xs
total_plus f g [] = refl
total_plus f g (x ∷ xs) = four (f x) (g x) (total f xs) (total g xs) (total (λ y. f y + g y) xs) 0 (total_plus f g xs)

pub total_ones : {A : Type 0} (xs : List A) → total (λ x. 1) xs ≡ length xs
total_ones [] = refl
total_ones (x ∷ xs) = let rest = total_ones xs in omega (arith, rest)

-- of those that pass a test
pub total_filter : {A : Type 0} (f : A → ℕ) (test : A → Bool) (xs : List A) → total f (filter test xs) ≡ total (λ x. if test x then f x else 0) xs
total_filter f test [] = refl
total_filter f test (x ∷ xs) = one (test x) (total_filter f test xs)
  where
    one : (b : Bool) → total f (filter test xs) ≡ total (λ y. if test y then f y else 0) xs
        → total f (if b then x ∷ filter test xs else filter test xs) ≡ (if b then f x else 0) + total (λ y. if test y then f y else 0) xs
    one true e = ap (λ n. f x + n) e
    one false e = omega (arith, e)

pub spend_is : {A : Type 0} (f : A → ℕ) (xs : List A) → spend f xs ≡ total (λ x. 1 + f x) xs
spend_is f [] = refl
spend_is f (x ∷ xs) = ap (λ n. 1 + f x + n) (spend_is f xs)

pub total_zero : {A : Type 0} (xs : List A) → total (λ x. 0) xs ≡ 0
total_zero [] = refl
total_zero (x ∷ xs) = let rest = total_zero xs in omega (arith, rest)

-- where nothing comes together, nothing comes of any
pub total_none : {A : Type 0} (f : A → ℕ) (xs : List A) → total f xs ≤ 0 → AllByRecursion (λ x. f x ≡ 0) xs
total_none f [] h = tt
total_none f (x ∷ xs) h = (omega (arith, h), total_none f xs (omega (arith, h)))

-- one for each that passes a test, where none does
pub none_counted : {A : Type 0} (test : A → Bool) (xs : List A) → list_any test xs ≡ false → total (λ x. if test x then 1 else 0) xs ≡ 0
none_counted test [] h = refl
none_counted test (x ∷ xs) h = one (test x) (none_counted test xs) h
  where
    one : (b : Bool) → (list_any test xs ≡ false → total (λ y. if test y then 1 else 0) xs ≡ 0) → (b || list_any test xs) ≡ false
        → (if b then 1 else 0) + total (λ y. if test y then 1 else 0) xs ≡ 0
    one true rest g = absurd cc
    one false rest g = let none = rest g in omega (arith, none)

-- ---- sums, with one more in front
pub zero_and : (c : ℕ) → c ≡ 0 + c
zero_and c = omega arith

pub zero_and_two : (c d : ℕ) → c + d ≡ 0 + c + d
zero_and_two c d = omega arith

pub later_cost : (c whole a b : ℕ) → whole ≡ a + b → c + whole ≡ (c + a) + b
later_cost c whole a b e = omega (arith, e)

pub later_costs : (c whole a b d : ℕ) → whole ≡ a + b + d → c + whole ≡ (c + a) + b + d
later_costs c whole a b d e = omega (arith, e)
