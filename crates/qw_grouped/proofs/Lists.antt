-- Filters one after the other, and lists that are made of each element of another.
use Rattle.std.proofs.Common.{◌≡◌, ◌∙◌, Bool, true, false, List, [], ◌∷◌, ◌++◌, map, refl, sym, ap}
use Rattle.std.specs.List.{AllByRecursion, filter, flat_map}
use Rattle.std.specs.List.Sorted.{IsPermutation}
use Rattle.std.proofs.lemmas.List.{append_assoc}
use Rattle.std.proofs.lemmas.List.Sorted.{IsPermutation-refl, IsPermutation-sym, IsPermutation-trans, IsPermutation-append_comm, IsPermutation-append_left, IsPermutation-append_right}
use Rattle.qw_grouped.proofs.Permuting.{permuted}

pub passed : {X : Type 0} (p : X → Bool) (x : X) (xs : List X) → p x ≡ true → filter p (x ∷ xs) ≡ x ∷ filter p xs
passed p x xs h = rw h refl

pub dropped : {X : Type 0} (p : X → Bool) (x : X) (xs : List X) → p x ≡ false → filter p (x ∷ xs) ≡ filter p xs
dropped p x xs h = rw h refl

commute_by : {X : Type 0} (p q : X → Bool) (x : X) (xs : List X) (b c : Bool) → p x ≡ b → q x ≡ c → filter p (filter q xs) ≡ filter q (filter p xs)
    → filter p (filter q (x ∷ xs)) ≡ filter q (filter p (x ∷ xs))
commute_by p q x xs true true h g so =
    ap (filter p) (passed q x xs g) ∙ passed p x (filter q xs) h ∙ ap (λ ys. x ∷ ys) so
    ∙ sym (passed q x (filter p xs) g) ∙ ap (filter q) (sym (passed p x xs h))
commute_by p q x xs true false h g so = ap (filter p) (dropped q x xs g) ∙ so ∙ sym (dropped q x (filter p xs) g) ∙ ap (filter q) (sym (passed p x xs h))
commute_by p q x xs false true h g so = ap (filter p) (passed q x xs g) ∙ dropped p x (filter q xs) h ∙ so ∙ ap (filter q) (sym (dropped p x xs h))
commute_by p q x xs false false h g so = ap (filter p) (dropped q x xs g) ∙ so ∙ ap (filter q) (sym (dropped p x xs h))

pub filters_commute : {X : Type 0} (p q : X → Bool) (xs : List X) → filter p (filter q xs) ≡ filter q (filter p xs)
filters_commute p q [] = refl
filters_commute p q (x ∷ xs) = commute_by p q x xs (p x) (q x) refl refl (filters_commute p q xs)

within_by : {X : Type 0} (p q : X → Bool) (x : X) (xs : List X) (b c : Bool) → p x ≡ b → q x ≡ c → (b ≡ true → c ≡ true) → filter p (filter q xs) ≡ filter p xs
    → filter p (filter q (x ∷ xs)) ≡ filter p (x ∷ xs)
within_by p q x xs true true h g both so = ap (filter p) (passed q x xs g) ∙ passed p x (filter q xs) h ∙ ap (λ ys. x ∷ ys) so ∙ sym (passed p x xs h)
within_by p q x xs true false h g both so = let e : false ≡ true = both refl in absurd cc
within_by p q x xs false true h g both so = ap (filter p) (passed q x xs g) ∙ dropped p x (filter q xs) h ∙ so ∙ sym (dropped p x xs h)
within_by p q x xs false false h g both so = ap (filter p) (dropped q x xs g) ∙ so ∙ sym (dropped p x xs h)

-- what passes the one passes the other
pub filter_within : {X : Type 0} (p q : X → Bool) (xs : List X) → ((x : X) → p x ≡ true → q x ≡ true) → filter p (filter q xs) ≡ filter p xs
filter_within p q [] both = refl
filter_within p q (x ∷ xs) both = within_by p q x xs (p x) (q x) refl refl (both x) (filter_within p q xs both)

all_filter_by : {X : Type 0} (P : X → Type 0) (p : X → Bool) (x : X) (xs : List X) (b : Bool) → p x ≡ b → P x → AllByRecursion P (filter p xs) → AllByRecursion P (filter p (x ∷ xs))
all_filter_by P p x xs true h px rest = rw h (px, rest)
all_filter_by P p x xs false h px rest = rw h rest

pub all_filter : {X : Type 0} (P : X → Type 0) (p : X → Bool) (xs : List X) → AllByRecursion P xs → AllByRecursion P (filter p xs)
all_filter P p [] h = h
all_filter P p (x ∷ xs) h = all_filter_by P p x xs (p x) refl h.0 (all_filter P p xs h.1)

-- ---- lists made of each element

pub flat_map_map : {X Y A : Type 0} (f : Y → List A) (g : X → Y) (xs : List X) → flat_map f (map g xs) ≡ flat_map (λ x. f (g x)) xs
flat_map_map f g [] = refl
flat_map_map f g (x ∷ xs) = ap (λ rest. f (g x) ++ rest) (flat_map_map f g xs)

pub flat_map_each : {X A : Type 0} (f g : X → List A) (xs : List X) → AllByRecursion (λ x. f x ≡ g x) xs → flat_map f xs ≡ flat_map g xs
flat_map_each f g [] h = refl
flat_map_each f g (x ∷ xs) h = rw (h.0, flat_map_each f g xs h.1) refl

pub flat_map_any : {X A : Type 0} (f g : X → List A) (xs : List X) → ((x : X) → f x ≡ g x) → flat_map f xs ≡ flat_map g xs
flat_map_any f g [] h = refl
flat_map_any f g (x ∷ xs) h = rw (h x, flat_map_any f g xs h) refl

two_lists : {A : Type 0} (xs ys zs : List A) → IsPermutation (xs ++ (ys ++ zs)) (ys ++ (xs ++ zs))
two_lists xs ys zs = rw (sym (append_assoc xs ys zs), sym (append_assoc ys xs zs)) (IsPermutation-append_left zs (xs ++ ys) (ys ++ xs) (IsPermutation-append_comm xs ys))

pub flat_map_permuted : {X A : Type 0} (f : X → List A) (xs ys : List X) → IsPermutation xs ys → IsPermutation (flat_map f xs) (flat_map f ys)
flat_map_permuted f = permuted (λ xs ys. IsPermutation (flat_map f xs) (flat_map f ys))
    (λ xs. IsPermutation-refl (flat_map f xs))
    (λ xs ys h. IsPermutation-sym (flat_map f xs) (flat_map f ys) h)
    (λ xs ys zs h g. IsPermutation-trans (flat_map f xs) (flat_map f ys) (flat_map f zs) h g)
    (λ x xs ys h. IsPermutation-append_right (f x) (flat_map f xs) (flat_map f ys) h)
    (λ x y xs. two_lists (f x) (f y) (flat_map f xs))
