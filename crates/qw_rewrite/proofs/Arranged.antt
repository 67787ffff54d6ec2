-- Rows of a product in another order of its entries: a product is the same bag, whatever the order, where the entries are apart.
use Rattle.std.proofs.Common.{◌≡◌, ◌⊎◌, ℕ, suc, List, [], ◌∷◌, ◌++◌, map, inl, inr, refl, sym, ap, ap₂, subst}
use Rattle.std.specs.List.{AllByRecursion, flat_map}
use Rattle.std.specs.List.Sorted.{IsPermutation}
use Rattle.std.proofs.lemmas.List.{append_assoc}
use Rattle.std.proofs.lemmas.List.Sorted.{IsPermutation-refl, IsPermutation-trans, IsPermutation-append_left, IsPermutation-append_right, IsPermutation-append_comm}
use Rattle.qw_types.specs.declared.value.Val.{Val}
use Rattle.qw_types.specs.declared.value.Val.TheVariants.{Null, Num, Date, Text}
use Rattle.qw_meaning.specs.From.{first_of, merged}
use Rattle.qw_meaning.proofs.FromLemmas.{cell, first_of_null}
use Rattle.qw_rewrite.proofs.Pairs.{pairs}

abbrev pub Perm : {A : Type 0} → List A → List A → Type 0
Perm xs ys = IsPermutation xs ys

pub same-bag : {A : Type 0} (xs ys : List A) → xs ≡ ys → Perm xs ys
same-bag xs ys e = subst (λ l. Perm xs l) e (IsPermutation-refl xs)

-- ---- two loops in either order
parted : {B C : Type 0} (g h : B → List C) (ys : List B) → Perm (flat_map g ys ++ flat_map h ys) (flat_map (λ y. g y ++ h y) ys)
parted {B} {C} g h [] = IsPermutation-refl []
parted {B} {C} g h (y ∷ ys) =
    let G : List C = flat_map g ys in
    let H : List C = flat_map h ys in
    let all : List C = flat_map (λ y. g y ++ h y) ys in
    IsPermutation-trans ((g y ++ G) ++ (h y ++ H)) (g y ++ (h y ++ (G ++ H))) ((g y ++ h y) ++ all)
    (subst (λ (l : List C). Perm l (g y ++ (h y ++ (G ++ H)))) (sym (append_assoc (g y) G (h y ++ H)))
    (IsPermutation-append_right (g y) (G ++ (h y ++ H)) (h y ++ (G ++ H))
    (subst (λ (l : List C). Perm l (h y ++ (G ++ H))) (append_assoc G (h y) H)
    (subst (λ (l : List C). Perm ((G ++ h y) ++ H) l) (append_assoc (h y) G H) (IsPermutation-append_left H (G ++ h y) (h y ++ G) (IsPermutation-append_comm G (h y)))))))
    (subst (λ (l : List C). Perm l ((g y ++ h y) ++ all)) (append_assoc (g y) (h y) (G ++ H)) (IsPermutation-append_right (g y ++ h y) (G ++ H) all (parted g h ys)))

none-made : {B C : Type 0} (f : B → List C) → ((y : B) → f y ≡ []) → (ys : List B) → flat_map f ys ≡ []
none-made f h [] = refl
none-made f h (y ∷ ys) = rw (h y) (none-made f h ys)

pub turned : {A B C : Type 0} (f : A → B → List C) (xs : List A) (ys : List B) → Perm (flat_map (λ x. flat_map (f x) ys) xs) (flat_map (λ y. flat_map (λ x. f x y) xs) ys)
turned {A} {B} {C} f [] ys = same-bag [] (flat_map (λ (y : B). flat_map (λ (x : A). f x y) []) ys) (sym (none-made (λ (y : B). flat_map (λ (x : A). f x y) []) (λ y. refl) ys))
turned {A} {B} {C} f (x ∷ xs) ys =
    IsPermutation-trans (flat_map (f x) ys ++ flat_map (λ z. flat_map (f z) ys) xs) (flat_map (f x) ys ++ flat_map (λ y. flat_map (λ z. f z y) xs) ys) (flat_map (λ y. f x y ++ flat_map (λ z. f z y) xs) ys)
    (IsPermutation-append_right (flat_map (f x) ys) (flat_map (λ z. flat_map (f z) ys) xs) (flat_map (λ y. flat_map (λ z. f z y) xs) ys) (turned f xs ys))
    (parted (f x) (λ y. flat_map (λ z. f z y) xs) ys)

-- ---- rows put together
first_assoc : (u v w : Val) → first_of (first_of u v) w ≡ first_of u (first_of v w)
first_assoc Null v w = refl
first_assoc (Num u) v w = refl
first_assoc (Date u) v w = refl
first_assoc (Text u) v w = refl

pub merged_assoc : (a b c : List Val) → merged (merged a b) c ≡ merged a (merged b c)
merged_assoc [] b c = refl
merged_assoc (u ∷ a) [] c = refl
merged_assoc (u ∷ a) (v ∷ b) [] = refl
merged_assoc (u ∷ a) (v ∷ b) (w ∷ c) = ap₂ (λ (x : Val) (l : List Val). x ∷ l) (first_assoc u v w) (merged_assoc a b c)

-- at each place one of them has null
abbrev pub AreApart : List Val → List Val → Type 0
AreApart a b = (i : ℕ) → (cell a i ≡ Null) ⊎ (cell b i ≡ Null)

first_turned : (u v : Val) → (u ≡ Null) ⊎ (v ≡ Null) → first_of u v ≡ first_of v u
first_turned u v (inl e) = rw e (sym (first_of_null v))
first_turned u v (inr e) = rw e (first_of_null u)

pub merged_turned : (a b : List Val) → AreApart a b → merged a b ≡ merged b a
merged_turned [] [] h = refl
merged_turned [] (w ∷ b) h = refl
merged_turned (v ∷ a) [] h = refl
merged_turned (v ∷ a) (w ∷ b) h = ap₂ (λ (x : Val) (l : List Val). x ∷ l) (first_turned v w (h 0)) (merged_turned a b (λ i. h (suc i)))

abbrev pub AllApart : List (List Val) → List (List Val) → Type 0
AllApart ws_ bs = AllByRecursion (λ a. AllByRecursion (λ b. AreApart a b) bs) ws_

-- the sides of a product may change places
pub sides_turned : (ls rs : List (List Val)) → AllApart ls rs → Perm (pairs ls rs) (pairs rs ls)
sides_turned ls rs apart =
    IsPermutation-trans (pairs ls rs) (flat_map (λ r. flat_map (λ l. merged l r ∷ []) ls) rs) (pairs rs ls)
    (subst (λ (xs : List (List Val)). Perm xs (flat_map (λ r. flat_map (λ l. merged l r ∷ []) ls) rs)) (singles ls) (turned (λ l r. merged l r ∷ []) ls rs))
    (same-bag (flat_map (λ r. flat_map (λ l. merged l r ∷ []) ls) rs) (pairs rs ls) (others rs apart))
  where
    one-by-one : (f : List Val → List Val) (xs : List (List Val)) → flat_map (λ x. f x ∷ []) xs ≡ map f xs
    one-by-one f [] = refl
    one-by-one f (x ∷ xs) = ap (λ (l : List (List Val)). f x ∷ l) (one-by-one f xs)

    singles : (ls : List (List Val)) → flat_map (λ l. flat_map (λ r. merged l r ∷ []) rs) ls ≡ pairs ls rs
    singles [] = refl
    singles (l ∷ ls) = ap₂ (λ (xs ys : List (List Val)). xs ++ ys) (one-by-one (merged l) rs) (singles ls)

    each-turned : (r : List Val) (ls : List (List Val)) → AllByRecursion (λ l. AreApart l r) ls → flat_map (λ l. merged l r ∷ []) ls ≡ map (merged r) ls
    each-turned r [] h = refl
    each-turned r (l ∷ ls) h = ap₂ (λ (x : List Val) (xs : List (List Val)). x ∷ xs) (merged_turned l r h.0) (each-turned r ls h.1)

    firsts : (r : List Val) (rs ls : List (List Val)) → AllByRecursion (λ a. AllByRecursion (λ b. AreApart a b) (r ∷ rs)) ls → AllByRecursion (λ l. AreApart l r) ls × AllApart ls rs
    firsts r rs [] h = (tt, tt)
    firsts r rs (l ∷ ls) h = let rest = firsts r rs ls h.1 in ((h.0.0, rest.0), (h.0.1, rest.1))

    others : (rs : List (List Val)) → AllApart ls rs → flat_map (λ r. flat_map (λ l. merged l r ∷ []) ls) rs ≡ pairs rs ls
    others [] h = refl
    others (r ∷ rs) h = let parts = firsts r rs ls h in ap₂ (λ (xs ys : List (List Val)). xs ++ ys) (each-turned r ls parts.0) (others rs parts.1)
