-- Copies of lists of trees have as many nodes and the same texts.
use Rattle.std.proofs.Common.{◌≡◌, ℕ, ◌+◌, ◌<◌, List, [], ◌∷◌, ◌++◌, length, map, take, get_or, sum_by, refl, sym, ap, ap₂, ◌∙◌, append-nil}
use Rattle.std.specs.List.{flat_map}
use Rattle.std.proofs.lemmas.Grind.{flat_map-append}
use Rattle.std.proofs.lemmas.List.{map-append, take_more}
use Rattle.std.proofs.lemmas.List.Sums.{sum_by-cons}

pub sum_mapped : {A : Type 0} (f : A → ℕ) (xs ys : List A) → map f xs ≡ map f ys → sum_by f xs ≡ sum_by f ys
sum_mapped f [] [] e = refl
sum_mapped f [] (y ∷ ys) e = absurd cc
sum_mapped f (x ∷ xs) [] e = absurd cc
sum_mapped f (x ∷ xs) (y ∷ ys) e =
    let head : f x ≡ f y = cc in
    let tail : map f xs ≡ map f ys = cc in
    sum_by-cons f x xs ∙ (ap₂ (λ (m n : ℕ). m + n) head (sum_mapped f xs ys tail) ∙ sym (sum_by-cons f y ys))

pub flat_mapped : {A B : Type 0} (f : A → List B) (xs ys : List A) → map f xs ≡ map f ys → flat_map f xs ≡ flat_map f ys
flat_mapped f [] [] e = refl
flat_mapped f [] (y ∷ ys) e = absurd cc
flat_mapped f (x ∷ xs) [] e = absurd cc
flat_mapped {A} {B} f (x ∷ xs) (y ∷ ys) e =
    let head : f x ≡ f y = cc in
    let tail : map f xs ≡ map f ys = cc in
    ap₂ (λ (m n : List B). m ++ n) head (flat_mapped f xs ys tail)

-- one more of a list, each of which has several trees
pub next_several : {X A B : Type 0} (f : A → B) (g : X → List A) (xs ys new : List X) (i : ℕ) (x y : X) → i < length xs → x ≡ get_or xs i x → new ≡ ys ++ y ∷ [] → map f (flat_map g ys) ≡ map f (flat_map g (take i xs)) → map f (g y) ≡ map f (g x) →
    map f (flat_map g new) ≡ map f (flat_map g (take (i + 1) xs))
next_several {X} {A} {B} f g xs ys new i x y less is added before one =
    ap (λ (l : List X). map f (flat_map g l)) added
    ∙ (ap (map f) (flat_map-append g ys (y ∷ [])) ∙ (map-append f (flat_map g ys) (g y ++ [])
    ∙ (ap₂ (λ (m n : List B). m ++ n) before (ap (map f) (append-nil (g y)) ∙ (one ∙ sym (ap (map f) (append-nil (g x)))))
    ∙ (sym (map-append f (flat_map g (take i xs)) (g x ++ []))
    ∙ (ap (map f) (sym (flat_map-append g (take i xs) (x ∷ [])))
    ∙ ap (λ (l : List X). map f (flat_map g l)) (ap (λ (z : X). take i xs ++ z ∷ []) is ∙ sym (take_more xs i x less)))))))

-- and one more that is one by itself
pub next_mapped : {A B : Type 0} (f : A → B) (xs ys new : List A) (i : ℕ) (x y : A) → i < length xs → x ≡ get_or xs i x → new ≡ ys ++ y ∷ [] → map f ys ≡ map f (take i xs) → f y ≡ f x → map f new ≡ map f (take (i + 1) xs)
next_mapped {A} {B} f xs ys new i x y less is added before one =
    ap (map f) added
    ∙ (map-append f ys (y ∷ [])
    ∙ (ap₂ (λ (l : List B) (z : B). l ++ z ∷ []) before one
    ∙ (sym (map-append f (take i xs) (x ∷ [])) ∙ ap (map f) (ap (λ (z : A). take i xs ++ z ∷ []) is ∙ sym (take_more xs i x less)))))
