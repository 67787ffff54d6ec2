-- What holds of all elements of lists, and what is among leaves of lists of them.
use Rattle.std.proofs.Common.{◌≡◌, ◌∙◌, ℕ, ◌≤◌, List, [], ◌∷◌, ◌++◌, length, length-append, sum_by, refl, ap, ap₂, arith}
use Rattle.std.specs.List.{AllByRecursion, flat_map}
use Rattle.std.proofs.lemmas.List.Sums.{sum_by-cons}
use Rattle.qw_leaves.specs.declared.leaf.Leaf.{Leaf}
use Rattle.qw_leaves.specs.declared.leaf.Leaf.TheVariants as leaf
use Rattle.qw_leaves.specs.Leaves.{OfText, columns_among, texts_among}

-- ---- of all elements
pub all_front : {X : Type 0} (P : X → Type 0) (xs ys : List X) → AllByRecursion P (xs ++ ys) → AllByRecursion P xs
all_front P [] ys all = tt
all_front P (x ∷ xs) ys all = (all.0, all_front P xs ys all.1)

pub all_back : {X : Type 0} (P : X → Type 0) (xs ys : List X) → AllByRecursion P (xs ++ ys) → AllByRecursion P ys
all_back P [] ys all = all
all_back P (x ∷ xs) ys all = all_back P xs ys all.1

pub all_joined : {X : Type 0} (P : X → Type 0) (xs ys : List X) → AllByRecursion P xs → AllByRecursion P ys → AllByRecursion P (xs ++ ys)
all_joined P [] ys one two = two
all_joined P (x ∷ xs) ys one two = (one.0, all_joined P xs ys one.1 two)

pub all_of_each : {X Y : Type 0} (P : Y → Type 0) (f : X → List Y) (xs : List X) → AllByRecursion P (flat_map f xs) → AllByRecursion (λ x. AllByRecursion P (f x)) xs
all_of_each P f [] all = tt
all_of_each P f (x ∷ xs) all = (all_front P (f x) (flat_map f xs) all, all_of_each P f xs (all_back P (f x) (flat_map f xs) all))

pub all_weaker : {X : Type 0} (P Q : X → Type 0) → ((x : X) → P x → Q x) → (xs : List X) → AllByRecursion P xs → AllByRecursion Q xs
all_weaker P Q more [] all = tt
all_weaker P Q more (x ∷ xs) all = (more x all.0, all_weaker P Q more xs all.1)

pub all_pairs : {X : Type 0} (P Q : X → Type 0) (xs : List X) → AllByRecursion P xs → AllByRecursion Q xs → AllByRecursion (λ x. P x × Q x) xs
all_pairs P Q [] one two = tt
all_pairs P Q (x ∷ xs) one two = ((one.0, two.0), all_pairs P Q xs one.1 two.1)

-- ---- texts among leaves
pub all_texts : (P : List ℕ → Type 0) (ls : List Leaf) → AllByRecursion P (texts_among ls) → AllByRecursion (OfText P) ls
all_texts P [] all = tt
all_texts P (leaf.Column i ty ∷ ls) all = (tt, all_texts P ls all)
all_texts P (leaf.Number v s ∷ ls) all = (tt, all_texts P ls all)
all_texts P (leaf.Date d ∷ ls) all = (tt, all_texts P ls all)
all_texts P (leaf.Text t ∷ ls) all = (all.0, all_texts P ls all.1)

pub texts_all : (P : List ℕ → Type 0) (ls : List Leaf) → AllByRecursion (OfText P) ls → AllByRecursion P (texts_among ls)
texts_all P [] all = tt
texts_all P (leaf.Column i ty ∷ ls) all = texts_all P ls all.1
texts_all P (leaf.Number v s ∷ ls) all = texts_all P ls all.1
texts_all P (leaf.Date d ∷ ls) all = texts_all P ls all.1
texts_all P (leaf.Text t ∷ ls) all = (all.0, texts_all P ls all.1)

pub texts_joined : (xs ys : List Leaf) → texts_among (xs ++ ys) ≡ texts_among xs ++ texts_among ys
texts_joined [] ys = refl
texts_joined (leaf.Column i ty ∷ xs) ys = texts_joined xs ys
texts_joined (leaf.Number v s ∷ xs) ys = texts_joined xs ys
texts_joined (leaf.Date d ∷ xs) ys = texts_joined xs ys
texts_joined (leaf.Text t ∷ xs) ys = ap (λ (ts : List (List ℕ)). t ∷ ts) (texts_joined xs ys)

-- where these are the texts of the one and of the other part
pub texts_of_both : (xs ys : List Leaf) (ts us : List (List ℕ)) → texts_among xs ≡ ts → texts_among ys ≡ us → texts_among (xs ++ ys) ≡ ts ++ us
texts_of_both xs ys ts us first second = texts_joined xs ys ∙ ap₂ (λ (a b : List (List ℕ)). a ++ b) first second

pub texts_of_each : {X : Type 0} (f : X → List Leaf) (g : X → List (List ℕ)) (xs : List X) → ((x : X) → texts_among (f x) ≡ g x) → texts_among (flat_map f xs) ≡ flat_map g xs
texts_of_each f g [] each = refl
texts_of_each f g (x ∷ xs) each = texts_of_both (f x) (flat_map f xs) (g x) (flat_map g xs) (each x) (texts_of_each f g xs each)

pub texts_few : (ls : List Leaf) → length (texts_among ls) ≤ length ls
texts_few [] = omega arith
texts_few (leaf.Column i ty ∷ ls) = let rest = texts_few ls in omega (arith, rest)
texts_few (leaf.Number v s ∷ ls) = let rest = texts_few ls in omega (arith, rest)
texts_few (leaf.Date d ∷ ls) = let rest = texts_few ls in omega (arith, rest)
texts_few (leaf.Text t ∷ ls) = let rest = texts_few ls in omega (arith, rest)

-- ---- and columns
pub columns_joined : (xs ys : List Leaf) → columns_among (xs ++ ys) ≡ columns_among xs ++ columns_among ys
columns_joined [] ys = refl
columns_joined (leaf.Column i ty ∷ xs) ys = ap (λ (is : List ℕ). i ∷ is) (columns_joined xs ys)
columns_joined (leaf.Number v s ∷ xs) ys = columns_joined xs ys
columns_joined (leaf.Date d ∷ xs) ys = columns_joined xs ys
columns_joined (leaf.Text t ∷ xs) ys = columns_joined xs ys

pub columns_of_each : {X : Type 0} (f : X → List Leaf) (g : X → List ℕ) (xs : List X) → ((x : X) → columns_among (f x) ≡ g x) → columns_among (flat_map f xs) ≡ flat_map g xs
columns_of_each f g [] each = refl
columns_of_each f g (x ∷ xs) each = columns_joined (f x) (flat_map f xs) ∙ ap₂ (λ (a b : List ℕ). a ++ b) (each x) (columns_of_each f g xs each)

-- ---- how many there are
pub each_few : {X Y : Type 0} (f : X → List Y) (g : X → ℕ) (xs : List X) → ((x : X) → length (f x) ≤ g x) → length (flat_map f xs) ≤ sum_by g xs
each_few f g [] few = omega arith
each_few f g (x ∷ xs) few = let rest = each_few f g xs few in omega (arith, length-append (f x) (flat_map f xs), few x, rest, sum_by-cons g x xs)
