-- Lists in parts.
use Rattle.std.proofs.Common.{◌≡◌, ℕ, zero, suc, ◌+◌, ◌-◌, ◌<◌, ◌≤◌, Some, List, [], ◌∷◌, ◌++◌, length, map, take, drop, get_or, slice_get, sum_by, refl, sym, ap, ◌∙◌, arith}
use Rattle.std.specs.List.{AllByRecursion}
use Rattle.std.proofs.lemmas.List.Sums.{sum_by-cons}
use Rattle.qw_operator.proofs.ReadParts.{take_none}

-- ---- what holds of all
pub all_of : {X : Type 0} (P : X → Type 0) (xs : List X) → ((k : ℕ) (x : X) → slice_get xs k ≡ Some x → P x) → AllByRecursion P xs
all_of P [] each = tt
all_of P (x ∷ xs) each = (each 0 x refl, all_of P xs (λ k y found. each (suc k) y found))

pub all_more : {X : Type 0} (P Q : X → Type 0) (xs : List X) → ((x : X) → P x → Q x) → AllByRecursion P xs → AllByRecursion Q xs
all_more P Q [] more all = tt
all_more P Q (x ∷ xs) more all = (more x all.0, all_more P Q xs more all.1)

pub all_map_take : {X Y : Type 0} (P : Y → Type 0) (f : X → Y) (n : ℕ) (xs : List X) → AllByRecursion P (map f xs) → AllByRecursion P (map f (take n xs))
all_map_take P f zero xs all = tt
all_map_take P f (suc n) [] all = tt
all_map_take P f (suc n) (x ∷ xs) all = (all.0, all_map_take P f n xs all.1)

pub all_take : {X : Type 0} (P : X → Type 0) (n : ℕ) (xs : List X) → AllByRecursion P xs → AllByRecursion P (take n xs)
all_take P zero xs all = tt
all_take P (suc n) [] all = tt
all_take P (suc n) (x ∷ xs) all = (all.0, all_take P n xs all.1)

pub all_mapped : {X Y : Type 0} (P : Y → Type 0) (f : X → Y) (xs : List X) → AllByRecursion P (map f xs) → AllByRecursion (λ x. P (f x)) xs
all_mapped P f [] all = tt
all_mapped P f (x ∷ xs) all = (all.0, all_mapped P f xs all.1)

-- ---- parts
-- a part, between two numbers
pub between : {X : Type 0} (xs : List X) (n m : ℕ) → n ≤ m → take n xs ++ take (m - n) (drop n xs) ≡ take m xs
between xs zero m le = let same : m - 0 ≡ m = omega arith in ap (λ (k : ℕ). take k xs) same
between [] (suc n) m le = take_none (m - suc n) ∙ sym (take_none m)
between (x ∷ xs) (suc n) zero le = absurd (omega (arith, le))
between (x ∷ xs) (suc n) (suc m) le =
    let fewer : suc m - suc n ≡ m - n = omega arith in
    ap (λ (l : _). x ∷ l) (ap (λ (k : ℕ). take n xs ++ take k (drop n xs)) fewer ∙ between xs n m (omega (arith, le)))

-- one more in a loop
pub take_at : {X : Type 0} (xs : List X) (i : ℕ) (d : X) → i < length xs → take (i + 1) xs ≡ take i xs ++ get_or xs i d ∷ []
take_at xs i d less = let at : i + 1 ≡ suc i = omega arith in ap (λ (j : ℕ). take j xs) at ∙ further xs i less
  where
    further : (ys : List _) (j : ℕ) → j < length ys → take (suc j) ys ≡ take j ys ++ get_or ys j d ∷ []
    further [] j below = absurd (omega (arith, below))
    further (y ∷ ys) zero below = refl
    further (y ∷ ys) (suc j) below = ap (λ (l : _). y ∷ l) (further ys j (omega (arith, below)))

pub take_behind : {X : Type 0} (xs ys : List X) (m : ℕ) → take (length xs + m) (xs ++ ys) ≡ xs ++ take m ys
take_behind {X = X} [] ys m = let same : length {A = X} [] + m ≡ m = omega arith in ap (λ (k : ℕ). take k ys) same
take_behind (x ∷ xs) ys m = let same : length (x ∷ xs) + m ≡ suc (length xs + m) = omega arith in ap (λ (k : ℕ). take k (x ∷ (xs ++ ys))) same ∙ ap (λ (l : _). x ∷ l) (take_behind xs ys m)

pub take_mapped : {X Y : Type 0} (f : X → Y) (n : ℕ) (xs : List X) → take n (map f xs) ≡ map f (take n xs)
take_mapped f zero xs = refl
take_mapped f (suc n) [] = refl
take_mapped f (suc n) (x ∷ xs) = ap (λ (l : _). f x ∷ l) (take_mapped f n xs)

pub take_long : {X : Type 0} (n : ℕ) (xs : List X) → n ≤ length xs → length (take n xs) ≡ n
take_long zero xs le = refl
take_long (suc n) [] le = absurd (omega (arith, le))
take_long (suc n) (x ∷ xs) le = ap suc (take_long n xs (omega (arith, le)))

-- ---- sums, in a loop over a list
sum_further : {X : Type 0} (f : X → ℕ) (xs : List X) (i : ℕ) (x : X) → i < length xs → x ≡ get_or xs i x → sum_by f (take (suc i) xs) ≡ sum_by f (take i xs) + f x
sum_further f [] i x less same = absurd (omega arith)
sum_further f (y ∷ xs) zero x less same = let here : f y ≡ f x = ap f (sym same) in omega (arith, here, sum_by-cons f y [])
sum_further f (y ∷ xs) (suc i) x less same =
    let rest = sum_further f xs i x (omega (arith, less)) same in
    omega (arith, rest, sum_by-cons f y (take (suc i) xs), sum_by-cons f y (take i xs))

pub sum_next : {X : Type 0} (f : X → ℕ) (xs : List X) (i : ℕ) (x : X) → i < length xs → x ≡ get_or xs i x → sum_by f (take (i + 1) xs) ≡ sum_by f (take i xs) + f x
sum_next f xs i x less same = let at : i + 1 ≡ suc i = omega arith in ap (λ (j : ℕ). sum_by f (take j xs)) at ∙ sum_further f xs i x less same
