-- The greatest of what elements have, and what expressions compare at most.
use Rattle.std.proofs.Common.{◌≡◌, ◌≤◌, ◌<◌, ◌++◌, ℕ, zero, suc, List, [], ◌∷◌, length, max, slice_index_or, refl, arith}
use Rattle.std.specs.List.{AllByRecursion, AllZip}
use Rattle.qw_scalar.specs.Evaluation.{Environment}
use Rattle.qw_scalar.specs.Expression.{Expression, case, coalesced, last, more}
use Rattle.qw_scalar.specs.Units.{most_by, units}
use Rattle.qw_scalar.specs.WorkedRows.{nested_coalesce}

-- each element's is at most the list's
pub most_at : {A : Type 0} (f : A → ℕ) (xs : List A) (k : ℕ) (d : A) → k < length xs → f (slice_index_or xs k d) ≤ most_by f xs
most_at f [] k d lt = absurd (omega arith)
most_at f (x ∷ xs) zero d lt = omega arith
most_at f (x ∷ xs) (suc k) d lt =
    let later = most_at f xs k d (omega arith) in
    omega arith

-- a bound of each element is one of the list
pub most_least : {A : Type 0} (f : A → ℕ) (n : ℕ) (xs : List A) → AllByRecursion (λ x. f x ≤ n) xs → most_by f xs ≤ n
most_least f n [] h = omega arith
most_least f n (x ∷ xs) h =
    let rest = most_least f n xs h.1 in
    omega (arith, h.0)

-- a bound of the list is one of each element
pub most_each : {A : Type 0} (f : A → ℕ) (n : ℕ) (xs : List A) → most_by f xs ≤ n → AllByRecursion (λ x. f x ≤ n) xs
most_each f n [] h = tt
most_each f n (x ∷ xs) h = (omega arith, most_each f n xs (omega arith))

-- that of two lists
pub most_append : {A : Type 0} (f : A → ℕ) (xs ys : List A) → most_by f (xs ++ ys) ≡ max (most_by f xs) (most_by f ys)
most_append f [] ys = omega arith
most_append f (x ∷ xs) ys =
    let rest = most_append f xs ys in
    omega arith

-- equal, where each element's is equal to the other's in its place
pub most_same : {A B : Type 0} (f : A → ℕ) (g : B → ℕ) (xs : List A) (ys : List B) → AllZip (λ x y. f x ≡ g y) xs ys → most_by f xs ≡ most_by g ys
most_same f g [] [] h = refl
most_same f g [] (y ∷ ys) h = absurd h
most_same f g (x ∷ xs) [] h = absurd h
most_same f g (x ∷ xs) (y ∷ ys) h = rw (h.0, most_same f g xs ys h.1) refl

-- what COALESCE of two compares, and COALESCE within COALESCE
pub coalesce_units : (a b : Expression) (env : Environment) → units (case (coalesced (more a (last b)))) env ≡ max (units a env) (units b env)
coalesce_units a b env = omega arith

pub nested_units : (n : ℕ) (a b : Expression) (env : Environment) → units (nested_coalesce n a b) env ≤ max (units a env) (units b env)
nested_units zero a b env = omega arith
nested_units (suc n) a b env =
    let inner = nested_units n a b env in
    omega arith
