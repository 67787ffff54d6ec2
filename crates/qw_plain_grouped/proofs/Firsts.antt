-- The first of some elements.
use Rattle.std.proofs.Common.{◌≡◌, ◌-◌, ◌≢◌, ℕ, zero, suc, List, [], ◌∷◌, length, take, refl, ap, arith}

pub none_taken : {A : Type 0} (n : ℕ) (xs : List A) → length xs ≡ 0 → take n xs ≡ []
none_taken zero [] h = refl
none_taken (suc n) [] h = refl
none_taken n (x ∷ xs) h = absurd (omega (arith, h))

pub one_taken : {A : Type 0} (n : ℕ) (x : A) (xs : List A) → n ≢ 0 → take n (x ∷ xs) ≡ x ∷ take (n - 1) xs
one_taken zero x xs h = absurd (h refl)
one_taken (suc n) x xs h = ap (λ m. x ∷ take m xs) (omega arith)
