-- The rows of a key are no more than all.
use Rattle.std.proofs.Common.{◌≡◌, ◌≤◌, ℕ, zero, suc, List, [], ◌∷◌, length, take, refl, ap, arith}
use Rattle.qw_types.specs.ValueOrder.{is_same_row}
use Rattle.qw_types.specs.declared.value.Val.{Val}
use Rattle.qw_grouped.specs.Groups.{key_of, members}
use Rattle.qw_grouped.proofs.TypedGroups.{filter_short}

take_short : {A : Type 0} (n : ℕ) (xs : List A) → length (take n xs) ≤ length xs
take_short zero xs = omega arith
take_short (suc n) [] = omega arith
take_short (suc n) (x ∷ xs) = omega (arith, take_short n xs)

pub members_few : (columns : ℕ) (key : List Val) (rows found : List (List Val)) (i : ℕ) → found ≡ members columns key (take i rows) → length found ≤ length rows
members_few columns key rows found i is =
    omega (arith, ap length is, filter_short (λ row. is_same_row key (key_of columns row)) (take i rows), take_short i rows)

pub all_taken : {A : Type 0} (n : ℕ) (xs : List A) → length xs ≤ n → take n xs ≡ xs
all_taken zero [] h = refl
all_taken zero (x ∷ xs) h = absurd (omega (arith, h))
all_taken (suc n) [] h = refl
all_taken (suc n) (x ∷ xs) h = ap (λ rest. x ∷ rest) (all_taken n xs (omega (arith, h)))
