-- A table of the powers of ten.
use Rattle.std.proofs.Common.{◌≡◌, ◌==◌, ◌+◌, ◌<◌, ◌^◌, ◌&&◌, ℕ, zero, suc, Bool, true, List, [], ◌∷◌, length, get_or, arith}
use Rattle.std.proofs.lemmas.Bool.{and_parts, eqb-true}

-- whether each entry is the power of ten whose exponent is its index, counted from here
unfoldable pub are_powers : ℕ → List ℕ → Bool
are_powers from [] = true
are_powers from (x ∷ xs) = (x == 10 ^ from) && are_powers (suc from) xs

entry : (xs : List ℕ) (from index : ℕ) → are_powers from xs ≡ true → index < length xs → get_or xs index 0 ≡ 10 ^ (from + index)
unfolding are_powers
entry [] from index are lt = absurd (omega arith)
entry (x ∷ xs) from zero are lt =
    let same : from + zero ≡ from = omega arith in
    rw same (eqb-true x (10 ^ from) (and_parts (x == 10 ^ from) (are_powers (suc from) xs) are).0)
entry (x ∷ xs) from (suc index) are lt =
    let same : from + suc index ≡ suc from + index = omega arith in
    rw same (entry xs (suc from) index (and_parts (x == 10 ^ from) (are_powers (suc from) xs) are).1 (omega arith))

pub power_at : (xs : List ℕ) (index : ℕ) → are_powers 0 xs ≡ true → index < length xs → get_or xs index 0 ≡ 10 ^ index
power_at xs index are lt =
    let found : get_or xs index 0 ≡ 10 ^ (0 + index) = entry xs 0 index are lt in
    let same : 0 + index ≡ index = omega arith in
    rw same at found
