-- Numbers without their last digits, and digits one after another.
use Rattle.std.proofs.Common.{◌≡◌, ◌+◌, ◌-◌, ◌/◌, ◌%◌, ◌^◌, ◌<◌, ◌≤◌, ℕ, suc, List, [], ◌∷◌, ◌++◌, append_assoc, refl, sym, ◌∙◌, arith}
use Rattle.std.proofs.Math.Nat.{div-eq_of_lt, one-le-pow, pow-le-pow_right}
use Rattle.qw_types.specs.NumberText.{last_digits}

pub power_fits : (count : ℕ) → count ≤ 19 → 10 ^ count < 2 ^ 64
power_fits count short = let most : 10 ^ count ≤ 10 ^ 19 = pow-le-pow_right (omega arith) short in omega (arith, most)

pub power_positive : (count : ℕ) → 0 < 10 ^ count
power_positive count = let least : 1 ≤ 10 ^ count = one-le-pow count 10 (omega arith) in omega (arith, least)

pub none_left : (number count : ℕ) → number < 2 ^ 64 → 19 < count → 0 ≡ number / 10 ^ count
none_left number count small long =
    let many : 20 ≤ count = omega (arith, long) in
    let least : 10 ^ 20 ≤ 10 ^ count = pow-le-pow_right (omega arith) many in
    sym (div-eq_of_lt (omega (arith, small, least)))

-- the last digits, with the first of them apart
pub digit_first : (count done number : ℕ) → done < count → last_digits (count - done) number ≡ (48 + number / 10 ^ (count - 1 - done) % 10) ∷ last_digits (count - 1 - done) number
digit_first count done number before = let e : count - done ≡ suc (count - 1 - done) = omega (arith, before) in rw e refl

-- so one more digit behind those so far leaves one fewer
pub digit_more : (whole before after : List ℕ) (count done number left : ℕ) → done < count → before ++ last_digits (count - done) number ≡ whole
    → left ≡ number / 10 ^ (count - 1 - done) → after ≡ before ++ (48 + left % 10) ∷ [] → after ++ last_digits (count - (done + 1)) number ≡ whole
digit_more whole before after count done number left lt kept left_is is =
    let shorter : count - (done + 1) ≡ count - 1 - done = omega arith in
    rw (is, left_is, shorter) (
    append_assoc before ((48 + number / 10 ^ (count - 1 - done) % 10) ∷ []) (last_digits (count - 1 - done) number)
    ∙ (rw (digit_first count done number lt) at kept))
