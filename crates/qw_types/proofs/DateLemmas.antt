-- Texts of digits alone, and the numbers that they show.
use Rattle.std.proofs.Common.{◌≡◌, ◌≤◌, ◌<◌, ◌^◌, ℕ, true, false, min, ℤ, pos, List, [], ◌∷◌, length, take, drop, refl, ap, inl, inr, arith}
use Rattle.std.specs.Char.{is_ascii_digit}
use Rattle.std.specs.List.{list_all}
use Rattle.std.specs.Str.Parse.{digits_value}
use Rattle.std.proofs.lemmas.Bool.{and_parts, cases_Bool}
use Rattle.std.proofs.lemmas.Grind.{common_steps}
use Rattle.std.proofs.lemmas.Int.Digits.{digits_value-lt}
use Rattle.std.proofs.Math.Nat.{pow-le-pow_right}
use Rattle.qw_types.specs.Calendar.{IsDate, packed}
use Rattle.qw_types.specs.DateText.{IsDateForm, ShowsDate, day_of, month_of, year_of}
use Rattle.qw_types.specs.Numeral.{are_spaces, leading_digits, without_spaces}
use Rattle.qw_types.proofs.DigitLemmas.{own}

pub leading_all : (ds : List ℕ) → length ds ≤ length (leading_digits ds) → list_all is_ascii_digit ds ≡ true
leading_all [] long = refl
leading_all (d ∷ ds) long = elim (cases_Bool (is_ascii_digit d)) [
  | inl e ↦ rw e (leading_all ds (rest e))
  | inr e ↦ absurd (none e)
]
  where
    rest : is_ascii_digit d ≡ true → length ds ≤ length (leading_digits ds)
    rest e = let shorter : length (d ∷ ds) ≤ length (d ∷ leading_digits ds) = rw e at long in omega (arith, shorter)

    none : is_ascii_digit d ≡ false → ⊥
    none e = let shorter : length (d ∷ ds) ≤ 0 = rw e at long in omega (arith, shorter)

pub all_leading : (ds : List ℕ) → list_all is_ascii_digit ds ≡ true → leading_digits ds ≡ ds
all_leading [] all = refl
all_leading (d ∷ ds) all =
    let (one, rest) = and_parts (is_ascii_digit d) (list_all is_ascii_digit ds) all in
    rw one (ap (λ (xs : List ℕ). d ∷ xs) (all_leading ds rest))

-- so many digits count to less than that power of ten
pub few_digits : (ds : List ℕ) → list_all is_ascii_digit ds ≡ true → digits_value 10 ds < 10 ^ length ds
few_digits ds all = digits_value-lt 10 ds (own.to ds all)

-- what the digits at the start count to, where there are up to four and nothing else
pub short_number : (ds : List ℕ) (number : ℕ) → length ds ≤ 4 → list_all is_ascii_digit ds ≡ true → number ≡ min (digits_value 10 (leading_digits ds)) 1000000000000000000
    → (number ≡ digits_value 10 ds) × (number < 10 ^ length ds) × (number < 10000)
short_number ds number short all is =
    let same = all_leading ds all in
    let few = few_digits ds all in
    let most : 10 ^ length ds ≤ 10 ^ 4 = pow-le-pow_right (omega arith) short in
    let number_is : number ≡ digits_value 10 ds = capped (digits_value 10 ds) (rw same at is) (omega (arith, few, most)) in
    (number_is, rw number_is few, omega (arith, number_is, few, most))
  where
    capped : (n : ℕ) → number ≡ min n 1000000000000000000 → n < 10000 → number ≡ n
    capped n e small = omega (arith, e, small)

-- the parts of a date have four, two and two octets
pub parts_long : (text : List ℕ) → length text ≡ 10 → (length (take 4 text) ≡ 4) × (length (take 2 (drop 5 text)) ≡ 2) × (length (drop 8 text) ≡ 2)
parts_long text long = (grind (arith, common_steps), grind (arith, common_steps), grind (arith, common_steps))

-- what a part counts to is below that power of ten
pub below_power : (number octets : ℕ) (part : List ℕ) → length part ≡ octets → number < 10 ^ length part → number < 10 ^ octets
below_power number octets part long below = rw long at below

-- the parts that a field shows, and the day that they name
pub date_shown : (field text part after : List ℕ) (year month day : ℕ) (number : ℤ) → text ≡ without_spaces field → part ≡ take 10 text → after ≡ drop 10 text
    → are_spaces after ≡ true → IsDateForm part → year ≡ year_of part → month ≡ month_of part → day ≡ day_of part → IsDate year month day
    → number ≡ pos (packed year month day) → ShowsDate field number
date_shown field text part after year month day number ht hp ha spaces form hy hm hd there is = record {
  form = rw (hp, ht) at form;
  spaces = rw (ha, ht) at spaces;
  there = rw (hy, hm, hd, hp, ht) at there;
  packed_is = rw (hy, hm, hd, hp, ht) at is;
}
