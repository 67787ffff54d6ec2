-- The text of a number shows that number.
use Rattle.std.proofs.Common.{◌≡◌, ◌+◌, ◌-◌, ◌*◌, ◌/◌, ◌%◌, ◌^◌, ◌<◌, ◌≤◌, ◌==◌, ℕ, zero, suc, ℤ, pos, negsuc, Bool, true, false, List, [], ◌∷◌, ◌++◌, length, take, take_all, append-nil, unsigned_abs, refl, sym, ap, subst, ◌∙◌, arith}
use Rattle.std.specs.Char.{digit_value, is_ascii_digit}
use Rattle.std.specs.Fmt.{decimal}
use Rattle.std.specs.List.{list_all}
use Rattle.std.specs.Str.Parse.{AllDigits, digits_value, digits_value_after}
use Rattle.std.proofs.lemmas.Bool.{and_parts, lt-ltb}
use Rattle.std.proofs.lemmas.Bool.Decides.{nat_tests}
use Rattle.std.proofs.lemmas.Fmt.{decimal_is_IsNumeral}
use Rattle.std.proofs.lemmas.List.{drop_all}
use Rattle.std.proofs.lemmas.Str.{digit_value_digit}
use Rattle.std.proofs.Math.Nat.{div-div-eq-div-mul, div-le_self, div-one, mod-add-div', mod-lt, pow-suc}
use Rattle.qw_types.specs.Numeral.{ShowsNumber, after_digits, after_fraction, fraction_at, fraction_digits, is_negative, leading_digits, magnitude, signed, unsigned_part, whole_digits}
use Rattle.qw_types.specs.NumberText.{decimal_text, fraction_text, last_digits}
use Rattle.qw_types.specs.Octets.{space}
use Rattle.qw_types.proofs.DateLemmas.{all_leading}
use Rattle.qw_types.proofs.DigitLemmas.{own}

-- ---- the last digits

last_digit : (number : ℕ) → number % 10 < 10
last_digit number = mod-lt number (omega arith)

value_of_digit : (digit : ℕ) → digit < 10 → digit_value (48 + digit) ≡ digit
value_of_digit digit small = let e : digit_value (48 + digit) + 48 ≡ 48 + digit = digit_value_digit (48 + digit) (omega arith, omega arith) in omega (arith, e)

last_are_digits : (count number : ℕ) → AllDigits 10 (last_digits count number)
last_are_digits zero number = tt
last_are_digits (suc count) number =
    let small = last_digit (number / 10 ^ count) in
    (rw (value_of_digit (number / 10 ^ count % 10) small) small, last_are_digits count number)

last_all : (count number : ℕ) → list_all is_ascii_digit (last_digits count number) ≡ true
last_all count number = own.from (last_digits count number) (last_are_digits count number)

last_long : (count number : ℕ) → length (last_digits count number) ≡ count
last_long zero number = refl
last_long (suc count) number = ap (λ (n : ℕ). suc n) (last_long count number)

value_behind : (n : ℕ) (xs ys : List ℕ) → digits_value_after 10 n (xs ++ ys) ≡ digits_value_after 10 (digits_value_after 10 n xs) ys
value_behind n [] ys = refl
value_behind n (x ∷ xs) ys = value_behind (n * 10 + digit_value x) xs ys

last_value : (count number : ℕ) → digits_value_after 10 (number / 10 ^ count) (last_digits count number) ≡ number
last_value zero number = div-one number
last_value (suc count) number =
    let left : ℕ = number / 10 ^ count in
    let shorter : number / 10 ^ suc count ≡ number / 10 ^ count / 10 = rw (pow-suc 10 count) (sym (div-div-eq-div-mul number (10 ^ count) 10)) in
    let digit = value_of_digit (number / 10 ^ count % 10) (last_digit (number / 10 ^ count)) in
    let step : number / 10 ^ suc count * 10 + digit_value (48 + number / 10 ^ count % 10) ≡ number / 10 ^ count
    = rw (shorter, digit) (omega (arith, mod-add-div' (number / 10 ^ count) 10)) in
    ap (λ (n : ℕ). digits_value_after 10 n (last_digits count number)) step ∙ last_value count number

-- ---- digits, and what stands behind them

digits_stop : (ds rest : List ℕ) → list_all is_ascii_digit ds ≡ true → leading_digits rest ≡ [] → after_digits rest ≡ rest
    → (leading_digits (ds ++ rest) ≡ ds) × (after_digits (ds ++ rest) ≡ rest)
digits_stop [] rest all none same = (none, same)
digits_stop (d ∷ ds) rest all none same =
    let (one, more) = and_parts (is_ascii_digit d) (list_all is_ascii_digit ds) all in
    let h = digits_stop ds rest more none same in
    rw one (ap (λ (xs : List ℕ). d ∷ xs) h.0, h.1)

point_stops : (scale number : ℕ) → (leading_digits (fraction_text scale number) ≡ []) × (after_digits (fraction_text scale number) ≡ fraction_text scale number)
point_stops zero number = (refl, refl)
point_stops (suc scale) number = (refl, refl)

fraction_shown : (scale number : ℕ) → (fraction_at (fraction_text scale number) ≡ last_digits scale number) × (after_fraction (fraction_text scale number) ≡ [])
fraction_shown zero number = (refl, refl)
fraction_shown (suc scale) number =
    let all = last_all (suc scale) number in
    let h = digits_stop (last_digits (suc scale) number) [] all refl refl in
    (all_leading (last_digits (suc scale) number) all, subst (λ (xs : List ℕ). after_digits xs ≡ []) (append-nil (last_digits (suc scale) number)) h.1)

-- ---- the start of a text

no_sign : (d : ℕ) → is_ascii_digit d ≡ true → (d == space ≡ false) × (d == 45 ≡ false) × (d == 43 ≡ false)
no_sign d digit = (grind (arith, nat_tests), grind (arith, nat_tests), grind (arith, nat_tests))

plain_start : (whole rest : List ℕ) → 0 < length whole → list_all is_ascii_digit whole ≡ true
    → (unsigned_part (whole ++ rest) ≡ whole ++ rest) × (is_negative (whole ++ rest) ≡ false)
plain_start [] rest some all = absurd (omega arith)
plain_start (d ∷ ds) rest some all =
    let (one, more) = and_parts (is_ascii_digit d) (list_all is_ascii_digit ds) all in
    let (blank, minus, plus) = no_sign d one in
    (rw (blank, minus, plus) refl, rw (blank, minus) refl)

-- ---- the whole text

shown : (negative : Bool) (text whole : List ℕ) (scale n : ℕ) → unsigned_part text ≡ whole ++ fraction_text scale n → is_negative text ≡ negative → 0 < length whole
    → list_all is_ascii_digit whole ≡ true → digits_value 10 whole ≡ n / 10 ^ scale → ShowsNumber scale text (signed negative n)
shown negative text whole scale n parts sign some all value =
    let stop = point_stops scale n in
    let split = digits_stop whole (fraction_text scale n) all stop.0 stop.1 in
    let fraction = fraction_shown scale n in
    let whole_is : whole_digits text ≡ whole = ap leading_digits parts ∙ split.0 in
    let fraction_is : fraction_digits text ≡ last_digits scale n = ap (λ t. fraction_at (after_digits t)) parts ∙ ap fraction_at split.1 ∙ fraction.0 in
    let rest_is : after_fraction (after_digits (unsigned_part text)) ≡ [] = ap (λ t. after_fraction (after_digits t)) parts ∙ ap after_fraction split.1 ∙ fraction.1 in
    let long : length (last_digits scale n) ≤ scale = omega (arith, last_long scale n) in
    let none : scale - length (last_digits scale n) ≡ 0 = omega (arith, last_long scale n) in
    let number_is : digits_value 10 (whole ++ take scale (last_digits scale n)) * 10 ^ (scale - length (last_digits scale n)) ≡ n
    = rw (take_all scale (last_digits scale n) long, none, value_behind 0 whole (last_digits scale n), value, last_value scale n) (omega arith) in
    let magnitude_is : magnitude scale text ≡ n =
    ap (λ (ds : List ℕ). digits_value 10 (ds ++ take scale (fraction_digits text)) * 10 ^ (scale - length (fraction_digits text))) whole_is
    ∙ ap (λ (ds : List ℕ). digits_value 10 (whole ++ take scale ds) * 10 ^ (scale - length ds)) fraction_is
    ∙ number_is in
    record {
      form = rw (whole_is, rest_is, lt-ltb 0 (length whole) some) refl;
      fine = rw (fraction_is, drop_all scale (last_digits scale n) long) refl;
      value = sym (ap (λ (b : Bool). signed b (magnitude scale text)) sign ∙ ap (λ (m : ℕ). signed negative m) magnitude_is);
    }

pub text_shows : (number : ℤ) (scale : ℕ) → unsigned_abs number < 2 ^ 64 → ShowsNumber scale (decimal_text number scale) number
text_shows (pos n) scale small =
    let less : n / 10 ^ scale ≤ n = div-le_self n (10 ^ scale) in
    let (form, value) = decimal_is_IsNumeral (n / 10 ^ scale) (omega (arith, small, less)) in
    let all = own.from (decimal (n / 10 ^ scale)) form.1 in
    let start = plain_start (decimal (n / 10 ^ scale)) (fraction_text scale n) form.0 all in
    shown false (decimal_text (pos n) scale) (decimal (n / 10 ^ scale)) scale n start.0 start.1 form.0 all value
text_shows (negsuc m) scale small =
    let less : suc m / 10 ^ scale ≤ suc m = div-le_self (suc m) (10 ^ scale) in
    let (form, value) = decimal_is_IsNumeral (suc m / 10 ^ scale) (omega (arith, small, less)) in
    let all = own.from (decimal (suc m / 10 ^ scale)) form.1 in
    shown true (decimal_text (negsuc m) scale) (decimal (suc m / 10 ^ scale)) scale (suc m) refl refl form.0 all value
