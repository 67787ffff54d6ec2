-- Digits, and the number that they show.
use Rattle.std.proofs.Common.{◌≡◌, ℕ, ◌<◌, true, List, [], ◌∷◌, length, arith, rules}
use Rattle.std.specs.Prelude.{ltb}
use Rattle.std.specs.Char.{is_ascii_digit}
use Rattle.std.specs.List.{list_all}
use Rattle.std.specs.Str.{IsAscii, IsUtf8}
use Rattle.std.specs.Str.Parse.{digits_value}
use Rattle.std.proofs.lemmas.Bool.{and_parts, ltb-true}
use Rattle.std.proofs.lemmas.Bool.Decides.{nat_tests}
use Rattle.std.proofs.lemmas.Str.{IsUtf8-from_ascii}
use Rattle.std.proofs.lemmas.Str.Ascii.{IsAscii-nil, IsAscii-cons}
use Rattle.std.proofs.lemmas.Str.Parse.{IsNumeralModel, numerals_by_value}
use Rattle.qw_types.specs.Digits.{are_digits}

-- digits and their number in the words of the definitions
pub own : IsNumeralModel (λ ds. list_all is_ascii_digit ds ≡ true) (digits_value 10)
own = numerals_by_value (λ ds. list_all is_ascii_digit ds ≡ true) (search rules)

pub some_digit : (ds : List ℕ) → are_digits ds ≡ true → 0 < length ds
some_digit ds h = ltb-true 0 (length ds) (and_parts (ltb 0 (length ds)) (list_all is_ascii_digit ds) h).0

pub all_digits : (ds : List ℕ) → are_digits ds ≡ true → list_all is_ascii_digit ds ≡ true
all_digits ds h = (and_parts (ltb 0 (length ds)) (list_all is_ascii_digit ds) h).1

pub digits_are_ascii : (ds : List ℕ) → list_all is_ascii_digit ds ≡ true → IsAscii ds
digits_are_ascii [] e = IsAscii-nil
digits_are_ascii (d ∷ ds) e =
    let parts = and_parts (is_ascii_digit d) (list_all is_ascii_digit ds) e in
    IsAscii-cons d ds (digit_is_ascii d parts.0) (digits_are_ascii ds parts.1)
  where
    digit_is_ascii : (d : ℕ) → is_ascii_digit d ≡ true → d < 128
    digit_is_ascii d e = grind (arith, nat_tests)

pub digits_are_utf8 : (ds : List ℕ) → are_digits ds ≡ true → IsUtf8 ds
digits_are_utf8 ds e = IsUtf8-from_ascii ds (digits_are_ascii ds (all_digits ds e))
