-- A number's text in a table file: spaces, a sign or none, digits with at most one point among or beside them, spaces
-- (ISO/IEC 9075:1992, 5.3 "signed numeric literal", an exact one; 6.10 passes over the spaces round it).
use Rattle.std.specs.Prelude.{◌≡◌, ℕ, ◌-◌, ◌*◌, ◌^◌, ℤ, pos, neg_ℤ, List, [], ◌∷◌, ◌++◌, length, take, drop, Bool, false, ◌==◌, ◌&&◌, ◌||◌, nat_lt, if◌then◌else◌, IsTrue}
use Rattle.std.specs.Char.{is_ascii_digit}
use Rattle.std.specs.List.{list_all}
use Rattle.std.specs.Str.Parse.{digits_value, starts_with_minus, without_leading_sign}
use Rattle.qw_types.specs.Octets.{period, space}
use Rattle.qw_types.specs.Value.{IsOfType, type_scale}
use Rattle.qw_types.specs.declared.value.Ty.{Ty}
use Rattle.qw_types.specs.declared.value.Val.TheVariants.{Num}
use Rattle.qw_types.specs.declared.numeral.FieldFault.{FieldFault}
use Rattle.qw_types.specs.declared.numeral.FieldFault.TheVariants as fault

-- a text without the spaces at its start
abbrev pub without_spaces : List ℕ → List ℕ
without_spaces [] = []
without_spaces (octet ∷ octets) = if octet == space then without_spaces octets else octet ∷ octets

-- whether there are spaces alone
abbrev pub are_spaces : List ℕ → Bool
are_spaces octets = list_all (λ octet. octet == space) octets

-- the digits at the start of a text
abbrev pub leading_digits : List ℕ → List ℕ
leading_digits [] = []
leading_digits (octet ∷ octets) = if is_ascii_digit octet then octet ∷ leading_digits octets else []

-- and what follows them
abbrev pub after_digits : List ℕ → List ℕ
after_digits [] = []
after_digits (octet ∷ octets) = if is_ascii_digit octet then after_digits octets else octet ∷ octets

-- the digits after a point at the start of a text; none where it begins with no point
abbrev pub fraction_at : List ℕ → List ℕ
fraction_at [] = []
fraction_at (octet ∷ octets) = if octet == period then leading_digits octets else []

-- and what follows the point and these digits
abbrev pub after_fraction : List ℕ → List ℕ
after_fraction [] = []
after_fraction (octet ∷ octets) = if octet == period then after_digits octets else octet ∷ octets

-- what stands behind the spaces at the start and the sign
abbrev pub unsigned_part : List ℕ → List ℕ
unsigned_part text = without_leading_sign (without_spaces text)

-- the digits before the point, and those after it
abbrev pub whole_digits : List ℕ → List ℕ
whole_digits text = leading_digits (unsigned_part text)

abbrev pub fraction_digits : List ℕ → List ℕ
fraction_digits text = fraction_at (after_digits (unsigned_part text))

-- whether a text is a number's: it has a digit, and spaces alone follow the digits and the point
abbrev pub is_number : List ℕ → Bool
is_number text = (nat_lt 0 (length (whole_digits text)) || nat_lt 0 (length (fraction_digits text))) && are_spaces (after_fraction (after_digits (unsigned_part text)))

-- whether it begins with a minus sign
abbrev pub is_negative : List ℕ → Bool
is_negative text = starts_with_minus (without_spaces text)

-- whether each digit past the scale is 0, so that the number is a whole one at the scale
abbrev pub is_fine : ℕ → List ℕ → Bool
is_fine scale text = list_all (λ octet. octet == 48) (drop scale (fraction_digits text))

-- the number without its sign, at the scale: the digits up to there, and zeros for those that are missing
abbrev pub magnitude : ℕ → List ℕ → ℕ
magnitude scale text = digits_value 10 (whole_digits text ++ take scale (fraction_digits text)) * 10 ^ (scale - length (fraction_digits text))

-- a number of a sign and a magnitude
abbrev pub signed : Bool → ℕ → ℤ
signed negative magnitude' = if negative then neg_ℤ (pos magnitude') else pos magnitude'

-- the number at the scale
abbrev pub number_at : ℕ → List ℕ → ℤ
number_at scale text = signed (is_negative text) (magnitude scale text)

-- the text shows the number at the scale
pub record ShowsNumber (scale : ℕ) (text : List ℕ) (number : ℤ) : Type 0 where
  pub form : IsTrue (is_number text)
  pub fine : IsTrue (is_fine scale text)
  pub value : number ≡ number_at scale text

-- a text stands for a number of the type
pub record IsNumberOf (type : Ty) (text : List ℕ) (number : ℤ) : Type 0 where
  pub shows : ShowsNumber (type_scale type) text number
  pub range : IsOfType type (Num number)

-- why it stands for none: it is no number's text, else a digit past the scale isn't 0, else the number is out of range
abbrev pub IsNumberFault : Ty → List ℕ → FieldFault → Type 0
IsNumberFault type text fault.NotNumber = is_number text ≡ false
IsNumberFault type text fault.TooFine = IsTrue (is_number text) × (is_fine (type_scale type) text ≡ false)
IsNumberFault type text fault.TooLarge = ShowsNumber (type_scale type) text (number_at (type_scale type) text)
    × (IsOfType type (Num (number_at (type_scale type) text)) → ⊥)
IsNumberFault type text fault.NotDate = ⊥
