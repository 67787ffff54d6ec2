-- The text of a number with a scale, as a signed exact numeric literal (ISO/IEC 9075:1992, 5.3): a minus sign where it is below 0,
-- the digits before the point, at least one, and where the scale isn't 0 a point and as many digits as the scale says.
use Rattle.std.specs.Prelude.{ℕ, zero, suc, ◌+◌, ◌/◌, ◌%◌, ◌^◌, ℤ, pos, negsuc, List, [], ◌∷◌, ◌++◌, unsigned_abs}
use Rattle.std.specs.Fmt.{decimal}
use Rattle.qw_types.specs.Octets.{minus, period}

-- the last so many digits of a number, that of the units last; "0" is the octet 48
abbrev pub last_digits : (count number : ℕ) → List ℕ
last_digits zero number = []
last_digits (suc count) number = (48 + number / 10 ^ count % 10) ∷ last_digits count number

-- what stands behind the digits before the point
abbrev pub fraction_text : (scale number : ℕ) → List ℕ
fraction_text zero number = []
fraction_text (suc scale) number = period ∷ last_digits (suc scale) number

-- what stands before them
abbrev pub sign_text : ℤ → List ℕ
sign_text (pos number) = []
sign_text (negsuc number) = minus ∷ []

-- the text of the number that this whole one is at the scale
abbrev pub decimal_text : ℤ → (scale : ℕ) → List ℕ
decimal_text number scale = sign_text number ++ decimal (unsigned_abs number / 10 ^ scale) ++ fraction_text scale (unsigned_abs number)
