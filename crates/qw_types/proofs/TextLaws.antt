-- How many octets texts have at most: UTF-8 spells a character in at most four (ISO/IEC 10646, annex D).
use Rattle.std.proofs.Common.{◌≤◌, ◌*◌, ℕ, List, [], ◌∷◌, length, Bool, arith, length-append}
use Rattle.std.specs.List.{AllByRecursion}
use Rattle.std.specs.Str.{chars}
use lib.Utf8.{encode, encodes}
use Rattle.std.proofs.lemmas.Str.{encodes-chars, len_utf8_bounds, length-encode}
use Rattle.qw_types.specs.Value.{IsOfTypeOrNull, IsTextOf, text_octets}
use Rattle.qw_types.specs.declared.value.Ty.TheVariants.{Varchar}
use Rattle.qw_types.specs.declared.value.Val.{Val}
use Rattle.qw_types.specs.declared.value.Val.TheVariants as val

length-encodes : (characters : List ℕ) → length (encodes characters) ≤ 4 * length characters
length-encodes [] = omega arith
length-encodes (c ∷ characters) =
    omega (arith, length-append (encode c) (encodes characters), length-encode c, (len_utf8_bounds c).1, length-encodes characters)

-- a text of at most so many characters
pub text_short : (limit : ℕ) (octets : List ℕ) → IsTextOf limit octets → length octets ≤ 4 * limit
text_short limit octets is =
    let most : length (encodes (chars octets)) ≤ 4 * length (chars octets) = length-encodes (chars octets) in
    let same : length octets ≤ 4 * length (chars octets) = rw (encodes-chars octets is.utf8) at most in
    omega (arith, same, is.short)

-- the values of a column of texts
pub texts_short : (limit : ℕ) (not_null : Bool) (values : List Val) → limit ≤ 1000 → AllByRecursion (IsOfTypeOrNull (Varchar limit) not_null) values
    → text_octets values ≤ 4000 * length values
texts_short limit not_null [] few are = omega arith
texts_short limit not_null (val.Null ∷ values) few are = omega (arith, texts_short limit not_null values few are.1)
texts_short limit not_null (val.Num number ∷ values) few are = absurd are.0
texts_short limit not_null (val.Date number ∷ values) few are = absurd are.0
texts_short limit not_null (val.Text octets ∷ values) few are =
    omega (arith, few, text_short limit octets are.0, texts_short limit not_null values few are.1)
