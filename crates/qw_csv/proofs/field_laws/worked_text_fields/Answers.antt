use Rattle.std.proofs.Common.{◌≡◌, ◌∷◌, [], length, true, refl, arith}
use Rattle.std.specs.Prelude.{codes}
use Rattle.std.specs.Str.{chars, is_utf8}
use lib.Utf8.{encode}
use Rattle.std.proofs.lemmas.Str.{IsUtf8-from_is_utf8}
use Rattle.qw_csv.proofs.field_laws.worked_text_fields.Goals as goal

accents : is_utf8 (195 ∷ 169 ∷ 195 ∷ 169 ∷ 195 ∷ 169 ∷ []) ≡ true
unfolding chars is_utf8 encode
accents = refl

three_accents : length (chars (195 ∷ 169 ∷ 195 ∷ 169 ∷ 195 ∷ 169 ∷ [])) ≡ 3
unfolding chars
three_accents = refl

spaced : is_utf8 (codes " a ") ≡ true
unfolding chars is_utf8 encode
spaced = refl

spaced_long : length (chars (codes " a ")) ≡ 3
unfolding chars
spaced_long = refl

four : is_utf8 (codes "abcd") ≡ true
unfolding chars is_utf8 encode
four = refl

four_long : length (chars (codes "abcd")) ≡ 4
unfolding chars
four_long = refl

pub returns : goal.returns
returns c = record {
  characters = (refl, record { utf8 = IsUtf8-from_is_utf8 _ accents; short = omega (arith, three_accents) });
  spaces = (refl, record { utf8 = IsUtf8-from_is_utf8 _ spaced; short = omega (arith, spaced_long) });
  too_long = (IsUtf8-from_is_utf8 _ four, omega (arith, four_long));
}
