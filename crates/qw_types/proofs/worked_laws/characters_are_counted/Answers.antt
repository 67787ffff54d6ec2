use Rattle.std.proofs.Common.{◌≡◌, ◌∷◌, [], length, true, false, refl, sym, ◌∙◌, arith}
use Rattle.std.specs.Str.{chars, is_utf8}
use lib.Utf8.{encode}
use Rattle.std.proofs.lemmas.Bool.{false≢true}
use Rattle.std.proofs.lemmas.Str.{IsUtf8-from_is_utf8, is_utf8-from_IsUtf8}
use Rattle.qw_types.proofs.worked_laws.characters_are_counted.Goals as goal

two : is_utf8 (122 ∷ 195 ∷ 159 ∷ []) ≡ true
unfolding chars is_utf8 encode
two = refl

two_long : length (chars (122 ∷ 195 ∷ 159 ∷ [])) ≡ 2
unfolding chars
two_long = refl

three_long : length (chars (122 ∷ 195 ∷ 159 ∷ 230 ∷ 176 ∷ 180 ∷ [])) ≡ 3
unfolding chars
three_long = refl

cut : is_utf8 (122 ∷ 195 ∷ []) ≡ false
unfolding chars is_utf8 encode
cut = refl

none : is_utf8 [] ≡ true
unfolding chars is_utf8 encode
none = refl

none_long : length (chars []) ≡ 0
unfolding chars
none_long = refl

pub returns-clause-short : goal.returns-clause-short
returns-clause-short c = record { utf8 = IsUtf8-from_is_utf8 _ two; short = omega (arith, two_long) }

pub returns-clause-long : goal.returns-clause-long
returns-clause-long c h = omega (arith, h.short, three_long)

pub returns-clause-broken : goal.returns-clause-broken
returns-clause-broken c h = false≢true (sym cut ∙ is_utf8-from_IsUtf8 _ h.utf8)

pub returns-clause-empty : goal.returns-clause-empty
returns-clause-empty c = record { utf8 = IsUtf8-from_is_utf8 _ none; short = omega (arith, none_long) }
