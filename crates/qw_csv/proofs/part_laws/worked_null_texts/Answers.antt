use Rattle.std.proofs.Common.{◌≡◌, [], length, true, refl, arith}
use Rattle.std.specs.Prelude.{codes}
use Rattle.std.specs.Str.{chars, is_utf8}
use lib.Utf8.{encode}
use Rattle.std.proofs.lemmas.Str.{IsUtf8-from_is_utf8}
use Rattle.qw_types.specs.Value.{IsTextOf}
use Rattle.qw_csv.proofs.part_laws.worked_null_texts.Goals as goal

longer : is_utf8 (codes "NO") ≡ true
unfolding chars is_utf8 encode
longer = refl

longer_long : length (chars (codes "NO")) ≡ 2
unfolding chars
longer_long = refl

spaced : is_utf8 (codes " N") ≡ true
unfolding chars is_utf8 encode
spaced = refl

spaced_long : length (chars (codes " N")) ≡ 2
unfolding chars
spaced_long = refl

one : is_utf8 (codes "N") ≡ true
unfolding chars is_utf8 encode
one = refl

one_long : length (chars (codes "N")) ≡ 1
unfolding chars
one_long = refl

none : is_utf8 [] ≡ true
unfolding chars is_utf8 encode
none = refl

none_long : length (chars []) ≡ 0
unfolding chars
none_long = refl

empty : IsTextOf 5 []
empty = record { utf8 = IsUtf8-from_is_utf8 _ none; short = omega (arith, none_long) }

pub returns-clause-longer : goal.returns-clause-longer
returns-clause-longer c = (refl, record { utf8 = IsUtf8-from_is_utf8 _ longer; short = omega (arith, longer_long) })

pub returns-clause-spaced : goal.returns-clause-spaced
returns-clause-spaced c = (refl, record { utf8 = IsUtf8-from_is_utf8 _ spaced; short = omega (arith, spaced_long) })

pub returns-clause-empty_text : goal.returns-clause-empty_text
returns-clause-empty_text c = (refl, empty)

pub returns-clause-empty_text_never_null : goal.returns-clause-empty_text_never_null
returns-clause-empty_text_never_null c = (refl, empty)

pub returns-clause-without_text : goal.returns-clause-without_text
returns-clause-without_text c = (refl, record { utf8 = IsUtf8-from_is_utf8 _ one; short = omega (arith, one_long) })
