use Rattle.std.proofs.Common.{◌≡◌, ℕ, [], ◌∷◌, zero, suc, true, length, Some, slice_get, refl, sym, arith}
use Rattle.std.specs.Str.{chars, is_utf8}
use lib.Utf8.{encode}
use Rattle.std.proofs.lemmas.Str.{IsUtf8-from_is_utf8}
use Rattle.std.proofs.lemmas.Option.{same_Some}
use Rattle.qw_read.proofs.ReadyColumns.{same_number}
use Rattle.qw_read.proofs.worked_laws.values_that_stand.Goals as goal

one_text : is_utf8 (65 ∷ []) ≡ true
unfolding chars is_utf8 encode
one_text = refl

one_long : length (chars (65 ∷ [])) ≡ 1
unfolding chars
one_long = refl

-- the one octet of a text
one_octet : (i octet : ℕ) → slice_get (65 ∷ []) i ≡ Some octet → (i ≡ 0) × (octet ≡ 65)
one_octet zero octet is = (refl, sym (same_Some 65 octet is))
one_octet (suc i) octet is = absurd cc

pub returns-clause-null : goal.returns-clause-null
returns-clause-null c = record {
  value = (0, refl, refl);
  null = (2, refl, refl);
  typed = refl;
  values = (40, refl, omega arith, omega arith);
  nulls = λ is. (2, refl, omega arith, omega arith);
  octets = λ is from first. absurd cc;
  words = λ x is. absurd cc;
}

pub returns-clause-number : goal.returns-clause-number
returns-clause-number c = record {
  value = (18446744073709551615, refl, refl);
  null = tt;
  typed = omega arith;
  values = (40, refl, omega arith, omega arith);
  nulls = λ is. absurd cc;
  octets = λ is from first. absurd cc;
  words = λ x is. let same : 18446744073709551615 ≡ x = same_number 18446744073709551615 x is in omega (arith, same);
}

pub returns-clause-text : goal.returns-clause-text
returns-clause-text c = record {
  value = (6, refl, refl, λ i octet is. let one = one_octet i octet is in rw (one.0, one.1) refl);
  null = tt;
  typed = record { utf8 = IsUtf8-from_is_utf8 _ one_text; short = omega (arith, one_long) };
  values = (40, refl, omega arith, omega arith);
  nulls = λ is. absurd cc;
  octets = λ is from first. let same : 6 ≡ from = same_number 6 from first in (7, refl, omega (arith, same), omega arith);
  words = λ x is. absurd cc;
}
