-- What the digits of a number say.
use Rattle.std.proofs.Common.{◌≡◌, ℕ, ◌<◌, ◌^◌, true, List, length, None, Result, Ok, Err, refl, sym, arith, inl, inr}
use Rattle.std.specs.Prelude.{ℤ}
use Rattle.std.specs.Str.Parse.{digits_value, ParsesSigned}
use Rattle.std.specs.Int.{w64}
use Rattle.std.proofs.lemmas.Bool.{le-ltb, cases_lt}
use Rattle.std.proofs.lemmas.Str.Parse.{parse_signed_digits}
use Rattle.qw_types.specs.Digits.{are_digits}
use Rattle.qw_schema.specs.Inner.Parser.{literal_of}
use Rattle.qw_types.proofs.DigitLemmas.{all_digits, own, some_digit}

-- ---- numbers

literal-none : (bs : List ℕ) → are_digits bs ≡ true → (((0 < length bs) × (digits_value 10 bs < 2 ^ 63)) → ⊥) → literal_of bs ≡ None
literal-none bs digits h =
    elim (cases_lt (digits_value 10 bs) (10 ^ 18)) [
      | inl lt ↦ absurd (h (some_digit bs digits, omega arith))
      | inr le ↦ rw (digits, le-ltb (digits_value 10 bs) (10 ^ 18) le) refl
    ]

pub no_literal : {E : Type 0} (bs : List ℕ) (r : Result ℤ E) (e : E) → are_digits bs ≡ true → ParsesSigned w64 10 bs r → r ≡ Err e → None ≡ literal_of bs
no_literal bs (Ok v) e digits h is = absurd cc
no_literal bs (Err d) e digits h is = sym (literal-none bs digits (parse_signed_digits own w64 bs (Err d) h (all_digits bs digits)))
