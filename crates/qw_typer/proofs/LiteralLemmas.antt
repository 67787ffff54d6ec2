-- The number of a literal of digits, and when it is too long.
use Rattle.std.proofs.Common.{◌≡◌, ℕ, ◌<◌, ◌^◌, true, List, length, None, Result, Ok, Err, refl, sym, arith, inl, inr}
use Rattle.std.specs.Prelude.{ℤ}
use Rattle.std.specs.Str.Parse.{digits_value, ParsesSigned}
use Rattle.std.specs.Int.{w64}
use Rattle.std.proofs.lemmas.Bool.{le-ltb, cases_lt}
use Rattle.std.proofs.lemmas.Str.Parse.{parse_signed_digits}
use Rattle.qw_types.specs.Digits.{are_digits}
use Rattle.qw_types.proofs.DigitLemmas.{all_digits, own, some_digit}
use Rattle.qw_typer.specs.Inner.Literals.{value_of}

value-none : (bs : List ℕ) → are_digits bs ≡ true → (((0 < length bs) × (digits_value 10 bs < 2 ^ 63)) → ⊥) → value_of bs ≡ None
value-none bs digits h =
    elim (cases_lt (digits_value 10 bs) (10 ^ 18)) [
      | inl lt ↦ absurd (h (some_digit bs digits, omega arith))
      | inr le ↦ rw (digits, le-ltb (digits_value 10 bs) (10 ^ 18) le) refl
    ]

pub no_value : {E : Type 0} (bs : List ℕ) (r : Result ℤ E) (e : E) → are_digits bs ≡ true → ParsesSigned w64 10 bs r → r ≡ Err e → None ≡ value_of bs
no_value bs (Ok v) e digits h is = absurd cc
no_value bs (Err d) e digits h is = sym (value-none bs digits (parse_signed_digits own w64 bs (Err d) h (all_digits bs digits)))
