-- Numbers of at most 63 bits as words: what operators make of the words of numbers.
use Rattle.std.proofs.Common.{◌≡◌, ◌≢◌, ℕ, zero, suc, ◌+◌, ◌-◌, ◌*◌, ◌/◌, ◌%◌, ◌^◌, ◌<◌, ◌≤◌, ◌==◌, nat_lt, false, ℤ, pos, negsuc, ◌+ℤ◌, ◌-ℤ◌, ◌*ℤ◌, int_le, int_div, int_rem, unsigned_abs, FitsSigned, neg_ℤ, IsTrue, Some, mod-lt, refl, sym, ap, ap₂, ◌∙◌, ⊎_elim, arith, w64}
use Rattle.std.specs.Int.{cast_signed, cast_unsigned, int_wrap}
use Rattle.std.proofs.lemmas.Bool.{false_from_ne_true, cases_lt, eq-eqb, ne_eqb, cases_eq, lt-ltb, le-ltb}
use Rattle.std.proofs.lemmas.Bool.Decides.{nat_tests}
use Rattle.std.proofs.lemmas.Int.{ints, to_z-of_z, of_z-to_z, int_wrap_fits, fits_signed_from_abs, wrapping_add-bits, wrapping_sub-bits, wrapping_mul-bits}
use Rattle.std.proofs.Math.Nat.{div-le_self}
use Rattle.qw_types.specs.Arithmetic.{fits}
use Rattle.qw_module.specs.declared.instruction.ValType.TheVariants.{I64}
use Rattle.qw_module.specs.declared.instruction.Sign.TheVariants.{Signed}
use Rattle.qw_module.specs.declared.instruction.Division.TheVariants.{Div, Rem}
use Rattle.qw_module.specs.Numbers.{division}
use Rattle.qw_low.specs.Meaning.{if_defined}
use Rattle.qw_low.specs.State.{Number, LowState}
use Rattle.qw_low.specs.Held.{HoldsNumber}
use Rattle.std.specs.Prelude.{slice_get}

-- a number's word
abbrev pub word : ℤ → ℕ
word v = cast_unsigned w64 v

pub word_below : (z : ℤ) → FitsSigned w64 z → word z < 2 ^ 64
word_below z fit = omega (arith, ints)

pub word_back : (z : ℤ) → FitsSigned w64 z → cast_signed w64 (word z) ≡ z
word_back z fit = to_z-of_z w64 z fit

pub word_of : (n : ℕ) (z : ℤ) → n < 2 ^ 64 → cast_signed w64 n ≡ z → n ≡ word z
word_of n z below is = sym (of_z-to_z w64 n below) ∙ ap (cast_unsigned w64) is

pub small : (z : ℤ) → unsigned_abs z < 2 ^ 63 → FitsSigned w64 z
small z h = fits_signed_from_abs w64 z h

pub fits_below : (z : ℤ) → IsTrue (fits z) → unsigned_abs z < 10 ^ 18
fits_below z h = grind (arith, nat_tests, h)

pub below_fits : (z : ℤ) → unsigned_abs z < 10 ^ 18 → IsTrue (fits z)
below_fits z h = grind (arith, nat_tests, h)

pub fits_small : (z : ℤ) → IsTrue (fits z) → FitsSigned w64 z
fits_small z h = small z (omega (arith, fits_below z h))

-- ---- operators
pub word-add : (a b : ℤ) → FitsSigned w64 a → FitsSigned w64 b → FitsSigned w64 (a +ℤ b) → (word a + word b) % 2 ^ 64 ≡ word (a +ℤ b)
word-add a b fa fb fit = word_of ((word a + word b) % 2 ^ 64) (a +ℤ b) (mod-lt (word a + word b) (omega arith))
    (wrapping_add-bits w64 (word a) (word b) (word_below a fa) (word_below b fb) ∙ ap₂ (λ (p q : ℤ). int_wrap w64 (p +ℤ q)) (word_back a fa) (word_back b fb) ∙ int_wrap_fits w64 (a +ℤ b) fit)

pub word-sub : (a b : ℤ) → FitsSigned w64 a → FitsSigned w64 b → FitsSigned w64 (a -ℤ b) → (word a + 2 ^ 64 - word b) % 2 ^ 64 ≡ word (a -ℤ b)
word-sub a b fa fb fit =
    let turned : word a + 2 ^ 64 - word b ≡ word a + (2 ^ 64 - word b) = omega (arith, word_below b fb) in
    ap (λ (n : ℕ). n % 2 ^ 64) turned ∙
    word_of ((word a + (2 ^ 64 - word b)) % 2 ^ 64) (a -ℤ b) (mod-lt (word a + (2 ^ 64 - word b)) (omega arith))
    (wrapping_sub-bits w64 (word a) (word b) (word_below a fa) (word_below b fb) ∙ ap₂ (λ (p q : ℤ). int_wrap w64 (p -ℤ q)) (word_back a fa) (word_back b fb) ∙ int_wrap_fits w64 (a -ℤ b) fit)

pub word-mul : (a b : ℤ) → FitsSigned w64 a → FitsSigned w64 b → FitsSigned w64 (a *ℤ b) → (word a * word b) % 2 ^ 64 ≡ word (a *ℤ b)
word-mul a b fa fb fit = word_of ((word a * word b) % 2 ^ 64) (a *ℤ b) (mod-lt (word a * word b) (omega arith))
    (wrapping_mul-bits w64 (word a) (word b) (word_below a fa) (word_below b fb) ∙ ap₂ (λ (p q : ℤ). int_wrap w64 (p *ℤ q)) (word_back a fa) (word_back b fb) ∙ int_wrap_fits w64 (a *ℤ b) fit)

pub negated : (n : ℕ) → unsigned_abs (neg_ℤ (pos n)) ≡ n
negated zero = refl
negated (suc n) = refl

pub word_zero : (z : ℤ) → FitsSigned w64 z → (word z == 0) ≡ (unsigned_abs z == 0)
word_zero z fit = ⊎_elim
    (λ zeroth. rw (eq-eqb (word z) 0 zeroth, eq-eqb (unsigned_abs z) 0 (grind (arith, ints, zeroth))) refl)
    (λ other. rw (ne_eqb (word z) 0 other, ne_eqb (unsigned_abs z) 0 (λ e. other (grind (arith, ints, e)))) refl)
    (cases_eq (word z) 0)

pub quotient_below : (a b : ℤ) (m : ℕ) → unsigned_abs a < m → unsigned_abs (int_div a b) < m
quotient_below (pos a) (pos b) m h = omega (arith, div-le_self a b)
quotient_below (pos a) (negsuc b) m h = omega (arith, negated (a / suc b), div-le_self a (suc b))
quotient_below (negsuc a) (pos b) m h = omega (arith, negated (suc a / b), div-le_self (suc a) b)
quotient_below (negsuc a) (negsuc b) m h = omega (arith, div-le_self (suc a) (suc b))

below_past : (z : ℤ) → unsigned_abs z < 2 ^ 63 → int_le (pos (2 ^ 63)) z ≡ false
below_past z h = false_from_ne_true (int_le (pos (2 ^ 63)) z) (λ le. omega (arith, ints))

pub word-div : (a b : ℤ) → unsigned_abs a < 2 ^ 63 → FitsSigned w64 b → unsigned_abs b ≢ 0 → if_defined (division I64 (Div Signed) (word a) (word b)) ≡ Some (word (int_div a b))
word-div a b small_a fb nonzero =
    rw (word_zero b fb, ne_eqb (unsigned_abs b) 0 nonzero, word_back a (small a small_a), word_back b fb, below_past (int_div a b) (quotient_below a b (2 ^ 63) small_a)) refl

pub word-rem : (a b : ℤ) → FitsSigned w64 a → FitsSigned w64 b → unsigned_abs b ≢ 0 → if_defined (division I64 (Rem Signed) (word a) (word b)) ≡ Some (word (int_rem a b))
word-rem a b fa fb nonzero = rw (word_zero b fb, ne_eqb (unsigned_abs b) 0 nonzero, word_back a fa, word_back b fb) refl

-- ---- tests
same_test : (k l m n : ℕ) → (k < l → m < n) → (l ≤ k → n ≤ m) → nat_lt k l ≡ nat_lt m n
same_test k l m n there back = ⊎_elim
    (λ less. rw (lt-ltb k l less, lt-ltb m n (there less)) refl)
    (λ more. rw (le-ltb k l more, le-ltb m n (back more)) refl)
    (cases_lt k l)

-- one comparison without sign tests a magnitude
pub past_limit : (z : ℤ) (limit : ℕ) → unsigned_abs z < 2 ^ 62 → limit < 2 ^ 62 → nat_lt (limit + limit) ((word z + limit) % 2 ^ 64) ≡ nat_lt limit (unsigned_abs z)
past_limit (pos n) limit small_z small_limit = same_test (limit + limit) ((n + limit) % 2 ^ 64) limit n (λ h. omega (arith, h)) (λ h. omega (arith, h))
past_limit (negsuc n) limit small_z small_limit = same_test (limit + limit) ((2 ^ 64 - suc n + limit) % 2 ^ 64) limit (suc n) (λ h. omega (arith, h)) (λ h. omega (arith, h))

-- ---- a local that holds a number
pub held_word : (s : LowState) (x : ℕ) (v : ℤ) → HoldsNumber s x v → slice_get s.locals x ≡ Some (Number (word v))
held_word s x v holds = holds.1 ∙ ap (λ (n : ℕ). Some (Number n)) (word_of holds.0 v holds.2 holds.3)

pub word_held : (s : LowState) (x : ℕ) (v : ℤ) → FitsSigned w64 v → slice_get s.locals x ≡ Some (Number (word v)) → HoldsNumber s x v
word_held s x v fit is = (word v, is, word_below v fit, word_back v fit)
