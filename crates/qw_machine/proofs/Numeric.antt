-- Numeric operators as the code computes them, against their definitions.
use Rattle.std.proofs.Common.{◌≡◌, ℕ, zero, suc, ◌+◌, ◌-◌, ◌*◌, ◌/◌, ◌%◌, ◌^◌, ◌<◌, ◌≤◌, ◌==◌, nat_lt, false, refl, sym, ap, ◌∙◌, subst, ⊎_elim, arith}
use Rattle.std.specs.Prelude.{ℤ, pos, negsuc, if◌then◌else◌, FitsSigned, count_ones, bit_or, int_rem}
use Rattle.std.specs.Int.{Width, w8, w16, int_shr, int_div_euclid}
use Rattle.std.specs.Int.Bits.{or_self, or_comm}
use Rattle.std.specs.Int.Count.{count_leading_zeros, count_trailing_zeros, under, leading_unique, ones_step, ones-le}
use Rattle.std.specs.Int.Signed.{mag_rem, mag_shr}
use Rattle.std.proofs.Math.Nat.{pow-suc}
use Rattle.std.proofs.lemmas.Bool.{cases_Bool, ltb-true, ltb-false, ne_eqb}
use Rattle.std.proofs.lemmas.Nat.{pow_pos, shr_below, mod-mul-add, mod_low}
use Rattle.qw_module.specs.declared.instruction.ValType.{ValType}
use Rattle.qw_module.specs.declared.instruction.ValType.TheVariants.{I32, I64}
use Rattle.qw_module.specs.Numbers.{values_of, width_of, zeros_above, zeros_below, ones}
use Rattle.qw_module.proofs.NumberFacts.{rotated-is}

-- ---- numbers modulo the number of values
pub wrapped : (t : ValType) (n : ℕ) → n % 2 ^ 64 % values_of t ≡ n % values_of t
wrapped I32 n = omega arith
wrapped I64 n = omega arith

pub wrapped_difference : (t : ValType) (x y : ℕ) → y < values_of t → (x + (2 ^ 64 - y)) % 2 ^ 64 % values_of t ≡ (x + values_of t - y) % values_of t
wrapped_difference I32 x y h = omega (arith, h)
wrapped_difference I64 x y h = omega (arith, h)

-- ---- counts
length_of : (n a : ℕ) → a < 2 ^ n → (m : ℕ) × (zeros_above n a + m ≡ n) × (a < 2 ^ m) × (2 ^ m ≤ 2 * a + 1)
unfolding zeros_above
length_of zero a h = (0, refl, h, omega arith)
length_of (suc n) a h = ⊎_elim
    (λ is. let r = length_of n a (ltb-true a (2 ^ n) is) in (r.0, rw is (omega (arith, r.1)), r.2, r.3))
    (λ is_not. (suc n, rw is_not (omega arith), h, omega (arith, ltb-false a (2 ^ n) is_not, pow-suc 2 n)))
    (cases_Bool (nat_lt a (2 ^ n)))

pub leading_is : (n a : ℕ) → a < 2 ^ n → count_leading_zeros n a ≡ zeros_above n a
leading_is n a h = let r = length_of n a h in sym (leading_unique n a (zeros_above n a) r.0 r.1 r.2 r.3)

below_digit : (d t u : ℕ) → t ≡ u → under d t ≡ (if d == 0 then 1 + u else 0)
below_digit zero t u e = omega (arith, e)
below_digit (suc d) t u e = let other : (suc d == 0) ≡ false = ne_eqb (suc d) 0 (λ is. omega (arith, is)) in rw other refl

pub trailing_is : (n a : ℕ) → count_trailing_zeros n a ≡ zeros_below n a
unfolding count_trailing_zeros zeros_below
trailing_is zero a = refl
trailing_is (suc n) a = below_digit (a % 2) (count_trailing_zeros n (a / 2)) (zeros_below n (a / 2)) (trailing_is n (a / 2))

pub ones_are : (n a : ℕ) → a < 2 ^ n → count_ones a ≡ ones n a
unfolding ones
ones_are zero a h = omega (arith, ones-le zero a h)
ones_are (suc n) a h =
    let half : a / 2 < 2 ^ n = omega (arith, h, pow-suc 2 n) in
    ones_step a ∙ ap (λ k. a % 2 + k) (ones_are n (a / 2) half)

-- ---- signed readings
pub shifted_is : (z : ℤ) (k : ℕ) → int_shr z k ≡ int_div_euclid z (pos (2 ^ k))
shifted_is (pos a) k = refl
shifted_is (negsuc a) k = refl

pub shifted_fits : (w : Width) (z : ℤ) (k : ℕ) → FitsSigned w z → FitsSigned w (int_shr z k)
shifted_fits w z k fits = record { sfits = omega (arith, mag_shr z (2 ^ k), fits.sfits) }

pub remainder_fits : (w : Width) (z d : ℤ) → FitsSigned w z → FitsSigned w (int_rem z d)
remainder_fits w z d fits = record { sfits = omega (arith, mag_rem z d, fits.sfits) }

pub octet_fits : (t : ValType) (z : ℤ) → FitsSigned w8 z → FitsSigned (width_of t) z
octet_fits I32 z fits = record { sfits = omega (arith, fits.sfits) }
octet_fits I64 z fits = record { sfits = omega (arith, fits.sfits) }

pub pair_fits : (t : ValType) (z : ℤ) → FitsSigned w16 z → FitsSigned (width_of t) z
pair_fits I32 z fits = record { sfits = omega (arith, fits.sfits) }
pair_fits I64 z fits = record { sfits = omega (arith, fits.sfits) }

-- ---- rotations: what is shifted out and what is shifted in share no bit
turned : (j k x : ℕ) → x < 2 ^ (j + k) → bit_or ((x * 2 ^ k) % 2 ^ (j + k)) (x / 2 ^ j) ≡ (x * 2 ^ k) % 2 ^ (j + k) + x / 2 ^ j
turned j k x h = sym (rotated-is j k x h)

-- by no place, and by some of n
none_shifted : (n x : ℕ) → x < 2 ^ n → (x * 2 ^ 0) % 2 ^ n ≡ x
none_shifted n x h =
    let same : 0 * 2 ^ n + x ≡ x * 2 ^ 0 = omega arith in
    ap (λ m. m % 2 ^ n) (sym same) ∙ mod-mul-add 0 (2 ^ n) x h

none_left : (n x : ℕ) → x < 2 ^ n → x / 2 ^ n ≡ 0
none_left n x h = let low : x / 2 ^ n < 2 ^ 0 = shr_below x 0 n (subst (λ m. x < 2 ^ m) (omega arith) h) in omega arith

all_shifted : (n x : ℕ) → (x * 2 ^ n) % 2 ^ n ≡ 0
all_shifted n x =
    let same : x * 2 ^ n + 0 ≡ x * 2 ^ n = omega arith in
    ap (λ m. m % 2 ^ n) (sym same) ∙ mod_low x n 0 (pow_pos n)

left_none : (n x : ℕ) → x < 2 ^ n → bit_or ((x * 2 ^ 0) % 2 ^ n) (x / 2 ^ 0) ≡ (x * 2 ^ 0) % 2 ^ n + x / 2 ^ n
left_none n x h =
    let whole : x / 2 ^ 0 ≡ x = omega arith in
    rw (none_shifted n x h, none_left n x h, whole) (omega (arith, or_self x))

left_some : (n k x : ℕ) → x < 2 ^ n → k ≤ n → bit_or ((x * 2 ^ k) % 2 ^ n) (x / 2 ^ (n - k)) ≡ (x * 2 ^ k) % 2 ^ n + x / 2 ^ (n - k)
left_some n k x h le =
    let e : n - k + k ≡ n = omega arith in
    subst (λ m. bit_or ((x * 2 ^ k) % 2 ^ m) (x / 2 ^ (n - k)) ≡ (x * 2 ^ k) % 2 ^ m + x / 2 ^ (n - k)) e
    (turned (n - k) k x (subst (λ m. x < 2 ^ m) (sym e) h))

right_none : (n x : ℕ) → x < 2 ^ n → bit_or (x / 2 ^ 0) ((x * 2 ^ 0) % 2 ^ n) ≡ x / 2 ^ 0 + (x * 2 ^ n) % 2 ^ n
right_none n x h =
    let whole : x / 2 ^ 0 ≡ x = omega arith in
    rw (none_shifted n x h, all_shifted n x, whole) (omega (arith, or_self x))

right_some : (n k x : ℕ) → x < 2 ^ n → k ≤ n → bit_or (x / 2 ^ k) ((x * 2 ^ (n - k)) % 2 ^ n) ≡ x / 2 ^ k + (x * 2 ^ (n - k)) % 2 ^ n
right_some n k x h le =
    let e : k + (n - k) ≡ n = omega arith in
    let t = subst (λ m. bit_or ((x * 2 ^ (n - k)) % 2 ^ m) (x / 2 ^ k) ≡ (x * 2 ^ (n - k)) % 2 ^ m + x / 2 ^ k) e
    (turned k (n - k) x (subst (λ m. x < 2 ^ m) (sym e) h)) in
    omega (arith, or_comm (x / 2 ^ k) ((x * 2 ^ (n - k)) % 2 ^ n), t)

-- by so many places of 32 or 64, as the library writes it
pub left_32 : (x k : ℕ) → x < 2 ^ 32 → k < 32 → bit_or ((x * 2 ^ (k % 32)) % 2 ^ 32) (x / 2 ^ ((32 - k % 32) % 32)) ≡ (x * 2 ^ k) % 2 ^ 32 + x / 2 ^ (32 - k)
left_32 x zero h k = left_none 32 x h
left_32 x (suc k) h less =
    let same : suc k % 32 ≡ suc k = omega arith in
    let rest : (32 - suc k) % 32 ≡ 32 - suc k = omega arith in
    rw (same, rest) (left_some 32 (suc k) x h (omega arith))

pub left_64 : (x k : ℕ) → x < 2 ^ 64 → k < 64 → bit_or ((x * 2 ^ (k % 64)) % 2 ^ 64) (x / 2 ^ ((64 - k % 64) % 64)) ≡ (x * 2 ^ k) % 2 ^ 64 + x / 2 ^ (64 - k)
left_64 x zero h k = left_none 64 x h
left_64 x (suc k) h less =
    let same : suc k % 64 ≡ suc k = omega arith in
    let rest : (64 - suc k) % 64 ≡ 64 - suc k = omega arith in
    rw (same, rest) (left_some 64 (suc k) x h (omega arith))

pub right_32 : (x k : ℕ) → x < 2 ^ 32 → k < 32 → bit_or (x / 2 ^ (k % 32)) ((x * 2 ^ ((32 - k % 32) % 32)) % 2 ^ 32) ≡ x / 2 ^ k + (x * 2 ^ (32 - k)) % 2 ^ 32
right_32 x zero h k = right_none 32 x h
right_32 x (suc k) h less =
    let same : suc k % 32 ≡ suc k = omega arith in
    let rest : (32 - suc k) % 32 ≡ 32 - suc k = omega arith in
    rw (same, rest) (right_some 32 (suc k) x h (omega arith))

pub right_64 : (x k : ℕ) → x < 2 ^ 64 → k < 64 → bit_or (x / 2 ^ (k % 64)) ((x * 2 ^ ((64 - k % 64) % 64)) % 2 ^ 64) ≡ x / 2 ^ k + (x * 2 ^ (64 - k)) % 2 ^ 64
right_64 x zero h k = right_none 64 x h
right_64 x (suc k) h less =
    let same : suc k % 64 ≡ suc k = omega arith in
    let rest : (64 - suc k) % 64 ≡ 64 - suc k = omega arith in
    rw (same, rest) (right_some 64 (suc k) x h (omega arith))
