-- The results of numeric instructions are values of their types.
use Rattle.std.proofs.Common.{◌≡◌, ℕ, zero, suc, ◌+◌, ◌-◌, ◌*◌, ◌/◌, ◌%◌, ◌^◌, ◌<◌, ◌≤◌, ◌==◌, nat_lt, Bool, true, false, refl, sym, ap, ◌∙◌, subst, ⊎_elim, arith, mod-lt, div-le_self, Result, Ok, Err}
use Rattle.std.specs.Prelude.{ℤ, pos, negsuc, bit_or, bit_xor, int_le, int_div, int_rem}
use Rattle.std.specs.Int.{w8, w16, w32, w64, cast_signed, int_div_euclid}
use Rattle.std.specs.Int.Signed.{mag, mag_rem}
use Rattle.std.proofs.Math.Nat.{mod-le}
use Rattle.std.proofs.lemmas.Bool.{cases_Bool, ltb-true, ltb-false, leb-false}
use Rattle.std.proofs.lemmas.Nat.{pow_pos, pow-add, shr_le, shr_below, shl-shr, mod-pow-add, mod_low, mul-add-lt, and_le_l, or_lt, xor_lt, or_shifted, mod_below}
use Rattle.qw_module.specs.declared.instruction.ValType.{ValType}
use Rattle.qw_module.specs.declared.instruction.ValType.TheVariants.{I32, I64}
use Rattle.qw_module.specs.declared.instruction.Sign.{Sign}
use Rattle.qw_module.specs.declared.instruction.Sign.TheVariants.{Signed, Unsigned}
use Rattle.qw_module.specs.declared.instruction.Unary.{Unary}
use Rattle.qw_module.specs.declared.instruction.Unary.TheVariants.{Clz, Ctz, Popcnt}
use Rattle.qw_module.specs.declared.instruction.Binary.{Binary}
use Rattle.qw_module.specs.declared.instruction.Binary.TheVariants.{Add, Sub, Mul, And, Or, Xor, Shl, Shr, Rotl, Rotr}
use Rattle.qw_module.specs.declared.instruction.Division.{Division}
use Rattle.qw_module.specs.declared.instruction.Division.TheVariants.{Div, Rem}
use Rattle.qw_module.specs.declared.instruction.Relation.{Relation}
use Rattle.qw_module.specs.declared.instruction.Relation.TheVariants.{Eq, Ne, Lt, Gt, Le, Ge}
use Rattle.qw_module.specs.declared.instruction.Conversion.{Conversion}
use Rattle.qw_module.specs.declared.instruction.Conversion.TheVariants.{Wrap, Extend}
use Rattle.qw_module.specs.declared.instruction.Load.{Load}
use Rattle.qw_module.specs.declared.instruction.Load.TheVariants as load
use Rattle.qw_module.specs.declared.trap.Trap.{Trap}
use Rattle.qw_module.specs.declared.trap.Trap.TheVariants.{DivideByZero, Overflow}
use Rattle.qw_module.specs.Numbers.{bits_of, values_of, signed, unsigned, zeros_above, zeros_below, ones, unary, shift_of, binary, quotient_if_value, divided, division, truth, relation, extended, converted, converts_from, converts_to, load_width, loaded_value, type_of_load}

-- ---- values and their signed readings
pub values_are : (t : ValType) → values_of t ≡ 2 ^ bits_of t
values_are I32 = refl
values_are I64 = refl

pub values-positive : (t : ValType) → 0 < values_of t
values-positive I32 = omega arith
values-positive I64 = omega arith

-- how far a signed reading is from 0, or from -1 where it is below 0
mag-w8 : (n : ℕ) → mag (cast_signed w8 n) < 2 ^ 7
mag-w8 n = ⊎_elim (λ is. rw is (ltb-true n (2 ^ 7) is)) (λ is_not. rw is_not (omega (arith, ltb-false n (2 ^ 7) is_not))) (cases_Bool (nat_lt n (2 ^ 7)))

mag-w16 : (n : ℕ) → mag (cast_signed w16 n) < 2 ^ 15
mag-w16 n = ⊎_elim (λ is. rw is (ltb-true n (2 ^ 15) is)) (λ is_not. rw is_not (omega (arith, ltb-false n (2 ^ 15) is_not))) (cases_Bool (nat_lt n (2 ^ 15)))

mag-w32 : (n : ℕ) → mag (cast_signed w32 n) < 2 ^ 31
mag-w32 n = ⊎_elim (λ is. rw is (ltb-true n (2 ^ 31) is)) (λ is_not. rw is_not (omega (arith, ltb-false n (2 ^ 31) is_not))) (cases_Bool (nat_lt n (2 ^ 31)))

mag-w64 : (n : ℕ) → mag (cast_signed w64 n) < 2 ^ 63
mag-w64 n = ⊎_elim (λ is. rw is (ltb-true n (2 ^ 63) is)) (λ is_not. rw is_not (omega (arith, ltb-false n (2 ^ 63) is_not))) (cases_Bool (nat_lt n (2 ^ 63)))

mag-signed : (t : ValType) (n : ℕ) → mag (signed t n) < values_of t
mag-signed I32 n = omega (arith, mag-w32 n)
mag-signed I64 n = omega (arith, mag-w64 n)

-- so the value of a reading that isn't too great is one
pub unsigned-below : (t : ValType) (z : ℤ) → mag z < values_of t → unsigned t z < values_of t
unsigned-below I32 (pos n) h = h
unsigned-below I32 (negsuc n) h = omega arith
unsigned-below I64 (pos n) h = h
unsigned-below I64 (negsuc n) h = omega arith

-- ---- counts
zeros_above-le : (n a : ℕ) → zeros_above n a ≤ n
unfolding zeros_above
zeros_above-le zero a = omega arith
zeros_above-le (suc n) a = ⊎_elim (λ is. rw is (omega (arith, zeros_above-le n a))) (λ is_not. rw is_not (omega arith)) (cases_Bool (nat_lt a (2 ^ n)))

zeros_below-le : (n a : ℕ) → zeros_below n a ≤ n
unfolding zeros_below
zeros_below-le zero a = omega arith
zeros_below-le (suc n) a = ⊎_elim (λ is. rw is (omega (arith, zeros_below-le n (a / 2)))) (λ is_not. rw is_not (omega arith)) (cases_Bool (a % 2 == 0))

ones-le : (n a : ℕ) → ones n a ≤ n
unfolding ones
ones-le zero a = omega arith
ones-le (suc n) a = omega (arith, ones-le n (a / 2))

count-below : (t : ValType) (n : ℕ) → n ≤ bits_of t → n < values_of t
count-below I32 n h = omega arith
count-below I64 n h = omega arith

pub unary-below : (t : ValType) (u : Unary) (x : ℕ) → unary t u x < values_of t
unary-below t Clz x = count-below t (zeros_above (bits_of t) x) (zeros_above-le (bits_of t) x)
unary-below t Ctz x = count-below t (zeros_below (bits_of t) x) (zeros_below-le (bits_of t) x)
unary-below t Popcnt x = count-below t (ones (bits_of t) x) (ones-le (bits_of t) x)

-- ---- rotations: what is shifted out and what is shifted in share no bit
-- a number of j + k bits: its low j bits, k places up, and its high k bits
shifted_low : (j k x : ℕ) → (x * 2 ^ k) % 2 ^ (j + k) ≡ x % 2 ^ j * 2 ^ k
shifted_low j k x =
    let none : (x * 2 ^ k + 0) % 2 ^ k ≡ 0 = mod_low x k 0 (pow_pos k) in
    let same : x * 2 ^ k + 0 ≡ x * 2 ^ k = omega arith in
    let zeros : (x * 2 ^ k) % 2 ^ k ≡ 0 = ap (λ n. n % 2 ^ k) (sym same) ∙ none in
    let split : (x * 2 ^ k) % 2 ^ (j + k) ≡ (x * 2 ^ k / 2 ^ k % 2 ^ j) * 2 ^ k + (x * 2 ^ k) % 2 ^ k = mod-pow-add (x * 2 ^ k) j k in
    let kept : x * 2 ^ k / 2 ^ k % 2 ^ j * 2 ^ k ≡ x % 2 ^ j * 2 ^ k = ap (λ n. n % 2 ^ j * 2 ^ k) (shl-shr x k) in
    omega (arith, split, kept, zeros)

rotated-below : (j k x : ℕ) → x < 2 ^ (j + k) → (x * 2 ^ k) % 2 ^ (j + k) + x / 2 ^ j < 2 ^ (j + k)
rotated-below j k x h =
    let high : x / 2 ^ j < 2 ^ k = shr_below x k j (subst (λ n. x < 2 ^ n) (omega arith) h) in
    let all : x % 2 ^ j * 2 ^ k + x / 2 ^ j < 2 ^ k * 2 ^ j = mul-add-lt (x % 2 ^ j) (2 ^ k) (x / 2 ^ j) (2 ^ j) (mod_below x (2 ^ j) (pow_pos j)) high in
    let whole : 2 ^ (k + j) ≡ 2 ^ k * 2 ^ j = pow-add 2 k j in
    let turned : 2 ^ (j + k) ≡ 2 ^ (k + j) = ap (λ n. 2 ^ n) (omega arith) in
    omega (arith, shifted_low j k x, all, whole, turned)

pub rotated-is : (j k x : ℕ) → x < 2 ^ (j + k) → (x * 2 ^ k) % 2 ^ (j + k) + x / 2 ^ j ≡ bit_or ((x * 2 ^ k) % 2 ^ (j + k)) (x / 2 ^ j)
rotated-is j k x h =
    let high : x / 2 ^ j < 2 ^ k = shr_below x k j (subst (λ n. x < 2 ^ n) (omega arith) h) in
    rw (shifted_low j k x) (sym (or_shifted (x % 2 ^ j) k (x / 2 ^ j) high))

-- the number of bits in two parts
parts_of : (t : ValType) (b : ℕ) → bits_of t - shift_of t b + shift_of t b ≡ bits_of t
parts_of I32 b = omega (arith, mod_below b 32 (omega arith))
parts_of I64 b = omega (arith, mod_below b 64 (omega arith))

parts_turned : (t : ValType) (b : ℕ) → shift_of t b + (bits_of t - shift_of t b) ≡ bits_of t
parts_turned I32 b = omega (arith, mod_below b 32 (omega arith))
parts_turned I64 b = omega (arith, mod_below b 64 (omega arith))

rotl-below : (t : ValType) (x b : ℕ) → x < values_of t → binary t Rotl x b < values_of t
rotl-below t x b h =
    let whole : values_of t ≡ 2 ^ (bits_of t - shift_of t b + shift_of t b) = values_are t ∙ ap (λ n. 2 ^ n) (sym (parts_of t b)) in
    rw whole (rotated-below (bits_of t - shift_of t b) (shift_of t b) x (subst (λ n. x < n) whole h))

rotr-below : (t : ValType) (x b : ℕ) → x < values_of t → binary t Rotr x b < values_of t
rotr-below t x b h =
    let whole : values_of t ≡ 2 ^ (shift_of t b + (bits_of t - shift_of t b)) = values_are t ∙ ap (λ n. 2 ^ n) (sym (parts_turned t b)) in
    rw whole (omega (arith, rotated-below (shift_of t b) (bits_of t - shift_of t b) x (subst (λ n. x < n) whole h)))

-- ---- operators of two operands
or-below : (t : ValType) (x y : ℕ) → x < values_of t → y < values_of t → bit_or x y < values_of t
or-below I32 x y h k = or_lt 32 x y h k
or-below I64 x y h k = or_lt 64 x y h k

xor-below : (t : ValType) (x y : ℕ) → x < values_of t → y < values_of t → bit_xor x y < values_of t
xor-below I32 x y h k = xor_lt 32 x y h k
xor-below I64 x y h k = xor_lt 64 x y h k

mag-div : (z : ℤ) (d : ℕ) → mag (int_div_euclid z (pos d)) ≤ mag z
mag-div (pos a) d = div-le_self a d
mag-div (negsuc a) d = div-le_self a d

pub binary-below : (t : ValType) (b : Binary) (x y : ℕ) → x < values_of t → y < values_of t → binary t b x y < values_of t
binary-below t Add x y h k = mod-lt (x + y) (values-positive t)
binary-below t Sub x y h k = mod-lt (x + values_of t - y) (values-positive t)
binary-below t Mul x y h k = mod-lt (x * y) (values-positive t)
binary-below t And x y h k = omega (arith, and_le_l x y, h)
binary-below t Or x y h k = or-below t x y h k
binary-below t Xor x y h k = xor-below t x y h k
binary-below t Shl x y h k = mod-lt (x * 2 ^ shift_of t y) (values-positive t)
binary-below t (Shr Unsigned) x y h k = omega (arith, shr_le x (shift_of t y), h)
binary-below t (Shr Signed) x y h k = unsigned-below t (int_div_euclid (signed t x) (pos (2 ^ shift_of t y)))
    (omega (arith, mag-div (signed t x) (2 ^ shift_of t y), mag-signed t x))
binary-below t Rotl x y h k = rotl-below t x y h
binary-below t Rotr x y h k = rotr-below t x y h

-- ---- division
abbrev value_or : ℕ → Result ℕ Trap → ℕ
value_or n (Ok v) = v
value_or n (Err why) = n

abbrev is_value : Result ℕ Trap → Bool
is_value (Ok v) = true
is_value (Err why) = false

same_Ok : (q : Result ℕ Trap) (v w : ℕ) → q ≡ Ok v → q ≡ Ok w → v ≡ w
same_Ok q v w e f = sym (ap (value_or 0) e) ∙ ap (value_or 0) f

err-ok : (q : Result ℕ Trap) (why : Trap) (v : ℕ) → q ≡ Err why → q ≡ Ok v → ⊥
err-ok q why v e f = let apart : false ≡ true = sym (ap is_value e) ∙ ap is_value f in cc

quotient-low : (t : ValType) (z : ℤ) → int_le (pos (2 ^ (bits_of t - 1))) z ≡ false → unsigned t z < values_of t
quotient-low I32 (pos n) low = omega (arith, leb-false (2 ^ 31) n low)
quotient-low I32 (negsuc n) low = omega arith
quotient-low I64 (pos n) low = omega (arith, leb-false (2 ^ 63) n low)
quotient-low I64 (negsuc n) low = omega arith

quotient-below : (t : ValType) (z : ℤ) (v : ℕ) → quotient_if_value t z ≡ Ok v → v < values_of t
quotient-below t z v e = ⊎_elim
    (λ high. absurd (err-ok (quotient_if_value t z) Overflow v (rw high refl) e))
    (λ low. subst (λ n. n < values_of t) (same_Ok (quotient_if_value t z) (unsigned t z) v (rw low refl) e) (quotient-low t z low))
    (cases_Bool (int_le (pos (2 ^ (bits_of t - 1))) z))

divided-below : (t : ValType) (d : Division) (x y v : ℕ) → x < values_of t → y < values_of t → divided t d x y ≡ Ok v → v < values_of t
divided-below t (Div Unsigned) x y v h k e = subst (λ n. n < values_of t) (same_Ok (Ok (x / y)) (x / y) v refl e) (omega (arith, div-le_self x y, h))
divided-below t (Div Signed) x y v h k e = quotient-below t (int_div (signed t x) (signed t y)) v e
divided-below t (Rem Unsigned) x y v h k e = subst (λ n. n < values_of t) (same_Ok (Ok (x % y)) (x % y) v refl e) (omega (arith, mod-le x y, h))
divided-below t (Rem Signed) x y v h k e = subst (λ n. n < values_of t) (same_Ok (divided t (Rem Signed) x y) (unsigned t (int_rem (signed t x) (signed t y))) v refl e)
    (unsigned-below t (int_rem (signed t x) (signed t y)) (omega (arith, mag_rem (signed t x) (signed t y), mag-signed t x)))

pub division-below : (t : ValType) (d : Division) (x y v : ℕ) → x < values_of t → y < values_of t → division t d x y ≡ Ok v → v < values_of t
division-below t d x y v h k e = ⊎_elim
    (λ is. absurd (err-ok (division t d x y) DivideByZero v (rw is refl) e))
    (λ is_not. divided-below t d x y v h k (rw is_not at e))
    (cases_Bool (y == 0))

-- ---- comparisons, conversions and loads
pub truth-below : (b : Bool) → truth b < 2 ^ 32
truth-below true = omega arith
truth-below false = omega arith

pub relation-below : (t : ValType) (r : Relation) (x y : ℕ) → relation t r x y < 2 ^ 32
relation-below t Eq x y = truth-below _
relation-below t Ne x y = truth-below _
relation-below t (Lt sign) x y = truth-below _
relation-below t (Gt sign) x y = truth-below _
relation-below t (Le sign) x y = truth-below _
relation-below t (Ge sign) x y = truth-below _

mag-below : (t : ValType) (n : ℕ) → n < 2 ^ 31 → n < values_of t
mag-below I32 n h = omega arith
mag-below I64 n h = omega arith

extended-w8 : (sign : Sign) (t : ValType) (n : ℕ) → n < 2 ^ 8 → extended w8 sign t n < values_of t
extended-w8 Signed t n h = unsigned-below t (cast_signed w8 n) (mag-below t (mag (cast_signed w8 n)) (omega (arith, mag-w8 n)))
extended-w8 Unsigned t n h = mag-below t n (omega arith)

extended-w16 : (sign : Sign) (t : ValType) (n : ℕ) → n < 2 ^ 16 → extended w16 sign t n < values_of t
extended-w16 Signed t n h = unsigned-below t (cast_signed w16 n) (mag-below t (mag (cast_signed w16 n)) (omega (arith, mag-w16 n)))
extended-w16 Unsigned t n h = mag-below t n (omega arith)

extended-w32 : (sign : Sign) (n : ℕ) → n < 2 ^ 32 → extended w32 sign I64 n < 2 ^ 64
extended-w32 Signed n h = unsigned-below I64 (cast_signed w32 n) (omega (arith, mag-w32 n))
extended-w32 Unsigned n h = omega arith

pub converted-below : (v : Conversion) (n : ℕ) → n < values_of (converts_from v) → converted v n < values_of (converts_to v)
converted-below Wrap n h = mod-lt n (omega arith)
converted-below (Extend sign) n h = extended-w32 sign n h

full-below : (t : ValType) (n : ℕ) → n < 2 ^ (8 * load_width (load.Full t)) → n < values_of t
full-below I32 n h = h
full-below I64 n h = h

pub loaded_value-below : (l : Load) (n : ℕ) → n < 2 ^ (8 * load_width l) → loaded_value l n < values_of (type_of_load l)
loaded_value-below (load.Full t) n h = full-below t n h
loaded_value-below (load.From8 t sign) n h = extended-w8 sign t n h
loaded_value-below (load.From16 t sign) n h = extended-w16 sign t n h
loaded_value-below (load.I64From32 sign) n h = extended-w32 sign n h
