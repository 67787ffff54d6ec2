-- Where digits and spaces end, and the number that digits show, capped.
use Rattle.std.proofs.Common.{◌≡◌, ◌==◌, ◌+◌, ◌-◌, ◌*◌, ◌^◌, ◌≤◌, ◌<◌, ◌∙◌, ◌&&◌, ◌||◌, nat_lt, ℕ, zero, suc, Bool, true, false, min, List, [], ◌∷◌, ◌++◌, length, take, drop, get_or, refl, sym, ap, add-one, take_all, length-drop, mul-le-mul_left, mul-le-mul_right, unsigned_abs, not, IsTrue, ⊎_elim, arith}
use Rattle.std.specs.Char.{digit_value, is_ascii_digit}
use Rattle.std.specs.List.{list_all}
use Rattle.std.specs.Str.Parse.{digits_value, digits_value_after, starts_with_minus, without_leading_sign}
use Rattle.std.proofs.lemmas.Bool.{and_parts}
use Rattle.std.proofs.lemmas.Int.Digits.{digits_value_more}
use Rattle.std.proofs.lemmas.List.{length-take-le}
use Rattle.std.proofs.lemmas.List.Folds.{list_all-append, list_all_more}
use Rattle.std.proofs.lemmas.Bool.{cases_lt}
use Rattle.std.proofs.lemmas.Int.{ints}
use Rattle.std.proofs.Math.Nat.{one-le-pow, pow-le-pow_right, pow-suc}
use Rattle.qw_types.specs.Inner.Numeral.{greatest}
use Rattle.qw_types.specs.Value.{IsNumeric, IsOfType, IsSized, type_scale}
use Rattle.qw_types.specs.declared.value.Ty.{Ty}
use Rattle.qw_types.specs.declared.value.Ty.TheVariants as ty
use Rattle.qw_types.specs.declared.value.Val.TheVariants.{Num}
use Rattle.qw_types.specs.Numeral.{IsNumberOf, after_digits, after_fraction, are_spaces, fraction_at, fraction_digits, is_fine, is_negative, is_number, leading_digits, magnitude, signed, whole_digits, without_spaces}

-- the digits at the start of a text, and what follows
abbrev pub EndsAt : (octets digits rest : List ℕ) → Type 0
EndsAt octets digits rest = (leading_digits octets ≡ digits) × (after_digits octets ≡ rest)

-- digits that end at a place
pub digits_end : (octets : List ℕ) (i d : ℕ) → list_all is_ascii_digit (take i octets) ≡ true → i < length octets → is_ascii_digit (get_or octets i d) ≡ false
    → EndsAt octets (take i octets) (drop i octets)
digits_end [] i d all lt non = absurd (omega arith)
digits_end (c ∷ cs) zero d all lt non = rw non (refl, refl)
digits_end (c ∷ cs) (suc i) d all lt non =
    let (one, rest) = and_parts (is_ascii_digit c) (list_all is_ascii_digit (take i cs)) all in
    let (leading, after) = digits_end cs i d rest (omega arith) non in
    rw one (ap (λ (ds : List ℕ). c ∷ ds) leading, after)

-- digits alone
pub all_are_digits : (octets : List ℕ) → list_all is_ascii_digit octets ≡ true → EndsAt octets octets []
all_are_digits [] all = (refl, refl)
all_are_digits (c ∷ cs) all =
    let (one, rest) = and_parts (is_ascii_digit c) (list_all is_ascii_digit cs) all in
    let (leading, after) = all_are_digits cs rest in
    rw one (ap (λ (ds : List ℕ). c ∷ ds) leading, after)

-- spaces that end at a place
pub spaces_end : (octets : List ℕ) (i d : ℕ) → are_spaces (take i octets) ≡ true → i < length octets → (get_or octets i d == 32) ≡ false
    → without_spaces octets ≡ drop i octets
spaces_end [] i d all lt non = absurd (omega arith)
spaces_end (c ∷ cs) zero d all lt non = rw non refl
spaces_end (c ∷ cs) (suc i) d all lt non =
    let (one, rest) = and_parts (c == 32) (are_spaces (take i cs)) all in
    rw one (spaces_end cs i d rest (omega arith) non)

pub all_spaces : (octets : List ℕ) → are_spaces octets ≡ true → without_spaces octets ≡ []
all_spaces [] all = refl
all_spaces (c ∷ cs) all =
    let (one, rest) = and_parts (c == 32) (are_spaces cs) all in
    rw one (all_spaces cs rest)

-- one more digit behind a number's
pub value_push : (n : ℕ) (ds : List ℕ) (c : ℕ) → digits_value_after 10 n (ds ++ c ∷ []) ≡ digits_value_after 10 n ds * 10 + digit_value c
value_push n [] c = refl
value_push n (d ∷ ds) c = value_push (n * 10 + digit_value d) ds c

-- the digits of two lists, one behind the other
pub value_append : (n : ℕ) (xs ys : List ℕ) → digits_value_after 10 n (xs ++ ys) ≡ digits_value_after 10 (digits_value_after 10 n xs) ys
value_append n [] ys = refl
value_append n (x ∷ xs) ys = value_append (n * 10 + digit_value x) xs ys

-- a cap below may be left out
pub capped_digit : (n d : ℕ) → min (min n 1000000000000000000 * 10 + d) 1000000000000000000 ≡ min (n * 10 + d) 1000000000000000000
capped_digit n d = omega arith

pub capped_after : (n m : ℕ) (ds : List ℕ) → min n 1000000000000000000 ≡ min m 1000000000000000000
    → min (digits_value_after 10 n ds) 1000000000000000000 ≡ min (digits_value_after 10 m ds) 1000000000000000000
capped_after n m [] e = e
capped_after n m (d ∷ ds) e = capped_after (n * 10 + digit_value d) (m * 10 + digit_value d) ds (omega (arith, e))

-- what is left of a list behind a place
pub rest_is : (xs : List ℕ) (i : ℕ) → take (length xs - i) (drop i xs) ≡ drop i xs
rest_is xs i = take_all (length xs - i) (drop i xs) (omega (arith, length-drop i xs))

-- one more zero
pub zero_more : (n number next zeros : ℕ) → next ≡ min (number * 10) 1000000000000000000 → number ≡ min (n * 10 ^ zeros) 1000000000000000000
    → next ≡ min (n * 10 ^ (zeros + 1)) 1000000000000000000
zero_more n number next zeros is value =
    let more : n * 10 ^ (zeros + 1) ≡ (n * 10 ^ zeros) * 10 = rw pow-suc-is (omega arith) in
    rw (is, value, more) (omega arith)
  where
    pow-suc-is : 10 ^ (zeros + 1) ≡ 10 ^ zeros * 10
    pow-suc-is = rw add-one (pow-suc 10 zeros)

-- ---- the loops, a digit or a space at a time

pub digits_more : (octets : List ℕ) (i number next : ℕ) → i < length octets → is_ascii_digit (get_or octets i 0) ≡ true
    → next ≡ min (number * 10 + digit_value (get_or octets i 0)) 1000000000000000000
    → (list_all is_ascii_digit (take i octets) ≡ true) × (number ≡ min (digits_value 10 (take i octets)) 1000000000000000000)
    → (list_all is_ascii_digit (take (i + 1) octets) ≡ true) × (next ≡ min (digits_value 10 (take (i + 1) octets)) 1000000000000000000)
digits_more octets i number next lt digit is (all, value) = (
  rw (list_all_more is_ascii_digit octets i 0 lt, all) digit,
  rw (is, value, digits_value_more 10 octets i lt) (capped_digit (digits_value 10 (take i octets)) (digit_value (get_or octets i 0))),
)

-- the lists of a place and of the next
take_suc : (xs : List ℕ) (i : ℕ) → i < length xs → take (suc i) xs ≡ take i xs ++ get_or xs i 0 ∷ []
take_suc [] i lt = absurd (omega arith)
take_suc (x ∷ xs) zero lt = refl
take_suc (x ∷ xs) (suc i) lt = ap (λ (ys : List ℕ). x ∷ ys) (take_suc xs i (omega arith))

take_next : (xs : List ℕ) (i : ℕ) → i < length xs → take (i + 1) xs ≡ take i xs ++ get_or xs i 0 ∷ []
take_next xs i lt = rw add-one (take_suc xs i lt)

take_before : (xs : List ℕ) (scale c : ℕ) → length xs < scale → take scale (xs ++ c ∷ []) ≡ take scale xs ++ c ∷ []
take_before [] (suc zero) c lt = refl
take_before [] (suc (suc scale)) c lt = refl
take_before [] zero c lt = absurd (omega arith)
take_before (x ∷ xs) zero c lt = absurd (omega arith)
take_before (x ∷ xs) (suc scale) c lt = ap (λ (ys : List ℕ). x ∷ ys) (take_before xs scale c (omega arith))

take_past : (xs : List ℕ) (scale c : ℕ) → scale ≤ length xs → take scale (xs ++ c ∷ []) ≡ take scale xs
take_past xs zero c le = refl
take_past [] (suc scale) c le = absurd (omega arith)
take_past (x ∷ xs) (suc scale) c le = ap (λ (ys : List ℕ). x ∷ ys) (take_past xs scale c (omega arith))

drop_before : (xs : List ℕ) (scale c : ℕ) → length xs < scale → drop scale (xs ++ c ∷ []) ≡ drop scale xs
drop_before [] (suc zero) c lt = refl
drop_before [] (suc (suc scale)) c lt = refl
drop_before [] zero c lt = absurd (omega arith)
drop_before (x ∷ xs) zero c lt = absurd (omega arith)
drop_before (x ∷ xs) (suc scale) c lt = drop_before xs scale c (omega arith)

drop_past : (xs : List ℕ) (scale c : ℕ) → scale ≤ length xs → drop scale (xs ++ c ∷ []) ≡ drop scale xs ++ c ∷ []
drop_past xs zero c le = refl
drop_past [] (suc scale) c le = absurd (omega arith)
drop_past (x ∷ xs) (suc scale) c le = drop_past xs scale c (omega arith)

pub record Fractions (whole scale : ℕ) (octets : List ℕ) (i total : ℕ) (exact : Bool) : Type 0 where
  pub digits : list_all is_ascii_digit (take i octets) ≡ true
  pub number : total ≡ min (digits_value_after 10 whole (take scale (take i octets))) 1000000000000000000
  pub fine : exact ≡ list_all (λ octet. octet == 48) (drop scale (take i octets))

-- a digit up to the scale
pub fraction_before : (whole scale : ℕ) (ds : List ℕ) (i n next : ℕ) (fine : Bool) → i < length ds → i < scale → is_ascii_digit (get_or ds i 0) ≡ true
    → next ≡ min (n * 10 + digit_value (get_or ds i 0)) 1000000000000000000 → Fractions whole scale ds i n fine → Fractions whole scale ds (i + 1) next fine
fraction_before whole scale ds i n next fine lt before digit is h =
    let long : length (take i ds) ≡ i = length-take-le i ds (omega arith) in
    let short : length (take i ds) < scale = omega (arith, long) in
    record {
      digits = rw (list_all_more is_ascii_digit ds i 0 lt, h.digits) digit;
      number = rw (is, h.number, take_next ds i lt, take_before (take i ds) scale (get_or ds i 0) short, value_push whole (take scale (take i ds)) (get_or ds i 0))
          (capped_digit (digits_value_after 10 whole (take scale (take i ds))) (digit_value (get_or ds i 0)));
      fine = rw (take_next ds i lt, drop_before (take i ds) scale (get_or ds i 0) short) h.fine;
    }

-- a digit past it
pub fraction_past : (whole scale : ℕ) (ds : List ℕ) (i n : ℕ) (fine next : Bool) → i < length ds → scale ≤ i → is_ascii_digit (get_or ds i 0) ≡ true
    → next ≡ (fine && (get_or ds i 0 == 48)) → Fractions whole scale ds i n fine → Fractions whole scale ds (i + 1) n next
fraction_past whole scale ds i n fine next lt past digit is h =
    let long : length (take i ds) ≡ i = length-take-le i ds (omega arith) in
    let reached : scale ≤ length (take i ds) = omega (arith, long) in
    record {
      digits = rw (list_all_more is_ascii_digit ds i 0 lt, h.digits) digit;
      number = rw (take_next ds i lt, take_past (take i ds) scale (get_or ds i 0) reached) h.number;
      fine = rw (is, h.fine, take_next ds i lt, drop_past (take i ds) scale (get_or ds i 0) reached, list_all-append (λ (octet : ℕ). octet == 48) (drop scale (take i ds)) (get_or ds i 0 ∷ [])) (all_of_one (list_all (λ (octet : ℕ). octet == 48) (drop scale (take i ds))) (get_or ds i 0 == 48));
    }
  where
    all_of_one : (a b : Bool) → (a && b) ≡ (a && (b && true))
    all_of_one true true = refl
    all_of_one true false = refl
    all_of_one false b = refl

-- ---- a number's text as a whole

-- a cap before a product with a power of ten may be left out
pub capped_times : (n k : ℕ) → 1 ≤ k → min (min n 1000000000000000000 * k) 1000000000000000000 ≡ min (n * k) 1000000000000000000
capped_times n k some = ⊎_elim
    (λ (small : n < 1000000000000000001). let same : min n 1000000000000000000 ≡ n = omega arith in rw same refl)
    (λ (large : 1000000000000000001 ≤ n).
    let same : min n 1000000000000000000 ≡ 1000000000000000000 = omega arith in
    let first : 1000000000000000000 * 1 ≤ 1000000000000000000 * k = mul-le-mul_left 1000000000000000000 some in
    let second : 1000000000000000000 * k ≤ n * k = mul-le-mul_right k (omega arith) in
    rw same (omega arith))
    (cases_lt n 1000000000000000001)

-- the magnitude from its parts
pub magnitude_is : (scale : ℕ) (whole fraction : List ℕ) (behind seen shown : ℕ) → behind ≡ min (digits_value 10 whole) 1000000000000000000
    → seen ≡ min (digits_value_after 10 behind (take scale fraction)) 1000000000000000000
    → shown ≡ min (seen * 10 ^ (scale - length fraction)) 1000000000000000000
    → shown ≡ min (digits_value 10 (whole ++ take scale fraction) * 10 ^ (scale - length fraction)) 1000000000000000000
magnitude_is scale whole fraction behind seen shown hb hs ht =
    let all : seen ≡ min (digits_value_after 10 (digits_value 10 whole) (take scale fraction)) 1000000000000000000 =
    hs ∙ capped_after behind (digits_value 10 whole) (take scale fraction) (omega (arith, hb)) in
    rw (ht, all, value_append 0 whole (take scale fraction)) (capped_times (digits_value_after 10 (digits_value 10 whole) (take scale fraction)) (10 ^ (scale - length fraction)) (one-le-pow (scale - length fraction) 10 (omega arith)))

-- and the parts of a text
pub numeral_is : (bytes : List ℕ) (scale : ℕ) (text unsigned behind rest : List ℕ) (whole_count whole count number shown : ℕ) (fine form negative : Bool)
    → text ≡ without_spaces bytes → unsigned ≡ without_leading_sign text → behind ≡ after_digits unsigned
    → whole_count ≡ length (leading_digits unsigned) → whole ≡ min (digits_value 10 (leading_digits unsigned)) 1000000000000000000
    → count ≡ length (fraction_at behind) → number ≡ min (digits_value_after 10 whole (take scale (fraction_at behind))) 1000000000000000000
    → fine ≡ list_all (λ octet. octet == 48) (drop scale (fraction_at behind)) → rest ≡ after_fraction behind
    → form ≡ ((nat_lt 0 whole_count || nat_lt 0 count) && are_spaces rest) → negative ≡ starts_with_minus text
    → shown ≡ min (number * 10 ^ (scale - count)) 1000000000000000000
    → (form ≡ is_number bytes) × (negative ≡ is_negative bytes) × (fine ≡ is_fine scale bytes) × (shown ≡ min (magnitude scale bytes) 1000000000000000000)
numeral_is bytes scale text unsigned behind rest whole_count whole count number shown fine form negative ht hu hb hwc hw hc hn hf hr hform hneg hs = (
  rw (hform, hwc, hc, hr, hb, hu, ht) refl,
  rw (hneg, ht) refl,
  rw (hf, hb, hu, ht) refl,
  magnitude_is scale (whole_digits bytes) (fraction_digits bytes) whole number shown (rw (hu, ht) at hw) (rw (hb, hu, ht) at hn) (rw (hc, hb, hu, ht) at hs),
)

-- ---- the range of a type

pub greatest_small : (type : Ty) (negative : Bool) → IsSized type → greatest type negative < 1000000000000000000
greatest_small ty.Integer true sized = omega arith
greatest_small ty.Integer false sized = omega arith
greatest_small (ty.Decimal p s) negative sized =
    let most : 10 ^ p ≤ 10 ^ 18 = pow-le-pow_right (omega arith) sized.1 in
    let least : 1 ≤ 10 ^ p = one-le-pow p 10 (omega arith) in
    omega arith
greatest_small ty.Date true sized = omega arith
greatest_small ty.Date false sized = omega arith
greatest_small (ty.Varchar n) true sized = omega arith
greatest_small (ty.Varchar n) false sized = omega arith

abs_signed : (negative : Bool) (m : ℕ) → unsigned_abs (signed negative m) ≡ m
abs_signed true zero = refl
abs_signed true (suc m) = refl
abs_signed false m = refl

pub in_range : (type : Ty) (negative : Bool) (m : ℕ) → IsNumeric type → m ≤ greatest type negative → IsOfType type (Num (signed negative m))
in_range ty.Integer true m kind small = (omega (arith, ints), omega (arith, ints))
in_range ty.Integer false m kind small = (omega (arith, ints), omega (arith, ints))
in_range (ty.Decimal p s) negative m kind small = let least : 1 ≤ 10 ^ p = one-le-pow p 10 (omega arith) in omega (arith, abs_signed negative m)
in_range ty.Date negative m kind small = absurd kind
in_range (ty.Varchar n) negative m kind small = absurd kind

pub out_of_range : (type : Ty) (negative : Bool) (m : ℕ) → IsNumeric type → greatest type negative < m → IsOfType type (Num (signed negative m)) → ⊥
out_of_range ty.Integer true m kind large h = omega (arith, ints, h.0, h.1)
out_of_range ty.Integer false m kind large h = omega (arith, ints, h.0, h.1)
out_of_range (ty.Decimal p s) negative m kind large h = let least : 1 ≤ 10 ^ p = one-le-pow p 10 (omega arith) in omega (arith, h, abs_signed negative m)
out_of_range ty.Date negative m kind large h = kind
out_of_range (ty.Varchar n) negative m kind large h = kind

-- a capped magnitude within the range is the magnitude, so the text stands for the number
pub number_read : (type : Ty) (bytes : List ℕ) (negative fine : Bool) (shown : ℕ) → IsNumeric type → IsSized type → IsTrue (is_number bytes) → negative ≡ is_negative bytes
    → fine ≡ is_fine (type_scale type) bytes → not fine ≡ false → shown ≡ min (magnitude (type_scale type) bytes) 1000000000000000000 → shown ≤ greatest type negative
    → IsNumberOf type bytes (signed negative shown)
number_read type bytes negative fine shown kind sized form hn hf exact hs small =
    let below = greatest_small type negative sized in
    let same : shown ≡ magnitude (type_scale type) bytes = omega (arith, hs, small, below) in
    record {
      shows = record { form = form; fine = sym hf ∙ not_false fine exact; value = rw (hn, same) refl };
      range = in_range type negative shown kind small;
    }
  where
    not_false : (b : Bool) → not b ≡ false → b ≡ true
    not_false true e = refl
    not_false false e = sym e
