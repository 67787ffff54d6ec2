-- The first digits of a text, eight at once, and the number that a text of digits and a point shows.
use Rattle.std.proofs.Common.{◌≡◌, ◌==◌, ◌+◌, ◌-◌, ◌*◌, ◌<◌, ◌≤◌, ◌^◌, ◌∙◌, ◌&&◌, ◌⊎◌, nat_lt, ℕ, zero, suc, Bool, true, false, List, [], ◌∷◌, ◌++◌, length, take, drop, get_or, refl, sym, ap, subst, inl, inr, take_all, append-nil, mul-le-mul_right, arith}
use Rattle.std.specs.Char.{digit_value, is_ascii_digit}
use Rattle.std.specs.List.{list_all}
use Rattle.std.specs.Str.Parse.{digits_value, digits_value_after, starts_with_minus, without_leading_sign}
use Rattle.std.specs.Prelude.{slice_index_or, if◌then◌else◌}
use Rattle.std.proofs.lemmas.Bool.{and_parts, cases_Bool}
use Rattle.std.proofs.lemmas.Bool.Decides.{eqb_tells, nat_tests}
use Rattle.std.proofs.lemmas.Int.Digits.{digits_value_more}
use Rattle.std.proofs.lemmas.List.{drop_all, length-take-le}
use Rattle.std.proofs.lemmas.List.Folds.{list_all_more}
use Rattle.std.proofs.lemmas.Nat.{pow-add}
use Rattle.std.proofs.Math.Nat.{one-le-pow, pow-le-pow_right, pow-suc}
use Rattle.qw_types.proofs.DateLemmas.{few_digits}
use Rattle.qw_types.proofs.NumeralLemmas.{EndsAt, all_are_digits, greatest_small, number_read, value_append}
use Rattle.qw_types.specs.Inner.Numeral.{greatest}
use Rattle.qw_types.specs.Numeral.{IsNumberOf, after_digits, after_fraction, fraction_at, is_fine, is_number, leading_digits, magnitude, signed, without_spaces}
use Rattle.qw_types.specs.Value.{IsNumeric, IsSized, type_scale}
use Rattle.qw_types.specs.declared.value.Ty.{Ty}
use Rattle.qw_types.specs.declared.value.Ty.TheVariants as ty

-- a list of eight is its elements
pub eight : (xs : List ℕ) → length xs ≡ 8
    → xs ≡ slice_index_or xs 0 0 ∷ slice_index_or xs 1 0 ∷ slice_index_or xs 2 0 ∷ slice_index_or xs 3 0 ∷ slice_index_or xs 4 0 ∷ slice_index_or xs 5 0 ∷ slice_index_or xs 6 0 ∷ slice_index_or xs 7 0 ∷ []
eight (a ∷ b ∷ c ∷ d ∷ e ∷ f ∷ g ∷ h ∷ []) long = refl
eight [] long = absurd (omega (arith, long))
eight (a ∷ []) long = absurd (omega (arith, long))
eight (a ∷ b ∷ []) long = absurd (omega (arith, long))
eight (a ∷ b ∷ c ∷ []) long = absurd (omega (arith, long))
eight (a ∷ b ∷ c ∷ d ∷ []) long = absurd (omega (arith, long))
eight (a ∷ b ∷ c ∷ d ∷ e ∷ []) long = absurd (omega (arith, long))
eight (a ∷ b ∷ c ∷ d ∷ e ∷ f ∷ []) long = absurd (omega (arith, long))
eight (a ∷ b ∷ c ∷ d ∷ e ∷ f ∷ g ∷ []) long = absurd (omega (arith, long))
eight (a ∷ b ∷ c ∷ d ∷ e ∷ f ∷ g ∷ h ∷ i ∷ xs) long = absurd (omega (arith, long))

-- whether all eight pass a test
eight_pass : (a b c d e f g h : Bool) → (((((((a && b) && c) && d) && e) && f) && g) && h) ≡ (a && (b && (c && (d && (e && (f && (g && (h && true))))))))
eight_pass false b c d e f g h = refl
eight_pass true false c d e f g h = refl
eight_pass true true false d e f g h = refl
eight_pass true true true false e f g h = refl
eight_pass true true true true false f g h = refl
eight_pass true true true true true false g h = refl
eight_pass true true true true true true false h = refl
eight_pass true true true true true true true true = refl
eight_pass true true true true true true true false = refl

digit_is : (c : ℕ) → is_ascii_digit c ≡ true → digit_value c + 48 ≡ c
digit_is c is = grind (arith, nat_tests)

-- the number of eight digits, from the numbers of their octets, each by the power of ten of its place
pub eight_value : (a b c d e f g h : ℕ) → list_all is_ascii_digit (a ∷ b ∷ c ∷ d ∷ e ∷ f ∷ g ∷ h ∷ []) ≡ true
    → (a * 10000000 + b * 1000000 + c * 100000 + d * 10000) + (e * 1000 + f * 100 + g * 10 + h) ≡ digits_value 10 (a ∷ b ∷ c ∷ d ∷ e ∷ f ∷ g ∷ h ∷ []) + 533333328
eight_value a b c d e f g h all =
    let (da, rest_b) = and_parts (is_ascii_digit a) _ all in
    let (db, rest_c) = and_parts (is_ascii_digit b) _ rest_b in
    let (dc, rest_d) = and_parts (is_ascii_digit c) _ rest_c in
    let (dd, rest_e) = and_parts (is_ascii_digit d) _ rest_d in
    let (de, rest_f) = and_parts (is_ascii_digit e) _ rest_e in
    let (df, rest_g) = and_parts (is_ascii_digit f) _ rest_f in
    let (dg, rest_h) = and_parts (is_ascii_digit g) _ rest_g in
    let (dh, none) = and_parts (is_ascii_digit h) _ rest_h in
    omega (arith, digit_is a da, digit_is b db, digit_is c dc, digit_is d dd, digit_is e de, digit_is f df, digit_is g dg, digit_is h dh)

-- the same of a list
pub eight_counted : (xs : List ℕ) (high low : ℕ) → length xs ≡ 8 → list_all is_ascii_digit xs ≡ true
    → high ≡ slice_index_or xs 0 0 * 10000000 + slice_index_or xs 1 0 * 1000000 + slice_index_or xs 2 0 * 100000 + slice_index_or xs 3 0 * 10000
    → low ≡ slice_index_or xs 4 0 * 1000 + slice_index_or xs 5 0 * 100 + slice_index_or xs 6 0 * 10 + slice_index_or xs 7 0
    → high + low ≡ digits_value 10 xs + 533333328
eight_counted xs high low long digits hf ha =
    let is = eight xs long in
    let value = eight_value (slice_index_or xs 0 0) (slice_index_or xs 1 0) (slice_index_or xs 2 0) (slice_index_or xs 3 0) (slice_index_or xs 4 0) (slice_index_or xs 5 0) (slice_index_or xs 6 0) (slice_index_or xs 7 0) (rw is at digits) in
    let same : digits_value 10 xs ≡ digits_value 10 (slice_index_or xs 0 0 ∷ slice_index_or xs 1 0 ∷ slice_index_or xs 2 0 ∷ slice_index_or xs 3 0 ∷ slice_index_or xs 4 0 ∷ slice_index_or xs 5 0 ∷ slice_index_or xs 6 0 ∷ slice_index_or xs 7 0 ∷ []) = ap (digits_value 10) is in
    omega (arith, hf, ha, value, same)

pub eight_all : (xs : List ℕ) (all : Bool) → length xs ≡ 8
    → all ≡ (((((((is_ascii_digit (slice_index_or xs 0 0) && is_ascii_digit (slice_index_or xs 1 0)) && is_ascii_digit (slice_index_or xs 2 0)) && is_ascii_digit (slice_index_or xs 3 0))
    && is_ascii_digit (slice_index_or xs 4 0)) && is_ascii_digit (slice_index_or xs 5 0)) && is_ascii_digit (slice_index_or xs 6 0)) && is_ascii_digit (slice_index_or xs 7 0))
    → all ≡ list_all is_ascii_digit xs
eight_all xs all long is =
    let pass = eight_pass (is_ascii_digit (slice_index_or xs 0 0)) (is_ascii_digit (slice_index_or xs 1 0)) (is_ascii_digit (slice_index_or xs 2 0)) (is_ascii_digit (slice_index_or xs 3 0))
    (is_ascii_digit (slice_index_or xs 4 0)) (is_ascii_digit (slice_index_or xs 5 0)) (is_ascii_digit (slice_index_or xs 6 0)) (is_ascii_digit (slice_index_or xs 7 0)) in
    is ∙ (pass ∙ sym (ap (list_all is_ascii_digit) (eight xs long)))

-- one digit more
pub digit_more : (octets : List ℕ) (i number next : ℕ) → i < length octets → is_ascii_digit (get_or octets i 0) ≡ true
    → next ≡ number * 10 + digit_value (get_or octets i 0)
    → (list_all is_ascii_digit (take i octets) ≡ true) × (number ≡ digits_value 10 (take i octets))
    → (list_all is_ascii_digit (take (i + 1) octets) ≡ true) × (next ≡ digits_value 10 (take (i + 1) octets))
digit_more octets i number next lt digit is (all, value) = (
  rw (list_all_more is_ascii_digit octets i 0 lt, all) digit,
  rw (is, value, digits_value_more 10 octets i lt) refl,
)

-- digits count to less than their power of ten
pub below : (octets : List ℕ) (i number : ℕ) → i ≤ length octets → list_all is_ascii_digit (take i octets) ≡ true → number ≡ digits_value 10 (take i octets)
    → number < 10 ^ i
below octets i number le all is =
    let long : length (take i octets) ≡ i = length-take-le i octets le in
    let few : digits_value 10 (take i octets) < 10 ^ length (take i octets) = few_digits (take i octets) all in
    let same : digits_value 10 (take i octets) < 10 ^ i = rw long at few in
    omega (arith, is, same)

-- and fewer than 18 leave room for one more
pub room : (octets : List ℕ) (i number : ℕ) → i < 18 → i ≤ length octets → list_all is_ascii_digit (take i octets) ≡ true → number ≡ digits_value 10 (take i octets)
    → number < 10 ^ 17
room octets i number lt le all is =
    let few = below octets i number le all is in
    let short : i ≤ 17 = omega (arith, lt) in
    let most : 10 ^ i ≤ 10 ^ 17 = pow-le-pow_right (omega arith) short in
    omega (arith, few, most)

-- ---- the digits before a point and those after it

-- digits that nothing or something else than a digit follows
pub stops : (octets : List ℕ) (i : ℕ) → list_all is_ascii_digit (take i octets) ≡ true → leading_digits (drop i octets) ≡ []
    → (leading_digits octets ≡ take i octets) × (after_digits octets ≡ drop i octets)
stops [] zero all none = (refl, refl)
stops [] (suc i) all none = (refl, refl)
stops (c ∷ cs) zero all none = (none, after_none (cases_Bool (is_ascii_digit c)))
  where
    after_none : (is_ascii_digit c ≡ true) ⊎ (is_ascii_digit c ≡ false) → after_digits (c ∷ cs) ≡ c ∷ cs
    after_none (inl e) = absurd (let h : c ∷ leading_digits cs ≡ [] = rw e at none in cc h)
    after_none (inr e) = rw e refl
stops (c ∷ cs) (suc i) all none =
    let (one, rest) = and_parts (is_ascii_digit c) (list_all is_ascii_digit (take i cs)) all in
    let (leading, after) = stops cs i rest none in
    rw one (ap (λ (ds : List ℕ). c ∷ ds) leading, after)

-- the digits behind a number
after_is : (n : ℕ) (ds : List ℕ) → digits_value_after 10 n ds ≡ n * 10 ^ length ds + digits_value 10 ds
after_is n [] = omega arith
after_is n (d ∷ ds) =
    let first : digits_value_after 10 n (d ∷ ds) ≡ (n * 10 + digit_value d) * 10 ^ length ds + digits_value 10 ds = after_is (n * 10 + digit_value d) ds in
    let second : digits_value 10 (d ∷ ds) ≡ (0 * 10 + digit_value d) * 10 ^ length ds + digits_value 10 ds = after_is (0 * 10 + digit_value d) ds in
    let power : n * 10 ^ length (d ∷ ds) ≡ n * (10 ^ length ds * 10) = ap (λ (x : ℕ). n * x) (pow-suc 10 (length ds)) in
    omega (arith, first, second, power)

powers : (some scale : ℕ) → some ≤ scale → 10 ^ scale ≡ 10 ^ some * 10 ^ (scale - some)
powers some scale le =
    let whole : some + (scale - some) ≡ scale = omega arith in
    let all : 10 ^ (some + (scale - some)) ≡ 10 ^ some * 10 ^ (scale - some) = pow-add 10 some (scale - some) in
    rw whole at all

-- digits alone
pub all_of : (text : List ℕ) (count : ℕ) → list_all is_ascii_digit (take count text) ≡ true → length text ≤ count → EndsAt text text []
all_of text count all le = all_are_digits text (rw (take_all count text le) at all)

-- the number at a scale, from its two parts
pub parts_value : (whole fraction : List ℕ) (scale : ℕ) → length fraction ≤ scale
    → digits_value 10 (whole ++ fraction) * 10 ^ (scale - length fraction) ≡ digits_value 10 whole * 10 ^ scale + digits_value 10 fraction * 10 ^ (scale - length fraction)
parts_value whole fraction scale few =
    let all : digits_value 10 (whole ++ fraction) ≡ digits_value 10 whole * 10 ^ length fraction + digits_value 10 fraction =
    value_append 0 whole fraction ∙ after_is (digits_value 10 whole) fraction in
    rw (all, powers (length fraction) scale few) (omega arith)

-- and it has at most 18 digits
scaled_small : (whole fraction before after scale : ℕ) → whole < 10 ^ before → fraction < 10 ^ after → after ≤ scale → before + scale ≤ 18
    → whole * 10 ^ scale + fraction * 10 ^ (scale - after) < 10 ^ 18
scaled_small whole fraction before after scale hw hf few short =
    let split = powers after scale few in
    let all : 10 ^ (before + scale) ≡ 10 ^ before * 10 ^ scale = pow-add 10 before scale in
    let top : 10 ^ (before + scale) ≤ 10 ^ 18 = pow-le-pow_right (omega arith) short in
    let some : 1 ≤ 10 ^ (scale - after) = one-le-pow (scale - after) 10 (omega arith) in
    let front : (whole + 1) * 10 ^ scale ≤ 10 ^ before * 10 ^ scale = mul-le-mul_right (10 ^ scale) (omega (arith, hw)) in
    let back : (fraction + 1) * 10 ^ (scale - after) ≤ 10 ^ after * 10 ^ (scale - after) = mul-le-mul_right (10 ^ (scale - after)) (omega (arith, hf)) in
    omega (arith, split, all, top, some, front, back)

pub powers_small : (whole fraction before after scale tenfold missing : ℕ) → tenfold ≡ 10 ^ scale → missing ≡ 10 ^ (scale - after) → whole < 10 ^ before → fraction < 10 ^ after
    → after ≤ scale → before + scale ≤ 18 → whole * tenfold + fraction * missing < 10 ^ 18
powers_small whole fraction before after scale tenfold missing ht hm hw hf few short = rw (ht, hm) (scaled_small whole fraction before after scale hw hf few short)

-- the magnitude of a text of digits, from the numbers of its parts
pub shown : (octets : List ℕ) (count whole fraction missing scale : ℕ) → list_all is_ascii_digit (take count octets) ≡ true → whole ≡ digits_value 10 (take count octets)
    → leading_digits (drop count octets) ≡ [] → missing ≡ length (fraction_at (drop count octets)) → fraction ≡ digits_value 10 (fraction_at (drop count octets)) → missing ≤ scale
    → whole * 10 ^ scale + fraction * 10 ^ (scale - missing)
    ≡ digits_value 10 (leading_digits octets ++ fraction_at (after_digits octets)) * 10 ^ (scale - length (fraction_at (after_digits octets)))
shown octets count whole fraction missing scale digits hw none hm hf few =
    let (leading, after) = stops octets count digits none in
    rw (leading, after, hw, hf, hm) (sym (parts_value (take count octets) (fraction_at (drop count octets)) scale (omega (arith, hm, few))))

-- ---- the text before them

abbrev pub Parts : (bytes unsigned : List ℕ) → Type 0
Parts bytes unsigned = (without_leading_sign (without_spaces bytes) ≡ unsigned) × (starts_with_minus (without_spaces bytes) ≡ starts_with_minus bytes)

minus_parts : (cs unsigned : List ℕ) → unsigned ≡ cs → Parts (45 ∷ cs) unsigned
minus_parts cs unsigned is = (sym is, refl)

no_space : (c : ℕ) → is_ascii_digit c ≡ true → (c == 32) ≡ false
no_space c is = grind (arith, nat_tests)

no_plus : (c : ℕ) → is_ascii_digit c ≡ true → (c == 43) ≡ false
no_plus c is = grind (arith, nat_tests)

digit_parts : (c : ℕ) (cs unsigned : List ℕ) → (c == 45) ≡ false → unsigned ≡ c ∷ cs → 0 < length (leading_digits unsigned) → Parts (c ∷ cs) unsigned
digit_parts c cs unsigned minus is some = elim (cases_Bool (is_ascii_digit c)) [
  | inl e ↦ rw (no_space c e, minus, no_plus c e, is) (refl, refl)
  | inr e ↦ absurd (let h : 0 < 0 = rw (is, e) at some in omega (arith, h))
]

parts : (bytes unsigned : List ℕ) → unsigned ≡ (if starts_with_minus bytes then drop 1 bytes else bytes) → 0 < length (leading_digits unsigned) → Parts bytes unsigned
parts [] unsigned is some = absurd (let h : 0 < 0 = rw is at some in omega (arith, h))
parts (c ∷ cs) unsigned is some = elim (eqb_tells c 45) [
  | inl (e, same) ↦ subst (λ (x : ℕ). Parts (x ∷ cs) unsigned) (sym same) (minus_parts cs unsigned (rw e at is))
  | inr (e, other) ↦ digit_parts c cs unsigned e (rw e at is) some
]

-- a text in the commonest form stands for the number
pub short_is : (type : Ty) (bytes unsigned : List ℕ) (m : ℕ) (negative : Bool) → IsNumeric type → IsSized type → unsigned ≡ (if starts_with_minus bytes then drop 1 bytes else bytes)
    → negative ≡ starts_with_minus bytes → 0 < length (leading_digits unsigned) → after_fraction (after_digits unsigned) ≡ []
    → length (fraction_at (after_digits unsigned)) ≤ type_scale type
    → m ≡ digits_value 10 (leading_digits unsigned ++ fraction_at (after_digits unsigned)) * 10 ^ (type_scale type - length (fraction_at (after_digits unsigned)))
    → m ≤ greatest type negative → IsNumberOf type bytes (signed negative m)
short_is type bytes unsigned m negative numeric sized hu hn some rest few value small =
    let (text, sign) = parts bytes unsigned hu some in
    let below = greatest_small type negative sized in
    let form : is_number bytes ≡ true = rw (text, there (length (leading_digits unsigned)) some, rest) refl in
    let fine : true ≡ is_fine (type_scale type) bytes = rw (text, drop_all (type_scale type) (fraction_at (after_digits unsigned)) few) refl in
    let is : m ≡ magnitude (type_scale type) bytes = rw (text, take_all (type_scale type) (fraction_at (after_digits unsigned)) few) value in
    number_read type bytes negative true m numeric sized form (hn ∙ sym sign) fine refl (omega (arith, is, small, below)) small
  where
    there : (n : ℕ) → 0 < n → nat_lt 0 n ≡ true
    there n lt = grind (arith, nat_tests)

-- and so does a text of digits alone for an INTEGER
pub integer_is : (bytes text : List ℕ) (m : ℕ) (negative : Bool) → text ≡ (if starts_with_minus bytes then drop 1 bytes else bytes) → negative ≡ starts_with_minus bytes
    → list_all is_ascii_digit text ≡ true → m ≡ digits_value 10 text → 0 < length text → m ≤ greatest ty.Integer negative → IsNumberOf ty.Integer bytes (signed negative m)
integer_is bytes text m negative hu hn digits value some small =
    let (leading, after) = all_are_digits text digits in
    short_is ty.Integer bytes text m negative tt tt hu hn (rw leading some) (rw after refl) (rw after (omega arith)) (rw (leading, after, append-nil text) (omega (arith, value))) small

-- digits alone begin with no minus sign
pub unsigned : (text : List ℕ) → list_all is_ascii_digit text ≡ true → starts_with_minus text ≡ false
unsigned [] digits = refl
unsigned (c ∷ cs) digits = no_minus c (and_parts (is_ascii_digit c) (list_all is_ascii_digit cs) digits).0
  where
    no_minus : (c : ℕ) → is_ascii_digit c ≡ true → (c == 45) ≡ false
    no_minus c is = grind (arith, nat_tests)
