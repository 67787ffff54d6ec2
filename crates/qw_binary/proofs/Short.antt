-- Short spellings of what the general grammars build.
use Rattle.std.proofs.Common.{◌≡◌, ℕ, zero, suc, ◌+◌, ◌-◌, ◌*◌, ◌/◌, ◌%◌, ◌^◌, ◌<◌, ◌≤◌, Bool, true, false, ltb, List, [], ◌∷◌, ◌++◌, length, Result, Ok, refl, sym, ap, subst, ◌∙◌, append_assoc, length-append, arith, inl, inr}
use Rattle.std.specs.List.{AllByRecursion, sum_by}
use Rattle.std.specs.Str.{IsUtf8}
use Rattle.std.proofs.lemmas.Bool.{cases_lt, le-ltb, lt-ltb}
use Rattle.std.proofs.lemmas.List.{append-nil}
use Rattle.std.proofs.lemmas.List.Sums.{sum_by-cons}
use Rattle.std.proofs.lemmas.Nat.{pow-add}
use Rattle.std.proofs.Math.Pow.{pow_mono}
use Rattle.qw_octet_grammar.specs.declared.fault.BinaryFault.{BinaryFault}
use Rattle.qw_octet_grammar.specs.Grammar.{Grammar, is, octet, after, within, pick, settle, Spells}
use Rattle.qw_octet_grammar.specs.Numbers.{leb, last_octet, u32, s32, s64}
use Rattle.qw_octet_grammar.specs.Vectors.{counted, one_more, vector, name}
use Rattle.qw_octet_grammar.specs.Writing.{Puts}
use Rattle.qw_octet_grammar.proofs.WriteLaws.{puts_name}
use Rattle.qw_binary.specs.Inner.Short.{IsShort, AreShort}

pub short_is : {A : Type 0} (x : A) → IsShort (is x) x 0
unfolding Spells
short_is x = record { text = []; spells = (refl, refl); short = omega arith }

pub short_octet : {A : Type 0} (k : ℕ → Grammar A) (b : ℕ) (x : A) (most : ℕ) → IsShort (k b) x most → IsShort (octet k) x (1 + most)
unfolding Spells
short_octet k b x most h = record { text = b ∷ h.text; spells = h.spells; short = omega (arith, h.short) }

pub short_after : {A B : Type 0} (g : Grammar B) (k : B → Grammar A) (y : B) (x : A) (m n : ℕ) → IsShort g y m → IsShort (k y) x n → IsShort (after g k) x (m + n)
unfolding Spells
short_after g k y x m n h l =
    record {
      text = h.text ++ l.text;
      spells = (y, h.text, l.text, refl, h.spells, l.spells);
      short = omega (arith, length-append h.text l.text, h.short, l.short);
    }

pub longer : {A : Type 0} (g : Grammar A) (x : A) (m n : ℕ) → m ≤ n → IsShort g x m → IsShort g x n
longer g x m n le h = record { text = h.text; spells = h.spells; short = omega (arith, le, h.short) }

pub short_made : {A B : Type 0} (g : Grammar B) (make : B → A) (y : B) (most : ℕ) → IsShort g y most → IsShort (after g (λ y. is (make y))) (make y) most
short_made g make y most h =
    longer (after g (λ y. is (make y))) (make y) (most + 0) most (omega arith) (short_after g (λ y. is (make y)) y (make y) most 0 h (short_is (make y)))

pub short_first : {A : Type 0} (b : Bool) (g h : Grammar A) (x : A) (most : ℕ) → b ≡ true → IsShort g x most → IsShort (pick b g h) x most
short_first true g h x most e s = s
short_first false g h x most e s = absurd cc

pub short_second : {A : Type 0} (b : Bool) (g h : Grammar A) (x : A) (most : ℕ) → b ≡ false → IsShort h x most → IsShort (pick b g h) x most
short_second true g h x most e s = absurd cc
short_second false g h x most e s = s

pub short_settled : {A : Type 0} (r : Result A BinaryFault) (x : A) → r ≡ Ok x → IsShort (settle r) x 0
short_settled r x e = subst (λ r. IsShort (settle r) x 0) (sym e) (short_is x)

-- what was put behind nothing
pub short_put : {A : Type 0} (g : Grammar A) (x : A) (new : List ℕ) (most : ℕ) → length new ≤ most → Puts g x [] new → IsShort g x most
unfolding Puts
short_put g x new most le p = record { text = p.0; spells = p.2; short = omega (arith, le, ap length p.1) }

-- what has a spelling can be put
pub put_short : {A : Type 0} (g : Grammar A) (x : A) (most : ℕ) (old : List ℕ) → (h : IsShort g x most) → Puts g x old (old ++ h.text)
unfolding Puts
put_short g x most old h = (h.text, refl, h.spells)

-- ---- numbers in LEB128

last_fits : (signed : Bool) (bits value : ℕ) → 0 < bits → bits ≤ 7 → value < 2 ^ bits → (b : ℕ) × (b < 128) × (last_octet signed bits b ≡ Ok value)
last_fits false bits value some few lt =
    let most : 2 ^ bits ≤ 2 ^ 7 = pow_mono few in
    let below : ltb value (2 ^ bits) ≡ true = lt-ltb value (2 ^ bits) lt in
    (value, omega (arith, most, lt), rw below refl)
last_fits true bits value some few lt =
    let half : ℕ = 2 ^ (bits - 1) in
    let less_bits : bits - 1 ≤ 6 = omega (arith, few) in
    let most : 2 ^ (bits - 1) ≤ 2 ^ 6 = pow_mono less_bits in
    let split : bits ≡ (bits - 1) + 1 = omega (arith, some) in
    let twice : 2 ^ bits ≡ 2 ^ (bits - 1) * 2 = ap (λ n. 2 ^ n) split ∙ pow-add 2 (bits - 1) 1 in
    elim (cases_lt value half) [
      | inl less ↦ (
          let small : ltb value 64 ≡ true = lt-ltb value 64 (omega (arith, most, less)) in
          let positive : ltb value (2 ^ (bits - 1)) ≡ true = lt-ltb value (2 ^ (bits - 1)) less in
          (value, omega (arith, most, less), rw (small, positive) refl))
      | inr more ↦ (
          let b : ℕ = value + 128 - 2 ^ bits in
          let large : ltb b 64 ≡ false = le-ltb b 64 (omega (arith, most, twice, more)) in
          let negative : ltb (b + 2 ^ (bits - 1)) 128 ≡ false = le-ltb (b + 2 ^ (bits - 1)) 128 (omega (arith, most, twice, more)) in
          let reads : 2 ^ bits - (128 - b) ≡ value = omega (arith, most, twice, more, lt) in
          (b, omega (arith, most, twice, lt), rw (large, negative) (ap Ok reads)))
    ]

-- every number in all the octets that its width has
short_leb : (signed : Bool) (k bits value : ℕ) → 7 * k < bits → bits ≤ 7 * k + 7 → value < 2 ^ bits → IsShort (leb signed (suc k) bits) value (suc k)
unfolding leb
short_leb signed zero bits value low high lt =
    let last = last_fits signed bits value (omega (arith, low)) (omega (arith, high)) lt in
    let settles : IsShort (settle (last_octet signed bits last.0)) value 0 = short_settled (last_octet signed bits last.0) value last.2 in
    short_octet (λ b. pick (ltb b 128) (settle (last_octet signed bits b)) (after (leb signed zero (bits - 7)) (λ high. is ((b - 128) + 128 * high)))) last.0 value 0
    (short_first (ltb last.0 128) (settle (last_octet signed bits last.0)) (after (leb signed zero (bits - 7)) (λ high. is ((last.0 - 128) + 128 * high))) value 0 (lt-ltb last.0 128 last.1) settles)
short_leb signed (suc k) bits value low high lt =
    let b : ℕ = value % 128 + 128 in
    let split : bits ≡ (bits - 7) + 7 = omega (arith, low) in
    let e : 2 ^ bits ≡ 2 ^ (bits - 7) * 128 = ap (λ n. 2 ^ n) split ∙ pow-add 2 (bits - 7) 7 in
    let above : value / 128 < 2 ^ (bits - 7) = omega (arith, e, lt) in
    let whole : (b - 128) + 128 * (value / 128) ≡ value = omega arith in
    let inner : IsShort (leb signed (suc k) (bits - 7)) (value / 128) (suc k) = short_leb signed k (bits - 7) (value / 128) (omega (arith, low)) (omega (arith, high)) above in
    let more : IsShort (after (leb signed (suc k) (bits - 7)) (λ high. is ((b - 128) + 128 * high))) value (suc k) =
    subst (λ v. IsShort (after (leb signed (suc k) (bits - 7)) (λ high. is ((b - 128) + 128 * high))) v (suc k)) whole
    (short_made (leb signed (suc k) (bits - 7)) (λ high. (b - 128) + 128 * high) (value / 128) (suc k) inner) in
    longer _ value (1 + suc k) (suc (suc k)) (omega arith)
    (short_octet (λ b. pick (ltb b 128) (settle (last_octet signed bits b)) (after (leb signed (suc k) (bits - 7)) (λ high. is ((b - 128) + 128 * high)))) b value (suc k)
    (short_second (ltb b 128) (settle (last_octet signed bits b)) (after (leb signed (suc k) (bits - 7)) (λ high. is ((b - 128) + 128 * high))) value (suc k) (le-ltb b 128 (omega arith)) more))

pub short_u32 : (n : ℕ) → n < 2 ^ 32 → IsShort u32 n 5
short_u32 n lt = short_leb false 4 32 n (omega arith) (omega arith) lt

pub short_s32 : (n : ℕ) → n < 2 ^ 32 → IsShort s32 n 5
short_s32 n lt = short_leb true 4 32 n (omega arith) (omega arith) lt

pub short_s64 : (n : ℕ) → n < 2 ^ 64 → IsShort s64 n 10
short_s64 n lt = short_leb true 9 64 n (omega arith) (omega arith) lt

-- a small number in one octet
pub short_small : (n : ℕ) → n < 128 → IsShort u32 n 1
unfolding leb
short_small n lt =
    let fits : ltb n (2 ^ 32) ≡ true = lt-ltb n (2 ^ 32) (omega (arith, lt)) in
    let reads : last_octet false 32 n ≡ Ok n = rw fits refl in
    short_octet (λ b. pick (ltb b 128) (settle (last_octet false 32 b)) (after (leb false 4 (32 - 7)) (λ high. is ((b - 128) + 128 * high)))) n n 0
    (short_first (ltb n 128) (settle (last_octet false 32 n)) (after (leb false 4 (32 - 7)) (λ high. is ((n - 128) + 128 * high))) n 0 (lt-ltb n 128 lt) (short_settled (last_octet false 32 n) n reads))

-- ---- sizes, vectors and names

pub short_within : {A : Type 0} (g : Grammar A) (x : A) (most : ℕ) → most < 2 ^ 32 → IsShort g x most → IsShort (after u32 (λ size. within size false g)) x (5 + most)
unfolding Spells
short_within g x most lt h =
    let size = short_u32 (length h.text) (omega (arith, lt, h.short)) in
    short_after u32 (λ size. within size false g) (length h.text) x 5 most size (record { text = h.text; spells = (refl, h.spells); short = h.short })

pub short_counted : {A : Type 0} (item : List A → Grammar A) (size : A → ℕ) (before xs : List A) → AreShort item size before xs
    → IsShort (counted (length xs) (λ (before : List A). one_more (item before) before) before) (before ++ xs) (sum_by size xs)
unfolding counted
short_counted item size before [] h = subst (λ w. IsShort (is before) w 0) (sym (append-nil before)) (short_is before)
short_counted {A} item size before (x ∷ xs) h =
    let step : List A → Grammar (List A) = λ before. one_more (item before) before in
    longer _ (before ++ x ∷ xs) (size x + sum_by size xs) (sum_by size (x ∷ xs)) (omega (arith, sum_by-cons size x xs))
    (short_after (step before) (counted (length xs) step) (before ++ x ∷ []) (before ++ x ∷ xs) (size x) (sum_by size xs)
    (short_made (item before) (λ x. before ++ x ∷ []) x (size x) h.0)
    (subst (λ w. IsShort (counted (length xs) step (before ++ x ∷ [])) w (sum_by size xs)) (append_assoc before (x ∷ []) xs) (short_counted item size (before ++ x ∷ []) xs h.1)))

pub are_short : {A : Type 0} (item : Grammar A) (size : A → ℕ) (before xs : List A) → AllByRecursion (λ x. IsShort item x (size x)) xs → AreShort (λ _. item) size before xs
are_short item size before [] h = tt
are_short item size before (x ∷ xs) h = (h.0, are_short item size (before ++ x ∷ []) xs h.1)

pub short_items : {A : Type 0} (item : List A → Grammar A) (size : A → ℕ) (xs : List A) → length xs < 2 ^ 32 → AreShort item size [] xs
    → IsShort (after u32 (λ n. counted n (λ (before : List A). one_more (item before) before) [])) xs (5 + sum_by size xs)
short_items {A} item size xs lt h =
    short_after u32 (λ n. counted n (λ (before : List A). one_more (item before) before) []) (length xs) xs 5 (sum_by size xs) (short_u32 (length xs) lt) (short_counted item size [] xs h)

pub short_vector : {A : Type 0} (item : Grammar A) (size : A → ℕ) (xs : List A) → length xs < 2 ^ 32 → AllByRecursion (λ x. IsShort item x (size x)) xs → IsShort (vector item) xs (5 + sum_by size xs)
short_vector item size xs lt h = short_items (λ _. item) size xs lt (are_short item size [] xs h)

pub short_name : (text : List ℕ) → length text < 2 ^ 32 → IsUtf8 text → IsShort name text (5 + length text)
short_name text lt utf8 =
    let size = short_u32 (length text) lt in
    short_put name text (([] ++ size.text) ++ text) (5 + length text) (omega (arith, length-append size.text text, size.short))
    (puts_name text [] ([] ++ size.text) (put_short u32 (length text) 5 [] size) utf8)
