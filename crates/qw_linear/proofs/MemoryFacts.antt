-- Numbers in memory, over any width: which octets they depend on, and what is read after a number was put.
use Rattle.std.proofs.Common.{◌≡◌, ℕ, zero, suc, ◌+◌, ◌*◌, ◌/◌, ◌%◌, ◌^◌, ◌<◌, ◌≤◌, ◌≢◌, List, length, get_or, set, take, drop, ◌⊎◌, inl, inr, ⊎_elim, refl, ap, ap₂, ◌∙◌, arith, length-set, add-one, sym, ◌++◌, [], ◌∷◌, take-append-drop, take-suc-set, drop-set-lt, append_assoc, mul_comm, pow-suc, get_or-set_same, get_or-set_other, get_or-drop, get_or-take, mod-lt, add-zero, mul-suc, add_comm, mul_assoc}
use Rattle.std.proofs.lemmas.Nat.{mod-pow-add, pow-add}
use Rattle.std.proofs.lemmas.Bool.{cases_lt}
use Rattle.std.proofs.lemmas.List.{get_or_past}
use Rattle.std.proofs.lemmas.List.Elements.{All-set}
use Rattle.std.specs.Int.{byte_at, byte_worth, bytes_low_first, sum_through}
use native.Mathlib.Nat.{div-div-eq-div-mul}
use Rattle.qw_linear.specs.Memory.{number_at, with_number, AreOctets}

-- putting a number keeps the length
pub length-with_number : (octets : List ℕ) (at width number : ℕ) → length (with_number octets at width number) ≡ length octets
unfolding with_number
length-with_number octets at zero number = refl
length-with_number octets at (suc width) number =
    length-with_number (set octets at (number % 256)) (at + 1) width (number / 256) ∙ length-set octets at (number % 256)

-- and each octet at none of its own addresses
with_number-beside : (octets : List ℕ) (at width number k : ℕ) → ((j : ℕ) → j < width → at + j ≢ k) →
    get_or (with_number octets at width number) k 0 ≡ get_or octets k 0
unfolding with_number
with_number-beside octets at zero number k apart = refl
with_number-beside octets at (suc width) number k apart =
    let first : at + 0 ≢ k = apart 0 (omega arith) in
    with_number-beside (set octets at (number % 256)) (at + 1) width (number / 256) k
    (λ j within e. let next : at + suc j ≢ k = apart (suc j) (omega arith) in omega arith)
    ∙ get_or-set_other octets at k (number % 256) 0 (λ e. omega arith)

pub with_number-below : (octets : List ℕ) (at width number k : ℕ) → k < at → get_or (with_number octets at width number) k 0 ≡ get_or octets k 0
with_number-below octets at width number k h = with_number-beside octets at width number k (λ j within e. omega arith)

pub with_number-above : (octets : List ℕ) (at width number k : ℕ) → at + width ≤ k → get_or (with_number octets at width number) k 0 ≡ get_or octets k 0
with_number-above octets at width number k h = with_number-beside octets at width number k (λ j within e. omega arith)

-- a number depends on its octets alone, wherever they lie
pub number_at-moved : (xs ys : List ℕ) (at there width : ℕ) →
    ((k : ℕ) → k < width → get_or xs (at + k) 0 ≡ get_or ys (there + k) 0) → number_at xs at width ≡ number_at ys there width
unfolding number_at
number_at-moved xs ys at there zero same = refl
number_at-moved xs ys at there (suc width) same =
    let first : get_or xs at 0 ≡ get_or ys there 0 = simp add-zero at (same 0 (omega arith)) in
    let rest : number_at xs (at + 1) width ≡ number_at ys (there + 1) width = number_at-moved xs ys (at + 1) (there + 1) width
    (λ k h. let e : at + 1 + k ≡ at + suc k = omega arith in let f : there + 1 + k ≡ there + suc k = omega arith in
    rw (e, f) (same (suc k) (omega arith))) in
    ap₂ (λ (x y : ℕ). x + 256 * y) first rest

pub number_at-same : (xs ys : List ℕ) (at width : ℕ) →
    ((k : ℕ) → at ≤ k → k < at + width → get_or xs k 0 ≡ get_or ys k 0) → number_at xs at width ≡ number_at ys at width
number_at-same xs ys at width same = number_at-moved xs ys at at width (λ k h. same (at + k) (omega arith) (omega arith))

-- a number that was put is read, as far as it fits
pub number_at-with_number : (octets : List ℕ) (at width number : ℕ) → at + width ≤ length octets →
    number_at (with_number octets at width number) at width ≡ number % 2 ^ (8 * width)
unfolding number_at with_number
number_at-with_number octets at zero number room = omega arith
number_at-with_number octets at (suc width) number room =
    let octet : ℕ = number % 256 in
    let more : List ℕ = set octets at octet in
    let first : get_or (with_number more (at + 1) width (number / 256)) at 0 ≡ octet =
    with_number-below more (at + 1) width (number / 256) at (omega arith) ∙ get_or-set_same octets at octet 0 (omega arith) in
    let rest : number_at (with_number more (at + 1) width (number / 256)) (at + 1) width ≡ (number / 256) % 2 ^ (8 * width) =
    number_at-with_number more (at + 1) width (number / 256) (omega (arith, length-set octets at octet)) in
    let whole : number % 2 ^ (8 * width + 8) ≡ (number / 2 ^ 8 % 2 ^ (8 * width)) * 2 ^ 8 + number % 2 ^ 8 = mod-pow-add number (8 * width) 8 in
    let wide : 8 * suc width ≡ 8 * width + 8 = omega arith in
    rw (first, rest, wide, whole) (omega arith)

-- a number apart from what was put is unchanged
pub number_at-apart : (octets : List ℕ) (at width number place size : ℕ) → (place + size ≤ at) ⊎ (at + width ≤ place) →
    number_at (with_number octets at width number) place size ≡ number_at octets place size
number_at-apart octets at width number place size (inl h) = number_at-same (with_number octets at width number) octets place size
    (λ k a b. with_number-below octets at width number k (omega arith))
number_at-apart octets at width number place size (inr h) = number_at-same (with_number octets at width number) octets place size
    (λ k a b. with_number-above octets at width number k (omega arith))

-- each octet, within the memory or not, is below 256
pub octet-below : (octets : List ℕ) → AreOctets octets → (k : ℕ) → get_or octets k 0 < 256
octet-below octets are k = ⊎_elim (λ h. are k 0 h) (λ h. rw (get_or_past octets k 0 h) (omega arith)) (cases_lt k (length octets))

-- a number is below what so many octets can hold
pub number_at-below : (octets : List ℕ) → AreOctets octets → (at width : ℕ) → number_at octets at width < 2 ^ (8 * width)
unfolding number_at
number_at-below octets are at zero = omega arith
number_at-below octets are at (suc width) =
    let first : get_or octets at 0 < 256 = octet-below octets are at in
    let rest : number_at octets (at + 1) width < 2 ^ (8 * width) = number_at-below octets are (at + 1) width in
    let wide : 2 ^ (8 * suc width) ≡ 256 * 2 ^ (8 * width) = ap (λ (n : ℕ). 2 ^ n) (mul-suc 8 width ∙ add_comm (8 * width) 8 ∙ refl) ∙ pow-add 2 8 (8 * width) in
    rw wide (omega arith)

-- octets stay octets
pub AreOctets-with_number : (octets : List ℕ) → AreOctets octets → (at width number : ℕ) → AreOctets (with_number octets at width number)
unfolding with_number
AreOctets-with_number octets are at zero number = are
AreOctets-with_number octets are at (suc width) number =
    AreOctets-with_number (set octets at (number % 256)) (All-set (λ octet. octet < 256) octets at (number % 256) (mod-lt number (omega arith)) are)
    (at + 1) width (number / 256)

octet_taken : (octets : List ℕ) (at width k : ℕ) → k < width → get_or (take width (drop at octets)) k 0 ≡ get_or octets (at + k) 0
octet_taken octets at width k h = get_or-take width (drop at octets) k 0 h ∙ get_or-drop at octets k 0

-- a number is that of all its octets but the last, and what the last one is worth
number_at-last : (octets : List ℕ) (at k : ℕ) → number_at octets at (suc k) ≡ number_at octets at k + get_or octets (at + k) 0 * 256 ^ k
unfolding number_at
number_at-last octets at zero = let here : at + 0 ≡ at = omega arith in rw here (omega arith)
number_at-last octets at (suc k) =
    let octet : ℕ = get_or octets (at + suc k) 0 in
    let there : at + 1 + k ≡ at + suc k = omega arith in
    let rest : number_at octets (at + 1) (suc k) ≡ number_at octets (at + 1) k + octet * 256 ^ k = rw there at (number_at-last octets (at + 1) k) in
    let worth : octet * 256 ^ suc k ≡ 256 * (octet * 256 ^ k) = rw (pow-suc 256 k, ← mul_assoc octet (256 ^ k) 256) (mul_comm (octet * 256 ^ k) 256) in
    omega (arith, rest, worth)

-- the number of octets is that which `from_le_bytes` reads of them
pub number_at-taken : (octets : List ℕ) (at width k : ℕ) → k < width →
    number_at octets at (suc k) ≡ sum_through (λ i. byte_worth i (get_or (take width (drop at octets)) i 0)) k
unfolding number_at
number_at-taken octets at width zero h = rw (octet_taken octets at width 0 h) (let here : at + 0 ≡ at = omega arith in rw here (omega arith))
number_at-taken octets at width (suc k) h =
    number_at-last octets at (suc k)
    ∙ ap₂ (λ (x y : ℕ). x + y) (number_at-taken octets at width k (omega arith))
    (ap (λ (octet : ℕ). octet * 256 ^ suc k) (sym (octet_taken octets at width (suc k) h)))

byte_at-higher : (k number : ℕ) → byte_at k (number / 256) ≡ byte_at (suc k) number
byte_at-higher zero number = refl
byte_at-higher (suc k) number =
    let product : 256 * 256 ^ suc k ≡ 256 ^ suc (suc k) = mul_comm 256 (256 ^ suc k) ∙ sym (pow-suc 256 (suc k)) in
    rw (div-div-eq-div-mul number 256 (256 ^ suc k), product) refl

bytes_low_first-higher : (from width number : ℕ) → bytes_low_first from width (number / 256) ≡ bytes_low_first (suc from) width number
bytes_low_first-higher from zero number = refl
bytes_low_first-higher from (suc width) number = ap₂ (λ (x : ℕ) (xs : List ℕ). x ∷ xs) (byte_at-higher from number) (bytes_low_first-higher (suc from) width number)

-- so putting a number is putting its octets
pub with_number-octets : (octets : List ℕ) (at width number : ℕ) → at + width ≤ length octets →
    with_number octets at width number ≡ take at octets ++ (bytes_low_first 0 width number ++ drop (at + width) octets)
unfolding with_number
with_number-octets octets at zero number room =
    let here : at + 0 ≡ at = omega arith in
    rw here (sym (take-append-drop at octets))
with_number-octets octets at (suc width) number room =
    let octet : ℕ = number % 256 in
    let more : List ℕ = set octets at octet in
    let rest : with_number more (at + 1) width (number / 256) ≡ take (at + 1) more ++ (bytes_low_first 0 width (number / 256) ++ drop (at + 1 + width) more) =
    with_number-octets more (at + 1) width (number / 256) (omega (arith, length-set octets at octet)) in
    let front : take (at + 1) more ≡ take at octets ++ octet ∷ [] = rw add-one (take-suc-set octets at octet (omega arith)) in
    let end : at + 1 + width ≡ at + suc width = omega arith in
    let back : drop (at + suc width) more ≡ drop (at + suc width) octets = drop-set-lt (at + suc width) octets at octet (omega arith) in
    rw (rest, front, end, back, bytes_low_first-higher 0 width number)
    (append_assoc (take at octets) (octet ∷ []) (bytes_low_first 1 width number ++ drop (at + suc width) octets))
