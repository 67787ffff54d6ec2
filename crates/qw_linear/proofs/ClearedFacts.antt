-- A memory of which pages were cleared: what it keeps, and what the octets of these pages are.
use Rattle.std.proofs.Common.{◌≡◌, ℕ, zero, suc, ◌+◌, ◌-◌, ◌*◌, ◌<◌, ◌≤◌, List, [], ◌++◌, length, get_or, take, drop, replicate, ◌⊎◌, inl, inr, refl, ap, ◌∙◌, arith}
use Rattle.std.proofs.lemmas.List.{get_or-append_right, get_or-replicate, get_or_append_left, get_or-take, get_or-drop, length-append, length-replicate, length-take-le, length-drop, take_all, drop_all, append-nil}
use Rattle.std.proofs.lemmas.List.Elements.{All-append, All-replicate, All-take, All-drop}
use Rattle.qw_linear.specs.Memory.{page, number_at, grown_by, cleared, AreOctets}
use Rattle.qw_linear.proofs.MemoryFacts.{number_at-same}
use Rattle.qw_linear.proofs.GrowthFacts.{length-grown_by}

-- octets that were put as zeros
pub cleared-octets : (first pages at count : ℕ) (old m new : List ℕ) → at ≡ page * first → count ≡ page * pages → old ≡ m →
    new ≡ take at old ++ (replicate count 0 ++ drop (at + count) old) → new ≡ cleared first pages m
unfolding cleared
cleared-octets first pages at count old m new at_is count_is same new_is =
    let behind : at + count ≡ (first + pages) * page = omega (arith, at_is, count_is) in
    let begins : at ≡ first * page = omega (arith, at_is) in
    let many : count ≡ pages * page = omega (arith, count_is) in
    new_is ∙ rw (same, behind) (rw (begins, many) refl)

-- its length, wherever the pages begin in it
pub length-cleared-any : (first pages : ℕ) (m : List ℕ) → first * page ≤ length m →
    length (cleared first pages m) ≡ first * page + (pages * page + (length m - (first + pages) * page))
unfolding cleared
length-cleared-any first pages m there =
    let front : length (take (first * page) m) ≡ first * page = length-take-le (first * page) m there in
    let zeros : length {A = ℕ} (replicate (pages * page) 0) ≡ pages * page = length-replicate (pages * page) 0 in
    let back : length (drop ((first + pages) * page) m) ≡ length m - (first + pages) * page = length-drop ((first + pages) * page) m in
    let behind : length (replicate (pages * page) 0 ++ drop ((first + pages) * page) m) ≡ length {A = ℕ} (replicate (pages * page) 0) + length (drop ((first + pages) * page) m) =
    length-append (replicate (pages * page) 0) (drop ((first + pages) * page) m) in
    let all = length-append (take (first * page) m) (replicate (pages * page) 0 ++ drop ((first + pages) * page) m) in
    omega (arith, front, zeros, back, behind, all)

-- so that of pages in the memory leaves its length
pub length-cleared : (first pages : ℕ) (m : List ℕ) → (first + pages) * page ≤ length m → length (cleared first pages m) ≡ length m
length-cleared first pages m within = omega (arith, length-cleared-any first pages m (omega (arith, within)), within)

module _ (first pages : ℕ) (m : List ℕ) (there : first * page ≤ length m) where
  front : length (take (first * page) m) ≡ first * page
  front = length-take-le (first * page) m there

  zeros : length {A = ℕ} (replicate (pages * page) 0) ≡ pages * page
  zeros = length-replicate (pages * page) 0

  abbrev rest : List ℕ
  rest = replicate (pages * page) 0 ++ drop ((first + pages) * page) m

  pub cleared-before : (k : ℕ) → k < first * page → get_or (cleared first pages m) k 0 ≡ get_or m k 0
  unfolding cleared
  cleared-before k h = get_or_append_left (take (first * page) m) rest 0 k (omega (arith, front, h)) ∙ get_or-take (first * page) m k 0 h

  from_rest : (k : ℕ) → first * page ≤ k → get_or (cleared first pages m) k 0 ≡ get_or rest (k - first * page) 0
  unfolding cleared
  from_rest k h = get_or-append_right (take (first * page) m) rest (first * page) k 0 front h

  pub cleared-new : (k : ℕ) → first * page ≤ k → k < (first + pages) * page → get_or (cleared first pages m) k 0 ≡ 0
  cleared-new k h within = from_rest k h
      ∙ get_or_append_left (replicate (pages * page) 0) (drop ((first + pages) * page) m) 0 (k - first * page) (omega (arith, zeros, h, within))
      ∙ get_or-replicate (pages * page) (k - first * page) 0 0 (omega (arith, h, within))

  pub cleared-behind : (k : ℕ) → (first + pages) * page ≤ k → get_or (cleared first pages m) k 0 ≡ get_or m k 0
  cleared-behind k h =
      let same : (first + pages) * page + (k - first * page - pages * page) ≡ k = omega (arith, h) in
      from_rest k (omega (arith, h))
      ∙ get_or-append_right (replicate (pages * page) 0) (drop ((first + pages) * page) m) (pages * page) (k - first * page) 0 zeros (omega (arith, h))
      ∙ get_or-drop ((first + pages) * page) m (k - first * page - pages * page) 0
      ∙ ap (λ (i : ℕ). get_or m i 0) same

pub cleared-next : (first pages : ℕ) (m : List ℕ) → length m ≡ first * page → cleared first pages m ≡ grown_by pages m
unfolding cleared grown_by
cleared-next first pages m whole =
    let front : take (first * page) m ≡ m = take_all (first * page) m (omega (arith, whole)) in
    let back : drop ((first + pages) * page) m ≡ [] = drop_all ((first + pages) * page) m (omega (arith, whole)) in
    rw (front, back, append-nil (replicate {A = ℕ} (pages * page) 0)) refl

pub AreOctets-cleared : (first pages : ℕ) (m : List ℕ) → AreOctets m → AreOctets (cleared first pages m)
unfolding cleared
AreOctets-cleared first pages m are = All-append (λ octet. octet < 256) (take (first * page) m) (replicate (pages * page) 0 ++ drop ((first + pages) * page) m)
    (All-take (λ octet. octet < 256) (first * page) m are)
    (All-append (λ octet. octet < 256) (replicate (pages * page) 0) (drop ((first + pages) * page) m) (All-replicate (λ octet. octet < 256) (pages * page) 0 (omega arith))
    (All-drop (λ octet. octet < 256) ((first + pages) * page) m are))

-- a number beside the pages is kept
pub number_at-cleared : (first pages : ℕ) (m : List ℕ) (at width : ℕ) → first * page ≤ length m → (at + width ≤ first * page) ⊎ ((first + pages) * page ≤ at) →
    number_at (cleared first pages m) at width ≡ number_at m at width
number_at-cleared first pages m at width there (inl before) =
    number_at-same (cleared first pages m) m at width (λ k a b. cleared-before first pages m there k (omega (arith, before, a, b)))
number_at-cleared first pages m at width there (inr behind) =
    number_at-same (cleared first pages m) m at width (λ k a b. cleared-behind first pages m there k (omega (arith, behind, a, b)))

-- and one in them is 0
pub number_at-cleared-new : (first pages : ℕ) (m : List ℕ) (at width : ℕ) → first * page ≤ length m → first * page ≤ at → at + width ≤ (first + pages) * page →
    number_at (cleared first pages m) at width ≡ 0
unfolding number_at
number_at-cleared-new first pages m at zero there low high = refl
number_at-cleared-new first pages m at (suc width) there low high =
    rw (cleared-new first pages m there at low (omega (arith, high)), number_at-cleared-new first pages m (at + 1) width there (omega (arith, low)) (omega (arith, high))) refl

-- a memory of whole pages is longer by those that it had not
pub length-cleared-next : (pages before : ℕ) (m : List ℕ) → length m ≡ before * page → length (cleared before pages m) ≡ length m + pages * page
length-cleared-next pages before m whole = rw (cleared-next before pages m whole) (length-grown_by pages m)
