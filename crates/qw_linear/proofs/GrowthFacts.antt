-- A memory that grew: what it keeps, and what the new octets are.
use Rattle.std.proofs.Common.{◌≡◌, ℕ, zero, suc, ◌+◌, ◌-◌, ◌*◌, ◌<◌, ◌≤◌, List, ◌++◌, length, get_or, take, replicate, ⊎_elim, refl, ap, ◌∙◌, arith}
use Rattle.std.proofs.lemmas.Bool.{cases_lt}
use Rattle.std.proofs.lemmas.List.{get_or-append_right, get_or-replicate, get_or_append_left, get_or_past, length-append, length-replicate, take_all}
use Rattle.std.proofs.lemmas.List.Elements.{All-append, All-replicate}
use Rattle.qw_linear.proofs.MemoryFacts.{number_at-same}
use Rattle.qw_linear.specs.Memory.{page, number_at, grown_by, AreOctets}

-- octets that were filled up with zeros to so many pages more
pub grown-octets : (old new : List ℕ) (pages before room len : ℕ) → length old ≡ before * page → room ≡ page * (before + pages) → len ≡ length old →
    new ≡ take room old ++ replicate (room - len) 0 → new ≡ grown_by pages old
unfolding grown_by
grown-octets old new pages before room len whole is same new_is =
    let h : room - len ≡ pages * page = omega arith in
    let e : take room old ≡ old = take_all room old (omega arith) in
    new_is ∙ rw (h, e) refl

zeros-are : (n k : ℕ) → get_or {A = ℕ} (replicate n 0) k 0 ≡ 0
zeros-are n k = ⊎_elim (λ h. get_or-replicate n k 0 0 h) (λ h. get_or_past (replicate n 0) k 0 (omega (arith, length-replicate {A = ℕ} n 0))) (cases_lt k n)

-- the new length
pub length-grown_by : (pages : ℕ) (octets : List ℕ) → length (grown_by pages octets) ≡ length octets + pages * page
unfolding grown_by
length-grown_by pages octets = length-append octets (replicate (pages * page) 0) ∙ ap (λ (n : ℕ). length octets + n) (length-replicate (pages * page) 0)

-- an octet below the old length is kept
pub grown_by-below : (pages : ℕ) (octets : List ℕ) (k : ℕ) → k < length octets → get_or (grown_by pages octets) k 0 ≡ get_or octets k 0
unfolding grown_by
grown_by-below pages octets k h = get_or_append_left octets (replicate (pages * page) 0) 0 k h

-- and each one from there on is 0
pub grown_by-above : (pages : ℕ) (octets : List ℕ) (k : ℕ) → length octets ≤ k → get_or (grown_by pages octets) k 0 ≡ 0
unfolding grown_by
grown_by-above pages octets k h = get_or-append_right octets (replicate (pages * page) 0) (length octets) k 0 refl h ∙ zeros-are (pages * page) (k - length octets)

-- a number in the old part is kept
pub number_at-grown_by : (pages : ℕ) (octets : List ℕ) (at width : ℕ) → at + width ≤ length octets →
    number_at (grown_by pages octets) at width ≡ number_at octets at width
number_at-grown_by pages octets at width room = number_at-same (grown_by pages octets) octets at width (λ k a b. grown_by-below pages octets k (omega arith))

-- and one in the new part is 0
pub number_at-grown_by-new : (pages : ℕ) (octets : List ℕ) (at width : ℕ) → length octets ≤ at → number_at (grown_by pages octets) at width ≡ 0
unfolding number_at
number_at-grown_by-new pages octets at zero past = refl
number_at-grown_by-new pages octets at (suc width) past =
    rw (grown_by-above pages octets at past, number_at-grown_by-new pages octets (at + 1) width (omega arith)) refl

-- octets stay octets
pub AreOctets-grown_by : (pages : ℕ) (octets : List ℕ) → AreOctets octets → AreOctets (grown_by pages octets)
unfolding grown_by
AreOctets-grown_by pages octets are = All-append (λ octet. octet < 256) octets (replicate (pages * page) 0) are
    (All-replicate (λ octet. octet < 256) (pages * page) 0 (omega arith))
