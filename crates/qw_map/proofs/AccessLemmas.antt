-- Which octets lie in areas of the memory, and what keeps them.
use Rattle.std.proofs.Common.{◌≡◌, ℕ, zero, suc, ◌+◌, ◌-◌, ◌<◌, ◌≤◌, nat_le, nat_lt, true, false, List, [], ◌∷◌, ◌++◌, length, take, drop, ◌⊎◌, inl, inr, refl, sym, ◌∙◌, subst, ⊎_elim, arith, get_or-drop, get_or-take}
use Rattle.std.specs.Prelude.{slice_index}
use Rattle.std.specs.List.{AllByRecursion}
use Rattle.std.proofs.lemmas.Bool.{cases_lt, or_cases, or_parts, or_left, or_right, or_from, and_parts, and_from, and_left, le-leb, leb-true, lt-ltb, ltb-true, lt-leb, cases_Bool, false≢true}
use Rattle.std.proofs.lemmas.List.{ext_get_or, length-drop, length-take-le}
use Rattle.qw_linear.specs.Memory.{number_at, with_number}
use Rattle.qw_linear.proofs.MemoryFacts.{number_at-same, with_number-below, with_number-above}
use Rattle.qw_map.specs.Areas.{Area, SameIn, lies_in, lies_in_one, are_covered}
use Rattle.qw_map.specs.Turns.{AreApart}

-- ---- an octet in areas
pub lies-in : (area : Area) (k : ℕ) → area.start ≤ k → k < area.start + area.size → lies_in k area ≡ true
lies-in area k low high = and_from _ _ (le-leb area.start k low) (lt-ltb k (area.start + area.size) high)

pub lies-in-bounds : (area : Area) (k : ℕ) → lies_in k area ≡ true → (area.start ≤ k) × (k < area.start + area.size)
lies-in-bounds area k inside =
    let parts = and_parts (nat_le area.start k) (nat_lt k (area.start + area.size)) inside in
    (leb-true area.start k parts.0, ltb-true k (area.start + area.size) parts.1)

pub lies-first : (area : Area) (areas : List Area) (k : ℕ) → area.start ≤ k → k < area.start + area.size → lies_in_one (area ∷ areas) k ≡ true
lies-first area areas k low high = or_left _ _ (lies-in area k low high)

pub lies-before : (areas more : List Area) (k : ℕ) → lies_in_one areas k ≡ true → lies_in_one (areas ++ more) k ≡ true
lies-before [] more k inside = cc
lies-before (area ∷ areas) more k inside = ⊎_elim
    (λ here. or_left _ _ here)
    (λ further. or_right _ _ (lies-before areas more k further))
    (or_cases (lies_in k area) (lies_in_one areas k) inside)

pub lies-after : (areas more : List Area) (k : ℕ) → lies_in_one more k ≡ true → lies_in_one (areas ++ more) k ≡ true
lies-after [] more k inside = inside
lies-after (area ∷ areas) more k inside = or_right _ _ (lies-after areas more k inside)

-- an octet in none of some areas, and in none of others, lies in none of both together
pub lies-in-none : (areas more : List Area) (k : ℕ) → lies_in_one areas k ≡ false → lies_in_one more k ≡ false → lies_in_one (areas ++ more) k ≡ false
lies-in-none [] more k out out_more = out_more
lies-in-none (area ∷ areas) more k out out_more =
    let parts = or_parts (lies_in k area) (lies_in_one areas k) out in
    or_from _ _ parts.0 (lies-in-none areas more k parts.1 out_more)

-- areas that all begin and end within bounds
pub lies-within : (areas : List Area) (low high : ℕ) → AllByRecursion (λ (area : Area). (low ≤ area.start) × (area.start + area.size ≤ high)) areas →
    (k : ℕ) → lies_in_one areas k ≡ true → (low ≤ k) × (k < high)
lies-within [] low high all k inside = cc
lies-within (area ∷ areas) low high all k inside = ⊎_elim
    (λ here. let bounds = lies-in-bounds area k here in (omega (arith, all.0, bounds), omega (arith, all.0, bounds)))
    (λ further. lies-within areas low high all.1 k further)
    (or_cases (lies_in k area) (lies_in_one areas k) inside)

-- an octet before all of some areas lies in none of them
pub lies-ahead : (areas : List Area) (low : ℕ) → AllByRecursion (λ (area : Area). low ≤ area.start) areas → (k : ℕ) → k < low → lies_in_one areas k ≡ false
lies-ahead [] low all k below = refl
lies-ahead (area ∷ areas) low all k below =
    or_from _ _ (and_left _ _ (lt-leb area.start k (omega (arith, all.0)))) (lies-ahead areas low all.1 k below)

-- an octet of an area lies in none of those that are apart from it
lies-apart-one : (own area : Area) → AreApart own area → (k : ℕ) → area.start ≤ k → k < area.start + area.size → lies_in k own ≡ false
lies-apart-one own area apart k low high = ⊎_elim
    (λ inside. absurd (let bounds = lies-in-bounds own k inside in ⊎_elim (λ before. omega (arith, bounds)) (λ behind. omega (arith, bounds)) apart))
    (λ outside. outside)
    (cases_Bool (lies_in k own))

pub lies-apart : (own : List Area) (area : Area) → AllByRecursion (λ a. AreApart a area) own → (k : ℕ) → area.start ≤ k → k < area.start + area.size →
    lies_in_one own k ≡ false
lies-apart [] area apart k low high = refl
lies-apart (first ∷ own) area apart k low high = or_from _ _ (lies-apart-one first area apart.0 k low high) (lies-apart own area apart.1 k low high)

-- ---- an access, octet by octet
pub covered-each : (areas : List Area) (at width : ℕ) → are_covered areas at width ≡ true → (k : ℕ) → at ≤ k → k < at + width → lies_in_one areas k ≡ true
covered-each areas at zero covered k low high = absurd (omega arith)
covered-each areas at (suc width) covered k low high =
    let parts = and_parts (lies_in_one areas at) (are_covered areas (at + 1) width) covered in
    ⊎_elim
    (λ further. covered-each areas (at + 1) width parts.1 k (omega arith) (omega arith))
    (λ here. let same : at ≡ k = omega arith in subst (λ (i : ℕ). lies_in_one areas i ≡ true) same parts.0)
    (cases_lt at k)

pub covered-from : (areas : List Area) (at width : ℕ) → ((k : ℕ) → at ≤ k → k < at + width → lies_in_one areas k ≡ true) → are_covered areas at width ≡ true
covered-from areas at zero each = refl
covered-from areas at (suc width) each =
    and_from _ _ (each at (omega arith) (omega arith)) (covered-from areas (at + 1) width (λ k low high. each k (omega arith) (omega arith)))

-- an access inside an area that is the first of several
pub covered-first : (area : Area) (areas : List Area) (at width : ℕ) → area.start ≤ at → at + width ≤ area.start + area.size →
    are_covered (area ∷ areas) at width ≡ true
covered-first area areas at width low high = covered-from (area ∷ areas) at width (λ k from to. lies-first area areas k (omega arith) (omega arith))

-- where each octet of some areas lies in others, so does an access
pub covered-in : (areas others : List Area) → ((k : ℕ) → lies_in_one areas k ≡ true → lies_in_one others k ≡ true) → (at width : ℕ) →
    are_covered areas at width ≡ true → are_covered others at width ≡ true
covered-in areas others each at width covered = covered-from others at width (λ k low high. each k (covered-each areas at width covered k low high))

pub covered-before : (areas more : List Area) (at width : ℕ) → are_covered areas at width ≡ true → are_covered (areas ++ more) at width ≡ true
covered-before areas more = covered-in areas (areas ++ more) (lies-before areas more)

pub covered-after : (areas more : List Area) (at width : ℕ) → are_covered more at width ≡ true → are_covered (areas ++ more) at width ≡ true
covered-after areas more = covered-in more (areas ++ more) (lies-after areas more)

-- a part of an access that is covered
pub covered-part : (areas : List Area) (at size : ℕ) → are_covered areas at size ≡ true → (a width : ℕ) → at ≤ a → a + width ≤ at + size →
    are_covered areas a width ≡ true
covered-part areas at size covered a width low high = covered-from areas a width (λ k from to. covered-each areas at size covered k (omega arith) (omega arith))

-- two accesses one behind the other
pub covered-join : (areas : List Area) (at first second : ℕ) → are_covered areas at first ≡ true → are_covered areas (at + first) second ≡ true →
    are_covered areas at (first + second) ≡ true
covered-join areas at first second one two = covered-from areas at (first + second) (λ k low high. ⊎_elim
    (λ below. covered-each areas at first one k low below)
    (λ above. covered-each areas (at + first) second two k above (omega arith))
    (cases_lt k (at + first)))

-- an access of an octet or more lies within the bounds of areas
pub covered-within : (areas : List Area) (low high : ℕ) → AllByRecursion (λ (area : Area). (low ≤ area.start) × (area.start + area.size ≤ high)) areas →
    (at width : ℕ) → 1 ≤ width → are_covered areas at width ≡ true → (low ≤ at) × (at + width ≤ high)
covered-within areas low high all at width some covered =
    let first = lies-within areas low high all at (covered-each areas at width covered at (omega arith) (omega arith)) in
    let last = lies-within areas low high all (at + width - 1) (covered-each areas at width covered (at + width - 1) (omega arith) (omega arith)) in
    (first.0, omega (arith, last.1))

-- an octet in no area is none of an access that is covered
pub covered-apart : (areas : List Area) (at width : ℕ) → are_covered areas at width ≡ true → (k : ℕ) → lies_in_one areas k ≡ false → (k < at) ⊎ (at + width ≤ k)
covered-apart areas at width covered k out = ⊎_elim
    (λ below. inl below)
    (λ from. ⊎_elim
    (λ inside. absurd (false≢true (sym out ∙ covered-each areas at width covered k from inside)))
    (λ past. inr past)
    (cases_lt k (at + width)))
    (cases_lt k at)

-- so a number that is put there leaves it
pub with_number-outside : (m : List ℕ) (areas : List Area) (at width number : ℕ) → are_covered areas at width ≡ true → (k : ℕ) → lies_in_one areas k ≡ false →
    slice_index (with_number m at width number) k ≡ slice_index m k
with_number-outside m areas at width number covered k out = ⊎_elim
    (λ below. with_number-below m at width number k below)
    (λ above. with_number-above m at width number k above)
    (covered-apart areas at width covered k out)

-- ---- what is kept where areas are
-- each octet of some areas is the same in two memories
abbrev pub AreKept : List ℕ → List ℕ → List Area → Type 0
AreKept before after areas = (k : ℕ) → lies_in_one areas k ≡ true → slice_index after k ≡ slice_index before k

pub kept-same : (before after : List ℕ) (areas : List Area) → AllByRecursion (SameIn before after) areas → AreKept before after areas
kept-same before after [] same k inside = cc
kept-same before after (area ∷ areas) same k inside = ⊎_elim
    (λ here.
    let bounds = lies-in-bounds area k here in
    let there : area.start + (k - area.start) ≡ k = omega (arith, bounds) in
    subst (λ (i : ℕ). slice_index after i ≡ slice_index before i) there (same.0 (k - area.start) (omega (arith, bounds))))
    (λ further. kept-same before after areas same.1 k further)
    (or_cases (lies_in k area) (lies_in_one areas k) inside)

-- an octet of two lists of areas is one of the first or of the second
pub lies-cases : (areas more : List Area) (k : ℕ) → lies_in_one (areas ++ more) k ≡ true → (lies_in_one areas k ≡ true) ⊎ (lies_in_one more k ≡ true)
lies-cases [] more k inside = inr inside
lies-cases (area ∷ areas) more k inside = ⊎_elim
    (λ here. inl (or_left _ _ here))
    (λ further. ⊎_elim (λ first. inl (or_right _ _ first)) (λ second. inr second) (lies-cases areas more k further))
    (or_cases (lies_in k area) (lies_in_one (areas ++ more) k) inside)

pub kept-both : (before after : List ℕ) (areas more : List Area) → AreKept before after areas → AreKept before after more → AreKept before after (areas ++ more)
kept-both before after areas more one two k inside = ⊎_elim (one k) (two k) (lies-cases areas more k inside)

-- a number whose octets are covered by what is kept
pub number-kept : (before after : List ℕ) (areas : List Area) → AreKept before after areas → (at width : ℕ) →
    are_covered areas at width ≡ true → number_at after at width ≡ number_at before at width
number-kept before after areas kept at width covered =
    number_at-same after before at width (λ k low high. kept k (covered-each areas at width covered k low high))

-- so many octets from an address on, where each is the same in a memory that isn't shorter
pub octets-same : (before after : List ℕ) (at width : ℕ) → at + width ≤ length before → length before ≤ length after →
    ((k : ℕ) → at ≤ k → k < at + width → slice_index after k ≡ slice_index before k) → take width (drop at after) ≡ take width (drop at before)
octets-same before after at width room longer same =
    let long : length (take width (drop at after)) ≡ width = length-octets after at width (omega arith) in
    let short : length (take width (drop at before)) ≡ width = length-octets before at width room in
    ext_get_or 0 (take width (drop at after)) (take width (drop at before)) (long ∙ sym short)
    (λ k within.
    let inside : k < width = omega (arith, long, within) in
    get_or-take width (drop at after) k 0 inside ∙ get_or-drop at after k 0 ∙ same (at + k) (omega arith) (omega arith)
    ∙ sym (get_or-take width (drop at before) k 0 inside ∙ get_or-drop at before k 0))
  where
    length-octets : (m : List ℕ) (at width : ℕ) → at + width ≤ length m → length (take width (drop at m)) ≡ width
    length-octets m at width room =
        let rest : length (drop at m) ≡ length m - at = length-drop at m in
        length-take-le width (drop at m) (omega (arith, rest))

pub octets-kept : (before after : List ℕ) (areas : List Area) → AreKept before after areas → (at width : ℕ) → are_covered areas at width ≡ true →
    at + width ≤ length before → length before ≤ length after → take width (drop at after) ≡ take width (drop at before)
octets-kept before after areas kept at width covered room longer =
    octets-same before after at width room longer (λ k low high. kept k (covered-each areas at width covered k low high))
