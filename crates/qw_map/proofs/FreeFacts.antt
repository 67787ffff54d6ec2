-- What becomes of flags that are marked or added, and which areas are apart by them.
use Rattle.std.proofs.Common.{◌≡◌, ◌≢◌, ℕ, zero, suc, ◌+◌, ◌-◌, ◌*◌, ◌/◌, ◌<◌, ◌≤◌, Bool, true, false, List, [], ◌∷◌, ◌++◌, length, replicate, Option, Some, None, slice_get, slice_set, ◌⊎◌, inl, inr, refl, sym, ap, ◌∙◌, subst, ⊎_elim, arith, length-set}
use Rattle.std.specs.List.{AllByRecursion}
use Rattle.std.proofs.lemmas.Bool.{cases_Bool, cases_lt, and_parts, or_parts, or_from, false≢true}
use Rattle.std.proofs.lemmas.Option.{same_Some, none-some, slice_get_within}
use Rattle.qw_linear.specs.Memory.{page}
use Rattle.qw_map.specs.Areas.{Area, lies_in, lies_in_one}
use Rattle.qw_map.proofs.AccessLemmas.{lies-in, lies-in-bounds}
use Rattle.qw_map.specs.Turns.{AreApart}
use Rattle.qw_map.proofs.TurnFacts.{slice_get-set_same, slice_get-set_other, found-in}
use Rattle.qw_map.specs.Free.{begins_run, lowest_run, marked, given_back, IsTaken}

-- ---- flags that were added
pub get-kept : (xs ys : List Bool) (p : ℕ) (b : Bool) → slice_get xs p ≡ Some b → slice_get (xs ++ ys) p ≡ Some b
get-kept [] ys p b h = absurd (none-some b h)
get-kept (x ∷ xs) ys zero b h = h
get-kept (x ∷ xs) ys (suc p) b h = get-kept xs ys p b h

pub none-true : (n p : ℕ) → slice_get (replicate n false) p ≡ Some true → ⊥
none-true zero p h = none-some true h
none-true (suc n) zero h = false≢true (same_Some false true h)
none-true (suc n) (suc p) h = none-true n p h

pub true-before : (xs : List Bool) (n p : ℕ) → slice_get (xs ++ replicate n false) p ≡ Some true → slice_get xs p ≡ Some true
true-before [] n p h = absurd (none-true n p h)
true-before (x ∷ xs) n zero h = h
true-before (x ∷ xs) n (suc p) h = true-before xs n p h

pub new-false : (n p : ℕ) → p < n → slice_get (replicate n false) p ≡ Some false
new-false zero p h = absurd (omega (arith, h))
new-false (suc n) zero h = refl
new-false (suc n) (suc p) h = new-false n p (omega (arith, h))

pub added-false : (xs : List Bool) (n p : ℕ) → length xs ≤ p → p < length xs + n → slice_get (xs ++ replicate n false) p ≡ Some false
added-false [] n p low high = new-false n p (omega (arith, high))
added-false (x ∷ xs) n zero low high = absurd (omega (arith, low))
added-false (x ∷ xs) n (suc p) low high = added-false xs n p (omega (arith, low)) (omega (arith, high))

-- ---- flags that were marked
pub length-marked : (flag : Bool) (first n : ℕ) (flags : List Bool) → length (marked flag first n flags) ≡ length flags
length-marked flag first zero flags = refl
length-marked flag first (suc n) flags = length-marked flag (first + 1) n (slice_set flags first flag) ∙ length-set flags first flag

pub marked-other : (flag : Bool) (first n : ℕ) (flags : List Bool) (p : ℕ) → (p < first) ⊎ (first + n ≤ p) →
    slice_get (marked flag first n flags) p ≡ slice_get flags p
marked-other flag first zero flags p out = refl
marked-other flag first (suc n) flags p (inl below) = marked-other flag (first + 1) n (slice_set flags first flag) p (inl (omega (arith, below)))
    ∙ slice_get-set_other flags first p flag (λ e. omega (arith, below, e))
marked-other flag first (suc n) flags p (inr past) = marked-other flag (first + 1) n (slice_set flags first flag) p (inr (omega (arith, past)))
    ∙ slice_get-set_other flags first p flag (λ e. omega (arith, past, e))

pub marked-there : (flag : Bool) (first n : ℕ) (flags : List Bool) (p : ℕ) → first ≤ p → p < first + n → p < length flags →
    slice_get (marked flag first n flags) p ≡ Some flag
marked-there flag first zero flags p low high inside = absurd (omega (arith, low, high))
marked-there flag first (suc n) flags p low high inside = ⊎_elim
    (λ later. marked-there flag (first + 1) n (slice_set flags first flag) p (omega (arith, later)) (omega (arith, high)) (omega (arith, inside, length-set flags first flag)))
    (λ here.
    let is : first ≡ p = omega (arith, low, here) in
    marked-other flag (first + 1) n (slice_set flags first flag) p (inl (omega (arith, is)))
    ∙ subst (λ (q : ℕ). slice_get (slice_set flags first flag) q ≡ Some flag) is (slice_get-set_same flags first flag (omega (arith, is, inside))))
    (cases_lt first p)

-- which are other flags where one isn't this
pub marked-cases : (flag other : Bool) (first n : ℕ) (flags : List Bool) (p : ℕ) → slice_get (marked flag first n flags) p ≡ Some other →
    (slice_get flags p ≡ Some other) ⊎ ((first ≤ p) × (p < first + n) × (p < length flags))
marked-cases flag other first n flags p h = ⊎_elim
    (λ below. inl (sym (marked-other flag first n flags p (inl below)) ∙ h))
    (λ low. ⊎_elim
    (λ high. inr (low, high, let inside = slice_get_within (marked flag first n flags) p other h in omega (arith, inside, length-marked flag first n flags)))
    (λ past. inl (sym (marked-other flag first n flags p (inr past)) ∙ h))
    (cases_lt p (first + n)))
    (cases_lt p first)

-- marking false makes no page free, and leaves what isn't
pub false-marked-true : (first n : ℕ) (flags : List Bool) (p : ℕ) → slice_get (marked false first n flags) p ≡ Some true → slice_get flags p ≡ Some true
false-marked-true first n flags p h = ⊎_elim
    (λ old. old)
    (λ new. absurd (false≢true (same_Some false true (sym (marked-there false first n flags p new.0 new.1 new.2) ∙ h))))
    (marked-cases false true first n flags p h)

pub false-marked-false : (first n : ℕ) (flags : List Bool) (p : ℕ) → slice_get flags p ≡ Some false → slice_get (marked false first n flags) p ≡ Some false
false-marked-false first n flags p h = ⊎_elim
    (λ below. marked-other false first n flags p (inl below) ∙ h)
    (λ low. ⊎_elim
    (λ high. marked-there false first n flags p low high (slice_get_within flags p false h))
    (λ past. marked-other false first n flags p (inr past) ∙ h)
    (cases_lt p (first + n)))
    (cases_lt p first)

-- ---- the place of a request
begins-free : (n k : ℕ) (flags : List Bool) → begins_run n flags ≡ true → k < n → slice_get flags k ≡ Some true
begins-free zero k flags begins h = absurd (omega (arith, h))
begins-free (suc n) k [] begins h = absurd (false≢true begins)
begins-free (suc n) zero (flag ∷ flags) begins h = ap Some (and_parts flag (begins_run n flags) begins).0
begins-free (suc n) (suc k) (flag ∷ flags) begins h = begins-free n k flags (and_parts flag (begins_run n flags) begins).1 (omega (arith, h))

place-from : (at n p k : ℕ) (flags : List Bool) → lowest_run at n flags ≡ Some p → k < n → (j : ℕ) × (p + k ≡ at + j) × (slice_get flags j ≡ Some true)
place-from at n p k [] found h = absurd (none-some p found)
place-from at n p k (flag ∷ flags) found h = ⊎_elim
    (λ here.
    let is : at ≡ p = same_Some at p (rw here at found) in
    (k, omega (arith, is), begins-free n k (flag ∷ flags) here h))
    (λ later.
    let rest = place-from (at + 1) n p k flags (rw later at found) h in
    (suc rest.0, omega (arith, rest.1), rest.2))
    (cases_Bool (begins_run n (flag ∷ flags)))

pub place-free : (n p k : ℕ) (flags : List Bool) → lowest_run 0 n flags ≡ Some p → k < n → slice_get flags (p + k) ≡ Some true
place-free n p k flags found h =
    let there = place-from 0 n p k flags found h in
    let same : there.0 ≡ p + k = omega (arith, there.1) in
    subst (λ (q : ℕ). slice_get flags q ≡ Some true) same there.2

-- ---- areas of pages
-- runs that have no page in common lie one before the other
runs-apart : (a b c d : ℕ) → ((p : ℕ) → a ≤ p → p ≤ a + b → c ≤ p → p ≤ c + d → ⊥) → (a + b + 1 ≤ c) ⊎ (c + d + 1 ≤ a)
runs-apart a b c d none = ⊎_elim
    (λ before. inl (omega (arith, before)))
    (λ first. ⊎_elim
    (λ behind. inr (omega (arith, behind)))
    (λ second. ⊎_elim
    (λ less. absurd (none c (omega (arith, less)) first (omega arith) (omega arith)))
    (λ most. absurd (none a (omega arith) (omega arith) most second))
    (cases_lt a c))
    (cases_lt (c + d) a))
    (cases_lt (a + b) c)

-- an area of which no page was taken
abbrev pub IsNew : List Bool → Area → Type 0
IsNew free a = (p : ℕ) → a.start ≤ p * page → p * page < a.start + a.size → slice_get free p ≢ Some false

pub new-apart : (behind behind2 : ℕ) (free now : List Bool) (a b : Area) → IsTaken behind2 now a → IsNew free a → IsTaken behind free b → AreApart a b
new-apart behind behind2 free now a b t new u = ⊎_elim
    (λ before. inl (omega (arith, before, t.start_is, t.size_is, u.start_is)))
    (λ after. inr (omega (arith, after, t.start_is, u.start_is, u.size_is)))
    (runs-apart t.at t.less u.at u.less (λ p low high from to.
    let there : u.at + (p - u.at) ≡ p = omega (arith, from) in
    new p (omega (arith, t.start_is, low)) (omega (arith, t.start_is, t.size_is, high))
    (subst (λ (q : ℕ). slice_get free q ≡ Some false) there (u.taken (p - u.at) (omega (arith, from, to))))))

-- no page of an area is one of another that is apart from it
pub apart-page : (behind : ℕ) (free : List Bool) (a b : Area) → IsTaken behind free a → IsTaken behind free b → AreApart a b →
    (p : ℕ) → b.start / page ≤ p → p < b.start / page + b.size / page → (p < a.start / page) ⊎ (a.start / page + a.size / page ≤ p)
apart-page behind free a b t u (inl before) p low high = inr (omega (arith, before, low, t.start_is, t.size_is, u.start_is))
apart-page behind free a b t u (inr after) p low high = inl (omega (arith, after, high, t.start_is, u.start_is, u.size_is))

-- what is taken stays so where its flags stay
pub taken-kept : (behind : ℕ) (free now : List Bool) → ((p : ℕ) → slice_get free p ≡ Some false → slice_get now p ≡ Some false) → (a : Area) →
    IsTaken behind free a → IsTaken behind now a
taken-kept behind free now kept a t = record {
  at = t.at;
  less = t.less;
  start_is = t.start_is;
  size_is = t.size_is;
  behind_is = t.behind_is;
  taken = λ k h. kept (t.at + k) (t.taken k h);
}

-- ---- pages that are given back
-- the flag of a page that is in none of them stays
pub back-other : (areas : List Area) (flags : List Bool) (p : ℕ) → AllByRecursion (λ a. (p < a.start / page) ⊎ (a.start / page + a.size / page ≤ p)) areas →
    slice_get (given_back areas flags) p ≡ slice_get flags p
back-other [] flags p out = refl
back-other (a ∷ areas) flags p (out, outs) = back-other areas (marked true (a.start / page) (a.size / page) flags) p outs
    ∙ marked-other true (a.start / page) (a.size / page) flags p out

pub length-back : (areas : List Area) (flags : List Bool) → length (given_back areas flags) ≡ length flags
length-back [] flags = refl
length-back (a ∷ areas) flags = length-back areas (marked true (a.start / page) (a.size / page) flags)
    ∙ length-marked true (a.start / page) (a.size / page) flags

-- a page that is free then was free, or lies behind the columns
pub back-behind : (behind : ℕ) (free : List Bool) (areas : List Area) (flags : List Bool) (p : ℕ) → AllByRecursion (IsTaken behind free) areas →
    ((q : ℕ) → slice_get flags q ≡ Some true → behind ≤ q) → slice_get (given_back areas flags) p ≡ Some true → behind ≤ p
back-behind behind free [] flags p taken before h = before p h
back-behind behind free (a ∷ areas) flags p (t, ts) before h = back-behind behind free areas (marked true (a.start / page) (a.size / page) flags) p ts
    (λ q is. ⊎_elim
    (λ old. before q old)
    (λ new. let low = new.0 in omega (arith, low, t.start_is, t.behind_is))
    (marked-cases true true (a.start / page) (a.size / page) flags q is))
    h

-- an area that is apart from all of them stays taken
pub taken-back : (behind : ℕ) (free : List Bool) (areas : List Area) (b : Area) → AllByRecursion (IsTaken behind free) areas → IsTaken behind free b →
    AllByRecursion (λ a. AreApart a b) areas → IsTaken behind (given_back areas free) b
taken-back behind free areas b taken u apart = record {
  at = u.at;
  less = u.less;
  start_is = u.start_is;
  size_is = u.size_is;
  behind_is = u.behind_is;
  taken = λ k h. back-other areas free (u.at + k)
      (outside areas taken apart (u.at + k) (omega (arith, u.start_is)) (omega (arith, u.start_is, u.size_is, h))) ∙ u.taken k h;
}
  where
    outside : (areas : List Area) → AllByRecursion (IsTaken behind free) areas → AllByRecursion (λ a. AreApart a b) areas → (p : ℕ) →
        b.start / page ≤ p → p < b.start / page + b.size / page → AllByRecursion (λ a. (p < a.start / page) ⊎ (a.start / page + a.size / page ≤ p)) areas
    outside [] taken apart p low high = tt
    outside (a ∷ areas) (t, ts) (one, rest) p low high = (apart-page behind free a b t u one p low high, outside areas ts rest p low high)

-- ---- areas and runs
-- an area that is taken lies in the memory
pub taken-within : (behind : ℕ) (free : List Bool) (octets : ℕ) (a : Area) → IsTaken behind free a → length free * page ≤ octets → a.start + a.size ≤ octets
taken-within behind free octets a t there =
    let last : t.at + t.less < length free = slice_get_within free (t.at + t.less) false (t.taken t.less (omega arith)) in
    omega (arith, last, there, t.start_is, t.size_is)

-- it lies beside a run of pages that are free
pub run-beside : (behind : ℕ) (free : List Bool) (n first : ℕ) (a : Area) → IsTaken behind free a → ((k : ℕ) → k < suc n → slice_get free (first + k) ≡ Some true) →
    (a.start + a.size ≤ first * page) ⊎ ((first + suc n) * page ≤ a.start)
run-beside behind free n first a t each = ⊎_elim
    (λ before. inr (omega (arith, before, t.start_is)))
    (λ after. inl (omega (arith, after, t.start_is, t.size_is)))
    (runs-apart first n t.at t.less (λ p low high from to.
    let one : first + (p - first) ≡ p = omega (arith, low) in
    let other : t.at + (p - t.at) ≡ p = omega (arith, from) in
    let is : slice_get free p ≡ Some true = subst (λ (q : ℕ). slice_get free q ≡ Some true) one (each (p - first) (omega (arith, low, high))) in
    let also : slice_get free p ≡ Some false = subst (λ (q : ℕ). slice_get free q ≡ Some false) other (t.taken (p - t.at) (omega (arith, from, to))) in
    false≢true (same_Some false true (sym also ∙ is))))

-- ---- an octet
-- in a page of the memory that isn't free it lies in none of the areas that were added
pub gained-out : (behind : ℕ) (free now : List Bool) (gained : List Area) → AllByRecursion (IsTaken behind now) gained → AllByRecursion (IsNew free) gained → (address : ℕ) →
    address / page < length free → slice_get free (address / page) ≢ Some true → lies_in_one gained address ≡ false
gained-out behind free now [] taken new address there not_free = refl
gained-out behind free now (a ∷ gained) (t, ts) (new, news) address there not_free = or_from _ _
    (⊎_elim
    (λ inside.
    let bounds = lies-in-bounds a address inside in
    absurd (flag-of (slice_get free (address / page)) refl (new (address / page) (omega (arith, bounds, t.start_is)) (omega (arith, bounds)))))
    (λ outside. outside)
    (cases_Bool (lies_in address a)))
    (gained-out behind free now gained ts news address there not_free)
  where
    flag-of : (found : Option Bool) → slice_get free (address / page) ≡ found → slice_get free (address / page) ≢ Some false → ⊥
    flag-of None is not_false = let one = found-in free (address / page) there in none-some one.0 (sym is ∙ one.1)
    flag-of (Some true) is not_false = not_free is
    flag-of (Some false) is not_false = not_false is

-- and the flag of its page stays where areas are given back in which it doesn't lie
outside-pages : (behind : ℕ) (free : List Bool) (areas : List Area) (address : ℕ) → AllByRecursion (IsTaken behind free) areas → lies_in_one areas address ≡ false →
    AllByRecursion (λ a. (address / page < a.start / page) ⊎ (a.start / page + a.size / page ≤ address / page)) areas
outside-pages behind free [] address taken out = tt
outside-pages behind free (a ∷ areas) address (t, ts) out =
    let parts = or_parts (lies_in address a) (lies_in_one areas address) out in (
      ⊎_elim
          (λ before. inl (omega (arith, before, t.start_is)))
          (λ low. ⊎_elim
          (λ high. absurd (false≢true (sym parts.0 ∙ lies-in a address low high)))
          (λ behind. inr (omega (arith, behind, t.start_is, t.size_is)))
          (cases_lt address (a.start + a.size)))
          (cases_lt address a.start),
      outside-pages behind free areas address ts parts.1,
    )

pub back-outside : (behind : ℕ) (free : List Bool) (areas : List Area) (address : ℕ) → AllByRecursion (IsTaken behind free) areas → lies_in_one areas address ≡ false →
    slice_get (given_back areas free) (address / page) ≡ slice_get free (address / page)
back-outside behind free areas address taken out = back-other areas free (address / page) (outside-pages behind free areas address taken out)
