-- How many pages are free where flags are marked and added, and that no run is longer than that.
use Rattle.std.proofs.Common.{◌≡◌, ℕ, zero, suc, ◌+◌, ◌<◌, ◌≤◌, ◌++◌, ◌⊎◌, inl, inr, Bool, true, false, cond, not, List, [], ◌∷◌, length, get_or, replicate, None, slice_set, refl, ◌∙◌, arith}
use Rattle.std.specs.Int.{from_bool}
use Rattle.std.proofs.Math.Bool.{beq}
use Rattle.std.proofs.lemmas.List.Folds.{sum_by-replicate}
use Rattle.std.proofs.lemmas.List.Sums.{count_by-le-length, sum_by-append, sum_by-cons, sum_by-set}
use Rattle.qw_linear.specs.Memory.{pages_of}
use Rattle.qw_map.specs.Free.{begins_run, lowest_run, place_among}
use Rattle.qw_bench.specs.Inner.Pools.{IsChanged, free_among}
use Rattle.qw_bench.proofs.FreeLemmas.{placed-none, placed-some}

-- what a flag counts for
abbrev one : Bool → ℕ
one flag = cond flag 1 0

counted-true : (flags : List Bool) → free_among (true ∷ flags) ≡ 1 + free_among flags
counted-true flags = sum_by-cons one true flags

counted-false : (flags : List Bool) → free_among (false ∷ flags) ≡ free_among flags
counted-false flags = let counts = sum_by-cons one false flags in omega (arith, counts)

pub counted-within : (flags : List Bool) → free_among flags ≤ length flags
counted-within flags = count_by-le-length (λ flag. flag) flags

-- ---- flags that are added
pub counted-none : (n : ℕ) → free_among (replicate n false) ≡ 0
counted-none n = let none = sum_by-replicate one n false in omega (arith, none)

pub counted-added : (flags : List Bool) (n : ℕ) → free_among (flags ++ replicate n false) ≡ free_among flags
counted-added flags n = let added = sum_by-append one flags (replicate n false) in let none = counted-none n in omega (arith, added, none)

-- ---- flags that are marked
changes-nothing : (flag : Bool) (before : ℕ) → IsChanged flag 0 before before
changes-nothing true before = omega arith
changes-nothing false before = omega arith

-- a flag counts once at most
pub once : (other : Bool) (n : ℕ) → n ≡ from_bool other → n ≤ 1
once true n is = omega (arith, is)
once false n is = omega (arith, is)

-- one flag more, which counts as changed exactly where it was the other one
pub changes-next : (flag : Bool) (changed before : ℕ) (flags : List Bool) (at : ℕ) → at < length flags → IsChanged flag changed before (free_among flags) →
    (n : ℕ) → n ≡ from_bool (not (beq (get_or flags at false) flag)) → IsChanged flag (changed + n) before (free_among (slice_set flags at flag))
changes-next flag changed before flags at within so_far n is = step flag (get_or flags at false) (sum_by-set one flags at flag false within) so_far is
  where
    step : (f g : Bool) → free_among (slice_set flags at f) + one g ≡ free_among flags + one f → IsChanged f changed before (free_among flags) →
        n ≡ from_bool (not (beq g f)) → IsChanged f (changed + n) before (free_among (slice_set flags at f))
    step true true set h is = omega (arith, set, h, is)
    step true false set h is = omega (arith, set, h, is)
    step false true set h is = omega (arith, set, h, is)
    step false false set h is = omega (arith, set, h, is)

-- ---- a run is of flags that are true
begins-few : (n : ℕ) (flags : List Bool) → free_among flags < n → begins_run n flags ≡ false
begins-few zero flags few = absurd (omega (arith, few))
begins-few (suc n) [] few = refl
begins-few (suc n) (true ∷ flags) few = let more = counted-true flags in begins-few n flags (omega (arith, few, more))
begins-few (suc n) (false ∷ flags) few = refl

-- so there is none of more
lowest-few : (at n : ℕ) (flags : List Bool) → free_among flags < n → lowest_run at n flags ≡ None
lowest-few at n [] few = refl
lowest-few at n (true ∷ flags) few =
    let more = counted-true flags in
    rw (begins-few n (true ∷ flags) few) (lowest-few (at + 1) n flags (omega (arith, few, more)))
lowest-few at n (false ∷ flags) few =
    let same = counted-false flags in
    rw (begins-few n (false ∷ flags) few) (lowest-few (at + 1) n flags (omega (arith, few, same)))

-- and a request for none, or for more, is placed at the memory's next pages
pub placed-few : (memory : List ℕ) (free : List Bool) (n : ℕ) → (n ≡ 0) ⊎ (free_among free < n) → place_among memory free n ≡ pages_of memory
placed-few memory free n (inl none) = placed-none memory free n none
placed-few memory free n (inr few) =
    let found = lowest-few 0 n free few in
    placed-some memory free n (λ none. omega (arith, few, none)) ∙ rw found refl
