-- Areas of a memory: which are apart, and which a step leaves as they were.
use Rattle.std.proofs.Common.{◌≡◌, ℕ, zero, suc, ◌+◌, ◌*◌, ◌<◌, ◌≤◌, ⊎_elim, Bool, true, false, List, [], ◌∷◌, ◌++◌, length, inl, inr, refl, sym, ◌∙◌, arith}
use Rattle.std.specs.Prelude.{slice_index}
use Rattle.std.specs.List.{AllByRecursion}
use Rattle.qw_linear.specs.Memory.{page, with_number, grown_by, cleared}
use Rattle.qw_linear.proofs.ClearedFacts.{cleared-before, cleared-behind}
use Rattle.std.proofs.lemmas.Bool.{cases_Bool, cases_lt, false≢true}
use Rattle.qw_module.specs.Execution.{IsPlaceIn}
use Rattle.qw_linear.proofs.GrowthFacts.{grown_by-below}
use Rattle.qw_module.specs.Step.{Want, Next}
use Rattle.qw_map.proofs.AccessLemmas.{lies-first, lies-after, lies-apart, with_number-outside}
use Rattle.qw_map.specs.Areas.{Area, World, SameIn, lies_in_one, are_covered, IsFine, granted_area, LiesBeside, world_after}
use Rattle.qw_map.specs.Turns.{AreApart, AllApart, LiesWithin}
use Rattle.qw_module.proofs.Outcomes.{Outcome, went, read, read_outside, put, put_outside, measured, was_granted, was_refused, host_granted, host_refused, raised, failed}

-- ---- what holds of each element
module _ {A : Type 0} (P : A → Type 0) where
  pub all-append : (xs ys : List A) → AllByRecursion P xs → AllByRecursion P ys → AllByRecursion P (xs ++ ys)
  all-append [] ys first second = second
  all-append (x ∷ xs) ys first second = (first.0, all-append xs ys first.1 second)

  pub all-front : (xs ys : List A) → AllByRecursion P (xs ++ ys) → AllByRecursion P xs
  all-front [] ys each = tt
  all-front (x ∷ xs) ys each = (each.0, all-front xs ys each.1)

  pub all-back : (xs ys : List A) → AllByRecursion P (xs ++ ys) → AllByRecursion P ys
  all-back [] ys each = each
  all-back (x ∷ xs) ys each = all-back xs ys each.1

  pub all-weaker : (Q : A → Type 0) → ((x : A) → P x → Q x) → (xs : List A) → AllByRecursion P xs → AllByRecursion Q xs
  all-weaker Q weaker [] each = tt
  all-weaker Q weaker (x ∷ xs) each = (weaker x each.0, all-weaker Q weaker xs each.1)

-- ---- areas that a step leaves alone
pub all-same : (m : List ℕ) (areas : List Area) → AllByRecursion (SameIn m m) areas
all-same m [] = tt
all-same m (area ∷ areas) = (λ k within. refl, all-same m areas)

-- what is the same from one memory to another, and from there to a third
pub all-then : (a b c : List ℕ) (areas : List Area) → AllByRecursion (SameIn a b) areas → AllByRecursion (SameIn b c) areas → AllByRecursion (SameIn a c) areas
all-then a b c [] one two = tt
all-then a b c (area ∷ areas) (one, ones) (two, twos) = (λ k within. two k within ∙ one k within, all-then a b c areas ones twos)

-- a number put in own areas leaves those apart from them
first-apart : (own : List Area) (area : Area) (areas : List Area) → AllApart own (area ∷ areas) → AllByRecursion (λ a. AreApart a area) own
first-apart own area areas = all-weaker (λ a. AllByRecursion (AreApart a) (area ∷ areas)) (λ a. AreApart a area) (λ a h. h.0) own

rest-apart : (own : List Area) (area : Area) (areas : List Area) → AllApart own (area ∷ areas) → AllApart own areas
rest-apart own area areas = all-weaker (λ a. AllByRecursion (AreApart a) (area ∷ areas)) (λ a. AllByRecursion (AreApart a) areas) (λ a h. h.1) own

stored-apart : (m : List ℕ) (address width value : ℕ) (own areas : List Area) → are_covered own address width ≡ true → AllApart own areas →
    AllByRecursion (SameIn m (with_number m address width value)) areas
stored-apart m address width value own [] covered apart = tt
stored-apart m address width value own (area ∷ areas) covered apart = (
  (λ k within. with_number-outside m own address width value covered (area.start + k)
      (lies-apart own area (first-apart own area areas apart) (area.start + k) (omega arith) (omega arith))),
  stored-apart m address width value own areas covered (rest-apart own area areas apart),
)

-- a growth leaves those that lie in the memory before it
pub SameIn-grown_by : (pages : ℕ) (m : List ℕ) (area : Area) → LiesWithin (length m) area → SameIn m (grown_by pages m) area
SameIn-grown_by pages m area inside k within = grown_by-below pages m (area.start + k) (omega arith)

-- and pages that are cleared leave those beside them
cleared-kept : (first pages : ℕ) (m : List ℕ) (area : Area) → first * page ≤ length m → LiesBeside first pages area → SameIn m (cleared first pages m) area
cleared-kept first pages m area there (inl before) k h = cleared-before first pages m there (area.start + k) (omega (arith, before, h))
cleared-kept first pages m area there (inr behind) k h = cleared-behind first pages m there (area.start + k) (omega (arith, behind))

cleared-none : (first : ℕ) (m : List ℕ) (k : ℕ) → first * page ≤ length m → slice_index (cleared first 0 m) k ≡ slice_index m k
cleared-none first m k there = ⊎_elim
    (λ before. cleared-before first 0 m there k before)
    (λ behind. cleared-behind first 0 m there k (omega (arith, behind)))
    (cases_lt k (first * page))

granted-kept : (pages first : ℕ) (m : List ℕ) (areas : List Area) → first * page ≤ length m → AllApart (granted_area (first * page) pages) areas →
    AllByRecursion (SameIn m (cleared first pages m)) areas
granted-kept zero first m [] there apart = tt
granted-kept zero first m (area ∷ areas) there apart = (λ k h. cleared-none first m (area.start + k) there, granted-kept zero first m areas there tt)
granted-kept (suc n) first m areas there apart = all-weaker (AreApart (record { start = first * page; size = suc n * page })) (SameIn m (cleared first (suc n) m))
    (λ area h. cleared-kept first (suc n) m area there (⊎_elim (λ before. inr (omega (arith, before))) (λ behind. inl behind) h)) areas apart.0

granted-octet : (pages first : ℕ) (m : List ℕ) (address : ℕ) → first * page ≤ length m → lies_in_one (granted_area (first * page) pages) address ≡ false →
    slice_index (cleared first pages m) address ≡ slice_index m address
granted-octet zero first m address there out = cleared-none first m address there
granted-octet (suc n) first m address there out = ⊎_elim
    (λ before. cleared-before first (suc n) m there address before)
    (λ low. ⊎_elim
    (λ inside. absurd (false≢true (sym out ∙ lies-first (record { start = first * page; size = suc n * page }) [] address low (omega (arith, inside)))))
    (λ behind. cleared-behind first (suc n) m there address behind)
    (cases_lt address ((first + suc n) * page)))
    (cases_lt address (first * page))

-- a place that can be given begins in the memory, or at its end
place-inside : (first pages : ℕ) (m : List ℕ) → IsPlaceIn m first pages → first * page ≤ length m
place-inside first pages m (few, inl next) = omega (arith, next)
place-inside first pages m (few, inr there) = omega (arith, there)

-- So areas in the memory that are apart from the own ones of an instance, and from those that it is granted, are kept by its fine steps.
pub outcome-kept : (w : World) (g : ℕ → Bool) (place : ℕ → ℕ) (m : List ℕ) (want : Want) (t : Next) → Outcome g place m want t → IsFine w t.event →
    (areas : List Area) → AllApart (world_after w m t.event).own areas → AllByRecursion (LiesWithin (length m)) areas → AllByRecursion (SameIn m t.memory) areas
outcome-kept w _ _ _ _ _ (went g place m s) fine areas apart inside = all-same m areas
outcome-kept w _ _ _ _ _ (read g place m address width make room) fine areas apart inside = all-same m areas
outcome-kept w _ _ _ _ _ (read_outside g place m address width make outside) fine areas apart inside = all-same m areas
outcome-kept w _ _ _ _ _ (put g place m address width value s room) fine areas apart inside = stored-apart m address width value w.own areas fine apart
outcome-kept w _ _ _ _ _ (put_outside g place m address width value s outside) fine areas apart inside = all-same m areas
outcome-kept w _ _ _ _ _ (measured g place m make) fine areas apart inside = all-same m areas
outcome-kept w _ _ _ _ _ (was_granted g place m pages make is room) fine areas apart inside =
    all-weaker (LiesWithin (length m)) (SameIn m (grown_by pages m)) (SameIn-grown_by pages m) areas inside
outcome-kept w _ _ _ _ _ (was_refused g place m pages make is) fine areas apart inside = all-same m areas
outcome-kept w _ _ _ _ _ (host_granted g place m pages make is there) fine areas apart inside =
    granted-kept pages (place pages) m areas (place-inside (place pages) pages m there)
    (all-back (λ area. AllByRecursion (AreApart area) areas) w.own (granted_area (place pages * page) pages) apart)
outcome-kept w _ _ _ _ _ (host_refused g place m pages make is) fine areas apart inside = all-same m areas
outcome-kept w _ _ _ _ _ (raised g place m code) fine areas apart inside = all-same m areas
outcome-kept w _ _ _ _ _ (failed g place m why) fine areas apart inside = all-same m areas

-- and so is an octet of the memory that lies in none
lies-in-back : (areas more : List Area) (address : ℕ) → lies_in_one (areas ++ more) address ≡ false → lies_in_one more address ≡ false
lies-in-back areas more address out = ⊎_elim
    (λ inside. absurd (false≢true (sym out ∙ lies-after areas more address inside)))
    (λ outside. outside)
    (cases_Bool (lies_in_one more address))

pub outcome-octet : (w : World) (g : ℕ → Bool) (place : ℕ → ℕ) (m : List ℕ) (want : Want) (t : Next) → Outcome g place m want t → IsFine w t.event →
    (address : ℕ) → address < length m → lies_in_one (world_after w m t.event).own address ≡ false → slice_index t.memory address ≡ slice_index m address
outcome-octet w _ _ _ _ _ (went g place m s) fine address within out = refl
outcome-octet w _ _ _ _ _ (read g place m at width make room) fine address within out = refl
outcome-octet w _ _ _ _ _ (read_outside g place m at width make outside) fine address within out = refl
outcome-octet w _ _ _ _ _ (put g place m at width value s room) fine address within out = with_number-outside m w.own at width value fine address out
outcome-octet w _ _ _ _ _ (put_outside g place m at width value s outside) fine address within out = refl
outcome-octet w _ _ _ _ _ (measured g place m make) fine address within out = refl
outcome-octet w _ _ _ _ _ (was_granted g place m pages make is room) fine address within out = grown_by-below pages m address within
outcome-octet w _ _ _ _ _ (was_refused g place m pages make is) fine address within out = refl
outcome-octet w _ _ _ _ _ (host_granted g place m pages make is there) fine address within out =
    granted-octet pages (place pages) m address (place-inside (place pages) pages m there) (lies-in-back w.own (granted_area (place pages * page) pages) address out)
outcome-octet w _ _ _ _ _ (host_refused g place m pages make is) fine address within out = refl
outcome-octet w _ _ _ _ _ (raised g place m code) fine address within out = refl
outcome-octet w _ _ _ _ _ (failed g place m why) fine address within out = refl
