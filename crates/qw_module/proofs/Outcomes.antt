-- What memory answers, as one case for each answer.
use Rattle.std.proofs.Common.{◌≡◌, ℕ, ◌+◌, ◌<◌, ◌≤◌, ◌==◌, nat_le, Bool, true, false, ◌&&◌, ◌||◌, inl, inr, List, length, Some, None, subst, ⊎_elim}
use Rattle.std.proofs.lemmas.Bool.{leb-true, leb-false, le-leb, and_parts, and_from, or_left, or_right, or_cases, eqb-true, eq-eqb, cases_Bool}
use Rattle.std.proofs.lemmas.Option.{same_Some, none-some}
use Rattle.qw_linear.specs.Memory.{most_pages, number_at, with_number, grown_by, cleared, pages_of}
use Rattle.qw_module.specs.declared.trap.Trap.{Trap}
use Rattle.qw_module.specs.declared.trap.Trap.TheVariants.{OutOfBounds}
use Rattle.qw_module.specs.Execution.{State, Raised, Trapped, Silent, Loads, Stores, Grows, AsksHost, Raises, Traps, refusal, IsPlaceIn}
use Rattle.qw_module.specs.Step.{Want, Stuck, Goes, Asks, Puts, Measures, AsksPages, AsksPlace, Signals, Fails, Next, can_place, answered}

-- the test of a place
pub placed-true : (first pages : ℕ) (m : List ℕ) → can_place first pages m ≡ true → IsPlaceIn m first pages
placed-true first pages m can =
    let parts = and_parts (nat_le (first + pages) most_pages) ((first == pages_of m) || nat_le (first + pages) (pages_of m)) can in (
      leb-true (first + pages) most_pages parts.0,
      ⊎_elim (λ next. inl (eqb-true first (pages_of m) next)) (λ there. inr (leb-true (first + pages) (pages_of m) there))
          (or_cases (first == pages_of m) (nat_le (first + pages) (pages_of m)) parts.1),
    )

pub place-can : (first pages : ℕ) (m : List ℕ) → IsPlaceIn m first pages → can_place first pages m ≡ true
place-can first pages m (few, inl next) = and_from _ _ (le-leb (first + pages) most_pages few) (or_left _ _ (eq-eqb first (pages_of m) next))
place-can first pages m (few, inr there) = and_from _ _ (le-leb (first + pages) most_pages few) (or_right _ _ (le-leb (first + pages) (pages_of m) there))

pub data Outcome : (ℕ → Bool) → (ℕ → ℕ) → List ℕ → Want → Next → Type 0 where
  went : (grants : ℕ → Bool) (place : ℕ → ℕ) (m : List ℕ) (s : State) → Outcome grants place m (Goes s) (record { event = Silent; state = s; memory = m })
  read : (grants : ℕ → Bool) (place : ℕ → ℕ) (m : List ℕ) (address width : ℕ) (make : ℕ → State) → address + width ≤ length m →
      Outcome grants place m (Asks address width make) (record { event = Loads address width; state = make (number_at m address width); memory = m })
  read_outside : (grants : ℕ → Bool) (place : ℕ → ℕ) (m : List ℕ) (address width : ℕ) (make : ℕ → State) → length m < address + width →
      Outcome grants place m (Asks address width make) (record { event = Traps OutOfBounds; state = Trapped OutOfBounds; memory = m })
  put : (grants : ℕ → Bool) (place : ℕ → ℕ) (m : List ℕ) (address width value : ℕ) (s : State) → address + width ≤ length m →
      Outcome grants place m (Puts address width value s) (record { event = Stores address width; state = s; memory = with_number m address width value })
  put_outside : (grants : ℕ → Bool) (place : ℕ → ℕ) (m : List ℕ) (address width value : ℕ) (s : State) → length m < address + width →
      Outcome grants place m (Puts address width value s) (record { event = Traps OutOfBounds; state = Trapped OutOfBounds; memory = m })
  measured : (grants : ℕ → Bool) (place : ℕ → ℕ) (m : List ℕ) (make : ℕ → State) →
      Outcome grants place m (Measures make) (record { event = Silent; state = make (pages_of m); memory = m })
  was_granted : (grants : ℕ → Bool) (place : ℕ → ℕ) (m : List ℕ) (pages : ℕ) (make : ℕ → State) → grants pages ≡ true → pages_of m + pages ≤ most_pages →
      Outcome grants place m (AsksPages pages make) (record { event = Grows pages true; state = make (pages_of m); memory = grown_by pages m })
  was_refused : (grants : ℕ → Bool) (place : ℕ → ℕ) (m : List ℕ) (pages : ℕ) (make : ℕ → State) → (grants pages && nat_le (pages_of m + pages) most_pages) ≡ false →
      Outcome grants place m (AsksPages pages make) (record { event = Grows pages false; state = make refusal; memory = m })
  host_granted : (grants : ℕ → Bool) (place : ℕ → ℕ) (m : List ℕ) (pages : ℕ) (make : ℕ → State) → grants pages ≡ true → IsPlaceIn m (place pages) pages →
      Outcome grants place m (AsksPlace pages make) (record { event = AsksHost pages (Some (place pages)); state = make (place pages); memory = cleared (place pages) pages m })
  host_refused : (grants : ℕ → Bool) (place : ℕ → ℕ) (m : List ℕ) (pages : ℕ) (make : ℕ → State) → (grants pages && can_place (place pages) pages m) ≡ false →
      Outcome grants place m (AsksPlace pages make) (record { event = AsksHost pages None; state = make refusal; memory = m })
  raised : (grants : ℕ → Bool) (place : ℕ → ℕ) (m : List ℕ) (code : ℕ) → Outcome grants place m (Signals code) (record { event = Raises code; state = Raised code; memory = m })
  failed : (grants : ℕ → Bool) (place : ℕ → ℕ) (m : List ℕ) (why : Trap) → Outcome grants place m (Fails why) (record { event = Traps why; state = Trapped why; memory = m })

is : (grants : ℕ → Bool) (place : ℕ → ℕ) (m : List ℕ) (want : Want) (made n : Next) → Outcome grants place m want made → Some made ≡ Some n → Outcome grants place m want n
is grants place m want made n outcome e = subst (λ (x : Next). Outcome grants place m want x) (same_Some made n e) outcome

pub outcome : (grants : ℕ → Bool) (place : ℕ → ℕ) (m : List ℕ) (want : Want) (n : Next) → answered grants place m want ≡ Some n → Outcome grants place m want n
outcome grants place m Stuck n e = absurd (none-some n e)
outcome grants place m (Goes s) n e = is grants place m (Goes s) _ n (went grants place m s) e
outcome grants place m (Asks address width make) n e = ⊎_elim
    (λ inside. is grants place m (Asks address width make) _ n (read grants place m address width make (leb-true (address + width) (length m) inside)) (rw inside at e))
    (λ outside. is grants place m (Asks address width make) _ n (read_outside grants place m address width make (leb-false (address + width) (length m) outside)) (rw outside at e))
    (cases_Bool (nat_le (address + width) (length m)))
outcome grants place m (Puts address width value s) n e = ⊎_elim
    (λ inside. is grants place m (Puts address width value s) _ n (put grants place m address width value s (leb-true (address + width) (length m) inside)) (rw inside at e))
    (λ outside. is grants place m (Puts address width value s) _ n (put_outside grants place m address width value s (leb-false (address + width) (length m) outside)) (rw outside at e))
    (cases_Bool (nat_le (address + width) (length m)))
outcome grants place m (Measures make) n e = is grants place m (Measures make) _ n (measured grants place m make) e
outcome grants place m (AsksPages pages make) n e = ⊎_elim
    (λ both.
    let parts = and_parts (grants pages) (nat_le (pages_of m + pages) most_pages) both in
    is grants place m (AsksPages pages make) _ n (was_granted grants place m pages make parts.0 (leb-true (pages_of m + pages) most_pages parts.1)) (rw both at e))
    (λ not_both. is grants place m (AsksPages pages make) _ n (was_refused grants place m pages make not_both) (rw not_both at e))
    (cases_Bool (grants pages && nat_le (pages_of m + pages) most_pages))
outcome grants place m (AsksPlace pages make) n e = ⊎_elim
    (λ both.
    let parts = and_parts (grants pages) (can_place (place pages) pages m) both in
    is grants place m (AsksPlace pages make) _ n (host_granted grants place m pages make parts.0 (placed-true (place pages) pages m parts.1)) (rw both at e))
    (λ not_both. is grants place m (AsksPlace pages make) _ n (host_refused grants place m pages make not_both) (rw not_both at e))
    (cases_Bool (grants pages && can_place (place pages) pages m))
outcome grants place m (Signals code) n e = is grants place m (Signals code) _ n (raised grants place m code) e
outcome grants place m (Fails why) n e = is grants place m (Fails why) _ n (failed grants place m why) e
