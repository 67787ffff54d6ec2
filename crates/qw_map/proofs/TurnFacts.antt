-- What every list of acts keeps, by one step at a time.
use Rattle.std.proofs.Common.{◌≡◌, ◌≢◌, ℕ, zero, suc, ◌<◌, false, List, [], ◌∷◌, length, Option, Some, None, slice_get, slice_set, is_some, Bool, true, refl, sym, ap, ◌∙◌, subst, ⊎_elim, arith}
use Rattle.std.proofs.lemmas.Bool.{cases_Bool, cases_eq, false≢true}
use Rattle.std.proofs.lemmas.List.{set-set}
use Rattle.std.proofs.lemmas.Option.{same_Some, none-some, slice_get_within}
use Rattle.qw_module.specs.Execution.{Config, State, Running, Returned, Raised, Trapped}
use Rattle.qw_module.specs.Step.{Next, next}
use Rattle.qw_map.specs.Areas.{grants}
use Rattle.qw_map.specs.Turns.{Instance, Common, Shared, End, Done, Exception, Pages, Steps, Trap, moved_by, common_after, placing, after_next, stepped_from, stepped, steps_of, with_instance, turn_at, given, may_release, release_at, Act, turn, release, acted, turns}

-- ---- an element that was put
pub slice_get-set_same : {A : Type 0} (xs : List A) (k : ℕ) (x : A) → k < length xs → slice_get (slice_set xs k x) k ≡ Some x
slice_get-set_same [] k x inside = absurd (omega arith)
slice_get-set_same (y ∷ xs) zero x inside = refl
slice_get-set_same (y ∷ xs) (suc k) x inside = slice_get-set_same xs k x (omega arith)

pub slice_get-set_other : {A : Type 0} (xs : List A) (j k : ℕ) (x : A) → k ≢ j → slice_get (slice_set xs j x) k ≡ slice_get xs k
slice_get-set_other [] j k x other = refl
slice_get-set_other (y ∷ xs) zero zero x other = absurd (other refl)
slice_get-set_other (y ∷ xs) zero (suc k) x other = refl
slice_get-set_other (y ∷ xs) (suc j) zero x other = refl
slice_get-set_other (y ∷ xs) (suc j) (suc k) x other = slice_get-set_other xs j k x (λ e. other (ap suc e))

slice_set-unchanged : {A : Type 0} (xs : List A) (k : ℕ) (x : A) → slice_get xs k ≡ Some x → slice_set xs k x ≡ xs
slice_set-unchanged [] k x found = absurd (none-some x found)
slice_set-unchanged (y ∷ xs) zero x found = ap (λ z. z ∷ xs) (sym (same_Some y x found))
slice_set-unchanged (y ∷ xs) (suc k) x found = ap (λ zs. y ∷ zs) (slice_set-unchanged xs k x found)

-- an element that is there
pub found-in : {A : Type 0} (xs : List A) (k : ℕ) → k < length xs → (x : A) × (slice_get xs k ≡ Some x)
found-in [] k inside = absurd (omega arith)
found-in (x ∷ xs) zero inside = (x, refl)
found-in (x ∷ xs) (suc k) inside = found-in xs k (omega arith)

-- ---- one instance of several
pub unchanged : (s : Shared) (j : ℕ) (i : Instance) → slice_get s.instances j ≡ Some i → with_instance s j (i, s.common) ≡ s
unchanged s j i found = ap (λ (instances : List Instance). record { common = s.common; instances = instances }) (slice_set-unchanged s.instances j i found)

pub changed_twice : (s : Shared) (j : ℕ) (one other : Instance × Common) → with_instance (with_instance s j one) j other ≡ with_instance s j other
changed_twice s j one other = ap (λ (instances : List Instance). record { common = other.1; instances = instances }) (set-set s.instances j one.0 other.0)

-- what holds of the instance that was put, and of the others, holds of each
pub each-put : (P : ℕ → Instance → Type 0) (s : Shared) (j : ℕ) (one : Instance) (new : Instance × Common) → slice_get s.instances j ≡ Some one →
    P j new.0 → ((k : ℕ) (i : Instance) → k ≢ j → slice_get s.instances k ≡ Some i → P k i) →
    (k : ℕ) (i : Instance) → slice_get (with_instance s j new).instances k ≡ Some i → P k i
each-put P s j one new there here others k i found = ⊎_elim
    (λ same.
    let put_there : slice_get (slice_set s.instances j new.0) j ≡ Some new.0 =
    slice_get-set_same s.instances j new.0 (slice_get_within s.instances j one there) in
    let is : new.0 ≡ i = same_Some new.0 i (sym put_there ∙ rw same at found) in
    rw same (subst (P j) is here))
    (λ elsewhere. others k i elsewhere (sym (slice_get-set_other s.instances j k new.0 elsewhere) ∙ found))
    (cases_eq k j)

-- the shared state after a step of one instance
abbrev pub after_step : Shared → ℕ → Instance → Next → Shared
after_step s j i t = with_instance s j (moved_by i s.common t, common_after i s.common t)

pub each-step : (P : ℕ → Instance → Type 0) (s : Shared) (j : ℕ) (one : Instance) (t : Next) → slice_get s.instances j ≡ Some one →
    P j (moved_by one s.common t) →
    ((k : ℕ) (i : Instance) → k ≢ j → slice_get s.instances k ≡ Some i → P k i) →
    (k : ℕ) (i : Instance) → slice_get (after_step s j one t).instances k ≡ Some i → P k i
each-step P s j one t there new others = each-put P s j one (moved_by one s.common t, common_after one s.common t) there new others

-- P stays at each step that an instance makes which has not ended
abbrev pub StaysAtSteps : (Shared → Type 0) → Type 0
StaysAtSteps P = (s : Shared) (j : ℕ) (i : Instance) (c : Config) (t : Next) → slice_get s.instances j ≡ Some i → is_some i.end ≡ false →
    i.state ≡ Running c → next (grants i.world) (placing s.common) c s.common.memory ≡ Some t → P s → P (after_step s j i t)

-- and where one that is done is released
abbrev pub StaysAtReleases : (Shared → Type 0) → Type 0
StaysAtReleases P = (s : Shared) (j : ℕ) (i : Instance) → slice_get s.instances j ≡ Some i → i.end ≡ Some Done → i.released ≡ false → P s →
    P (with_instance s j (given i s.common))

releases-done : (end : Option End) (released : Bool) → may_release end released ≡ true → (end ≡ Some Done) × (released ≡ false)
releases-done None released may = absurd (false≢true may)
releases-done (Some Done) true may = absurd (false≢true may)
releases-done (Some Done) false may = (refl, refl)
releases-done (Some (Exception code)) released may = absurd (false≢true may)
releases-done (Some (Pages held asked limit)) released may = absurd (false≢true may)
releases-done (Some (Steps limit)) released may = absurd (false≢true may)
releases-done (Some Trap) released may = absurd (false≢true may)

module _ (P : Shared → Type 0) (kept : StaysAtSteps P) (kept_released : StaysAtReleases P) where
  after_next-keeps : (s : Shared) (j : ℕ) (i : Instance) (c : Config) (made : Option Next) → slice_get s.instances j ≡ Some i → is_some i.end ≡ false →
      i.state ≡ Running c → next (grants i.world) (placing s.common) c s.common.memory ≡ made → P s → P (with_instance s j (after_next i s.common made))
  after_next-keeps s j i c None found unended running made h = subst P (sym (unchanged s j i found)) h
  after_next-keeps s j i c (Some t) found unended running made h = kept s j i c t found unended running made h

  stepped-keeps : (s : Shared) (j : ℕ) (i : Instance) (state : State) → slice_get s.instances j ≡ Some i → is_some i.end ≡ false →
      i.state ≡ state → P s → P (with_instance s j (stepped_from state i s.common))
  stepped-keeps s j i (Running c) found unended is h = after_next-keeps s j i c (next (grants i.world) (placing s.common) c s.common.memory) found unended is refl h
  stepped-keeps s j i Returned found unended is h = subst P (sym (unchanged s j i found)) h
  stepped-keeps s j i (Raised code) found unended is h = subst P (sym (unchanged s j i found)) h
  stepped-keeps s j i (Trapped why) found unended is h = subst P (sym (unchanged s j i found)) h

  pub steps_of-keeps : (quantum : ℕ) (s : Shared) (j : ℕ) (i : Instance) → slice_get s.instances j ≡ Some i → P s →
      P (with_instance s j (steps_of quantum i s.common))
  steps_of-keeps zero s j i found h = subst P (sym (unchanged s j i found)) h
  steps_of-keeps (suc q) s j i found h = ⊎_elim
      (λ ended. rw ended (subst P (sym (unchanged s j i found)) h))
      (λ unended.
      let one : Instance × Common = stepped i s.common in
      let after : Shared = with_instance s j one in
      let there : slice_get after.instances j ≡ Some one.0 = slice_get-set_same s.instances j one.0 (slice_get_within s.instances j i found) in
      let here : P after = stepped-keeps s j i i.state found unended refl h in
      rw unended (subst P (changed_twice s j one (steps_of q one.0 one.1)) (steps_of-keeps q after j one.0 there here)))
      (cases_Bool (is_some i.end))

  turn_at-keeps : (s : Shared) (j quantum : ℕ) (found : Option Instance) → slice_get s.instances j ≡ found → P s → P (turn_at s j quantum found)
  turn_at-keeps s j quantum None found h = h
  turn_at-keeps s j quantum (Some i) found h = steps_of-keeps quantum s j i found h

  release_at-keeps : (s : Shared) (j : ℕ) (found : Option Instance) → slice_get s.instances j ≡ found → P s → P (release_at s j found)
  release_at-keeps s j None found h = h
  release_at-keeps s j (Some i) found h = ⊎_elim
      (λ may. let done = releases-done i.end i.released may in rw may (kept_released s j i found done.0 done.1 h))
      (λ may_not. rw may_not h)
      (cases_Bool (may_release i.end i.released))

  pub acted-keeps : (s : Shared) (act : Act) → P s → P (acted s act)
  acted-keeps s (turn j quantum) h = turn_at-keeps s j quantum (slice_get s.instances j) refl h
  acted-keeps s (release j) h = release_at-keeps s j (slice_get s.instances j) refl h

  pub turns-keep : (acts : List Act) (s : Shared) → P s → P (turns acts s)
  turns-keep [] s h = h
  turns-keep (act ∷ acts) s h = turns-keep acts (acted s act) (acted-keeps s act h)
