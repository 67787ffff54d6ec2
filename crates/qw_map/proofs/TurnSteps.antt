-- How many steps turns take, and what stays where an instance has ended.
use Rattle.std.proofs.Common.{◌≡◌, ◌≢◌, ℕ, zero, suc, ◌+◌, ◌<◌, ◌≤◌, nat_le, Bool, true, false, ◌==◌, ◌||◌, List, length, Option, Some, None, slice_get, is_some, IsSome, ◌⊎◌, inl, inr, refl, sym, ap, ◌∙◌, ⊎_elim, arith, length-set}
use Rattle.std.proofs.lemmas.Bool.{cases_Bool, cases_eq, leb-false, false≢true}
use Rattle.std.proofs.lemmas.Option.{same_Some, slice_get_within}
use Rattle.qw_module.specs.Execution.{Config, State, Running, Returned, Raised, Trapped}
use Rattle.qw_linear.specs.Memory.{AreOctets, most_pages, pages_of}
use Rattle.qw_module.specs.Step.{Next, next}
use Rattle.qw_map.specs.Areas.{World, grants, world_after}
use Rattle.qw_module.specs.Soundness.{IsTyped, IsTypedState}
use Rattle.qw_map.specs.Turns.{Instance, Common, Shared, end_of_refusal, end_of_raise, end_at, moved, moved_by, common_after, placing, given, after_next, stepped_from, stepped, steps_of, with_instance, turn_at, Act, turn, acted, turns, EachInstance, IsWhole}
use Rattle.qw_module.proofs.Sound.{progress, preservation, octets_stay, pages_stay}
use Rattle.qw_map.proofs.TurnFacts.{slice_get-set_same, slice_get-set_other, changed_twice, each-put, each-step, turns-keep}

-- ---- an instance that has ended
ended : (i : Instance) → IsSome i.end → is_some i.end ≡ false → ⊥
ended i some unended = false≢true (sym unended ∙ some)

pub steps_of-ended : (quantum : ℕ) (i : Instance) (common : Common) → IsSome i.end → steps_of quantum i common ≡ (i, common)
steps_of-ended zero i common some = refl
steps_of-ended (suc q) i common some = rw some refl

-- what is put for an instance leaves those of other numbers
other_stays : (s : Shared) (j k : ℕ) (one : Instance × Common) (i : Instance) → k ≢ j → slice_get s.instances k ≡ Some i →
    slice_get (with_instance s j one).instances k ≡ Some i
other_stays s j k one i other found = slice_get-set_other s.instances j k one.0 other ∙ found

-- it stays as it is, but that it may be released
pub ended_stays : (s : Shared) (acts : List Act) (k : ℕ) (i : Instance) → slice_get s.instances k ≡ Some i → IsSome i.end →
    (released : Bool) × (slice_get (turns acts s).instances k ≡ Some (record i { released = released }))
ended_stays s acts k i found some = turns-keep (λ (now : Shared). (released : Bool) × (slice_get now.instances k ≡ Some (record i { released = released })))
    (λ now j one c t there unended running made h. (
      h.0,
      other_stays now j k (moved_by one now.common t, common_after one now.common t) (record i { released = h.0 })
          (λ e. ended i some (rw (same_Some one (record i { released = h.0 }) (sym there ∙ rw e at h.1)) at unended)) h.1,
    ))
    (λ now j one there done unreleased h. ⊎_elim
    (λ here.
    let is : one ≡ record i { released = h.0 } = same_Some one (record i { released = h.0 }) (sym there ∙ rw here at h.1) in (
      true,
      rw here (slice_get-set_same now.instances j (record one { released = true }) (slice_get_within now.instances j one there)
          ∙ ap (λ (x : Instance). Some (record x { released = true })) is),
    ))
    (λ elsewhere. (h.0, other_stays now j k (given one now.common) (record i { released = h.0 }) elsewhere h.1))
    (cases_eq k j))
    acts s (i.released, found)

-- ---- turns of one instance
pub turn-others : (s : Shared) (j k quantum : ℕ) → k ≢ j → slice_get (acted s (turn j quantum)).instances k ≡ slice_get s.instances k
turn-others s j k quantum other = at_found (slice_get s.instances j)
  where
    at_found : (found : Option Instance) → slice_get (turn_at s j quantum found).instances k ≡ slice_get s.instances k
    at_found None = refl
    at_found (Some i) = slice_get-set_other s.instances j k (steps_of quantum i s.common).0 other

pub turns-many : (s : Shared) (acts : List Act) → length (turns acts s).instances ≡ length s.instances
turns-many s acts = turns-keep (λ (now : Shared). length now.instances ≡ length s.instances)
    (λ now j one c t there unended running made h. length-set now.instances j (moved_by one now.common t) ∙ h)
    (λ now j one there done unreleased h. length-set now.instances j (record one { released = true }) ∙ h)
    acts s refl

pub steps_of-added : (a b : ℕ) (i : Instance) (common : Common) → steps_of (a + b) i common ≡ steps_of b (steps_of a i common).0 (steps_of a i common).1
steps_of-added zero b i common = let same : 0 + b ≡ b = omega arith in rw same refl
steps_of-added (suc a) b i common =
    let same : suc a + b ≡ suc (a + b) = omega arith in
    rw same (⊎_elim
    (λ some. rw some (sym (steps_of-ended b i common some)))
    (λ unended. rw unended (steps_of-added a b (stepped i common).0 (stepped i common).1))
    (cases_Bool (is_some i.end)))

turn-there : (s : Shared) (j quantum : ℕ) (i : Instance) → slice_get s.instances j ≡ Some i → acted s (turn j quantum) ≡ with_instance s j (steps_of quantum i s.common)
turn-there s j quantum i found = rw found refl

turn-absent : (s : Shared) (j quantum : ℕ) → slice_get s.instances j ≡ None → acted s (turn j quantum) ≡ s
turn-absent s j quantum found = rw found refl

pub turn-added : (s : Shared) (j a b : ℕ) → acted s (turn j (a + b)) ≡ acted (acted s (turn j a)) (turn j b)
turn-added s j a b = at_found (slice_get s.instances j) refl
  where
    at_found : (found : Option Instance) → slice_get s.instances j ≡ found → acted s (turn j (a + b)) ≡ acted (acted s (turn j a)) (turn j b)
    at_found None found = rw (turn-absent s j a found) (turn-absent s j (a + b) found ∙ sym (turn-absent s j b found))
    at_found (Some i) found =
        let first : Instance × Common = steps_of a i s.common in
        let after : Shared = with_instance s j first in
        let there : slice_get after.instances j ≡ Some first.0 = slice_get-set_same s.instances j first.0 (slice_get_within s.instances j i found) in
        turn-there s j (a + b) i found
        ∙ ap (with_instance s j) (steps_of-added a b i s.common)
        ∙ sym (changed_twice s j first (steps_of b first.0 first.1))
        ∙ sym (turn-there after j b first.0 there)
        ∙ ap (λ (x : Shared). acted x (turn j b)) (sym (turn-there s j a i found))

-- ---- how many steps
next-ran : (i : Instance) (common : Common) (made : Option Next) → (i.ran ≤ (after_next i common made).0.ran) × ((after_next i common made).0.ran ≤ i.ran + 1)
next-ran i common None = (omega arith, omega arith)
next-ran i common (Some t) = (omega arith, omega arith)

stepped-ran : (i : Instance) (common : Common) (state : State) → (i.ran ≤ (stepped_from state i common).0.ran) × ((stepped_from state i common).0.ran ≤ i.ran + 1)
stepped-ran i common (Running c) = next-ran i common (next (grants i.world) (placing common) c common.memory)
stepped-ran i common Returned = (omega arith, omega arith)
stepped-ran i common (Raised code) = (omega arith, omega arith)
stepped-ran i common (Trapped why) = (omega arith, omega arith)

pub steps_of-at_most : (quantum : ℕ) (i : Instance) (common : Common) → (i.ran ≤ (steps_of quantum i common).0.ran) × ((steps_of quantum i common).0.ran ≤ i.ran + quantum)
steps_of-at_most zero i common = (omega arith, omega arith)
steps_of-at_most (suc q) i common = ⊎_elim
    (λ some. rw some (omega arith, omega arith))
    (λ unended.
    let one : (i.ran ≤ (stepped i common).0.ran) × ((stepped i common).0.ran ≤ i.ran + 1) = stepped-ran i common i.state in
    let rest : ((stepped i common).0.ran ≤ (steps_of q (stepped i common).0 (stepped i common).1).0.ran) × ((steps_of q (stepped i common).0 (stepped i common).1).0.ran ≤ (stepped i common).0.ran + q) =
    steps_of-at_most q (stepped i common).0 (stepped i common).1 in
    rw unended (omega (arith, one.0, rest.0), omega (arith, one.1, rest.1)))
    (cases_Bool (is_some i.end))

-- ---- counts and ends go together
refusal-ends : (refused : Option ℕ) (w : World) → IsSome (end_of_refusal refused w)
refusal-ends None w = refl
refusal-ends (Some asked) w = refl

raise-ends : (code : ℕ) (w : World) → IsSome (end_of_raise code w)
raise-ends code w =
    ⊎_elim (λ is. rw is refl) (λ is_not. rw is_not (⊎_elim (λ is. rw is (refusal-ends w.refused w)) (λ other. rw other refl) (cases_Bool (code == 3))))
    (cases_Bool ((code == 1) || (code == 2)))

limit-ends : (c : Config) (w : World) (ran most : ℕ) → nat_le most ran ≡ true → IsSome (end_at (Running c) w ran most)
limit-ends c w ran most reached = rw reached refl

-- an instance that has not ended runs, and may run one more instruction
pub unended-runs : (i : Instance) → IsWhole i → is_some i.end ≡ false → (state : State) → i.state ≡ state → (c : Config) × (i.state ≡ Running c) × (i.ran < i.most_steps)
unended-runs i whole unended (Running c) is = (
  c,
  is,
  ⊎_elim
      (λ reached. absurd (let e = whole.end_is in false≢true (sym unended ∙ ap is_some (rw is at e) ∙ limit-ends c i.world i.ran i.most_steps reached)))
      (λ not_reached. leb-false i.most_steps i.ran not_reached)
      (cases_Bool (nat_le i.most_steps i.ran)),
)
unended-runs i whole unended Returned is = absurd (let e = whole.end_is in false≢true (sym unended ∙ ap is_some (rw is at e)))
unended-runs i whole unended (Raised code) is =
    absurd (let e = whole.end_is in false≢true (sym unended ∙ ap is_some (rw is at e) ∙ raise-ends code i.world))
unended-runs i whole unended (Trapped why) is = absurd (let e = whole.end_is in false≢true (sym unended ∙ ap is_some (rw is at e)))

moved-whole : (i : Instance) (w : World) (state : State) → i.ran < i.most_steps → IsWhole (moved i w state)
moved-whole i w state more = record { within = omega arith; end_is = refl }

pub turns-whole : (s : Shared) (acts : List Act) → EachInstance IsWhole s → EachInstance IsWhole (turns acts s)
turns-whole s acts = turns-keep (EachInstance IsWhole)
    (λ now j one c t there unended running made h. each-step (λ k i. IsWhole i) now j one t there
    (moved-whole one (world_after one.world now.common.memory t.event) t.state (unended-runs one (h j one there) unended one.state refl).2)
    (λ k i elsewhere found. h k i found))
    (λ now j one there done unreleased h. each-put (λ k i. IsWhole i) now j one (given one now.common) there
    (let whole = h j one there in record { within = whole.within; end_is = whole.end_is })
    (λ k i elsewhere found. h k i found))
    acts s

-- ---- an instance with a typed configuration goes on
-- its step is one that is made
stepped-typed : (i : Instance) (common : Common) (c : Config) → i.state ≡ Running c → IsTyped c → (t : Next) × (next (grants i.world) (placing common) c common.memory ≡ Some t)
    × (stepped i common ≡ (moved_by i common t, common_after i common t))
stepped-typed i common c is typed = made (next (grants i.world) (placing common) c common.memory) refl (progress (grants i.world) (placing common) c common.memory typed)
  where
    made : (found : Option Next) → next (grants i.world) (placing common) c common.memory ≡ found → IsSome found → (t : Next) × (next (grants i.world) (placing common) c common.memory ≡ Some t)
        × (stepped i common ≡ (moved_by i common t, common_after i common t))
    made None there some = absurd (false≢true some)
    made (Some t) there some = (t, there, rw (is, there) refl)

pub steps_of-all : (quantum : ℕ) (i : Instance) (common : Common) → IsWhole i → IsTypedState i.state → AreOctets common.memory →
    pages_of common.memory ≤ most_pages → ((steps_of quantum i common).0.ran ≡ i.ran + quantum) ⊎ IsSome (steps_of quantum i common).0.end
steps_of-all zero i common whole typed octets few = inl (omega arith)
steps_of-all (suc q) i common whole typed octets few = ⊎_elim
    (λ some. rw some (inr some))
    (λ unended.
    let runs = unended-runs i whole unended i.state refl in
    let here : IsTyped runs.0 = rw runs.1 at typed in
    let one = stepped-typed i common runs.0 runs.1 here in
    let after : Instance = moved i (world_after i.world common.memory one.0.event) one.0.state in
    let left : Common = common_after i common one.0 in
    let rest : ((steps_of q after left).0.ran ≡ i.ran + 1 + q) ⊎ IsSome (steps_of q after left).0.end =
    steps_of-all q after left (moved-whole i (world_after i.world common.memory one.0.event) one.0.state runs.2)
    (preservation (grants i.world) (placing common) runs.0 common.memory one.0 here octets few one.1) (octets_stay (grants i.world) (placing common) runs.0 common.memory one.0 octets one.1)
    (pages_stay (grants i.world) (placing common) runs.0 common.memory one.0 few one.1) in
    let same : i.ran + suc q ≡ i.ran + 1 + q = omega arith in
    rw (unended, one.2, same) rest)
    (cases_Bool (is_some i.end))

pub steps_of-some : (quantum : ℕ) (i : Instance) (common : Common) → IsWhole i → IsTypedState i.state → AreOctets common.memory → i.end ≡ None → quantum ≢ 0 →
    i.ran < (steps_of quantum i common).0.ran
steps_of-some zero i common whole typed octets none given = absurd (given refl)
steps_of-some (suc q) i common whole typed octets none given =
    let unended : is_some i.end ≡ false = ap is_some none in
    let runs = unended-runs i whole unended i.state refl in
    let here : IsTyped runs.0 = rw runs.1 at typed in
    let one = stepped-typed i common runs.0 runs.1 here in
    let after : Instance = moved i (world_after i.world common.memory one.0.event) one.0.state in
    let left : Common = common_after i common one.0 in
    let rest : (i.ran + 1 ≤ (steps_of q after left).0.ran) × ((steps_of q after left).0.ran ≤ i.ran + 1 + q) = steps_of-at_most q after left in
    rw (unended, one.2) (omega (arith, rest.0))

-- what an instance may run stays
pub limits-turns : (s : Shared) (acts : List Act) (k : ℕ) (i later : Instance) → slice_get s.instances k ≡ Some i →
    slice_get (turns acts s).instances k ≡ Some later → later.most_steps ≡ i.most_steps
limits-turns s acts k i later found = turns-keep (λ (now : Shared). (x : Instance) → slice_get now.instances k ≡ Some x → x.most_steps ≡ i.most_steps)
    (λ now j one c t there unended running made h x found_x. each-step (λ l y. l ≡ k → y.most_steps ≡ i.most_steps) now j one t there
    (λ is. h one (rw (← is) there))
    (λ l y elsewhere found is. h y (rw (← is) found)) k x found_x refl)
    (λ now j one there done unreleased h x found_x. each-put (λ l y. l ≡ k → y.most_steps ≡ i.most_steps) now j one (given one now.common) there
    (λ is. h one (rw (← is) there))
    (λ l y elsewhere found is. h y (rw (← is) found)) k x found_x refl)
    acts s (λ x found_x. ap (λ (y : Instance). y.most_steps) (same_Some x i (sym found_x ∙ found))) later

-- and what it does is typed
pub turns-typed : (s : Shared) (acts : List Act) → AreOctets s.common.memory → pages_of s.common.memory ≤ most_pages →
    EachInstance (λ i. IsTypedState i.state) s →
    AreOctets (turns acts s).common.memory × (pages_of (turns acts s).common.memory ≤ most_pages) × EachInstance (λ i. IsTypedState i.state) (turns acts s)
turns-typed s acts octets few typed = turns-keep
    (λ (now : Shared). AreOctets now.common.memory × (pages_of now.common.memory ≤ most_pages) × EachInstance (λ i. IsTypedState i.state) now)
    (λ now j one c t there unended running made h.
    let here : IsTyped c = rw running at (h.2 j one there) in (
      octets_stay (grants one.world) (placing now.common) c now.common.memory t h.0 made,
      pages_stay (grants one.world) (placing now.common) c now.common.memory t h.1 made,
      each-step (λ k i. IsTypedState i.state) now j one t there (preservation (grants one.world) (placing now.common) c now.common.memory t here h.0 h.1 made)
          (λ k i elsewhere found. h.2 k i found),
    ))
    (λ now j one there done unreleased h. (h.0, h.1, each-put (λ k i. IsTypedState i.state) now j one (given one now.common) there (h.2 j one there) (λ k i elsewhere found. h.2 k i found)))
    acts s (octets, few, typed)
