-- Instances that share a memory: a step of one is what others may do to the rest, so turns are open runs.
use Rattle.std.proofs.Common.{◌≡◌, ◌≢◌, ℕ, zero, suc, ◌+◌, ◌-◌, ◌*◌, ◌/◌, ◌<◌, ◌≤◌, ◌==◌, Bool, true, false, List, length, Option, Some, None, is_some, slice_get, ◌⊎◌, inl, inr, refl, sym, ap, ◌∙◌, subst, ⊎_elim, arith, length-set, unwrap_or}
use Rattle.std.specs.Prelude.{slice_index}
use Rattle.std.specs.List.{AllByRecursion}
use Rattle.std.proofs.lemmas.Bool.{leb-true, cases_Bool, eqb-true, eq-eqb, false≢true}
use Rattle.std.proofs.lemmas.Option.{same_Some, slice_get_within}
use Rattle.qw_linear.specs.Memory.{page, with_number, grown_by, cleared, pages_of, AreOctets}
use Rattle.qw_linear.proofs.MemoryFacts.{length-with_number}
use Rattle.qw_linear.proofs.GrowthFacts.{length-grown_by}
use Rattle.qw_linear.proofs.ClearedFacts.{length-cleared, length-cleared-next}
use Rattle.qw_module.specs.Execution.{Config, State, Running, Event, AsksHost, IsPlaceIn, pages_gained}
use Rattle.qw_module.specs.Step.{Want, wants, Next, next}
use Rattle.qw_map.specs.Areas.{Area, World, SameIn, Others, lies_in_one, IsFine, AsksOn, grants, LiesBeside, LieFree, IsPlace, world_after}
use Rattle.qw_map.specs.Free.{lowest_run, place_among, IsTaken}
use Rattle.qw_map.specs.Runs.{Moment, moment_after, OpenStep, OpenRun, begins, goes_on, Behaves, BehavesWithin}
use Rattle.qw_map.specs.Turns.{End, Done, Instance, Common, Shared, gives_back, is_back, own_of, flags_after, moved_by, common_after, placing, given, with_instance, Act, turns, EachInstance, EachAfter, AllApart, LiesWithin, AreSeparate, moment_of, StaysFine, AreSafe, LeadsTo}
use Rattle.qw_map.proofs.AreaLemmas.{all-weaker, all-same, all-then, outcome-kept, outcome-octet}
use Rattle.qw_map.proofs.AccessLemmas.{lies-ahead, lies-in-none}
use Rattle.qw_map.proofs.FreeFacts.{place-free, run-beside, taken-within, gained-out, back-outside}
use Rattle.qw_map.proofs.FreeSteps.{Gains, gains-nothing, gains-next, gains-run, asks_within, put-apart, put-columns, put_taken, separate-put, separate-back}
use Rattle.qw_map.proofs.OpenRuns.{answered-rightly}
use Rattle.qw_module.proofs.Outcomes.{Outcome, went, read, read_outside, put, put_outside, measured, was_granted, was_refused, host_granted, host_refused, raised, failed, outcome}
use Rattle.qw_module.proofs.Sound.{octets_stay, length_grows}
use Rattle.qw_module.proofs.Steps.{rule_from_next}
use Rattle.qw_map.proofs.TurnFacts.{found-in, slice_get-set_same, slice_get-set_other, changed_twice, after_step, each-put, each-step, turns-keep}

-- ---- what others may do, one after another
pub Others-then : (w : World) (a b c : List ℕ) → Others w a b → Others w b c → Others w a c
Others-then w a b c one two = record {
  grown = one.grown + two.grown;
  length_is = omega (arith, one.length_is, two.length_is);
  room = two.room;
  octets = two.octets;
  mapped_kept = all-then a b c w.mapped one.mapped_kept two.mapped_kept;
  own_kept = all-then a b c w.own one.own_kept two.own_kept;
}

-- a run from where others left the memory goes on from before them
LeadsTo-others : (n : ℕ) (a : Moment) (w : World) (s : State) (m m2 : List ℕ) →
    (back : Bool) → (back ≡ false → Others w m m2) →
    LeadsTo n a (record { world = w; state = s; memory = m }) back → LeadsTo n a (record { world = w; state = s; memory = m2 }) back
LeadsTo-others n a w s m m2 back others to = record { left = to.left; run = to.run; others = λ kept. Others-then w to.left m m2 (to.others kept) (others kept) }

pub LeadsTo-step : (n : ℕ) (a b : Moment) (c : Config) (before : List ℕ) (event : Event) (state : State) (after : List ℕ) →
    LeadsTo n a b false → OpenStep b c before event state after →
    OpenRun (suc n) a (moment_after b.world before event state after)
LeadsTo-step n a b c before event state after to step = goes_on n a (record b { memory = to.left }) c before event state after to.run
    (record {
      running = step.running;
      others = Others-then b.world to.left b.memory before (to.others refl) step.others;
      step = step.step;
      answered = step.answered;
      placed = step.placed;
    })

-- An open run from a moment goes on from before it: what is reached has the memory that the run left, or one that others
-- made of it.
record GoesOn (k : ℕ) (a b : Moment) : Type 0 where
  left : List ℕ
  run : OpenRun k a (record b { memory = left })
  after : (left ≡ b.memory) ⊎ Others b.world left b.memory

others-on : (k : ℕ) (a b : Moment) (before : List ℕ) (on : GoesOn k a b) → Others b.world b.memory before → Others b.world on.left before
others-on k a b before on others = ⊎_elim
    (λ same. rw same others)
    (λ between. Others-then b.world on.left b.memory before between others)
    on.after

step-on : (k : ℕ) (a b : Moment) (c : Config) (before : List ℕ) (event : Event) (state : State) (after : List ℕ) (on : GoesOn k a b) →
    OpenStep b c before event state after → OpenStep (record b { memory = on.left }) c before event state after
step-on k a b c before event state after on step =
    record { running = step.running; others = others-on k a b before on step.others; step = step.step; answered = step.answered; placed = step.placed }

one-more : (n i : ℕ) (a c : Moment) (e : Config) (before : List ℕ) (event : Event) (state : State) (after : List ℕ) → GoesOn (i + n) a c →
    OpenStep c e before event state after → OpenRun (suc i + n) a (moment_after c.world before event state after)
one-more n i a c e before event state after on step =
    let same : suc (i + n) ≡ suc i + n = omega arith in
    subst (λ (k : ℕ). OpenRun k a (moment_after c.world before event state after)) same
    (goes_on (i + n) a (record c { memory = on.left }) e before event state after on.run (step-on (i + n) a c e before event state after on step))

run-on : (n i : ℕ) (a b c : Moment) → LeadsTo n a b false → OpenRun i b c → GoesOn (i + n) a c
run-on n _ a _ _ to (begins b) =
    let same : n ≡ 0 + n = omega arith in
    record { left = to.left; run = subst (λ (k : ℕ). OpenRun k a (record b { memory = to.left })) same to.run; after = inr (to.others refl) }
run-on n _ a _ _ to (goes_on i b c e before event state after run step) = record {
  left = after;
  run = one-more n i a c e before event state after (run-on n i a b c to run) step;
  after = inl refl;
}

-- with a step or more it is reached as it is
pub run-after : (n k : ℕ) (a b c : Moment) → LeadsTo n a b false → k ≢ 0 → OpenRun k b c → OpenRun (k + n) a c
run-after n _ a _ _ to some (begins b) = absurd (some refl)
run-after n _ a _ _ to some (goes_on i b c e before event state after run step) =
    one-more n i a c e before event state after (run-on n i a b c to run) step

-- from a moment on a run goes on after each request
abbrev pub GoesOnAsking : Moment → Type 0
GoesOnAsking a = (k : ℕ) (b : Moment) (c : Config) (before : List ℕ) (event : Event) (state : State) (after : List ℕ) →
    OpenRun k a b → OpenStep b c before event state after → AsksOn event state

-- others keep what holds of a moment
abbrev pub IsKeptByOthers : (Moment → Type 0) → Type 0
IsKeptByOthers P = (b : Moment) (after : List ℕ) → Others b.world b.memory after → P b → P (record b { memory = after })

-- so what stays fine from a moment on stays fine from a later one
pub fine-after : (n : ℕ) (a b : Moment) → LeadsTo n a b false → StaysFine a → StaysFine b
fine-after n a b to fine k c d before event state after run step =
    let on : GoesOn (k + n) a c = run-on n k a b c to run in
    fine (k + n) (record c { memory = on.left }) d before event state after on.run (step-on (k + n) a c d before event state after on step)

-- and so does a run that goes on after requests
pub on-after : (n : ℕ) (a b : Moment) → LeadsTo n a b false → GoesOnAsking a → GoesOnAsking b
on-after n a b to asks_on k c d before event state after run step =
    let on : GoesOn (k + n) a c = run-on n k a b c to run in
    asks_on (k + n) (record c { memory = on.left }) d before event state after on.run (step-on (k + n) a c d before event state after on step)

-- what holds at an end holds there whatever others made of the memory then
at-end : (P : Moment → Type 0) → IsKeptByOthers P → (k : ℕ) (a c : Moment) (on : GoesOn k a c) → P (record c { memory = on.left }) → P c
at-end P kept k a c on h = ⊎_elim
    (λ same. subst (λ (m : List ℕ). P (record c { memory = m })) same h)
    (λ others. kept (record c { memory = on.left }) c.memory others h)
    on.after

-- An instance that behaves goes on to behave, with so many instructions fewer left to it, if others keep what it ends with.
pub behaves-after : (n left : ℕ) (P : Moment → Type 0) → IsKeptByOthers P → n ≤ left → (a b : Moment) → LeadsTo n a b false → Behaves left P a → Behaves (left - n) P b
behaves-after n left P kept le a b to behaves = record {
  fine = fine-after n a b to behaves.fine;
  asks_on = on-after n a b to behaves.asks_on;
  ends = λ k c run over within.
      let on : GoesOn (k + n) a c = run-on n k a b c to run in
      at-end P kept (k + n) a c on (behaves.ends (k + n) (record c { memory = on.left }) on.run over (omega (arith, le, within)));
}

-- and so does one that behaves within bounds
pub within-after : (n most pages left : ℕ) (P : Moment → Type 0) → IsKeptByOthers P → n ≤ left → (a b : Moment) → LeadsTo n a b false →
    BehavesWithin most pages left P a → BehavesWithin (most - n) pages (left - n) P b
within-after n most pages left P kept le a b to behaves = record {
  goes_on = λ k c d before run running others.
      let on : GoesOn (k + n) a c = run-on n k a b c to run in
      let made = behaves.goes_on (k + n) (record c { memory = on.left }) d before on.run running (others-on (k + n) a c before on others) in (
        made.0,
        made.1,
        made.2,
        record { running = running; others = others; step = made.3.step; answered = made.3.answered; placed = made.3.placed },
      );
  fine = fine-after n a b to behaves.fine;
  asks = λ k c d before event state after run step.
      let on : GoesOn (k + n) a c = run-on n k a b c to run in
      behaves.asks (k + n) (record c { memory = on.left }) d before event state after on.run (step-on (k + n) a c d before event state after on step);
  bounded = λ k c d run running.
      let on : GoesOn (k + n) a c = run-on n k a b c to run in
      let below : k + n < most = behaves.bounded (k + n) (record c { memory = on.left }) d on.run running in
      omega arith;
  ends = λ k c run over.
      let on : GoesOn (k + n) a c = run-on n k a b c to run in
      let end = behaves.ends (k + n) (record c { memory = on.left }) on.run over in (
        let count : k + n ≤ most = end.0 in omega arith,
        λ within. at-end P kept (k + n) a c on (end.1 (omega (arith, le, within))),
      );
}

-- ---- an instance that has its pages
-- one that has not ended has not given them back
pub unended-held : (i : Instance) → is_some i.end ≡ false → is_back i ≡ false
unended-held i unended = by_end i.end i.released unended
  where
    by_end : (end : Option End) (released : Bool) → is_some end ≡ false → gives_back end released ≡ false
    by_end None released unended = refl
    by_end (Some end) released unended = absurd (false≢true (sym unended))

pub held-own : (i : Instance) → is_back i ≡ false → own_of i ≡ i.world.own
held-own i held = rw held refl

-- ---- what a step gains
place-cases : (m : List ℕ) (free : List Bool) (n first : ℕ) → first ≡ place_among m free n → (first ≡ pages_of m) ⊎ ((1 ≤ n) × (lowest_run 0 n free ≡ Some first))
place-cases m free zero first is = inl is
place-cases m free (suc n) first is = by_found (lowest_run 0 (suc n) free) refl is
  where
    by_found : (found : Option ℕ) → lowest_run 0 (suc n) free ≡ found → first ≡ unwrap_or found (pages_of m) →
        (first ≡ pages_of m) ⊎ ((1 ≤ suc n) × (lowest_run 0 (suc n) free ≡ Some first))
    by_found None found is = inl is
    by_found (Some p) found is = inr (omega arith, found ∙ ap Some (sym is))

module _ (behind : ℕ) (free : List Bool) (w : World) where
  abbrev before : List ℕ → Common
  before m = record { memory = m; free = free }

  abbrev then_is : List ℕ → Next → Common
  then_is m t = record { memory = t.memory; free = flags_after (before m) t.event }

  host-gains : (place : ℕ → ℕ) (m : List ℕ) (pages : ℕ) → place pages ≡ place_among m free pages → IsPlaceIn m (place pages) pages →
      length m ≡ pages_of m * page → length free ≡ pages_of m → behind ≤ pages_of m → ((p : ℕ) → slice_get free p ≡ Some true → behind ≤ p) → w.held + pages ≤ w.limit →
      Gains behind (before m) (record { memory = cleared (place pages) pages m; free = flags_after (before m) (AsksHost pages (Some (place pages))) }) w
      (world_after w m (AsksHost pages (Some (place pages))))
  host-gains place m pages place_is placed whole flags there free_behind fits = ⊎_elim
      (λ next.
      let is : place pages ≡ pages_of m = eqb-true (place pages) (pages_of m) next in
      rw next (gains-next behind (before m) w whole flags pages (place pages * page) (cleared (place pages) pages m)
      (rw is (length-cleared-next pages (pages_of m) m whole)) (ap (λ (p : ℕ). p * page) is) there fits))
      (λ elsewhere.
      let other : place pages ≢ pages_of m = λ is. false≢true (sym elsewhere ∙ eq-eqb (place pages) (pages_of m) is) in
      rw elsewhere (⊎_elim
      (λ is. absurd (other is))
      (λ run.
      let each : (k : ℕ) → k < pages → slice_get free (place pages + k) ≡ Some true = λ k h. place-free pages (place pages) k free run.1 h in
      let same : place pages + 0 ≡ place pages = omega arith in
      let low : behind ≤ place pages + 0 = free_behind (place pages + 0) (each 0 (omega (arith, run.0))) in
      let inside : place pages + pages ≤ pages_of m = ⊎_elim (λ is. absurd (other is)) (λ h. h) placed.1 in
      gains-run behind (before m) w whole flags pages (place pages) each (omega (arith, low)) (cleared (place pages) pages m)
      (length-cleared (place pages) pages m (omega (arith, inside))) fits)
      (place-cases m free pages (place pages) place_is)))
      (cases_Bool (place pages == pages_of m))

  pub outcome-gains : (g : ℕ → Bool) (place : ℕ → ℕ) (m : List ℕ) (want : Want) (t : Next) → Outcome g place m want t → ((n : ℕ) → place n ≡ place_among m free n) →
      length m ≡ pages_of m * page → length free ≡ pages_of m → behind ≤ pages_of m → ((p : ℕ) → slice_get free p ≡ Some true → behind ≤ p) →
      ((asked : ℕ) → g asked ≡ true → w.held + asked ≤ w.limit) → Gains behind (before m) (then_is m t) w (world_after w m t.event)
  outcome-gains _ _ _ _ _ (went g place m s) place_is whole flags there free_behind within = gains-nothing behind (before m) w whole flags m w.refused refl
  outcome-gains _ _ _ _ _ (read g place m address width make room) place_is whole flags there free_behind within = gains-nothing behind (before m) w whole flags m w.refused refl
  outcome-gains _ _ _ _ _ (read_outside g place m address width make outside) place_is whole flags there free_behind within = gains-nothing behind (before m) w whole flags m w.refused refl
  outcome-gains _ _ _ _ _ (put g place m address width value s room) place_is whole flags there free_behind within =
      gains-nothing behind (before m) w whole flags (with_number m address width value) w.refused (length-with_number m address width value)
  outcome-gains _ _ _ _ _ (put_outside g place m address width value s outside) place_is whole flags there free_behind within = gains-nothing behind (before m) w whole flags m w.refused refl
  outcome-gains _ _ _ _ _ (measured g place m make) place_is whole flags there free_behind within = gains-nothing behind (before m) w whole flags m w.refused refl
  outcome-gains _ _ _ _ _ (was_granted g place m pages make is room) place_is whole flags there free_behind within =
      gains-next behind (before m) w whole flags pages (length m) (grown_by pages m) (length-grown_by pages m) whole there (within pages is)
  outcome-gains _ _ _ _ _ (was_refused g place m pages make is) place_is whole flags there free_behind within = gains-nothing behind (before m) w whole flags m (Some pages) refl
  outcome-gains _ _ _ _ _ (host_granted g place m pages make is placed) place_is whole flags there free_behind within =
      host-gains place m pages (place_is pages) placed whole flags there free_behind (within pages is)
  outcome-gains _ _ _ _ _ (host_refused g place m pages make is) place_is whole flags there free_behind within = gains-nothing behind (before m) w whole flags m (Some pages) refl
  outcome-gains _ _ _ _ _ (raised g place m code) place_is whole flags there free_behind within = gains-nothing behind (before m) w whole flags m w.refused refl
  outcome-gains _ _ _ _ _ (failed g place m why) place_is whole flags there free_behind within = gains-nothing behind (before m) w whole flags m w.refused refl

-- ---- what holds of the instances after acts
-- an open run with a step for each instruction that it ran leads an instance to what it is now
abbrev IsReached : (s now : Shared) (i later : Instance) → Type 0
IsReached s now i later = (steps : ℕ) × (later.ran ≡ i.ran + steps) × LeadsTo steps (moment_of i s.common.memory) (moment_of later now.common.memory) (is_back later)

-- what holds of the instances after acts, beside those before
record Follows (behind : ℕ) (s now : Shared) : Type 0 where
  separate : AreSeparate behind now
  many : length now.instances ≡ length s.instances
  reached : EachAfter (IsReached s now) s now
  worlds : EachAfter (λ i later. (later.world.mapped ≡ i.world.mapped) × (later.world.limit ≡ i.world.limit)) s now
  backs : EachAfter (λ i later. is_back later ≡ false → is_back i ≡ false) s now
  columns : EachInstance (λ i. AllByRecursion (SameIn s.common.memory now.common.memory) i.world.mapped) s

-- an octet in no own area, and in no page that is free: so it is now, and it is as it was
record StaysAt (behind : ℕ) (s now : Shared) (address : ℕ) : Type 0 where
  safe : AreSafe behind now
  within : address < length now.common.memory
  outside : EachInstance (λ i. lies_in_one (own_of i) address ≡ false) now
  not_free : slice_get now.common.free (address / page) ≢ Some true
  same : slice_index now.common.memory address ≡ slice_index s.common.memory address

module _ (behind : ℕ) where
  -- ---- a step of one of the instances
  -- between steps others need make nothing of the memory
  pub others-none : (s : Shared) → AreSeparate behind s → (k : ℕ) (i : Instance) → slice_get s.instances k ≡ Some i → Others i.world s.common.memory s.common.memory
  others-none s separate k i found = record {
    grown = 0;
    length_is = omega arith;
    room = let asked = asks_within s.instances k i found in omega (arith, asked, separate.room);
    octets = separate.octets;
    mapped_kept = all-same s.common.memory i.world.mapped;
    own_kept = all-same s.common.memory i.world.own;
  }

  module _ (s : Shared) (separate : AreSeparate behind s) (j : ℕ) (one : Instance) (c : Config) (t : Next)
      (there : slice_get s.instances j ≡ Some one) (held : is_back one ≡ false) (running : one.state ≡ Running c)
      (made : next (grants one.world) (placing s.common) c s.common.memory ≡ Some t) where
    abbrev later : Instance
    later = moved_by one s.common t

    -- the instance before it gives its pages back, if it does
    abbrev mid : Instance
    mid = record later { end = None }

    abbrev now : Common
    now = record { memory = t.memory; free = flags_after s.common t.event }

    abbrev between : Shared
    between = with_instance s j (mid, now)

    outcome_is : Outcome (grants one.world) (placing s.common) s.common.memory (wants c) t
    outcome_is = outcome (grants one.world) (placing s.common) s.common.memory (wants c) t made

    length-put : length t.memory ≡ length s.common.memory + pages_gained s.common.memory t.event * page
    length-put = length_grows (grants one.world) (placing s.common) c s.common.memory t separate.whole made

    pub gains-put : Gains behind s.common now one.world later.world
    gains-put = outcome-gains behind s.common.free one.world (grants one.world) (placing s.common) s.common.memory (wants c) t outcome_is (λ n. refl)
        separate.whole separate.flags separate.there separate.free_behind (λ asked is. leb-true (one.world.held + asked) one.world.limit is)

    octets_put : AreOctets t.memory
    octets_put = octets_stay (grants one.world) (placing s.common) c s.common.memory t separate.octets made

    pub put_there : slice_get (after_step s j one t).instances j ≡ Some later
    put_there = slice_get-set_same s.instances j later (slice_get_within s.instances j one there)

    mid_there : slice_get between.instances j ≡ Some mid
    mid_there = slice_get-set_same s.instances j mid (slice_get_within s.instances j one there)

    -- it was there with the same columns and limit
    pub before_step : (k : ℕ) (i : Instance) → slice_get (after_step s j one t).instances k ≡ Some i →
        (old : Instance) × (slice_get s.instances k ≡ Some old) × (i.world.mapped ≡ old.world.mapped) × (i.world.limit ≡ old.world.limit)
    before_step = each-step
        (λ k i. (old : Instance) × (slice_get s.instances k ≡ Some old) × (i.world.mapped ≡ old.world.mapped) × (i.world.limit ≡ old.world.limit))
        s j one t there
        (one, there, gains-put.mapped_is, gains-put.limit_is)
        (λ k i elsewhere found. (i, found, refl, refl))

    between-separate : AreSeparate behind between
    between-separate = separate-put behind s separate j one mid now there (held-own one held) refl gains-put octets_put

    pub separate-step : AreSeparate behind (after_step s j one t)
    separate-step = ⊎_elim
        (λ back. subst (AreSeparate behind) (changed_twice s j (mid, now) (later, common_after one s.common t))
        (separate-back behind between between-separate j mid later (common_after one s.common t) mid_there refl (rw back refl) refl refl (rw back refl)))
        (λ not_back. subst (AreSeparate behind) (changed_twice s j (mid, now) (later, common_after one s.common t))
        (separate-put behind between between-separate j mid later (common_after one s.common t) mid_there refl (rw not_back refl)
        (rw not_back (gains-nothing behind now later.world between-separate.whole between-separate.flags t.memory later.world.refused refl)) octets_put))
        (cases_Bool (is_back later))

    -- the step is one of an open run
    pub free-place : IsPlace one.world s.common.memory (placing s.common)
    free-place asked granted = ⊎_elim
        inl
        (λ run.
        let each : (k : ℕ) → k < asked → slice_get s.common.free (placing s.common asked + k) ≡ Some true =
        λ k h. place-free asked (placing s.common asked) k s.common.free run.1 h in
        inr (run-inside asked (placing s.common asked) run.0 each, run-free asked (placing s.common asked) run.0 each))
        (place-cases s.common.memory s.common.free asked (placing s.common asked) refl)
      where
        run-inside : (asked first : ℕ) → 1 ≤ asked → ((k : ℕ) → k < asked → slice_get s.common.free (first + k) ≡ Some true) → first + asked ≤ pages_of s.common.memory
        run-inside zero first some each = absurd (omega (arith, some))
        run-inside (suc n) first some each =
            let last = slice_get_within s.common.free (first + n) true (each n (omega arith)) in omega (arith, last, separate.flags)

        run-free : (asked first : ℕ) → 1 ≤ asked → ((k : ℕ) → k < asked → slice_get s.common.free (first + k) ≡ Some true) → LieFree one.world first asked
        run-free zero first some each = absurd (omega (arith, some))
        run-free (suc n) first some each =
            let low : behind ≤ first + 0 = separate.free_behind (first + 0) (each 0 (omega arith)) in (
              omega (arith, low, separate.some),
              all-weaker (λ a. a.start + a.size ≤ behind * page) (λ a. a.start + a.size ≤ first * page) (λ a h. omega (arith, h, low)) one.world.mapped
                  (separate.columns j one there),
              all-weaker (IsTaken behind s.common.free) (LiesBeside first (suc n)) (λ a t. run-beside behind s.common.free n first a t each) one.world.own
                  (rw (held-own one held) at (separate.own j one there)),
            )

    pub open-step : OpenStep (moment_of one s.common.memory) c s.common.memory t.event t.state t.memory
    open-step =
        let others : Others one.world s.common.memory s.common.memory = others-none s separate j one there in
        let right = answered-rightly one.world s.common.memory others.room (placing s.common) free-place (wants c) t made in
        record {
          running = running;
          others = others;
          step = rule_from_next (grants one.world) (placing s.common) c s.common.memory t made;
          answered = right.0;
          placed = right.1;
        }

    -- areas in the memory that are apart from its own ones then are kept by the step, where it is fine
    pub kept-step : IsFine one.world t.event → (areas : List Area) → AllApart later.world.own areas → AllByRecursion (LiesWithin (length s.common.memory)) areas →
        AllByRecursion (SameIn s.common.memory t.memory) areas
    kept-step = outcome-kept one.world (grants one.world) (placing s.common) s.common.memory (wants c) t outcome_is

    -- and so is an octet of the memory that lies in none of them
    pub octet-step : IsFine one.world t.event → (address : ℕ) → address < length s.common.memory → lies_in_one later.world.own address ≡ false →
        slice_index t.memory address ≡ slice_index s.common.memory address
    octet-step = outcome-octet one.world (grants one.world) (placing s.common) s.common.memory (wants c) t outcome_is

    mapped_inside : (k : ℕ) (i : Instance) → slice_get s.instances k ≡ Some i → AllByRecursion (LiesWithin (length s.common.memory)) i.world.mapped
    mapped_inside k i found = all-weaker (λ a. a.start + a.size ≤ behind * page) (LiesWithin (length s.common.memory))
        (λ a h. omega (arith, h, separate.there)) i.world.mapped (separate.columns k i found)

    pub columns-kept : IsFine one.world t.event → (k : ℕ) (i : Instance) → slice_get s.instances k ≡ Some i → AllByRecursion (SameIn s.common.memory t.memory) i.world.mapped
    columns-kept fine k i found = kept-step fine i.world.mapped
        (put-columns behind s separate j one mid now there (held-own one held) refl gains-put k i found) (mapped_inside k i found)

    -- which is what others may do to another instance that has its pages
    pub others-step : IsFine one.world t.event → (k : ℕ) (i : Instance) → k ≢ j → slice_get s.instances k ≡ Some i → is_back i ≡ false →
        Others i.world s.common.memory t.memory
    others-step fine k i differ found has =
        let stays : slice_get (after_step s j one t).instances k ≡ Some i = slice_get-set_other s.instances j k later differ ∙ found in
        let own : own_of i ≡ i.world.own = held-own i has in
        let own_inside : AllByRecursion (LiesWithin (length s.common.memory)) i.world.own =
        all-weaker (IsTaken behind s.common.free) (LiesWithin (length s.common.memory)) (λ a t. taken-within behind s.common.free (length s.common.memory) a t (omega (arith, separate.flags, separate.whole))) i.world.own (rw own at (separate.own k i found)) in
        let apart : AllApart later.world.own i.world.own = rw own at (put-apart behind s separate j one mid now there (held-own one held) refl gains-put k i differ found) in
        record {
          grown = pages_gained s.common.memory t.event;
          length_is = length-put;
          room = let asked = asks_within (after_step s j one t).instances k i stays in omega (arith, asked, separate-step.room);
          octets = octets_put;
          mapped_kept = columns-kept fine k i found;
          own_kept = kept-step fine i.world.own apart own_inside;
        }

  -- ---- every list of acts
  -- one that has its pages is reached by a run that can go on
  pub held-led : (n : ℕ) (a b : Moment) (back : Bool) → back ≡ false → LeadsTo n a b back → LeadsTo n a b false
  held-led n a b back held led = subst (LeadsTo n a b) held led

  follows-step : (s : Shared) → AreSafe behind s → (now : Shared) (j : ℕ) (one : Instance) (c : Config) (t : Next) → slice_get now.instances j ≡ Some one →
      is_some one.end ≡ false → one.state ≡ Running c → next (grants one.world) (placing now.common) c now.common.memory ≡ Some t → Follows behind s now →
      Follows behind s (after_step now j one t)
  follows-step s safe now j one c t there unended running made follows =
      let held : is_back one ≡ false = unended-held one unended in
      let new : Instance = moved_by one now.common t in
      let step : OpenStep (moment_of one now.common.memory) c now.common.memory t.event t.state t.memory = open-step now follows.separate j one c t there held running made in
      let after : AreSeparate behind (after_step now j one t) = separate-step now follows.separate j one c t there held running made in
      let new_there : slice_get (after_step now j one t).instances j ≡ Some new = put_there now follows.separate j one c t there held running made in
      let inside : j < length s.instances = let before = slice_get_within now.instances j one there in omega (arith, follows.many) in
      let first = found-in s.instances j inside in
      let led = follows.reached j first.0 one first.1 there in
      let fine : IsFine one.world t.event = fine-after led.0 (moment_of first.0 s.common.memory) (moment_of one now.common.memory)
      (held-led led.0 (moment_of first.0 s.common.memory) (moment_of one now.common.memory) (is_back one) held led.2)
      (safe.fine j first.0 first.1 (follows.backs j first.0 one first.1 there held))
      0 (moment_of one now.common.memory) c now.common.memory t.event t.state t.memory (begins (moment_of one now.common.memory)) step in
      record {
        separate = after;
        many = length-set now.instances j new ∙ follows.many;
        reached = λ k i later found found_later. each-step
            (λ l x. (i : Instance) → slice_get s.instances l ≡ Some i → IsReached s (after_step now j one t) i x) now j one t there
            (λ i found.
            let led = follows.reached j i one found there in (
              suc led.0,
              omega (arith, led.1),
              record {
                left = t.memory;
                run = LeadsTo-step led.0 (moment_of i s.common.memory) (moment_of one now.common.memory) c now.common.memory t.event t.state t.memory
                    (held-led led.0 (moment_of i s.common.memory) (moment_of one now.common.memory) (is_back one) held led.2) step;
                others = λ kept. others-none (after_step now j one t) after j new new_there;
              },
            ))
            (λ l x elsewhere before i found.
            let led = follows.reached l i x found before in (
              led.0,
              led.1,
              LeadsTo-others led.0 (moment_of i s.common.memory) x.world x.state now.common.memory t.memory (is_back x)
                  (λ has. others-step now follows.separate j one c t there held running made fine l x elsewhere before has) led.2,
            ))
            k later found_later i found;
        worlds = λ k i later found found_later.
            let before = before_step now follows.separate j one c t there held running made k later found_later in
            let same = follows.worlds k i before.0 found before.1 in
            (before.2 ∙ same.0, before.3 ∙ same.1);
        backs = λ k i later found found_later. each-step
            (λ l x. (i : Instance) → slice_get s.instances l ≡ Some i → is_back x ≡ false → is_back i ≡ false) now j one t there
            (λ i found has. follows.backs j i one found there held)
            (λ l x elsewhere before i found has. follows.backs l i x found before has)
            k later found_later i found;
        columns = λ k i found.
            let inside : k < length now.instances = let before = slice_get_within s.instances k i found in omega (arith, follows.many) in
            let between = found-in now.instances k inside in
            let same : between.0.world.mapped ≡ i.world.mapped = (follows.worlds k i between.0 found between.1).0 in
            let kept : AllByRecursion (SameIn now.common.memory t.memory) between.0.world.mapped =
            columns-kept now follows.separate j one c t there held running made fine k between.0 between.1 in
            all-then s.common.memory now.common.memory t.memory i.world.mapped (follows.columns k i found) (rw same at kept);
      }

  -- one that is done and not released has its pages, and then it has not
  pub done-held : (one : Instance) → one.end ≡ Some Done → one.released ≡ false → is_back one ≡ false
  done-held one done unreleased = rw (done, unreleased) refl

  pub released-back : (one : Instance) → one.end ≡ Some Done → is_back (record one { released = true }) ≡ true
  released-back one done = rw done refl

  pub separate-release : (now : Shared) → AreSeparate behind now → (j : ℕ) (one : Instance) → slice_get now.instances j ≡ Some one → one.end ≡ Some Done → one.released ≡ false →
      AreSeparate behind (with_instance now j (given one now.common))
  separate-release now separate j one there done unreleased = separate-back behind now separate j one (record one { released = true }) (given one now.common).1 there
      (held-own one (done-held one done unreleased)) (rw (released-back one done) refl) refl refl refl

  follows-release : (s now : Shared) (j : ℕ) (one : Instance) → slice_get now.instances j ≡ Some one → one.end ≡ Some Done → one.released ≡ false → Follows behind s now →
      Follows behind s (with_instance now j (given one now.common))
  follows-release s now j one there done unreleased follows = record {
    separate = separate-release now follows.separate j one there done unreleased;
    many = length-set now.instances j (record one { released = true }) ∙ follows.many;
    reached = λ k i later found found_later. each-put
        (λ l x. (i : Instance) → slice_get s.instances l ≡ Some i → IsReached s (with_instance now j (given one now.common)) i x) now j one (given one now.common) there
        (λ i found.
        let led = follows.reached j i one found there in (
          led.0,
          led.1,
          record { left = led.2.left; run = led.2.run; others = λ kept. absurd (false≢true (sym kept ∙ released-back one done)) },
        ))
        (λ l x elsewhere before i found. follows.reached l i x found before)
        k later found_later i found;
    worlds = λ k i later found found_later. each-put
        (λ l x. (i : Instance) → slice_get s.instances l ≡ Some i → (x.world.mapped ≡ i.world.mapped) × (x.world.limit ≡ i.world.limit)) now j one (given one now.common) there
        (λ i found. follows.worlds j i one found there)
        (λ l x elsewhere before i found. follows.worlds l i x found before)
        k later found_later i found;
    backs = λ k i later found found_later. each-put
        (λ l x. (i : Instance) → slice_get s.instances l ≡ Some i → is_back x ≡ false → is_back i ≡ false) now j one (given one now.common) there
        (λ i found has. absurd (false≢true (sym has ∙ released-back one done)))
        (λ l x elsewhere before i found has. follows.backs l i x found before has)
        k later found_later i found;
    columns = follows.columns;
  }

  follows-none : (s : Shared) → AreSafe behind s → Follows behind s s
  follows-none s safe = record {
    separate = safe.separate;
    many = refl;
    reached = λ k i later found found_later.
        let is : i ≡ later = same_Some i later (sym found ∙ found_later) in
        subst (IsReached s s i) is (
          0,
          omega arith,
          record { left = s.common.memory; run = begins (moment_of i s.common.memory); others = λ kept. others-none s safe.separate k i found },
        );
    worlds = λ k i later found found_later.
        let is : later ≡ i = same_Some later i (sym found_later ∙ found) in
        (ap (λ (x : Instance). x.world.mapped) is, ap (λ (x : Instance). x.world.limit) is);
    backs = λ k i later found found_later has.
        let is : later ≡ i = same_Some later i (sym found_later ∙ found) in
        subst (λ (x : Instance). is_back x ≡ false) is has;
    columns = λ k i found. all-same s.common.memory i.world.mapped;
  }

  follows-turns : (s : Shared) → AreSafe behind s → (acts : List Act) → Follows behind s (turns acts s)
  follows-turns s safe acts = turns-keep (Follows behind s)
      (λ now j one c t there unended running made follows. follows-step s safe now j one c t there unended running made follows)
      (λ now j one there done unreleased follows. follows-release s now j one there done unreleased follows)
      acts s (follows-none s safe)

  safe-after : (s now : Shared) → AreSafe behind s → Follows behind s now → AreSafe behind now
  safe-after s now safe follows = record {
    separate = follows.separate;
    fine = λ k later found_later has.
        let inside : k < length s.instances = let there = slice_get_within now.instances k later found_later in omega (arith, follows.many) in
        let first = found-in s.instances k inside in
        let led = follows.reached k first.0 later first.1 found_later in
        fine-after led.0 (moment_of first.0 s.common.memory) (moment_of later now.common.memory)
        (held-led led.0 (moment_of first.0 s.common.memory) (moment_of later now.common.memory) (is_back later) has led.2)
        (safe.fine k first.0 first.1 (follows.backs k first.0 later first.1 found_later has));
  }

  pub safe-turns : (s : Shared) (acts : List Act) → AreSafe behind s → AreSafe behind (turns acts s)
  safe-turns s acts safe = safe-after s (turns acts s) safe (follows-turns s safe acts)

  pub safe-step : (s : Shared) (j : ℕ) (one : Instance) (c : Config) (t : Next) → slice_get s.instances j ≡ Some one →
      is_some one.end ≡ false → one.state ≡ Running c → next (grants one.world) (placing s.common) c s.common.memory ≡ Some t → AreSafe behind s → AreSafe behind (after_step s j one t)
  safe-step s j one c t there unended running made safe =
      safe-after s (after_step s j one t) safe (follows-step s safe s j one c t there unended running made (follows-none s safe))

  pub safe-release : (s : Shared) (j : ℕ) (one : Instance) → slice_get s.instances j ≡ Some one → one.end ≡ Some Done → one.released ≡ false → AreSafe behind s →
      AreSafe behind (with_instance s j (given one s.common))
  safe-release s j one there done unreleased safe =
      safe-after s (with_instance s j (given one s.common)) safe (follows-release s s j one there done unreleased (follows-none s safe))

  -- a step that an instance can make now is fine
  pub fine-now : (s : Shared) → AreSafe behind s → (k : ℕ) (i : Instance) (c : Config) (t : Next) → slice_get s.instances k ≡ Some i → is_back i ≡ false →
      i.state ≡ Running c → next (grants i.world) (placing s.common) c s.common.memory ≡ Some t → IsFine i.world t.event
  fine-now s safe k i c t found held running made = safe.fine k i found held 0 (moment_of i s.common.memory) c s.common.memory t.event t.state t.memory
      (begins (moment_of i s.common.memory)) (open-step s safe.separate k i c t found held running made)

  pub runs-turns : (s : Shared) (acts : List Act) → AreSafe behind s → (k : ℕ) (i later : Instance) → slice_get s.instances k ≡ Some i →
      slice_get (turns acts s).instances k ≡ Some later →
      (i.ran ≤ later.ran) × LeadsTo (later.ran - i.ran) (moment_of i s.common.memory) (moment_of later (turns acts s).common.memory) (is_back later)
  runs-turns s acts safe k i later found found_later =
      let led = (follows-turns s safe acts).reached k i later found found_later in
      let count : led.0 ≡ later.ran - i.ran = omega (arith, led.1) in (
        omega (arith, led.1),
        subst (λ (n : ℕ). LeadsTo n (moment_of i s.common.memory) (moment_of later (turns acts s).common.memory) (is_back later)) count led.2,
      )

  pub worlds-turns : (s : Shared) (acts : List Act) → AreSafe behind s →
      EachAfter (λ i later. (later.world.mapped ≡ i.world.mapped) × (later.world.limit ≡ i.world.limit)) s (turns acts s)
  worlds-turns s acts safe k i later found found_later = (follows-turns s safe acts).worlds k i later found found_later

  pub columns-turns : (s : Shared) (acts : List Act) → AreSafe behind s →
      EachInstance (λ i. AllByRecursion (SameIn s.common.memory (turns acts s).common.memory) i.world.mapped) s
  columns-turns s acts safe k i found = (follows-turns s safe acts).columns k i found

  -- an instance that has its pages and behaves goes on to behave, whatever turns there are
  pub behaves-turns : (s : Shared) (acts : List Act) → AreSafe behind s → (k : ℕ) (i later : Instance) → slice_get s.instances k ≡ Some i →
      slice_get (turns acts s).instances k ≡ Some later → is_back later ≡ false → (left : ℕ) (P : Moment → Type 0) → IsKeptByOthers P → later.ran - i.ran ≤ left →
      Behaves left P (moment_of i s.common.memory) → Behaves (left - (later.ran - i.ran)) P (moment_of later (turns acts s).common.memory)
  behaves-turns s acts safe k i later found found_later has left P kept le behaves =
      behaves-after (later.ran - i.ran) left P kept le (moment_of i s.common.memory) (moment_of later (turns acts s).common.memory)
      (held-led (later.ran - i.ran) (moment_of i s.common.memory) (moment_of later (turns acts s).common.memory) (is_back later) has
      (runs-turns s acts safe k i later found found_later).1) behaves

  pub within-turns : (s : Shared) (acts : List Act) → AreSafe behind s → (k : ℕ) (i later : Instance) → slice_get s.instances k ≡ Some i →
      slice_get (turns acts s).instances k ≡ Some later → is_back later ≡ false → (most pages left : ℕ) (P : Moment → Type 0) → IsKeptByOthers P → later.ran - i.ran ≤ left →
      BehavesWithin most pages left P (moment_of i s.common.memory) →
      BehavesWithin (most - (later.ran - i.ran)) pages (left - (later.ran - i.ran)) P (moment_of later (turns acts s).common.memory)
  within-turns s acts safe k i later found found_later has most pages left P kept le behaves =
      within-after (later.ran - i.ran) most pages left P kept le (moment_of i s.common.memory) (moment_of later (turns acts s).common.memory)
      (held-led (later.ran - i.ran) (moment_of i s.common.memory) (moment_of later (turns acts s).common.memory) (is_back later) has
      (runs-turns s acts safe k i later found found_later).1) behaves

  -- ---- an octet in no own area, and in no page that is free
  stays-step : (s : Shared) (address : ℕ) (now : Shared) (j : ℕ) (one : Instance) (c : Config) (t : Next) → slice_get now.instances j ≡ Some one →
      is_some one.end ≡ false → one.state ≡ Running c → next (grants one.world) (placing now.common) c now.common.memory ≡ Some t → StaysAt behind s now address →
      StaysAt behind s (after_step now j one t) address
  stays-step s address now j one c t there unended running made stays =
      let held : is_back one ≡ false = unended-held one unended in
      let separate : AreSeparate behind now = stays.safe.separate in
      let fine : IsFine one.world t.event = fine-now now stays.safe j one c t there held running made in
      let gains = gains-put now separate j one c t there held running made in
      let later : Instance = moved_by one now.common t in
      let flags : Common = record { memory = t.memory; free = flags_after now.common t.event } in
      let own_out : lies_in_one one.world.own address ≡ false = rw (held-own one held) at (stays.outside j one there) in
      let page_there : address / page < length now.common.free = let w = stays.within in omega (arith, w, separate.flags, separate.whole) in
      let gained_out : lies_in_one gains.gained address ≡ false =
      gained-out behind now.common.free flags.free gains.gained gains.taken gains.new address page_there stays.not_free in
      let put_out : lies_in_one later.world.own address ≡ false = rw (gains.own_is) (lies-in-none one.world.own gains.gained address own_out gained_out) in
      let taken : AllByRecursion (IsTaken behind flags.free) later.world.own =
      put_taken behind now separate j one (record later { end = None }) flags there (held-own one held) refl gains in
      let unfree : slice_get flags.free (address / page) ≢ Some true = λ h. stays.not_free (gains.fewer (address / page) h) in
      record {
        safe = safe-step now j one c t there unended running made stays.safe;
        within = let longer = gains.longer in omega (arith, longer, stays.within);
        outside = each-step (λ k i. lies_in_one (own_of i) address ≡ false) now j one t there
            (⊎_elim (λ back. rw back refl) (λ not_back. rw not_back put_out) (cases_Bool (is_back later)))
            (λ k i elsewhere found. stays.outside k i found);
        not_free = ⊎_elim
            (λ back. rw back (λ h. unfree (sym (back-outside behind flags.free later.world.own address taken put_out) ∙ h)))
            (λ not_back. rw not_back unfree)
            (cases_Bool (is_back later));
        same = octet-step now separate j one c t there held running made fine address stays.within put_out ∙ stays.same;
      }

  stays-release : (s : Shared) (address : ℕ) (now : Shared) (j : ℕ) (one : Instance) → slice_get now.instances j ≡ Some one → one.end ≡ Some Done → one.released ≡ false →
      StaysAt behind s now address → StaysAt behind s (with_instance now j (given one now.common)) address
  stays-release s address now j one there done unreleased stays =
      let held : own_of one ≡ one.world.own = held-own one (done-held one done unreleased) in
      let separate : AreSeparate behind now = stays.safe.separate in
      let out : lies_in_one one.world.own address ≡ false = rw held at (stays.outside j one there) in
      let taken : AllByRecursion (IsTaken behind now.common.free) one.world.own = rw held at (separate.own j one there) in
      record {
        safe = safe-release now j one there done unreleased stays.safe;
        within = stays.within;
        outside = each-put (λ k i. lies_in_one (own_of i) address ≡ false) now j one (given one now.common) there
            (rw (released-back one done) refl)
            (λ k i elsewhere found. stays.outside k i found);
        not_free = λ h. stays.not_free (sym (back-outside behind now.common.free one.world.own address taken out) ∙ h);
        same = stays.same;
      }

  pub others-turns : (s : Shared) (acts : List Act) (address : ℕ) → AreSafe behind s → address < length s.common.memory →
      EachInstance (λ i. lies_in_one (own_of i) address ≡ false) s → slice_get s.common.free (address / page) ≢ Some true →
      slice_index (turns acts s).common.memory address ≡ slice_index s.common.memory address
  others-turns s acts address safe within outside not_free = (turns-keep (λ (now : Shared). StaysAt behind s now address)
      (λ now j one c t there unended running made stays. stays-step s address now j one c t there unended running made stays)
      (λ now j one there done unreleased stays. stays-release s address now j one there done unreleased stays)
      acts s (record { safe = safe; within = within; outside = outside; not_free = not_free; same = refl })).same

  -- so is one before the page from which on all but columns lies
  pub front-turns : (s : Shared) (acts : List Act) (address : ℕ) → AreSafe behind s → address < behind * page →
      slice_index (turns acts s).common.memory address ≡ slice_index s.common.memory address
  front-turns s acts address safe below =
      let separate : AreSeparate behind s = safe.separate in
      others-turns s acts address safe (let there = separate.there in omega (arith, there, below, separate.whole))
      (λ k i found. lies-ahead (own_of i) (behind * page)
      (all-weaker (IsTaken behind s.common.free) (λ (a : Area). behind * page ≤ a.start) (λ a t. omega (arith, t.start_is, t.behind_is)) (own_of i) (separate.own k i found)) address below)
      (λ free. let low = separate.free_behind (address / page) free in omega (arith, low, below))
