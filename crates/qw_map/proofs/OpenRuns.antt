-- At most so many steps, and what they say of every open run.
use Rattle.std.proofs.Common.{◌≡◌, ℕ, zero, suc, ◌+◌, ◌-◌, ◌*◌, ◌≤◌, ◌==◌, if◌then◌else◌, true, inl, inr, nat_le, List, length, Option, Some, None, Bool, refl, sym, ◌∙◌, subst, ⊎_elim, arith}
use Rattle.std.proofs.lemmas.Bool.{cases_Bool, le-leb, leb-true, and_from, eq-eqb, eqb-true, false≢true}
use Rattle.qw_module.specs.Execution.{Config, State, Running, Returned, Raised, Trapped, IsPlaceIn, Event, Silent, Loads, Stores, Grows, AsksHost, Raises, Traps, IsOver}
use Rattle.qw_linear.specs.Memory.{page, most_pages, pages_of}
use Rattle.qw_module.specs.Step.{Want, wants, can_place, answered, Next, next, Agrees}
use Rattle.qw_map.specs.Areas.{World, Others, IsFine, AsksWithin, IsAnswered, IsPlaced, IsPlace, grants}
use Rattle.qw_map.specs.Inner.Steps.{IsAllowed}
use Rattle.qw_map.specs.Runs.{Moment, moment_after, OpenStep, OpenRun, begins, goes_on, BehavesWithin}
use Rattle.qw_map.specs.Inner.Steps.{OnStep, OnRunning, Within}
use Rattle.qw_module.proofs.Outcomes.{Outcome, went, read, read_outside, put, put_outside, measured, was_granted, was_refused, host_granted, host_refused, raised, failed, place-can, outcome}
use Rattle.qw_module.proofs.Steps.{next-rule, rule_from_next}

OnRunning-more : (P Q : Config → Type 0) (s : State) → ((c : Config) → P c → Q c) → OnRunning s P → OnRunning s Q
OnRunning-more P Q (Running c) weaker h = weaker c h
OnRunning-more P Q Returned weaker h = h
OnRunning-more P Q (Raised code) weaker h = h
OnRunning-more P Q (Trapped why) weaker h = h

module _ (pages : ℕ) where
  -- what holds after the steps may be weakened
  OnStep-more : (P Q : Moment → Type 0) (w : World) (before : List ℕ) (made : Option Next) → ((b : Moment) → P b → Q b) →
      OnStep pages w before P made → OnStep pages w before Q made
  OnStep-more P Q w before None weaker h = h
  OnStep-more P Q w before (Some t) weaker h = (h.0, weaker _ h.1)

  -- Q at once is Q within any number of steps
  pub Within-now : (Q : Moment → Type 0) (n : ℕ) (a : Moment) → Q a → Within pages Q n a
  Within-now Q zero a h = h
  Within-now Q (suc n) a h = inl h

  -- one part after another, within the sum or more
  pub Within-then : (P Q : Moment → Type 0) (n : ℕ) → ((k : ℕ) (b : Moment) → n ≤ k → P b → Within pages Q k b) → (m k : ℕ) → m + n ≤ k → (a : Moment) →
      Within pages P m a → Within pages Q k a
  Within-then P Q n following zero k le a h = following k a (omega arith) h
  Within-then P Q n following (suc m) zero le a h = absurd (omega arith)
  Within-then P Q n following (suc m) (suc k) le a (inl h) = following (suc k) a (omega arith) h
  Within-then P Q n following (suc m) (suc k) le a (inr h) = inr (OnRunning-more _ _ a.state
      (λ c steps before others place placed. OnStep-more (Within pages P m) (Within pages Q k) a.world before (next (grants a.world) place c before)
      (Within-then P Q n following m k (omega arith)) (steps before others place placed)) h)

  -- a greater number of steps
  pub Within-more : (Q : Moment → Type 0) (m k : ℕ) → m ≤ k → (a : Moment) → Within pages Q m a → Within pages Q k a
  Within-more Q m k le a h = Within-then Q Q 0 (λ j b low q. Within-now Q j b q) m k (omega arith) a h

  -- a loop, where each turn of at most `each` steps leaves one turn less
  pub Within-loop : (I : ℕ → Moment → Type 0) (Q : Moment → Type 0) (each last : ℕ) → ((k : ℕ) (b : Moment) → I (suc k) b → Within pages (I k) each b) →
      ((b : Moment) → I 0 b → Within pages Q last b) → (k n : ℕ) → k * each + last ≤ n → (a : Moment) → I k a → Within pages Q n a
  Within-loop I Q each last turn end zero n le a h = Within-more Q last n (omega arith) a (end a h)
  Within-loop I Q each last turn end (suc k) n le a h =
      Within-then (I k) Q (k * each + last) (λ j b low rest. Within-loop I Q each last turn end k j low b rest) each n (omega arith) a (turn k a h)

-- where a step was made, it is the one that is computed
step-made : (pages : ℕ) (Q : Moment → Type 0) (w : World) (before : List ℕ) (made : Option Next) (event : Event) (state : State) (after : List ℕ) →
    made ≡ Some (record { event = event; state = state; memory = after }) → OnStep pages w before Q made →
    IsAllowed pages w event state × Q (moment_after w before event state after)
step-made pages Q w before made event state after e h = rw e at h

step-there : (pages : ℕ) (Q : Moment → Type 0) (w : World) (before : List ℕ) (made : Option Next) → OnStep pages w before Q made → (t : Next) × (made ≡ Some t)
step-there pages Q w before None h = absurd h
step-there pages Q w before (Some t) h = (t, refl)

-- a step that is allowed is fine, and its request stays within the pages
pub allowed-fine : (pages : ℕ) (w : World) (event : Event) (state : State) → IsAllowed pages w event state → IsFine w event
allowed-fine pages w Silent state allowed = allowed
allowed-fine pages w (Loads address width) state allowed = allowed
allowed-fine pages w (Stores address width) state allowed = allowed
allowed-fine pages w (Grows asked granted) state allowed = tt
allowed-fine pages w (AsksHost asked first) state allowed = tt
allowed-fine pages w (Raises code) state allowed = allowed
allowed-fine pages w (Traps why) state allowed = allowed

pub allowed-asks : (pages : ℕ) (w : World) (event : Event) (state : State) → IsAllowed pages w event state → AsksWithin pages w event state
allowed-asks pages w Silent state allowed = tt
allowed-asks pages w (Loads address width) state allowed = tt
allowed-asks pages w (Stores address width) state allowed = tt
allowed-asks pages w (Grows asked granted) state allowed = allowed
allowed-asks pages w (AsksHost asked first) state allowed = allowed
allowed-asks pages w (Raises code) state allowed = tt
allowed-asks pages w (Traps why) state allowed = tt

-- A memory has room for what an instance may still ask for. So a growth is granted exactly where the limit lets it.
abbrev pub HasRoom : World → List ℕ → Type 0
HasRoom w memory = length memory + (w.limit - w.held) * page ≤ most_pages * page

pub room-granted : (w : World) (memory : List ℕ) → HasRoom w memory → (asked : ℕ) → grants w asked ≡ true →
    nat_le (pages_of memory + asked) most_pages ≡ true
room-granted w memory room asked granted =
    let within : w.held + asked ≤ w.limit = leb-true (w.held + asked) w.limit granted in
    le-leb (pages_of memory + asked) most_pages (omega arith)

-- and a request to the host so too, at a place that it may give
room-place : (w : World) (memory : List ℕ) → HasRoom w memory → (asked first : ℕ) → grants w asked ≡ true → IsPlaced w memory (AsksHost asked (Some first)) →
    IsPlaceIn memory first asked
room-place w memory room asked first granted (inl next) =
    let within : w.held + asked ≤ w.limit = leb-true (w.held + asked) w.limit granted in
    (omega (arith, room, next), inl next)
room-place w memory room asked first granted (inr (there, free)) = (omega (arith, room, there), inr there)

pub room-placed : (w : World) (memory : List ℕ) → HasRoom w memory → (place : ℕ → ℕ) → IsPlace w memory place → (asked : ℕ) → grants w asked ≡ true →
    can_place (place asked) asked memory ≡ true
room-placed w memory room place placed asked granted =
    place-can (place asked) asked memory (room-place w memory room asked (place asked) granted (placed asked granted))

-- what is answered rightly, and placed as it may be
abbrev pub IsRight : World → List ℕ → Event → Type 0
IsRight w memory event = IsAnswered w event × IsPlaced w memory event

outcome-answered : (w : World) (g : ℕ → Bool) (place : ℕ → ℕ) (memory : List ℕ) (want : Want) (t : Next) → Outcome g place memory want t →
    ((asked : ℕ) → g asked ≡ grants w asked) → ((asked : ℕ) → g asked ≡ true → nat_le (pages_of memory + asked) most_pages ≡ true) →
    ((asked : ℕ) → g asked ≡ true → can_place (place asked) asked memory ≡ true) →
    ((asked : ℕ) → g asked ≡ true → IsPlaced w memory (AsksHost asked (Some (place asked)))) → IsRight w memory t.event
outcome-answered w _ _ _ _ _ (went g place memory s) same room can placed = (tt, tt)
outcome-answered w _ _ _ _ _ (read g place memory address width make inside) same room can placed = (tt, tt)
outcome-answered w _ _ _ _ _ (read_outside g place memory address width make outside) same room can placed = (tt, tt)
outcome-answered w _ _ _ _ _ (put g place memory address width value s inside) same room can placed = (tt, tt)
outcome-answered w _ _ _ _ _ (put_outside g place memory address width value s outside) same room can placed = (tt, tt)
outcome-answered w _ _ _ _ _ (measured g place memory make) same room can placed = (tt, tt)
outcome-answered w _ _ _ _ _ (was_granted g place memory asked make is fits) same room can placed = (sym is ∙ same asked, tt)
outcome-answered w _ _ _ _ _ (was_refused g place memory asked make is) same room can placed = (
  ⊎_elim
      (λ grants_it. absurd (false≢true (sym is ∙ and_from (g asked) (nat_le (pages_of memory + asked) most_pages) grants_it (room asked grants_it))))
      (λ refuses_it. sym refuses_it ∙ same asked)
      (cases_Bool (g asked)),
  tt,
)
outcome-answered w _ _ _ _ _ (host_granted g place memory asked make is there) same room can placed = (sym is ∙ same asked, placed asked is)
outcome-answered w _ _ _ _ _ (host_refused g place memory asked make is) same room can placed = (
  ⊎_elim
      (λ grants_it. absurd (false≢true (sym is ∙ and_from (g asked) (can_place (place asked) asked memory) grants_it (can asked grants_it))))
      (λ refuses_it. sym refuses_it ∙ same asked)
      (cases_Bool (g asked)),
  tt,
)
outcome-answered w _ _ _ _ _ (raised g place memory code) same room can placed = (tt, tt)
outcome-answered w _ _ _ _ _ (failed g place memory why) same room can placed = (tt, tt)

pub answered-rightly : (w : World) (memory : List ℕ) → HasRoom w memory → (place : ℕ → ℕ) → IsPlace w memory place → (want : Want) (t : Next) →
    answered (grants w) place memory want ≡ Some t → IsRight w memory t.event
answered-rightly w memory room place placed want t e =
    outcome-answered w (grants w) place memory want t (outcome (grants w) place memory want t e) (λ asked. refl) (room-granted w memory room)
    (room-placed w memory room place placed) placed

-- a place at which the host gives what an event says, and else the memory's next pages
abbrev pub place_at : List ℕ → Event → ℕ → ℕ
place_at memory (AsksHost asked (Some first)) pages = if pages == asked then first else pages_of memory
place_at memory _ pages = pages_of memory

pub next-placed : (w : World) (memory : List ℕ) → IsPlace w memory (λ pages. pages_of memory)
next-placed w memory pages granted = inl refl

pub place-at : (w : World) (memory : List ℕ) (event : Event) → IsPlaced w memory event → IsPlace w memory (place_at memory event)
place-at w memory Silent placed = next-placed w memory
place-at w memory (Loads address width) placed = next-placed w memory
place-at w memory (Stores address width) placed = next-placed w memory
place-at w memory (Grows asked granted) placed = next-placed w memory
place-at w memory (AsksHost asked None) placed = next-placed w memory
place-at w memory (AsksHost asked (Some first)) placed = λ pages granted. ⊎_elim
    (λ here. let is : pages ≡ asked = eqb-true pages asked here in rw here (rw is placed))
    (λ elsewhere. rw elsewhere (inl refl))
    (cases_Bool (pages == asked))
place-at w memory (Raises code) placed = next-placed w memory
place-at w memory (Traps why) placed = next-placed w memory

-- a step of an open run is the one that is computed
agrees : (w : World) (memory : List ℕ) (event : Event) → IsAnswered w event → Agrees (grants w) (place_at memory event) event
agrees w memory Silent answered = tt
agrees w memory (Loads address width) answered = tt
agrees w memory (Stores address width) answered = tt
agrees w memory (Grows asked granted) answered = sym answered
agrees w memory (AsksHost asked None) answered = sym answered
agrees w memory (AsksHost asked (Some first)) answered = (sym answered, rw (eq-eqb asked asked refl) refl)
agrees w memory (Raises code) answered = tt
agrees w memory (Traps why) answered = tt

pub open-next : (a : Moment) (c : Config) (before : List ℕ) (event : Event) (state : State) (after : List ℕ) →
    OpenStep a c before event state after → next (grants a.world) (place_at before event) c before ≡ Some (record { event = event; state = state; memory = after })
open-next a c before event state after step =
    next-rule (grants a.world) (place_at before event) c before event state after step.step (agrees a.world before event step.answered)

still_running : (s : State) (c : Config) → s ≡ Running c → IsOver s → ⊥
still_running s c running over = subst IsOver running over

OnRunning-over : (P : Config → Type 0) (s : State) → IsOver s → OnRunning s P → ⊥
OnRunning-over P (Running c) over h = over
OnRunning-over P Returned over h = h
OnRunning-over P (Raised code) over h = h
OnRunning-over P (Trapped why) over h = h

module _ (pages : ℕ) (Q : Moment → Type 0) (ended : (b : Moment) → Q b → IsOver b.state) where
  -- an instance that runs, and has at most n steps to go, has a next one
  at_running : (n : ℕ) (b : Moment) (c : Config) → b.state ≡ Running c → Within pages Q n b →
      (j : ℕ) × (suc j ≡ n) × ((before : List ℕ) → Others b.world b.memory before → (place : ℕ → ℕ) → IsPlace b.world before place →
      OnStep pages b.world before (Within pages Q j) (next (grants b.world) place c before))
  at_running zero b c running h = absurd (still_running b.state c running (ended b h))
  at_running (suc n) b c running (inl h) = absurd (still_running b.state c running (ended b h))
  at_running (suc n) b c running (inr h) = (n, refl, rw running at h)

  at_end : (n : ℕ) (b : Moment) → IsOver b.state → Within pages Q n b → Q b
  at_end zero b over h = h
  at_end (suc n) b over (inl h) = h
  at_end (suc n) b over (inr h) = absurd (OnRunning-over _ b.state over h)

  -- every open run of a moment with at most n steps to go leads to one with fewer
  pub along : (n : ℕ) (k : ℕ) (a b : Moment) → OpenRun k a b → Within pages Q n a → (j : ℕ) × (j + k ≡ n) × Within pages Q j b
  along n _ _ _ (begins a) h = (n, omega arith, h)
  along n _ _ _ (goes_on k a b c before event state after run step) h =
      let here = along n k a b run h in
      let there = at_running here.0 b c step.running here.2 in
      let made = step-made pages (Within pages Q there.0) b.world before (next (grants b.world) (place_at before event) c before) event state after
      (open-next b c before event state after step) (there.2 before step.others (place_at before event) (place-at b.world before event step.placed)) in
      (there.0, omega (arith, there.1, here.1), made.1)

  -- the step that comes next in an open run is allowed
  pub allowed_along : (n : ℕ) (k : ℕ) (a b : Moment) (c : Config) (before : List ℕ) (event : Event) (state : State) (after : List ℕ) →
      OpenRun k a b → OpenStep b c before event state after → Within pages Q n a → IsAllowed pages b.world event state
  allowed_along n k a b c before event state after run step h =
      let here = along n k a b run h in
      let there = at_running here.0 b c step.running here.2 in
      (step-made pages (Within pages Q there.0) b.world before (next (grants b.world) (place_at before event) c before) event state after (open-next b c before event state after step)
      (there.2 before step.others (place_at before event) (place-at b.world before event step.placed))).0

  -- a moment from which at most n steps lead to an end behaves, and each end is what they lead to
  pub behaves_within : (n most left : ℕ) → n ≤ most → (a : Moment) → Within pages Q n a → BehavesWithin most pages left Q a
  behaves_within n most left le a h = record {
    goes_on = λ k b c before run running others.
        let here = along n k a b run h in
        let there = at_running here.0 b c running here.2 in
        let place : ℕ → ℕ = λ pages. pages_of before in
        let made = step-there pages (Within pages Q there.0) b.world before (next (grants b.world) place c before) (there.2 before others place (next-placed b.world before)) in
        let right = answered-rightly b.world before others.room place (next-placed b.world before) (wants c) made.0 made.1 in (
          made.0.event,
          made.0.state,
          made.0.memory,
          record {
            running = running;
            others = others;
            step = rule_from_next (grants b.world) place c before made.0 made.1;
            answered = right.0;
            placed = right.1;
          },
        );
    fine = λ k b c before event state after run step.
        allowed-fine pages b.world event state (allowed_along n k a b c before event state after run step h);
    asks = λ k b c before event state after run step.
        allowed-asks pages b.world event state (allowed_along n k a b c before event state after run step h);
    bounded = λ k b c run running.
        let here = along n k a b run h in
        let there = at_running here.0 b c running here.2 in
        omega (arith, there.1, here.1);
    ends = λ k b run over.
        let here = along n k a b run h in
        let end = at_end here.0 b over here.2 in
        (omega (arith, here.1), λ within. end);
  }
