-- Every open run of a statement's code is the statement's run, and what others do changes nothing of its counts and requests.
use Rattle.std.proofs.Common.{◌≡◌, ℕ, zero, suc, ◌+◌, Bool, true, false, List, [], ◌∷◌, Option, Some, None, is_some, refl, sym, ap, ◌∙◌, subst, inr, arith}
use Rattle.qw_module.specs.Syntax.{done}
use Rattle.qw_module.specs.Execution.{Store, Context, label, Config, State, Running, Returned, Raised, Trapped, IsOver, Event, Silent, Loads, Stores, Grows, AsksHost, Raises, Traps}
use Rattle.qw_module.specs.Step.{Next, next}
use Rattle.qw_map.specs.Areas.{World, grants, world_after}
use Rattle.qw_map.specs.Runs.{Moment, moment_after, OpenStep, OpenRun, begins, goes_on}
use Rattle.qw_map.specs.Inner.Steps.{IsAllowed, OnStep, OnRunning, Within}
use Rattle.qw_map.proofs.OpenRuns.{place_at, place-at, open-next, behaves_within}
use Rattle.qw_low.specs.Syntax.{Statement}
use Rattle.qw_low.specs.State.{LowState}
use Rattle.qw_low.specs.Meaning.{Outcome, Completed, Exited, Stopped, Wrong, Unfinished, meaning}
use Rattle.qw_low.specs.Translation.{statement_code}
use Rattle.qw_low.specs.Inner.Exact.{IsQuiet, OnQuiet, OnAsked, Exactly, Rest, end_of_run, asks, Path, Then, Takes}
use Rattle.qw_low.specs.Places.{AreMeant, StandsFor, IsOutcome, EndsAfter, EndsCounted, RunsAs, HasHosts, IsDone, beginning}
use Rattle.qw_low.proofs.ExactSteps.{there}
use Rattle.qw_low.proofs.ExpressionRuns.{standing}
use Rattle.qw_low.proofs.Paths.{steps, length_of, total, AreCounted, Counts, counts}
use Rattle.qw_low.proofs.StatementRuns.{RunsTo, statement_runs}

-- ---- a path, step by step: what is left of it after so many, and what they make of the pages held and of the last refused request
abbrev pub left : (quiet : ℕ) → Rest → Path
left (suc n) r = record { quiet = n; rest = r }
left zero (asks asked granted n r) = record { quiet = n; rest = r }
left zero end_of_run = record { quiet = 0; rest = end_of_run }

abbrev pub held_then : (quiet : ℕ) → Rest → ℕ → ℕ
held_then (suc n) r held = held
held_then zero (asks asked true n r) held = held + asked
held_then zero (asks asked false n r) held = held
held_then zero end_of_run held = held

abbrev pub refused_then : (quiet : ℕ) → Rest → Option ℕ → Option ℕ
refused_then (suc n) r refused = refused
refused_then zero (asks asked true n r) refused = refused
refused_then zero (asks asked false n r) refused = Some asked
refused_then zero end_of_run refused = refused

abbrev pub path_after : ℕ → Path → Path
path_after zero p = p
path_after (suc k) p = let q = path_after k p in left q.quiet q.rest

abbrev pub held_after : ℕ → Path → ℕ → ℕ
held_after zero p held = held
held_after (suc k) p held = let q = path_after k p in held_then q.quiet q.rest (held_after k p held)

abbrev pub refused_after : ℕ → Path → Option ℕ → Option ℕ
refused_after zero p refused = refused
refused_after (suc k) p refused = let q = path_after k p in refused_then q.quiet q.rest (refused_after k p refused)

quiet-made : (Q : Moment → Type 0) (w : World) (before : List ℕ) (made : Option Next) (event : Event) (state : State) (after : List ℕ) →
    made ≡ Some (record { event = event; state = state; memory = after }) → OnQuiet w before Q made → IsQuiet w event × Q (moment_after w before event state after)
quiet-made Q w before made event state after e h = rw e at h

asked-made : (pages asked : ℕ) (granted : Bool) (Q : Moment → Type 0) (w : World) (before : List ℕ) (made : Option Next) (event : Event) (state : State) (after : List ℕ) →
    made ≡ Some (record { event = event; state = state; memory = after }) → OnAsked pages asked granted w before Q made →
    (first : Option ℕ) × (event ≡ AsksHost asked first) × (is_some first ≡ granted) × Q (moment_after w before event state after)
asked-made pages asked granted Q w before made event state after e h = let all = rw e at h in (all.0, all.1, all.2, all.4)

-- a step that asks for no pages leaves the world as it is
quiet-world : (w : World) (before : List ℕ) (event : Event) → IsQuiet w event → world_after w before event ≡ w
quiet-world w before Silent quiet = refl
quiet-world w before (Loads address width) quiet = refl
quiet-world w before (Stores address width) quiet = refl
quiet-world w before (Grows pages granted) quiet = absurd quiet
quiet-world w before (AsksHost pages first) quiet = absurd quiet
quiet-world w before (Raises code) quiet = refl
quiet-world w before (Traps why) quiet = refl

running-over : (s : State) (c : Config) → s ≡ Running c → IsOver s → ⊥
running-over s c running over = subst IsOver running over

-- where a run is after so many steps
pub record IsOn (pages : ℕ) (Q : Moment → Type 0) (p : Path) (held : ℕ) (refused : Option ℕ) (b : Moment) : Type 0 where
  pub takes : Takes pages Q p b
  pub held_is : b.world.held ≡ held
  pub refused_is : b.world.refused ≡ refused

module _ (pages : ℕ) (Q : Moment → Type 0) (ended : (b : Moment) → Q b → IsOver b.state) where
  one_more : (quiet : ℕ) (r : Rest) (held : ℕ) (refused : Option ℕ) (b : Moment) (c : Config) (before : List ℕ) (event : Event) (state : State) (after : List ℕ) →
      OpenStep b c before event state after → IsOn pages Q (record { quiet = quiet; rest = r }) held refused b →
      IsOn pages Q (left quiet r) (held_then quiet r held) (refused_then quiet r refused) (moment_after b.world before event state after)
      × (quiet + length_of r ≡ suc (total (left quiet r)))
  one_more zero end_of_run held refused b c before event state after step h = absurd (running-over b.state c step.running (ended b h.takes))
  one_more (suc n) r held refused b c before event state after step h =
      let made = quiet-made (Exactly (Then pages Q r) n) b.world before (next (grants b.world) (place_at before event) c before) event state after (open-next b c before event state after step)
      ((rw (step.running) at h.takes) before step.others (place_at before event) (place-at b.world before event step.placed)) in
      let same = quiet-world b.world before event made.0 in (
        record { takes = made.1; held_is = ap (λ (w : World). w.held) same ∙ h.held_is; refused_is = ap (λ (w : World). w.refused) same ∙ h.refused_is },
        omega arith,
      )
  one_more zero (asks asked granted n r) held refused b c before event state after step h =
      let made = asked-made pages asked granted (Exactly (Then pages Q r) n) b.world before (next (grants b.world) (place_at before event) c before) event state after
      (open-next b c before event state after step) ((rw (step.running) at h.takes) before step.others (place_at before event) (place-at b.world before event step.placed)) in (
        subst (λ (g : Bool). IsOn pages Q (record { quiet = n; rest = r }) (held_then zero (asks asked g n r) held) (refused_then zero (asks asked g n r) refused) (moment_after b.world before event state after))
            made.2 (by_answer made.0 made.1 made.3),
        omega arith,
      )
    where
      by_answer : (first : Option ℕ) → event ≡ AsksHost asked first → Exactly (Then pages Q r) n (moment_after b.world before event state after) →
          IsOn pages Q (record { quiet = n; rest = r }) (held_then zero (asks asked (is_some first) n r) held) (refused_then zero (asks asked (is_some first) n r) refused) (moment_after b.world before event state after)
      by_answer (Some first) is takes = record {
        takes = takes;
        held_is = ap (λ (e : Event). (world_after b.world before e).held) is ∙ ap (λ (n : ℕ). n + asked) h.held_is;
        refused_is = ap (λ (e : Event). (world_after b.world before e).refused) is ∙ h.refused_is;
      }
      by_answer None is takes = record {
        takes = takes;
        held_is = ap (λ (e : Event). (world_after b.world before e).held) is ∙ h.held_is;
        refused_is = ap (λ (e : Event). (world_after b.world before e).refused) is;
      }

  -- an open run keeps to the path
  pub along : (p : Path) (k : ℕ) (a b : Moment) → OpenRun k a b → Takes pages Q p a →
      IsOn pages Q (path_after k p) (held_after k p a.world.held) (refused_after k p a.world.refused) b × (total (path_after k p) + k ≡ total p)
  along p _ _ _ (begins a) h = (record { takes = h; held_is = refl; refused_is = refl }, omega arith)
  along p _ _ _ (goes_on k a b c before event state after run step) h =
      let here = along p k a b run h in
      let q = path_after k p in
      let there = one_more q.quiet q.rest (held_after k p a.world.held) (refused_after k p a.world.refused) b c before event state after step here.0 in
      (there.0, let one = there.1 in let all = here.1 in omega (arith, one, all))

  none_left : (quiet : ℕ) (r : Rest) (b : Moment) → IsOver b.state → Takes pages Q (record { quiet = quiet; rest = r }) b → quiet + length_of r ≡ 0
  none_left zero end_of_run b is h = refl
  none_left (suc n) r b is h = absurd (over_stays b.state refl)
    where
      over_stays : (s : State) → b.state ≡ s → ⊥
      over_stays (Running c) running = running-over b.state c running is
      over_stays Returned now = rw now at h
      over_stays (Raised code) now = rw now at h
      over_stays (Trapped why) now = rw now at h
  none_left zero (asks asked granted n r) b is h = absurd (over_stays b.state refl)
    where
      over_stays : (s : State) → b.state ≡ s → ⊥
      over_stays (Running c) running = running-over b.state c running is
      over_stays Returned now = rw now at h
      over_stays (Raised code) now = rw now at h
      over_stays (Trapped why) now = rw now at h

  -- ---- so it behaves
  quiet-allowed : (w : World) (before : List ℕ) (P P' : Moment → Type 0) (made : Option Next) → ((b : Moment) → P b → P' b) → OnQuiet w before P made → OnStep pages w before P' made
  quiet-allowed w before P P' None more h = h
  quiet-allowed w before P P' (Some t) more h = (allowed t.event h.0, more _ h.1)
    where
      allowed : (e : Event) → IsQuiet w e → IsAllowed pages w e t.state
      allowed Silent quiet = quiet
      allowed (Loads address width) quiet = quiet
      allowed (Stores address width) quiet = quiet
      allowed (Grows asked granted) quiet = absurd quiet
      allowed (AsksHost asked first) quiet = absurd quiet
      allowed (Raises code) quiet = quiet
      allowed (Traps why) quiet = quiet

  asked-allowed : (w : World) (before : List ℕ) (asked : ℕ) (granted : Bool) (P P' : Moment → Type 0) (made : Option Next) → ((b : Moment) → P b → P' b) →
      OnAsked pages asked granted w before P made → OnStep pages w before P' made
  asked-allowed w before asked granted P P' None more h = h
  asked-allowed w before asked granted P P' (Some t) more h = (subst (λ (e : Event). IsAllowed pages w e t.state) (sym h.1) h.3, more _ h.4)

  OnRunning-more : (P P' : Config → Type 0) (s : State) → ((c : Config) → P c → P' c) → OnRunning s P → OnRunning s P'
  OnRunning-more P P' (Running c) weaker h = weaker c h
  OnRunning-more P P' Returned weaker h = h
  OnRunning-more P P' (Raised code) weaker h = h
  OnRunning-more P P' (Trapped why) weaker h = h

  exactly-within : (P : Moment → Type 0) (m : ℕ) → ((b : Moment) → P b → Within pages Q m b) → (n k : ℕ) → n + m ≡ k → (b : Moment) → Exactly P n b → Within pages Q k b
  exactly-within P m last zero k is b h = subst (λ (i : ℕ). Within pages Q i b) (let same : m ≡ k = omega (arith, is) in same) (last b h)
  exactly-within P m last (suc n) zero is b h = absurd (omega (arith, is))
  exactly-within P m last (suc n) (suc k) is b h = inr (OnRunning-more _ _ b.state
      (λ c steps before others place placed. quiet-allowed b.world before (Exactly P n) (Within pages Q k) (next (grants b.world) place c before)
      (exactly-within P m last n k (omega (arith, is))) (steps before others place placed)) h)

  then-within : (r : Rest) (b : Moment) → Then pages Q r b → Within pages Q (length_of r) b
  then-within end_of_run b h = h
  then-within (asks asked granted n r) b h = inr (OnRunning-more _ _ b.state
      (λ c steps before others place placed. asked-allowed b.world before asked granted (Exactly (Then pages Q r) n) (Within pages Q (n + length_of r)) (next (grants b.world) place c before)
      (exactly-within (Then pages Q r) (length_of r) (then-within r) n (n + length_of r) refl) (steps before others place placed)) h)

  pub ends_after : (p : Path) (n : ℕ) → total p ≡ n → (a : Moment) → Takes pages Q p a → EndsAfter n pages Q a
  ends_after p n is a h = record {
    behaves = behaves_within pages Q ended (total p) n n (omega (arith, is)) a (exactly-within (Then pages Q p.rest) (length_of p.rest) (then-within p.rest) p.quiet (total p) refl a h);
    exactly = λ k b run over.
        let here = along p k a b run h in
        let q = path_after k p in
        let none = none_left q.quiet q.rest b over here.0.takes in
        let all = here.1 in omega (arith, all, none, is);
  }

abbrev whole_call : List Context
whole_call = label done 0 [] done ∷ []

pub outcome-over : (out : Outcome) (b : Moment) → IsOutcome out b → IsOver b.state
outcome-over (Completed n s) b h = subst IsOver (sym h.0) tt
outcome-over (Exited n s) b h = subst IsOver (sym h.0) tt
outcome-over (Stopped code n s) b h = subst IsOver (sym h.0) tt
outcome-over Wrong b h = absurd h
outcome-over Unfinished b h = absurd h

module _ (pages fuel : ℕ) (a : Statement) (s : LowState) (store : Store) (imported : HasHosts store) where
  -- the path of the state's run
  abbrev pub path : Path
  path = steps pages fuel a done s 0 end_of_run

  module _ (w : World) (memory xs : List ℕ) (stands : StandsFor w s memory) (are : AreMeant w s.locals xs) where
    abbrev start : Moment
    start = beginning store w a xs memory

    by_outcome : (out : Outcome) →
        ((Q : Moment → Type 0) → ((b : Moment) → Q b → IsOver b.state) → RunsTo pages Q store out (steps pages fuel a done s) w (StandsFor w s) (standing store (statement_code a done) [] xs whole_call) (λ ys. standing store done [] ys whole_call)) →
        IsDone out → Takes pages (IsOutcome out) path start
    by_outcome (Completed n t) runs comes =
        (runs (IsOutcome (Completed n t)) (outcome-over (Completed n t)) 0 end_of_run (λ w' ys are'. there (IsOutcome (Completed n t)) w' (StandsFor w' t) Returned (λ m h. (refl, h)))).steps memory stands
    by_outcome (Exited n t) runs comes = (runs (IsOutcome (Exited n t)) (outcome-over (Exited n t)) 0 end_of_run (λ w'. there (IsOutcome (Exited n t)) w' (StandsFor w' t) Returned (λ m h. (refl, h)))).steps memory stands
    by_outcome (Stopped code n t) runs comes =
        (runs (IsOutcome (Stopped code n t)) (outcome-over (Stopped code n t)) 0 end_of_run (λ w'. there (IsOutcome (Stopped code n t)) w' (StandsFor w' t) (Raised code) (λ m h. (refl, h)))).steps memory stands
    by_outcome Wrong runs comes = absurd comes
    by_outcome Unfinished runs comes = absurd comes

    -- every memory that stands for the state leads along the same path to its outcome
    pub takes_path : IsDone (meaning pages fuel a s) → Takes pages (IsOutcome (meaning pages fuel a s)) path start
    takes_path = by_outcome (meaning pages fuel a s) (λ Q over. statement_runs pages Q store over imported fuel a s w xs are whole_call refl done)

    -- so each open run ends after exactly as many instructions as the path has
    pub ends_on_path : IsDone (meaning pages fuel a s) → EndsAfter (total path) pages (IsOutcome (meaning pages fuel a s)) start
    ends_on_path comes =
        ends_after pages (IsOutcome (meaning pages fuel a s)) (outcome-over (meaning pages fuel a s)) path (total path) refl start (takes_path comes)

    ends_counted : (n : ℕ) (Q : Moment → Type 0) → AreCounted n (steps pages fuel a done s) → EndsAfter (total path) pages Q start → EndsCounted n pages Q start
    ends_counted n Q counted ends =
        let all = counted 0 end_of_run in
        record { count = total path; most = omega (arith, all.0); least = omega (arith, all.1); ends = ends }

    runs_as : (out : Outcome) → Counts out (steps pages fuel a done s) → (IsDone out → EndsAfter (total path) pages (IsOutcome out) start) → RunsAs out pages start
    runs_as (Completed n t) counted ends = ends_counted n (IsOutcome (Completed n t)) counted (ends tt)
    runs_as (Exited n t) counted ends = ends_counted n (IsOutcome (Exited n t)) counted (ends tt)
    runs_as (Stopped code n t) counted ends = ends_counted n (IsOutcome (Stopped code n t)) counted (ends tt)
    runs_as Wrong counted ends = tt
    runs_as Unfinished counted ends = tt

pub low_runs : (pages fuel : ℕ) (a : Statement) (s : LowState) (store : Store) (w : World) (memory xs : List ℕ) → HasHosts store → StandsFor w s memory → AreMeant w s.locals xs →
    RunsAs (meaning pages fuel a s) pages (beginning store w a xs memory)
low_runs pages fuel a s store w memory xs imported stands are =
    runs_as pages fuel a s store imported w memory xs stands are (meaning pages fuel a s) (counts pages fuel a done s) (ends_on_path pages fuel a s store imported w memory xs stands are)
