-- Steps made one after another are a run.
use Rattle.std.proofs.Common.{◌≡◌, ℕ, zero, suc, ◌+◌, ◌-◌, ◌≤◌, ◌<◌, nat_le, Bool, List, length, Option, None, Some, is_some, IfSome, refl, sym, ap, subst, ◌∙◌, arith}
use Rattle.qw_linear.proofs.MemoryFacts.{length-with_number}
use Rattle.qw_module.specs.Numbers.{truth}
use Rattle.qw_module.specs.declared.module.Module.{Module}
use Rattle.qw_machine.specs.declared.room.Rooms.{Rooms}
use Rattle.qw_machine.specs.declared.stepped.Run.{Run}
use Rattle.qw_machine.specs.declared.stepped.Stepped.{Stepped}
use Rattle.qw_machine.specs.declared.stepped.Stepped.TheVariants.{Ran}
use Rattle.qw_module.specs.Execution.{Config, State, Running, Returned, Raised, Trapped, Event}
use Rattle.qw_module.specs.Step.{Want, Next, wants}
use Rattle.qw_machine.specs.Instance.{ComesBy, IsAnswer, IsNoRequest, Runs, Went, asked_by}
use Rattle.qw_machine.specs.Inner.Points.{Point, instructions_at, state_at, config_at}
use Rattle.qw_machine.specs.Inner.Placed.{IsRunning}
use Rattle.qw_machine.specs.Inner.Activities.{Counts, IsDoneAt, IsStepped, IsRun}
use Rattle.qw_machine.specs.Inner.Ended.{run_end_of, state_after, WhileRunning}
use Rattle.qw_module.proofs.Outcomes.{Outcome, went, read, read_outside, put, put_outside, measured, was_granted, was_refused, host_granted, host_refused, raised, failed, outcome}
use Rattle.qw_machine.proofs.Points.{state_at-running}
use Rattle.qw_machine.proofs.Steps.{stepped-within}

-- a step that is no request keeps the memory's length
outcome-kept : (grants : ℕ → Bool) (place : ℕ → ℕ) (m : List ℕ) (w : Want) (n : Next) → Outcome grants place m w n → IsNoRequest n.event → length n.memory ≡ length m
outcome-kept _ _ _ _ _ (went grants place m s) none = refl
outcome-kept _ _ _ _ _ (read grants place m address width make inside) none = refl
outcome-kept _ _ _ _ _ (read_outside grants place m address width make outside) none = refl
outcome-kept _ _ _ _ _ (put grants place m address width value s inside) none = length-with_number m address width value
outcome-kept _ _ _ _ _ (put_outside grants place m address width value s outside) none = refl
outcome-kept _ _ _ _ _ (measured grants place m make) none = refl
outcome-kept _ _ _ _ _ (was_granted grants place m pages make is room) none = absurd none
outcome-kept _ _ _ _ _ (was_refused grants place m pages make is) none = absurd none
outcome-kept _ _ _ _ _ (host_granted grants place m pages make is there) none = absurd none
outcome-kept _ _ _ _ _ (host_refused grants place m pages make is) none = absurd none
outcome-kept _ _ _ _ _ (raised grants place m code) none = refl
outcome-kept _ _ _ _ _ (failed grants place m why) none = refl

-- and an answer `Ran` tells of none
ran-none : (memory : List ℕ) (event : Event) (state : State) → IsAnswer Ran memory event state → IsNoRequest event
ran-none memory event (Running c) told = told
ran-none memory event Returned told = absurd told
ran-none memory event (Raised code) told = absurd told
ran-none memory event (Trapped why) told = absurd told

pub ran-keeps-length : (spare : ℕ) (c : Config) (memory after : List ℕ) (state : State) → Went spare c memory state after Ran → length after ≡ length memory
ran-keeps-length spare c memory after state stepped =
    let grants : ℕ → Bool = λ pages. nat_le pages spare in
    let place : ℕ → ℕ = λ pages. 0 in
    let led : Next = record { event = stepped.event; state = state; memory = after } in
    outcome-kept grants place memory (wants c) led (outcome grants place memory (wants c) led (stepped.made place)) (ran-none memory stepped.event state stepped.answered)

-- so do many steps
pub runs-keep-length : (spare steps : ℕ) (c : Config) (memory after : List ℕ) (state : State) → Runs spare steps c memory state after Ran → length after ≡ length memory
runs-keep-length spare zero c memory after state runs = ap length runs.1
runs-keep-length spare (suc steps) c memory after state runs =
    ran-keeps-length spare runs.0 runs.1 after state runs.3 ∙ runs-keep-length spare steps c memory runs.1 (Running runs.0) runs.2

-- ---- steps after steps
runs-after : (spare first second : ℕ) (c d : Config) (memory between after : List ℕ) (state : State) (answer : Stepped) →
    Runs spare first c memory (Running d) between Ran → Runs spare second d between state after answer → Runs spare (second + first) c memory state after answer
runs-after spare first zero c d memory between after state answer runs more =
    let none : first ≡ zero + first = omega arith in
    subst (λ (n : ℕ). Runs spare n c memory state after answer) none (rw (more.0, more.1, more.2) runs)
runs-after spare first (suc second) c d memory between after state answer runs more =
    let one_more : suc (second + first) ≡ suc second + first = omega arith in
    subst (λ (n : ℕ). Runs spare n c memory state after answer) one_more
    (more.0, more.1, runs-after spare first second c d memory between more.1 (Running more.0) Ran runs more.2, more.3)

-- steps each of which was made are counted
pub counted : (spare steps : ℕ) (c : Config) (memory after : List ℕ) (state : State) → Runs spare steps c memory state after Ran → Counts spare steps c memory state after Ran
counted spare zero c memory after state runs = runs
counted spare (suc steps) c memory after state runs = runs

pub uncounted : (spare steps : ℕ) (c : Config) (memory after : List ℕ) (state : State) → Counts spare steps c memory state after Ran → Runs spare steps c memory state after Ran
uncounted spare zero c memory after state runs = runs
uncounted spare (suc steps) c memory after state runs = runs

counts-after : (spare first second : ℕ) (c d : Config) (memory between after : List ℕ) (state : State) (answer : Stepped) →
    Runs spare first c memory (Running d) between Ran → Counts spare second d between state after answer → Counts spare (second + first) c memory state after answer
counts-after spare first zero c d memory between after state answer runs more =
    let none : first ≡ zero + first = omega arith in
    subst (λ (n : ℕ). Counts spare n c memory state after answer) none (rw (more.0, more.1, more.2) (counted spare first c memory between (Running d) runs))
counts-after spare first (suc second) c d memory between after state answer runs more =
    let one_more : suc (second + first) ≡ suc second + first = omega arith in
    subst (λ (n : ℕ). Counts spare n c memory state after answer) one_more
    (more.0, more.1, runs-after spare first second c d memory between more.1 (Running more.0) Ran runs more.2, more.3)

-- what was counted was made, or the last one asks the host
pub comes-by : (spare steps : ℕ) (c : Config) (memory after : List ℕ) (state : State) (answer : Stepped) (made : ℕ) →
    made ≡ steps - truth (is_some (asked_by answer)) → Counts spare steps c memory state after answer → ComesBy spare made c memory state after answer
comes-by spare zero c memory after state answer made made_is counts =
    let none : asked_by answer ≡ None = ap asked_by (counts.2) in
    let same : made ≡ 0 = omega (arith, made_is) in
    rw (none, same) counts
comes-by spare (suc steps) c memory after state answer made made_is counts = by-asked (asked_by answer) refl where
  by-asked : (asked : Option ℕ) → asked_by answer ≡ asked → ComesBy spare made c memory state after answer
  by-asked None none =
      let same : made ≡ suc steps = omega (arith, rw none at made_is) in
      let came : Went spare counts.0 counts.1 state after answer = rw none at counts.3 in
      rw (none, same) (counts.0, counts.1, counts.2, came)
  by-asked (Some pages) asks =
      let same : made ≡ steps = omega (arith, rw asks at made_is) in
      let came = rw asks at counts.3 in
      rw (asks, same, came.2) (counts.0, came.1, came.0, counts.2)

-- where the last one asks, there is one
pub asks-some : (spare steps : ℕ) (c : Config) (memory after : List ℕ) (state : State) (answer : Stepped) → Counts spare steps c memory state after answer →
    IfSome (asked_by answer) (λ pages. 1 ≤ steps)
asks-some spare zero c memory after state answer counts = rw (ap asked_by (counts.2)) tt
asks-some spare (suc steps) c memory after state answer counts = by-asked (asked_by answer) where
  by-asked : (asked : Option ℕ) → IfSome asked (λ pages. 1 ≤ suc steps)
  by-asked None = tt
  by-asked (Some pages) = omega arith

-- one step is a run
run-one : (m : Module) (rooms : Rooms) (spare : ℕ) (p q : Point) (memory after : List ℕ) (answer : Stepped) → IsRunning m rooms p →
    IsStepped m rooms spare p memory answer q after → IsRun m rooms spare 1 p memory (record { steps = 1; last = answer }) q after
run-one m rooms spare p q memory after answer is stepped = record {
  running = stepped.running;
  asks = stepped.asks;
  runs = (config_at m p, memory, (refl, refl, refl), stepped.went);
  few = omega arith;
}

module _ (m : Module) (rooms : Rooms) (spare most : ℕ) (p : Point) (memory : List ℕ) where
  -- no step was made yet
  pub run-none : (steps : ℕ) → steps ≡ 0 → IsRunning m rooms p → IsRun m rooms spare most p memory (record { steps = steps; last = Ran }) p memory
  run-none steps none is = rw none (record { running = is; asks = tt; runs = (state_at-running m p is.unfinished, refl, refl); few = omega arith })

  -- a run after one that goes on
  pub run-after : (steps left next : ℕ) (q r : Point) (between after : List ℕ) (more : Run) (within : Rooms) → within ≡ rooms →
      IsRun m rooms spare most p memory (record { steps = steps; last = Ran }) q between → IsRun m within spare left q between more r after →
      next ≡ steps + more.steps → steps + left ≤ most → IsRun m rooms spare most p memory (record { steps = next; last = more.last }) r after
  run-after steps left next q r between after more within same first second counted fits =
      let counted_on : more.steps + steps ≡ next = omega (arith, counted) in
      let runs : Runs spare steps (config_at m p) memory (Running (config_at m q)) between Ran =
      subst (λ (s : State). Runs spare steps (config_at m p) memory s between Ran) (state_at-running m q first.running.unfinished)
      (uncounted spare steps (config_at m p) memory between (state_at m q) first.runs) in
      let ended : State = state_after (run_end_of more.last) (state_at m r) in
      record {
        running = subst (λ (x : Rooms). WhileRunning (run_end_of more.last) (IsRunning m x r)) same second.running;
        asks = second.asks;
        runs = subst (λ (n : ℕ). Counts spare n (config_at m p) memory ended after more.last) counted_on
            (counts-after spare steps more.steps (config_at m p) (config_at m q) memory between after ended more.last runs second.runs);
        few = omega (arith, counted, fits, second.few);
      }

  -- while it goes on, the memory keeps its length
  pub run-keeps-length : (steps : ℕ) (q : Point) (after : List ℕ) → IsRun m rooms spare most p memory (record { steps = steps; last = Ran }) q after → length after ≡ length memory
  run-keeps-length steps q after run =
      runs-keep-length spare steps (config_at m p) memory after (state_at m q) (uncounted spare steps (config_at m p) memory after (state_at m q) run.runs)

  -- a step after a run that goes on
  pub run-step : (steps next : ℕ) (q r : Point) (between after : List ℕ) (answer : Stepped) (within : Rooms) → within ≡ rooms →
      IsRun m rooms spare most p memory (record { steps = steps; last = Ran }) q between → IsStepped m within spare q between answer r after →
      next ≡ steps + 1 → steps + 1 ≤ most → IsRun m rooms spare most p memory (record { steps = next; last = answer }) r after
  run-step steps next q r between after answer within same first stepped counted fits =
      let running : IsRunning m within q = subst (λ (x : Rooms). IsRunning m x q) (sym same) first.running in
      let one : Run = record { steps = 1; last = answer } in
      run-after steps 1 next q r between after one within same first (run-one m within spare q r between after answer running stepped) counted fits

  -- an operator with a further instruction after it
  pub run-operator : (steps next : ℕ) (q r : Point) (between after : List ℕ) (answer : Stepped) →
      IsRun m rooms spare most p memory (record { steps = steps; last = Ran }) q between → IsDoneAt m rooms spare q between answer r after →
      r.index < length (instructions_at m r.function r.sequence) → next ≡ steps + 1 → steps + 1 ≤ most →
      IsRun m rooms spare most p memory (record { steps = next; last = answer }) r after
  run-operator steps next q r between after answer first executed inside counted fits =
      run-step steps next q r between after answer rooms refl first (stepped-within m rooms spare q r between after answer inside executed) counted fits

  -- what is known of its last answer
  pub run-told : (run : Run) (q : Point) (after : List ℕ) → run.last ≡ Ran → IsRun m rooms spare most p memory run q after →
      IsRun m rooms spare most p memory (record { steps = run.steps; last = Ran }) q after
  run-told run q after ran is = subst (λ (a : Stepped). IsRun m rooms spare most p memory (record { steps = run.steps; last = a }) q after) ran is

  -- a run that goes on after one that does
  pub run-on : (steps left next : ℕ) (q r : Point) (between after : List ℕ) (more : Run) (within : Rooms) → within ≡ rooms →
      IsRun m rooms spare most p memory (record { steps = steps; last = Ran }) q between → IsRun m within spare left q between more r after →
      next ≡ steps + more.steps → steps + left ≤ most → more.last ≡ Ran → IsRun m rooms spare most p memory (record { steps = next; last = Ran }) r after
  run-on steps left next q r between after more within same first second counted fits ran =
      run-told (record { steps = next; last = more.last }) r after ran (run-after steps left next q r between after more within same first second counted fits)

-- at most so many steps are at most more
pub run-within : (m : Module) (rooms : Rooms) (spare few most : ℕ) (p q : Point) (memory after : List ℕ) (run : Run) → few ≤ most →
    IsRun m rooms spare few p memory run q after → IsRun m rooms spare most p memory run q after
run-within m rooms spare few most p q memory after run fits is = record { running = is.running; asks = is.asks; runs = is.runs; few = omega (arith, fits, is.few) }
