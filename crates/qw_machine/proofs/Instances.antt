-- What a step of the activity says of the instance.
use Rattle.std.proofs.Common.{◌≡◌, ℕ, ◌<◌, ◌^◌, List, Bool, true, false, Option, None, Some, is_some, IfSome, refl, sym, ap, ◌∙◌, subst}
use Rattle.std.specs.Bool.{MatchBool}
use Rattle.std.proofs.lemmas.Bool.{false≢true}
use Rattle.qw_machine.specs.declared.activity.Activity.{Activity}
use Rattle.qw_machine.specs.declared.machine.Instance.TheInside.{Inside}
use Rattle.qw_machine.specs.declared.stepped.Run.{Run}
use Rattle.qw_machine.specs.declared.stepped.Stepped.{Stepped}
use Rattle.qw_machine.specs.declared.stepped.Stepped.TheVariants.{Ran}
use Rattle.qw_machine.specs.declared.stepped.RunEnd.{RunEnd}
use Rattle.qw_machine.specs.declared.stepped.RunEnd.TheVariants as end
use Rattle.qw_module.specs.declared.module.Module.{Module}
use Rattle.qw_module.specs.Execution.{Config, State, Running, Returned, IsOver}
use Rattle.qw_module.specs.Step.{AsksPlace, wants}
use Rattle.qw_machine.specs.Inner.Points.{state_at, config_at, point_of, after_answer}
use Rattle.qw_machine.specs.Inner.Rooms.{rooms_of}
use Rattle.qw_machine.specs.Inner.Placed.{IsAsking, IsRunning}
use Rattle.qw_machine.specs.Inner.Activities.{IsLeft, IsRun, IsStepped}
use Rattle.qw_machine.specs.Inner.Ended.{end_by, made_of, run_end_of, state_after, WhileRunning}
use Rattle.qw_machine.specs.Inner.Held.{state_of, IsHeld}
use Rattle.qw_machine.specs.Instance.{AsksFor, Comes, ComesBy, IsLast, asked_by}
use Rattle.qw_machine.proofs.Calls.{pages-asked, told-state}
use Rattle.qw_machine.proofs.Points.{state_at-running}
use Rattle.qw_machine.proofs.Runs.{comes-by}
use Rattle.qw_machine.proofs.Steps.{asked-runs}

-- ---- what an end says of the run
while-running : (end : Option RunEnd) → is_some end ≡ false → (P : Type 0) → WhileRunning end P → P
while-running None runs P p = p
while-running (Some end) runs P p = absurd (false≢true (sym runs))

state_after-running : (end : Option RunEnd) → is_some end ≡ false → (s : State) → state_after end s ≡ s
state_after-running None runs s = refl
state_after-running (Some end) runs s = absurd (false≢true (sym runs))

-- who asks the host runs
asking : (m : Module) (activity : Activity) (answer : Stepped) → IfSome (asked_by answer) (IsAsking m (point_of activity)) →
    IfSome (asked_by answer) (λ pages. (run_end_of answer ≡ None) × IsAsking m (point_of activity) pages)
asking m activity answer asks = by-asked (asked_by answer) refl asks where
  by-asked : (asked : Option ℕ) → asked_by answer ≡ asked → IfSome asked (IsAsking m (point_of activity)) →
      IfSome asked (λ pages. (run_end_of answer ≡ None) × IsAsking m (point_of activity) pages)
  by-asked None none is = tt
  by-asked (Some pages) some is = (asked-runs answer pages some, is)

-- after its end, nothing runs
over-is : (end : Option RunEnd) → is_some end ≡ true → (s : State) → IsOver (state_after end s)
over-is None over s = absurd (false≢true over)
over-is (Some end.Returned) over s = tt
over-is _ over s = tt

pub over-not-running : (i : Inside) → is_some i.ended ≡ true → (c : Config) → state_of i ≡ Running c → ⊥
over-not-running i over c same = subst IsOver same (over-is i.ended over (state_at i.valid (point_of i.activity)))

-- and before that, the instance is at a point that runs
module _ (i : Inside) (runs : is_some i.ended ≡ false) (held : IsHeld i) where
  pub running-point : IsRunning i.valid (rooms_of i.activity) (point_of i.activity)
  running-point = while-running i.ended runs (IsRunning i.valid (rooms_of i.activity) (point_of i.activity)) held.running

  state-running : state_of i ≡ Running (config_at i.valid (point_of i.activity))
  state-running = state_after-running i.ended runs (state_at i.valid (point_of i.activity))
      ∙ state_at-running i.valid (point_of i.activity) running-point.unfinished

  config-is : (c : Config) → state_of i ≡ Running c → config_at i.valid (point_of i.activity) ≡ c
  config-is c same =
      let whole : Running (config_at i.valid (point_of i.activity)) ≡ Running c = sym state-running ∙ same in
      cc whole

  pub last-running : IsLast Ran (state_of i)
  last-running = rw state-running tt

  pub not-over : IsOver (state_of i) → ⊥
  not-over over = subst IsOver state-running over

  -- a step of the activity is one of the instance
  module _ (spare : ℕ) (memory after : List ℕ) (answer : Stepped) (ended : Option RunEnd) (asked : Option ℕ) (told : ended ≡ run_end_of answer)
      (asks : asked ≡ asked_by answer) (activity : Activity)
      (is : IsStepped i.valid (rooms_of i.activity) spare (point_of i.activity) memory answer (point_of activity) after) where
    abbrev then : Inside
    then = record { valid = i.valid; imported = i.imported; ended = ended; asked = asked; activity = activity }

    pub went-from : (c : Config) → state_of i ≡ Running c → Comes spare c memory (state_of then) after answer
    went-from c same = subst (λ (x : Config). Comes spare x memory (state_of then) after answer) (config-is c same) (rw told is.went)

    pub goes-on : rooms_of activity ≡ rooms_of i.activity → IsHeld then
    goes-on same = record {
      executed = held.executed;
      imported = held.imported;
      running = rw (told, same) is.running;
      asks = rw (asks, told) (asking i.valid activity answer is.asks);
    }

  -- and so are many
  module _ (spare most : ℕ) (memory after : List ℕ) (run : Run) (ended : Option RunEnd) (asked : Option ℕ) (told : ended ≡ run_end_of run.last)
      (asks : asked ≡ asked_by run.last) (activity : Activity)
      (is : IsRun i.valid (rooms_of i.activity) spare most (point_of i.activity) memory run (point_of activity) after) where
    abbrev after_run : Inside
    after_run = record { valid = i.valid; imported = i.imported; ended = ended; asked = asked; activity = activity }

    pub ran-from : (c : Config) → state_of i ≡ Running c → ComesBy spare (made_of run) c memory (state_of after_run) after run.last
    ran-from c same =
        subst (λ (x : Config). ComesBy spare (made_of run) x memory (state_of after_run) after run.last) (config-is c same)
        (comes-by spare run.steps (config_at i.valid (point_of i.activity)) memory after (state_of after_run) run.last (made_of run) refl (rw told is.runs))

    pub runs-on : rooms_of activity ≡ rooms_of i.activity → IsHeld after_run
    runs-on same = record {
      executed = held.executed;
      imported = held.imported;
      running = rw (told, same) is.running;
      asks = rw (asks, told) (asking i.valid activity run.last is.asks);
    }

-- ---- the host's answer to what was asked
module _ (i : Inside) (held : IsHeld i) (owed : (pages : ℕ) × (i.asked ≡ Some pages)) where
  owed-is : (i.ended ≡ None) × IsAsking i.valid (point_of i.activity) owed.0
  owed-is = rw owed.1 at held.asks

  owed-runs : is_some i.ended ≡ false
  owed-runs = ap is_some owed-is.0

  pub owed-asking : (pages : ℕ) × IsAsking i.valid (point_of i.activity) pages
  owed-asking = (owed.0, owed-is.1)

  pub owed-point : IsRunning i.valid (rooms_of i.activity) (point_of i.activity)
  owed-point = running-point i owed-runs held

  abbrev asked : IsAsking i.valid (point_of i.activity) owed.0
  asked = owed-is.1

  -- what is asked for is what was asked for
  pub owed-asks : IfSome i.asked (λ pages. (c : Config) × (state_of i ≡ Running c) × AsksFor pages c)
  owed-asks = rw owed.1 (
    config_at i.valid (point_of i.activity),
    state-running i owed-runs held,
    pages-asked i.valid held.executed owed-point.point asked.index asked.calls asked.host owed.0 asked.others asked.operands_are,
  )

  module _ (value : ℕ) (small : value < 2 ^ 32) (activity : Activity) (goes : Bool) (same : rooms_of activity ≡ rooms_of i.activity)
      (left : IsLeft i.valid (rooms_of i.activity) (after_answer (point_of i.activity) value) goes (point_of activity)) where
    abbrev given : Bool → Inside
    given on = record { valid = i.valid; imported = i.imported; ended = end_by on; asked = None; activity = activity }

    pub given-held : IsHeld (given goes)
    given-held = by-goes goes left where
      by-goes : (on : Bool) → IsLeft i.valid (rooms_of i.activity) (after_answer (point_of i.activity) value) on (point_of activity) → IsHeld (given on)
      by-goes true is = record { executed = held.executed; imported = held.imported; running = rw same is.0; asks = tt }
      by-goes false is = record { executed = held.executed; imported = held.imported; running = tt; asks = tt }

    given-is : state_at i.valid (after_answer (point_of i.activity) value) ≡ state_of (given goes)
    given-is = by-goes goes left where
      by-goes : (on : Bool) → IsLeft i.valid (rooms_of i.activity) (after_answer (point_of i.activity) value) on (point_of activity) →
          state_at i.valid (after_answer (point_of i.activity) value) ≡ state_of (given on)
      by-goes true is = is.1
      by-goes false is = is

    pub given-state : (c : Config) (pages : ℕ) (make : ℕ → State) → state_of i ≡ Running c → wants c ≡ AsksPlace pages make → state_of (given goes) ≡ make value
    given-state c pages make state wanted =
        sym given-is
        ∙ told-state i.valid held.executed owed-point.point asked.index asked.calls asked.host value small pages make (subst (λ (x : Config). wants x ≡ AsksPlace pages make) (sym (config-is i owed-runs held c state)) wanted)

    pub given-goes : MatchBool goes ((c : Config) × (state_of (given goes) ≡ Running c)) (state_of (given goes) ≡ Returned)
    given-goes = by-goes goes left where
      by-goes : (on : Bool) → IsLeft i.valid (rooms_of i.activity) (after_answer (point_of i.activity) value) on (point_of activity) →
          MatchBool on ((c : Config) × (state_of (given on) ≡ Running c)) (state_of (given on) ≡ Returned)
      by-goes true is = (config_at i.valid (point_of activity), state_at-running i.valid (point_of activity) is.0.unfinished)
      by-goes false is = refl
