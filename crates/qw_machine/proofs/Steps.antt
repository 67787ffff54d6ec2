-- An instruction executed, and what it finishes left, are a step.
use Rattle.std.proofs.Common.{◌≡◌, ◌<◌, ⊎_elim, ℕ, length, List, true, false, Option, None, Some, is_some, ◌||◌, refl, sym, ap, ◌∙◌, subst}
use Rattle.std.proofs.lemmas.Bool.{cases_Bool, or_cases, false≢true}
use Rattle.std.proofs.lemmas.Option.{none-some}
use Rattle.qw_module.specs.declared.module.Module.{Module}
use Rattle.qw_machine.specs.declared.room.Rooms.{Rooms}
use Rattle.qw_machine.specs.declared.stepped.RunEnd.{RunEnd}
use Rattle.qw_machine.specs.declared.stepped.Stepped.{Stepped}
use Rattle.qw_machine.specs.declared.stepped.Stepped.TheVariants as stepped
use Rattle.qw_module.specs.Execution.{Config, State, Running, Event, Silent, Loads, Stores, Grows, AsksHost, Raises, Traps}
use Rattle.qw_module.specs.Step.{Next}
use Rattle.qw_machine.specs.Instance.{IsAnswer, IsNoAsk, IsNoRequest, Went, asked_by}
use Rattle.qw_machine.specs.Inner.Points.{Point, instructions_at, state_at, config_at}
use Rattle.qw_machine.specs.Inner.Placed.{IsRunning}
use Rattle.qw_machine.specs.Inner.Activities.{WentOn, IsDoneAt, IsLeft, IsStepped}
use Rattle.qw_machine.specs.Inner.Ended.{run_end_of, is_over, state_after, WhileRunning}
use Rattle.qw_machine.proofs.Points.{state_at-running}

-- ---- what an end says of the run
pub over-while : (end : Option RunEnd) → is_some end ≡ true → (P : Type 0) → WhileRunning end P
over-while None over P = absurd (false≢true over)
over-while (Some end) over P = tt

pub running-while : (end : Option RunEnd) → is_some end ≡ false → (P : Type 0) → P → WhileRunning end P
running-while None runs P p = p
running-while (Some end) runs P p = tt

pub state_after-running : (end : Option RunEnd) → is_some end ≡ false → (s : State) → state_after end s ≡ s
state_after-running None runs s = refl
state_after-running (Some end) runs s = absurd (false≢true (sym runs))

-- ---- what an answer says of requests to the host
no-request : (event : Event) → IsNoRequest event → IsNoAsk event
no-request Silent none = tt
no-request (Loads address width) none = tt
no-request (Stores address width) none = tt
no-request (Grows pages granted) none = absurd none
no-request (AsksHost pages first) none = absurd none
no-request (Raises code) none = tt
no-request (Traps why) none = tt

going-asks-none : (answer : Stepped) (memory : List ℕ) (event : Event) (c : Config) → IsAnswer answer memory event (Running c) → IsNoAsk event
going-asks-none stepped.Ran memory event c told = no-request event told
going-asks-none (stepped.Grew at pages) memory event c told = rw (told.0) tt
going-asks-none (stepped.Refused pages) memory event c told = rw told tt
going-asks-none (stepped.Asked pages) memory event c told = absurd told
going-asks-none stepped.Returned memory event c told = absurd told
going-asks-none (stepped.Raised code) memory event c told = absurd told
going-asks-none (stepped.Trapped why) memory event c told = absurd told

over-asks-none : (answer : Stepped) → is_over answer ≡ true → asked_by answer ≡ None
over-asks-none stepped.Ran over = refl
over-asks-none (stepped.Grew at pages) over = refl
over-asks-none (stepped.Refused pages) over = refl
over-asks-none (stepped.Asked pages) over = absurd (false≢true over)
over-asks-none stepped.Returned over = refl
over-asks-none (stepped.Raised code) over = refl
over-asks-none (stepped.Trapped why) over = refl

pub asked-runs : (answer : Stepped) (pages : ℕ) → asked_by answer ≡ Some pages → run_end_of answer ≡ None
asked-runs stepped.Ran pages asks = refl
asked-runs (stepped.Grew at gained) pages asks = refl
asked-runs (stepped.Refused refused) pages asks = refl
asked-runs (stepped.Asked asked) pages asks = refl
asked-runs stepped.Returned pages asks = absurd (none-some pages asks)
asked-runs (stepped.Raised code) pages asks = absurd (none-some pages asks)
asked-runs (stepped.Trapped why) pages asks = absurd (none-some pages asks)

-- a step that goes on leads to what its state is
went-on : (spare : ℕ) (c running : Config) (memory after : List ℕ) (s t : State) (answer : Stepped) → WentOn spare c memory s after answer →
    s ≡ t → t ≡ Running running → Went spare c memory t after answer
went-on spare c running memory after s t answer leads same is = record {
  event = leads.event;
  made = λ place. leads.made place ∙ ap (λ (x : State). let n : Next = record { event = leads.event; state = x; memory = after } in Some n) same;
  no_ask = going-asks-none answer memory leads.event running (leads.answered running);
  answered = rw is (leads.answered running);
}

module _ (m : Module) (rooms : Rooms) (spare : ℕ) (p q : Point) (memory after : List ℕ) (answer : Stepped) where
  -- an instruction that ended the run is a step
  pub stepped-over : is_over answer ≡ true → IsDoneAt m rooms spare p memory answer q after → IsStepped m rooms spare p memory answer q after
  stepped-over over executed =
      let none = over-asks-none answer over in
      record {
        running = over-while (run_end_of answer) over (IsRunning m rooms q);
        asks = rw none tt;
        went = rw none (rw (none, over) at executed);
      }

  -- and one that asks the host stays where it is
  pub stepped-asked : (pages : ℕ) → asked_by answer ≡ Some pages → IsDoneAt m rooms spare p memory answer q after → IsStepped m rooms spare p memory answer q after
  stepped-asked pages asks executed =
      let goes = asked-runs answer pages asks in
      let d = rw asks at executed in
      record {
        running = rw (goes, d.3) d.0;
        asks = rw (asks, d.3) d.1;
        went = rw asks (d.2, rw (goes, d.3) (state_at-running m p d.0.unfinished), d.4);
      }

  -- an instruction executed, and what it finishes left, are a step
  pub stepped-left : (between : Rooms) (r : Point) → between ≡ rooms → is_over answer ≡ false → asked_by answer ≡ None → IsDoneAt m rooms spare p memory answer q after →
      IsLeft m between q true r → IsStepped m rooms spare p memory answer r after
  stepped-left between r same runs none executed left =
      let goes = rw (none, runs) at executed in
      let running : IsRunning m rooms r = subst (λ (x : Rooms). IsRunning m x r) same left.0 in
      let went : Went spare (config_at m p) memory (state_at m r) after answer =
      went-on spare (config_at m p) (config_at m r) memory after (state_at m q) (state_at m r) answer
      goes.1 left.1 (state_at-running m r running.unfinished) in
      record {
        running = running-while (run_end_of answer) runs (IsRunning m rooms r) running;
        asks = rw none tt;
        went = rw none (rw (state_after-running (run_end_of answer) runs (state_at m r)) went);
      }

  -- or `run` is left
  pub stepped-returned : (between : Rooms) (r : Point) → is_over answer ≡ false → asked_by answer ≡ None → IsDoneAt m rooms spare p memory answer q after →
      IsLeft m between q false r → IsStepped m rooms spare p memory stepped.Returned r after
  stepped-returned between r runs none executed left =
      let goes = rw (none, runs) at executed in
      record {
        running = tt;
        asks = tt;
        went = record {
          event = goes.1.event;
          made = λ place. goes.1.made place ∙ ap (λ (x : State). let n : Next = record { event = goes.1.event; state = x; memory = after } in Some n) left;
          no_ask = going-asks-none answer memory goes.1.event (config_at m p) (goes.1.answered (config_at m p));
          answered = tt;
        };
      }

  -- an instruction executed before the end of its sequence finishes nothing
  pub stepped-within : q.index < length (instructions_at m q.function q.sequence) → IsDoneAt m rooms spare p memory answer q after →
      IsStepped m rooms spare p memory answer q after
  stepped-within inside executed = by-asked (asked_by answer) refl where
    by-asked : (asked : Option ℕ) → asked_by answer ≡ asked → IsStepped m rooms spare p memory answer q after
    by-asked None none = ⊎_elim
        (λ over. stepped-over over executed)
        (λ (runs : is_over answer ≡ false).
        let goes = rw (none, runs) at executed in
        let running : IsRunning m rooms q = record { point = goes.0; unfinished = inside } in
        stepped-left rooms q refl runs none executed (running, refl))
        (cases_Bool (is_over answer))
    by-asked (Some pages) asks = stepped-asked pages asks executed

  -- an instruction that finishes nothing since the run is over, or the host is asked
  pub stepped-halted : (is_over answer || is_some (asked_by answer)) ≡ true → IsDoneAt m rooms spare p memory answer q after → IsStepped m rooms spare p memory answer q after
  stepped-halted halts executed = ⊎_elim
      (λ over. stepped-over over executed)
      (λ asks. asked (asked_by answer) refl asks)
      (or_cases (is_over answer) (is_some (asked_by answer)) halts) where
        asked : (o : Option ℕ) → asked_by answer ≡ o → is_some (asked_by answer) ≡ true → IsStepped m rooms spare p memory answer q after
        asked None none some = absurd (false≢true (ap is_some (sym none) ∙ some))
        asked (Some pages) asks some = stepped-asked pages asks executed

-- one that doesn't halt
pub not-halted : (answer : Stepped) → (is_over answer || is_some (asked_by answer)) ≡ false → (is_over answer ≡ false) × (asked_by answer ≡ None)
not-halted stepped.Ran goes = (refl, refl)
not-halted (stepped.Grew at pages) goes = (refl, refl)
not-halted (stepped.Refused pages) goes = (refl, refl)
not-halted (stepped.Asked pages) goes = absurd (false≢true (sym goes))
not-halted stepped.Returned goes = absurd (false≢true (sym goes))
not-halted (stepped.Raised code) goes = absurd (false≢true (sym goes))
not-halted (stepped.Trapped why) goes = absurd (false≢true (sym goes))
