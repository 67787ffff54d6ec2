-- An instance as its host sees it, and what a step of it answers.
use Rattle.std.specs.Prelude.{◌≡◌, ℕ, zero, suc, nat_le, true, false, List, Option, Some, None, MatchOption}
use Rattle.qw_module.specs.declared.module.Module.{Module}
use Rattle.qw_machine.specs.declared.stepped.Stepped.{Stepped}
use Rattle.qw_machine.specs.declared.stepped.Stepped.TheVariants.{Ran, Grew, Refused}
use Rattle.qw_machine.specs.declared.stepped.Stepped.TheVariants as stepped
use Rattle.qw_linear.specs.Memory.{pages_of}
use Rattle.qw_module.specs.Execution.{Config, State, Running, Returned, Raised, Trapped, Event, Grows, AsksHost}
use Rattle.qw_module.specs.Step.{AsksPlace, wants, next}

-- A call of a module's `run`: the module, the state that the call is in (4.2.12, 4.2.13), and for how many pages the host was asked
-- while it owes the answer.
pub record Called : Type 0 where
  pub program : Module
  pub state : State
  pub asked : Option ℕ

-- what is told of a state alone
abbrev pub IsLast : Stepped → State → Type 0
IsLast Ran (Running c) = Unit {0}
IsLast stepped.Returned Returned = Unit {0}
IsLast (stepped.Raised code) (Raised k) = code ≡ k
IsLast (stepped.Trapped why) (Trapped because) = why ≡ because
IsLast _ _ = ⊥

-- an event that is no request
abbrev pub IsNoRequest : Event → Type 0
IsNoRequest (Grows pages granted) = ⊥
IsNoRequest (AsksHost pages first) = ⊥
IsNoRequest _ = Unit {0}

-- an event that is no request to the host
abbrev pub IsNoAsk : Event → Type 0
IsNoAsk (AsksHost pages first) = ⊥
IsNoAsk _ = Unit {0}

-- What a step from a memory answers of its event and of the state that it leads to. A step that leaves `run` is told as
-- that alone.
abbrev pub IsAnswer : Stepped → List ℕ → Event → State → Type 0
IsAnswer Ran memory event (Running c) = IsNoRequest event
IsAnswer (Grew at pages) memory event (Running c) = (event ≡ Grows pages true) × (at ≡ pages_of memory)
IsAnswer (Refused pages) memory event (Running c) = event ≡ Grows pages false
IsAnswer stepped.Returned memory event Returned = Unit {0}
IsAnswer (stepped.Raised code) memory event (Raised k) = code ≡ k
IsAnswer (stepped.Trapped why) memory event (Trapped because) = why ≡ because
IsAnswer _ memory event _ = ⊥

-- A configuration made the step that the definition says, where exactly requests of at most `spare` pages are granted, and
-- it was answered. It was no request to the host, so it is the same wherever the host would place pages.
pub record Went (spare : ℕ) (c : Config) (before : List ℕ) (state : State) (after : List ℕ) (answer : Stepped) : Type 0 where
  pub event : Event
  pub made : (place : ℕ → ℕ) → next (λ pages. nat_le pages spare) place c before ≡ Some (record { event = event; state = state; memory = after })
  pub no_ask : IsNoAsk event
  pub answered : IsAnswer answer before event state

-- So many steps were made one after another from a configuration and a memory, each but the last answered `Ran`, the last one so.
-- None leads to the same configuration and memory, and is told as `Ran`.
abbrev pub Runs : (spare steps : ℕ) → Config → (before : List ℕ) → State → (after : List ℕ) → Stepped → Type 0
Runs spare zero c before state after answer = (state ≡ Running c) × (after ≡ before) × (answer ≡ Ran)
Runs spare (suc steps) c before state after answer =
    (d : Config) × (between : List ℕ) × Runs spare steps c before (Running d) between Ran × Went spare d between state after answer

-- for how many pages an answer asks the host
abbrev pub asked_by : Stepped → Option ℕ
asked_by (stepped.Asked pages) = Some pages
asked_by _ = None

-- the step of a configuration is a request to the host for so many pages
abbrev pub AsksFor : (pages : ℕ) → Config → Type 0
AsksFor pages c = (make : ℕ → State) × (wants c ≡ AsksPlace pages make)

-- What a step comes to: a configuration whose step is a request to the host stays as it is, and the host is asked; any other made its
-- step.
abbrev pub Comes : (spare : ℕ) → Config → (before : List ℕ) → State → (after : List ℕ) → Stepped → Type 0
Comes spare c before state after answer =
    MatchOption (asked_by answer) (Went spare c before state after answer)
    (λ pages. AsksFor pages c × (state ≡ Running c) × (after ≡ before))

-- What steps one after another come to: so many were made, none of them a request to the host, and the last was answered so; or the host
-- is asked, and so many were made, each answered `Ran`, up to the one that is the request, which isn't among them.
abbrev pub ComesBy : (spare steps : ℕ) → Config → (before : List ℕ) → State → (after : List ℕ) → Stepped → Type 0
ComesBy spare steps c before state after answer =
    MatchOption (asked_by answer) (Runs spare steps c before state after answer)
    (λ pages. (d : Config) × (state ≡ Running d) × AsksFor pages d × Runs spare steps c before (Running d) after Ran)
