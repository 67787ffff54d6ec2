-- Steps of open runs, counted: what proofs about emitted code stand on. It mirrors no function.
use Rattle.std.specs.Prelude.{ℕ, ◌⊎◌, List, Option, Some, zero, suc, None}
use Rattle.qw_module.specs.Execution.{State, Running, Returned, Raised, Trapped, Event, Grows, AsksHost, Config}
use Rattle.qw_map.specs.Areas.{World, IsFine, AsksWithin, Others, IsPlace, grants}
use Rattle.qw_module.specs.Step.{Next, next}
use Rattle.qw_map.specs.Runs.{Moment, moment_after}

-- a step that leads to a state is fine, and a request stays within so many pages
abbrev pub IsAllowed : (most : ℕ) → World → Event → State → Type 0
IsAllowed most w (Grows pages granted) state = AsksWithin most w (Grows pages granted) state
IsAllowed most w (AsksHost pages first) state = AsksWithin most w (AsksHost pages first) state
IsAllowed most w event state = IsFine w event

-- a step was made: it is allowed, and Q holds of the moment after it
abbrev pub OnStep : (pages : ℕ) → World → List ℕ → (Moment → Type 0) → Option Next → Type 0
OnStep pages w before Q None = ⊥
OnStep pages w before Q (Some t) = IsAllowed pages w t.event t.state × Q (moment_after w before t.event t.state t.memory)

-- an instance runs, and P holds of its configuration
abbrev pub OnRunning : State → (Config → Type 0) → Type 0
OnRunning (Running c) P = P c
OnRunning Returned P = ⊥
OnRunning (Raised code) P = ⊥
OnRunning (Trapped why) P = ⊥

-- At most n steps follow, each allowed whatever others do before it and wherever the host gives pages, and then Q holds.
abbrev pub Within : (pages : ℕ) → (Moment → Type 0) → ℕ → Moment → Type 0
Within pages Q zero a = Q a
Within pages Q (suc n) a = Q a ⊎ OnRunning a.state (λ c. (before : List ℕ) → Others a.world a.memory before →
    (place : ℕ → ℕ) → IsPlace a.world before place → OnStep pages a.world before (Within pages Q n) (next (grants a.world) place c before))
