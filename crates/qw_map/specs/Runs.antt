-- Open runs: an instance's steps over a memory that others change between them.
use Rattle.std.specs.Prelude.{◌≡◌, ℕ, zero, suc, ◌<◌, ◌≤◌, List}
use Rattle.qw_module.specs.Execution.{Config, State, Running, Event, Step, IsOver}
use Rattle.qw_map.specs.Areas.{World, Others, IsFine, AsksWithin, AsksOn, IsAnswered, IsPlaced, world_after}

-- an instance between two steps: what it has, its state, and the memory
pub record Moment : Type 0 where
  pub world : World
  pub state : State
  pub memory : List ℕ

-- the moment after a step from a memory, with this event
abbrev pub moment_after : World → List ℕ → Event → State → List ℕ → Moment
moment_after world before event state after = record { world = world_after world before event; state = state; memory = after }

-- One step of an open run: others change the memory, and the instance makes a step over it.
pub record OpenStep (a : Moment) (c : Config) (before : List ℕ) (event : Event) (state : State) (after : List ℕ) : Type 0 where
  pub running : a.state ≡ Running c
  pub others : Others a.world a.memory before
  pub step : Step c before event state after
  pub answered : IsAnswered a.world event
  pub placed : IsPlaced a.world before event

-- an open run of so many steps from one moment to another
pub data OpenRun : ℕ → Moment → Moment → Type 0 where
  begins : (a : Moment) → OpenRun zero a a
  goes_on : (k : ℕ) (a b : Moment) (c : Config) (before : List ℕ) (event : Event) (state : State) (after : List ℕ) →
      OpenRun k a b → OpenStep b c before event state after → OpenRun (suc k) a (moment_after b.world before event state after)

-- ---- what the open runs from a moment on keep

-- the greatest limit of instructions that an instance can have: no run has more
abbrev pub most_run : ℕ
most_run = 999999999999999999

-- The instance behaves from here on, where at most `left` instructions are left to it: in every open run each step that it can make is
-- fine, after a request for pages it goes on, and where it has ended after no more than these instructions, P holds. In a valid module
-- it goes on by itself: the request's answer is an operand then, and the function that runs returns with none.
pub record Behaves (left : ℕ) (P : Moment → Type 0) (a : Moment) : Type 0 where
  pub fine : (k : ℕ) (b : Moment) (c : Config) (before : List ℕ) (event : Event) (state : State) (after : List ℕ) →
      OpenRun k a b → OpenStep b c before event state after → IsFine b.world event
  pub asks_on : (k : ℕ) (b : Moment) (c : Config) (before : List ℕ) (event : Event) (state : State) (after : List ℕ) →
      OpenRun k a b → OpenStep b c before event state after → AsksOn event state
  pub ends : (k : ℕ) (b : Moment) → OpenRun k a b → IsOver b.state → k ≤ left → P b

-- It behaves within bounds, where at most `left` instructions are left to it: in every open run, while it runs it can make a step, each
-- step that it can make is fine, each request stays within `pages` pages, and fewer than `most` instructions have run; where it has ended,
-- at most so many have, and P holds if no more than are left.
pub record BehavesWithin (most pages left : ℕ) (P : Moment → Type 0) (a : Moment) : Type 0 where
  pub goes_on : (k : ℕ) (b : Moment) (c : Config) (before : List ℕ) → OpenRun k a b → b.state ≡ Running c → Others b.world b.memory before →
      (event : Event) × (state : State) × (after : List ℕ) × OpenStep b c before event state after
  pub fine : (k : ℕ) (b : Moment) (c : Config) (before : List ℕ) (event : Event) (state : State) (after : List ℕ) →
      OpenRun k a b → OpenStep b c before event state after → IsFine b.world event
  pub asks : (k : ℕ) (b : Moment) (c : Config) (before : List ℕ) (event : Event) (state : State) (after : List ℕ) →
      OpenRun k a b → OpenStep b c before event state after → AsksWithin pages b.world event state
  pub bounded : (k : ℕ) (b : Moment) (c : Config) → OpenRun k a b → b.state ≡ Running c → k < most
  pub ends : (k : ℕ) (b : Moment) → OpenRun k a b → IsOver b.state → (k ≤ most) × (k ≤ left → P b)
