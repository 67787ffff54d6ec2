-- What the fields of `Bench` and of its seats stand for: mirrors `Seat::turn`, `Seat::run` and `Bench`.
use Rattle.std.specs.Prelude.{◌≡◌, ℕ, zero, suc, ◌+◌, ◌*◌, ◌<◌, ◌≤◌, ◌⊎◌, List, [], ◌∷◌, length, map, take, All, Option, Some, None, IsSome}
use Rattle.std.specs.List.{AllByRecursion}
use Rattle.std.specs.Vec.{vec_capacity}
use Rattle.qw_linear.specs.Memory.{page}
use Rattle.qw_module.specs.Execution.{Config, State, Running, Returned, Raised, Trapped, Event, Grows, AsksHost}
use Rattle.qw_map.specs.Areas.{Area, World, GoesOn, grants, world_after}
use Rattle.qw_module.specs.Step.{Next, next}
use Rattle.qw_map.specs.Turns.{Instance, Common, end_at, flags_after, free_with, placing, steps_of}
use Rattle.qw_map.specs.Layout.{column_areas}
use Rattle.qw_promise.specs.Compiled.{raised_for}
use Rattle.qw_bench.specs.declared.bench.Ended.{Ended}
use Rattle.qw_bench.specs.declared.bench.Ended.TheVariants as ended
use Rattle.qw_bench.specs.declared.bench.Grant.{Grant}
use Rattle.qw_bench.specs.declared.bench.Seat.{Seat}
use Rattle.qw_bench.specs.declared.pool.Pool.{Pool}
use Rattle.qw_bench.specs.Bench.{Task}
use Rattle.qw_bench.specs.Standing.{IsBench, Standing, end_of}
use Rattle.qw_bench.specs.Inner.Pools.{IsPool, common_of}

-- what the instance of a seat is to do
abbrev pub task_of : Seat → Task
task_of seat = record {
  program = record { layout = seat.layout; module' = seat.instance.program };
  placed = seat.placed.items;
  descriptor = seat.descriptor;
  pages = seat.limits.pages;
  steps = seat.limits.steps;
}

-- the state of the instance of a seat
abbrev pub state_in : Seat → State
state_in seat = seat.instance.state

-- the area of the pages that were granted
abbrev pub area_of : Grant → Area
area_of grant = record { start = grant.at * page; size = grant.pages * page }

-- its own areas: its first page, and what it was granted
abbrev pub areas_of : Seat → List Area
areas_of seat = record { start = seat.descriptor; size = page } ∷ map area_of seat.granted.items

-- its first page, and the first so many of its grants
abbrev pub areas_before : Seat → ℕ → List Area
areas_before seat n = record { start = seat.descriptor; size = page } ∷ map area_of (take n seat.granted.items)

-- what is noted of so many pages that were granted: nothing of none
abbrev pub grants_of : (at pages : ℕ) → List Grant
grants_of at zero = []
grants_of at (suc n) = record { at = at; pages = suc n } ∷ []

-- what the instance of a seat has
abbrev pub world_of : Seat → World
world_of seat = record {
  mapped = column_areas seat.layout.columns seat.placed.items;
  own = areas_of seat;
  held = seat.held;
  limit = seat.limits.pages;
  refused = seat.refused;
}

-- the instance of a seat
abbrev pub instance_of : Seat → Instance
instance_of seat = record {
  state = state_in seat;
  world = world_of seat;
  most_steps = seat.limits.steps;
  ran = seat.ran;
  end = end_of seat.ended;
  released = seat.released;
}

-- the instance of a seat that has run so many instructions more than are counted there
abbrev pub counting : Seat → ℕ → Instance
counting seat more = record {
  state = state_in seat;
  world = world_of seat;
  most_steps = seat.limits.steps;
  ran = seat.ran + more;
  end = end_at (state_in seat) (world_of seat) (seat.ran + more) seat.limits.steps;
  released = seat.released;
}

-- what is common where an instance that doesn't keep its pages has given them back
abbrev pub common_with : Instance → Pool → Common
common_with i pool = record { memory = pool.memory.octets; free = free_with i pool.free.items }

-- a seat's end and its state, but for the limit of instructions
abbrev pub IsEndOf : Seat → State → Option Ended → Type 0
IsEndOf seat (Running c) None = Unit {0}
IsEndOf seat Returned (Some ended.Done) = Unit {0}
IsEndOf seat (Raised code) (Some (ended.Raised one)) = code ≡ raised_for one
IsEndOf seat (Raised code) (Some (ended.Pages held asked limit)) =
    (code ≡ 3) × (seat.refused ≡ Some asked) × (held ≡ seat.held) × (limit ≡ seat.limits.pages)
IsEndOf seat _ _ = ⊥

-- nothing of a seat is changed but its instance, what it holds, and its end
abbrev pub StaysSeated : Seat → Seat → Type 0
StaysSeated before after = after ≡ record before {
  instance = after.instance;
  granted = after.granted;
  held = after.held;
  refused = after.refused;
  ended = after.ended;
}

-- Over a memory of so many pages a seat's first page and what it was granted are pages of it; and what each grant adds to the held pages
-- fits the room that was reserved for grants.
pub record HasGrants (pages : ℕ) (seat : Seat) : Type 0 where
  pub counted : length seat.granted.items < seat.held
  pub held : seat.held ≤ seat.limits.pages
  pub room : seat.limits.pages ≤ vec_capacity seat.granted
  pub first_page : seat.descriptor + page ≤ pages * page
  pub inside : AllByRecursion (λ (grant : Grant). grant.at + grant.pages ≤ pages) seat.granted.items

-- such a seat, whose instance awaits no answer of its host
pub record IsSeat (pages : ℕ) (seat : Seat) : Type 0 where
  pub grants : HasGrants pages seat
  pub unasked : seat.instance.asked ≡ None

-- A request for so many pages, which the instance makes of its host, was answered: the step of its configuration over what is common was
-- made.
pub record IsAnswered (pages : ℕ) (before : Seat) (common : Common) (after : Seat) (now : Common) (c : Config) : Type 0 where
  pub first : Option ℕ
  pub made : next (grants (world_of before)) (placing common) c common.memory
      ≡ Some (record { event = AsksHost pages first; state = state_in after; memory = now.memory })
  pub world : world_of after ≡ world_after (world_of before) common.memory (AsksHost pages first)
  pub free : now.free ≡ flags_after common (AsksHost pages first)

-- a code that may be raised: 1 or 2, or 3 after a request that was refused
abbrev pub IsRaised : (refused : Option ℕ) → (code : ℕ) → Type 0
IsRaised refused code = (code ≡ 1) ⊎ (code ≡ 2) ⊎ ((code ≡ 3) × IsSome refused)

-- a step that the bench can tell: it doesn't trap, a request isn't the last step, and a code may be raised
abbrev pub CanBeTold : World → Event → State → Type 0
CanBeTold w (Grows pages granted) state = GoesOn state
CanBeTold w (AsksHost pages first) state = GoesOn state
CanBeTold w event (Trapped why) = ⊥
CanBeTold w event (Raised code) = IsRaised w.refused code
CanBeTold w event state = Unit {0}

-- however long its turn is over what is common, each step that an instance makes can be told
abbrev pub IsTold : Instance → Common → Type 0
IsTold i common = (quantum : ℕ) (c : Config) (t : Next) → (steps_of quantum i common).0.state ≡ Running c → (steps_of quantum i common).0.end ≡ None →
    next (grants (steps_of quantum i common).0.world) (placing (steps_of quantum i common).1) c (steps_of quantum i common).1.memory ≡ Some t →
    CanBeTold (steps_of quantum i common).0.world t.event t.state

-- what a bench of this pool and these seats stands for
abbrev pub standing_of : Pool → List Seat → Standing
standing_of pool seats = record {
  shared = record { common = common_of pool; instances = map instance_of seats };
  tasks = map task_of seats;
  reserved = pool.memory.reserved;
}

-- What the fields of a bench keep.
pub record AreSeats (pool : Pool) (seats : List Seat) : Type 0 where
  pub bench : IsBench (standing_of pool seats)
  pub kept : IsPool pool
  pub each : All (IsSeat (length pool.free.items)) seats
