-- What the seats of a bench are as they begin: mirrors `seats_over_tables`, `first_seats`, `first_seat` and `placed_columns`.
use Rattle.std.specs.Prelude.{◌≡◌, ℕ, ◌+◌, ◌*◌, ◌≤◌, false, List, [], length, map, replicate, Option, Some, None, IsSome, slice_get}
use Rattle.std.specs.List.{AllByRecursion}
use Rattle.std.specs.Vec.{vec_capacity}
use Rattle.qw_columns.specs.Mapped.{at_indices}
use Rattle.qw_types.specs.Contents.{Contents}
use Rattle.qw_linear.specs.Linear.{Octets}
use Rattle.qw_linear.specs.Memory.{page, pages_of}
use Rattle.qw_module.specs.Start.{begun}
use Rattle.qw_module.specs.Validity.{IsShaped}
use Rattle.qw_map.specs.Behaving.{BehavesWith}
use Rattle.qw_map.specs.Layout.{IsFresh}
use Rattle.qw_map.specs.declared.layout.Placed.{Placed}
use Rattle.qw_map.specs.declared.layout.Used.{Used}
use Rattle.qw_bench.specs.Bench.{ArePlaced, IsStart, Program}
use Rattle.qw_bench.specs.Standing.{AreTasksOf}
use Rattle.qw_bench.specs.FirstPage.{HasAddresses}
use Rattle.qw_bench.specs.declared.bench.Limits.{Limits}
use Rattle.qw_bench.specs.declared.bench.Seat.{Seat}
use Rattle.qw_bench.specs.declared.pool.Pool.{Pool}
use Rattle.qw_bench.specs.Inner.Pools.{IsPool}
use Rattle.qw_bench.specs.Inner.Seats.{AreSeats, IsEndOf, standing_of, state_in, task_of}

-- where the map says that a column stands
abbrev pub place_in : List (List Placed) → Used → Option Placed
place_in map used = at_indices map used.table used.column

-- the columns are in the map
abbrev pub AreInMap : List (List Placed) → List Used → Type 0
AreInMap map columns = AllByRecursion (λ (used : Used). IsSome (place_in map used)) columns

-- the addresses in the map fit 32 bits
abbrev pub IsAddressable : List (List Placed) → Type 0
IsAddressable map = AllByRecursion (AllByRecursion HasAddresses) map

-- the seat of a program under limits, before its first step, whose first page is at an address of the memory
pub record IsFirstSeat (map : List (List Placed)) (memory : List ℕ) (descriptor : ℕ) (program : Program) (limits : Limits) (seat : Seat) : Type 0 where
  pub behaves : BehavesWith program.layout program.module'
  pub module_is : seat.instance.program ≡ program.module'
  pub layout_is : seat.layout ≡ program.layout
  pub limits_are : seat.limits ≡ limits
  pub placed : ArePlaced map program.layout.columns seat.placed.items
  pub descriptor_is : seat.descriptor ≡ descriptor
  pub fresh : IsFresh memory descriptor program.layout seat.placed.items
  pub number : ℕ
  pub shaped : IsShaped program.module' number
  pub state_is : state_in seat ≡ begun program.module' number descriptor
  pub granted : seat.granted.items ≡ []
  pub room : limits.pages ≤ vec_capacity seat.granted
  pub held : seat.held ≡ 1
  pub refused : seat.refused ≡ None
  pub ran : seat.ran ≡ 0
  pub end : IsEndOf seat (state_in seat) seat.ended
  pub released : seat.released ≡ false
  pub unasked : seat.instance.asked ≡ None

-- the seats of programs under limits, in order, whose first pages follow one another from an address of the memory on
pub record AreFirstSeats (map : List (List Placed)) (memory : List ℕ) (at : ℕ) (programs : List Program) (limits : List Limits) (seats : List Seat) : Type 0 where
  pub many : length seats ≡ length programs
  pub each : (k : ℕ) (program : Program) (one : Limits) (seat : Seat) → slice_get programs k ≡ Some program → slice_get limits k ≡ Some one →
      slice_get seats k ≡ Some seat → IsFirstSeat map memory (at + k * page) program one seat

-- over any pool of a memory of which no page is free, seats are those of the tasks of programs that begin over tables
abbrev pub Begins : List Contents → List Program → List Limits → Octets → List Seat → Type 0
Begins tables programs limits memory seats =
    (pool : Pool) → pool.memory ≡ memory → pool.free.items ≡ replicate (pages_of memory.octets) false → IsPool pool →
    AreTasksOf programs limits (map task_of seats) × IsStart tables (map task_of seats) (standing_of pool seats).shared × AreSeats pool seats
