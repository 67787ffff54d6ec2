-- The memory as its users see it: areas, what an instance may touch of it, and what others may change.
use Rattle.std.specs.Prelude.{◌≡◌, ℕ, zero, suc, ◌+◌, ◌-◌, ◌*◌, ◌<◌, ◌≤◌, nat_le, nat_lt, ◌&&◌, Bool, true, false, IsTrue, ◌⊎◌, List, [], ◌∷◌, ◌++◌, length, Option, Some, None, IsSome, is_some, slice_index}
use Rattle.std.specs.List.{list_any, AllByRecursion}
use Rattle.qw_linear.specs.Memory.{page, most_pages, pages_of, AreOctets}
use Rattle.qw_module.specs.Execution.{State, Running, Returned, Raised, Trapped, Event, Silent, Loads, Stores, Grows, AsksHost, Raises, Traps}

-- an area of the memory: its first address, and how many octets it has
pub record Area : Type 0 where
  pub start : ℕ
  pub size : ℕ

-- whether the octet at an address lies in an area, and in one of several
abbrev pub lies_in : ℕ → Area → Bool
lies_in address area = nat_le area.start address && nat_lt address (area.start + area.size)

abbrev pub lies_in_one : List Area → ℕ → Bool
lies_in_one areas address = list_any (lies_in address) areas

-- whether each of so many octets from an address on lies in one of some areas; they may lie in several
abbrev pub are_covered : List Area → (address width : ℕ) → Bool
are_covered areas address zero = true
are_covered areas address (suc width) = lies_in_one areas address && are_covered areas (address + 1) width

-- What an instance has: the areas of the columns that its layout maps, its own areas, the pages held,
-- how many it may hold, and its last request that was refused.
pub record World : Type 0 where
  pub mapped : List Area
  pub own : List Area
  pub held : ℕ
  pub limit : ℕ
  pub refused : Option ℕ

-- an area's octets are the same in two memories
abbrev pub SameIn : List ℕ → List ℕ → Area → Type 0
SameIn before after area = (k : ℕ) → k < area.size → slice_index after (area.start + k) ≡ slice_index before (area.start + k)

-- What others may make of the memory between two steps of an instance: it may grow by whole pages, but leaves
-- room for those that the instance may still ask for; outside the instance's areas any octet may change.
pub record Others (w : World) (before after : List ℕ) : Type 0 where
  pub grown : ℕ
  pub length_is : length after ≡ length before + grown * page
  pub room : length after + (w.limit - w.held) * page ≤ most_pages * page
  pub octets : AreOctets after
  pub mapped_kept : AllByRecursion (SameIn before after) w.mapped
  pub own_kept : AllByRecursion (SameIn before after) w.own

-- What a step may do: load octets of the mapped columns and the own areas, store octets of the own areas, ask for pages, raise 1
-- or 2, and 3 after a refused request. It never traps.
abbrev pub IsFine : World → Event → Type 0
IsFine w Silent = Unit {0}
IsFine w (Loads address width) = IsTrue (are_covered (w.mapped ++ w.own) address width)
IsFine w (Stores address width) = IsTrue (are_covered w.own address width)
IsFine w (Grows pages granted) = Unit {0}
IsFine w (AsksHost pages first) = Unit {0}
IsFine w (Raises code) = (code ≡ 1) ⊎ (code ≡ 2) ⊎ ((code ≡ 3) × IsSome w.refused)
IsFine w (Traps why) = ⊥

-- whether memory grants a request: exactly where it stays within the limit
abbrev pub grants : World → ℕ → Bool
grants w pages = nat_le (w.held + pages) w.limit

abbrev pub IsAnswered : World → Event → Type 0
IsAnswered w (Grows pages granted) = granted ≡ grants w pages
IsAnswered w (AsksHost pages first) = is_some first ≡ grants w pages
IsAnswered w _ = Unit {0}

-- an instance that goes on has not ended
abbrev pub GoesOn : State → Type 0
GoesOn (Running c) = Unit {0}
GoesOn Returned = ⊥
GoesOn (Raised code) = ⊥
GoesOn (Trapped why) = ⊥

-- A request asks for no more pages than that with them so many are held; and the run goes on after it.
abbrev pub AsksWithin : (most : ℕ) → World → Event → State → Type 0
AsksWithin most w (Grows pages granted) state = (w.held + pages ≤ most) × GoesOn state
AsksWithin most w (AsksHost pages first) state = (w.held + pages ≤ most) × GoesOn state
AsksWithin most w _ state = Unit {0}

-- the run goes on after a request, of however many pages
abbrev pub AsksOn : Event → State → Type 0
AsksOn (Grows pages granted) state = GoesOn state
AsksOn (AsksHost pages first) state = GoesOn state
AsksOn _ state = Unit {0}

-- the pages that a request was granted, from an address on, as an area; where it asked for none there is none
abbrev pub granted_area : (start pages : ℕ) → List Area
granted_area start zero = []
granted_area start (suc pages) = record { start = start; size = suc pages * page } ∷ []

-- what the instance has after a step from a memory: a granted growth's pages are its own, the memory's next ones, and so are those
-- that the host gave
abbrev pub world_after : World → List ℕ → Event → World
world_after w memory (Grows pages true) = record w { own = w.own ++ granted_area (length memory) pages; held = w.held + pages }
world_after w memory (Grows pages false) = record w { refused = Some pages }
world_after w memory (AsksHost pages (Some first)) = record w { own = w.own ++ granted_area (first * page) pages; held = w.held + pages }
world_after w memory (AsksHost pages None) = record w { refused = Some pages }
world_after w memory _ = w

-- an area ends before so many pages from one on, or begins behind them
abbrev pub LiesBeside : (first pages : ℕ) → Area → Type 0
LiesBeside first pages area = (area.start + area.size ≤ first * page) ⊎ ((first + pages) * page ≤ area.start)

-- Pages that may be free for an instance: behind the columns, of which some stand in the first page, and beside its own areas.
abbrev pub LieFree : World → (first pages : ℕ) → Type 0
LieFree w first pages =
    (1 ≤ first) × AllByRecursion (λ a. a.start + a.size ≤ first * page) w.mapped × AllByRecursion (LiesBeside first pages) w.own

-- where the host gives pages of a memory: its next ones, or some that it has and that may be free
abbrev pub IsPlaced : World → List ℕ → Event → Type 0
IsPlaced w memory (AsksHost pages (Some first)) = (first ≡ pages_of memory) ⊎ ((first + pages ≤ pages_of memory) × LieFree w first pages)
IsPlaced w memory _ = Unit {0}

-- a function of the pages asked tells such places
abbrev pub IsPlace : World → List ℕ → (place : ℕ → ℕ) → Type 0
IsPlace w memory place = (pages : ℕ) → grants w pages ≡ true → IsPlaced w memory (AsksHost pages (Some (place pages)))
