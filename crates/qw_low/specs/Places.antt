-- What it is that a memory and a world stand for a state of Low, and that the open runs from a moment on are a Low run.
use Rattle.std.specs.Prelude.{◌≡◌, ℕ, ◌+◌, ◌*◌, ◌≤◌, ◌⊎◌, List, [], ◌∷◌, length, map, Option, Some, slice_get}
use Rattle.qw_linear.specs.Memory.{page, most_pages, pages_of, number_at, AreOctets}
use Rattle.qw_module.specs.Execution.{host_raise, host_pages, Store, Returned, Raised, IsOver, label, settled}
use Rattle.qw_module.specs.Syntax.{done}
use Rattle.qw_map.specs.Areas.{Area, World}
use Rattle.qw_map.specs.Runs.{Moment, OpenRun, BehavesWithin}
use Rattle.qw_map.specs.Turns.{AreApart}
use Rattle.qw_low.specs.Syntax.{Statement}
use Rattle.qw_low.specs.State.{Part, Column, Own, Value, Number, Address, LowState}
use Rattle.qw_low.specs.Meaning.{Outcome, Completed, Exited, Stopped, Wrong, Unfinished}
use Rattle.qw_low.specs.Translation.{statement_code}

-- the area that a part is
abbrev pub area_of : World → Part → Option Area
area_of w (Column k) = slice_get w.mapped k
area_of w (Own k) = slice_get w.own k

-- the word that stands for a value: a number is itself, and an address the place of its offset in its part's area
abbrev pub Means : World → Value → ℕ → Type 0
Means w (Number n) word = word ≡ n
Means w (Address p offset) word = (a : Area) × (area_of w p ≡ Some a) × (offset ≤ a.size) × (word ≡ a.start + offset)

abbrev pub AreMeant : World → List Value → List ℕ → Type 0
AreMeant w [] [] = Unit {0}
AreMeant w (v ∷ vs) (x ∷ xs) = Means w v x × AreMeant w vs xs
AreMeant w _ _ = ⊥

-- The world has the state's parts, none of which begins at address 0, and the own ones are apart from all others; pages and
-- requests are the state's.
pub record Fits (w : World) (s : LowState) : Type 0 where
  pub columns : map (λ (a : Area). a.size) w.mapped ≡ s.columns
  pub own : map (λ (a : Area). a.size) w.own ≡ s.own
  pub held : w.held ≡ s.held
  pub limit : w.limit ≡ s.limit
  pub refused : w.refused ≡ s.refused
  pub positive : (p : Part) (a : Area) → area_of w p ≡ Some a → 1 ≤ a.start
  pub apart : (k : ℕ) (q : Part) (a b : Area) → area_of w (Own k) ≡ Some a → area_of w q ≡ Some b → (q ≡ Own k) ⊎ AreApart a b

-- octets of a part hold a value
pub record Holds (w : World) (memory : List ℕ) (p : Part) (offset width : ℕ) (v : Value) : Type 0 where
  pub area : Area
  pub is : area_of w p ≡ Some area
  pub inside : offset + width ≤ area.size
  pub means : Means w v (number_at memory (area.start + offset) width)

-- The memory has whole pages of octets, and the world's areas lie in it; and what the state knows of cells stands there.
pub record StandsFor (w : World) (s : LowState) (memory : List ℕ) : Type 0 where
  pub fits : Fits w s
  pub whole : length memory ≡ pages_of memory * page
  pub room : length memory ≤ most_pages * page
  pub some : 1 ≤ length memory
  pub octets : AreOctets memory
  pub inside : (p : Part) (a : Area) → area_of w p ≡ Some a → a.start + a.size ≤ length memory
  pub cells : (p : Part) (offset width : ℕ) (v : Value) → s.cells p offset width ≡ Some v → Holds w memory p offset width v

-- Where a run that is over has come to: it returned, or raised the code, and what it leaves stands for the outcome's state.
abbrev pub IsOutcome : Outcome → Moment → Type 0
IsOutcome (Completed n s) b = (b.state ≡ Returned) × StandsFor b.world s b.memory
IsOutcome (Exited n s) b = (b.state ≡ Returned) × StandsFor b.world s b.memory
IsOutcome (Stopped code n s) b = (b.state ≡ Raised code) × StandsFor b.world s b.memory
IsOutcome Wrong b = ⊥
IsOutcome Unfinished b = ⊥

-- The instance behaves from a moment on, with at most n instructions and so many pages, and in each open run that is over exactly
-- n have run, and P holds.
pub record EndsAfter (n pages : ℕ) (P : Moment → Type 0) (a : Moment) : Type 0 where
  pub behaves : BehavesWithin n pages n P a
  pub exactly : (k : ℕ) (b : Moment) → OpenRun k a b → IsOver b.state → k ≡ n

-- The same after one number of instructions, which is at most n and at least half of it: what n counts as two instructions may be one.
pub record EndsCounted (n pages : ℕ) (P : Moment → Type 0) (a : Moment) : Type 0 where
  pub count : ℕ
  pub most : count ≤ n
  pub least : n ≤ 2 * count
  pub ends : EndsAfter count pages P a

-- What an outcome says of the open runs from a moment on: they come to it after one number of instructions, at most its count and at
-- least half of it. Of what is wrong or unfinished nothing is said.
abbrev pub RunsAs : Outcome → (pages : ℕ) → Moment → Type 0
RunsAs (Completed n s) pages a = EndsCounted n pages (IsOutcome (Completed n s)) a
RunsAs (Exited n s) pages a = EndsCounted n pages (IsOutcome (Exited n s)) a
RunsAs (Stopped code n s) pages a = EndsCounted n pages (IsOutcome (Stopped code n s)) a
RunsAs Wrong pages a = Unit {0}
RunsAs Unfinished pages a = Unit {0}

-- functions 0 and 1 of a store are `raise` and `pages`
abbrev pub HasHosts : Store → Type 0
HasHosts store = (slice_get store.functions 0 ≡ Some host_raise) × (slice_get store.functions 1 ≡ Some host_pages)

-- a function without results begins: its body is the statement's code, over these locals
abbrev pub beginning : Store → World → Statement → (locals memory : List ℕ) → Moment
beginning store w a locals memory = record { world = w; state = settled store (label done 0 [] done ∷ []) (statement_code a done) [] locals; memory = memory }

-- an outcome that is neither wrong nor unfinished
abbrev pub IsDone : Outcome → Type 0
IsDone (Completed n s) = Unit {0}
IsDone (Exited n s) = Unit {0}
IsDone (Stopped code n s) = Unit {0}
IsDone Wrong = ⊥
IsDone Unfinished = ⊥
