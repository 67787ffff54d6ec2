-- Instances of modules that share one memory: how they begin, and what holds of them whatever turns they are given.
use Rattle.std.specs.Prelude.{◌≡◌, ℕ, zero, suc, ◌+◌, ◌-◌, ◌*◌, ◌<◌, ◌≤◌, if◌then◌else◌, Bool, false, List, [], ◌∷◌, ◌++◌, length, map, replicate, Option, Some, None, IfSome, is_some, slice_get}
use Rattle.std.specs.List.{AllByRecursion}
use Rattle.std.specs.Option.{option_and_then, option_map_or}
use Rattle.qw_types.specs.Contents.{Contents}
use Rattle.qw_types.specs.declared.schema.ColumnType.{ColumnType}
use Rattle.qw_types.specs.declared.value.Val.{Val}
use Rattle.qw_linear.specs.Memory.{page, most_pages, pages_of, AreOctets}
use Rattle.qw_module.specs.declared.module.Module.{Module}
use Rattle.qw_module.specs.Start.{begun}
use Rattle.qw_module.specs.Validity.{IsShaped}
use Rattle.qw_map.specs.Areas.{Area}
use Rattle.qw_map.specs.Behaving.{BehavesWith, HasRows}
use Rattle.qw_map.specs.Columns.{Holds, column_pages, map_of}
use Rattle.qw_map.specs.Layout.{Layout, IsReady, column_areas, first_world}
use Rattle.qw_map.specs.Runs.{Behaves, most_run}
use Rattle.qw_map.specs.Turns.{End, Instance, Shared, Act, turn, release, end_at, turns, may_ask, is_back, IsWhole, AreSafe, moment_of}
use Rattle.qw_map.specs.declared.layout.Placed.{Placed}
use Rattle.qw_map.specs.declared.layout.Used.{Used}
use Rattle.qw_promise.specs.Compiled.{Answers, bound}
use Rattle.qw_promise.specs.Promise.{Promise}

-- a module and the layout that it behaves with
pub record Program : Type 0 where
  pub layout : Layout
  pub module' : Module

-- What an instance is to do: its module and the module's layout, where the layout's columns stand, the address of its descriptor,
-- which begins its first page, and how many pages it may hold and how many instructions it may run.
pub record Task : Type 0 where
  pub program : Program
  pub placed : List Placed
  pub descriptor : ℕ
  pub pages : ℕ
  pub steps : ℕ

-- the rows of tables
abbrev pub rows_in_tables : List Contents → List (List (List Val))
rows_in_tables tables = map (λ (table : Contents). table.rows) tables

-- a column that the layout uses is one of the tables, of this type and alike in NOT NULL
abbrev pub IsColumnIn : List Contents → Used → Type 0
IsColumnIn tables used =
    (table : Contents) × (column : ColumnType) × (slice_get tables used.table ≡ Some table) × (slice_get table.columns used.column ≡ Some column)
    × (column.ty ≡ used.ty) × (column.not_null ≡ used.not_null)

-- the columns of the layout stand where the map of the tables says
abbrev pub ArePlaced : (map : List (List Placed)) → List Used → List Placed → Type 0
ArePlaced map [] [] = Unit {0}
ArePlaced map (used ∷ more) (one ∷ placed) = (option_and_then (λ (columns : List Placed). slice_get columns used.column) (slice_get map used.table) ≡ Some one) × ArePlaced map more placed
ArePlaced map _ _ = ⊥

-- the instance of a task before its first step
abbrev pub starting : (number : ℕ) → Task → Instance
starting number t =
    let state = begun t.program.module' number t.descriptor in
    let world = first_world t.program.layout t.placed t.descriptor t.pages in
    record { state = state; world = world; most_steps = t.steps; ran = 0; end = end_at state world 0 t.steps; released = false }

-- An instance is about to begin its task over tables, and the memory is ready for that.
pub record IsStarting (tables : List Contents) (memory : List ℕ) (t : Task) (i : Instance) : Type 0 where
  pub behaves : BehavesWith t.program.layout t.program.module'
  pub columns : AllByRecursion (IsColumnIn tables) t.program.layout.columns
  pub placed : ArePlaced (map_of tables) t.program.layout.columns t.placed
  pub number : ℕ
  pub shaped : IsShaped t.program.module' number
  pub ready : IsReady t.program.layout t.placed (rows_in_tables tables) t.descriptor t.pages memory
  pub may_hold : 1 ≤ t.pages
  pub may_run : 1 ≤ t.steps
  pub few_steps : t.steps ≤ most_run
  pub instance : i ≡ starting number t

-- R holds between each task and its instance
abbrev pub EachTask : (Task → Instance → Type 0) → List Task → Shared → Type 0
EachTask R tasks s = (k : ℕ) (t : Task) (i : Instance) → slice_get tasks k ≡ Some t → slice_get s.instances k ≡ Some i → R t i

-- The start over tables: all their columns are there and take the first pages; the first pages of the instances, which are about to
-- begin, follow in order and are the rest of the memory, of which no page is free; and there is room for all pages that they may hold.
pub record IsStart (tables : List Contents) (tasks : List Task) (s : Shared) : Type 0 where
  pub octets : AreOctets s.common.memory
  pub many : length s.instances ≡ length tasks
  pub starting : EachTask (IsStarting tables s.common.memory) tasks s
  pub descriptors : (k : ℕ) (t : Task) → slice_get tasks k ≡ Some t → t.descriptor ≡ (column_pages tables + k) * page
  pub room : length s.common.memory + may_ask s.instances * page ≤ most_pages * page
  pub table : Holds (map_of tables) s.common.memory tables
  pub size : length s.common.memory ≡ (column_pages tables + length tasks) * page
  pub free : s.common.free ≡ replicate (pages_of s.common.memory) false

-- An instance serves its task: it maps the layout's columns, its areas are its first page and what it was granted, and as long as it hasn't
-- given them back it behaves from where it is on, with as many instructions left as the greatest limit and those that it has run leave.
pub record Serves (memory : List ℕ) (t : Task) (i : Instance) : Type 0 where
  pub mapped : i.world.mapped ≡ column_areas t.program.layout.columns t.placed
  pub first_page : (granted : List Area) × (i.world.own ≡ record { start = t.descriptor; size = page } ∷ granted)
  pub may_hold : i.world.limit ≡ t.pages
  pub holds : i.world.held ≤ t.pages
  pub may_run : i.most_steps ≡ t.steps
  pub few_steps : t.steps ≤ most_run
  pub whole : IsWhole i
  pub number : ℕ
  pub shaped : IsShaped t.program.module' number
  pub behaves : is_back i ≡ false → Behaves (most_run - i.ran) (λ b. HasRows t.program.layout t.descriptor b b.state) (moment_of i memory)

-- each area that is or was an instance's own lies behind the pages of the columns
abbrev pub AreBehind : ℕ → Shared → Type 0
AreBehind address s = (k : ℕ) (i : Instance) → slice_get s.instances k ≡ Some i → AllByRecursion (λ (area : Area). address ≤ area.start) i.world.own

-- The memory holds the tables, whichever of their columns are used; the instances lie apart, behind the columns, and do only what
-- they may; and each serves its task.
pub record AreServing (tables : List Contents) (tasks : List Task) (s : Shared) : Type 0 where
  pub table : Holds (map_of tables) s.common.memory tables
  pub behind : AreBehind (column_pages tables * page) s
  pub safe : AreSafe (column_pages tables) s
  pub many : length s.instances ≡ length tasks
  pub serving : EachTask (Serves s.common.memory) tasks s

-- An instance at its end, or before it, of a module that is compiled for what is promised, over tables: it has run at most as many
-- instructions as the bound says, and fewer before its end; it holds no more pages than the bound says, if that has room for its first one; and
-- its end answers, as long as its pages weren't made free by a release.
pub record IsAt (promise : Promise) (tables : List (List (List Val))) (memory : List ℕ) (t : Task) (number : ℕ) (i : Instance) (end : Option End) : Type 0 where
  pub ran : i.ran ≤ bound promise tables t.program.module' number
  pub goes_on : end ≡ None → i.ran < bound promise tables t.program.module' number
  pub held : 1 ≤ promise.pages tables → i.world.held ≤ promise.pages tables
  pub answers : i.released ≡ false → IfSome end (λ one. Answers (promise.outcome tables) t.program.layout (bound promise tables t.program.module' number) (promise.pages tables) t.descriptor
      i.world memory one)

-- how the instance of a number ended, if it has, how many instructions it has run, how many pages it holds, and whether it was released
abbrev pub end_in : Shared → ℕ → Option End
end_in s i = option_and_then (λ (instance : Instance). instance.end) (slice_get s.instances i)

abbrev pub ran_in : Shared → ℕ → ℕ
ran_in s i = option_map_or (λ (instance : Instance). instance.ran) (slice_get s.instances i) 0

abbrev pub held_in : Shared → ℕ → ℕ
held_in s i = option_map_or (λ (instance : Instance). instance.world.held) (slice_get s.instances i) 0

abbrev pub released_in : Shared → ℕ → Bool
released_in s i = option_map_or (λ (instance : Instance). instance.released) (slice_get s.instances i) false

-- the numbers below n of the instances that haven't ended, in order
abbrev pub unended_below : Shared → (n : ℕ) → List ℕ
unended_below s zero = []
unended_below s (suc n) = unended_below s n ++ (if is_some (end_in s n) then [] else n ∷ [])

-- a round: a turn for each instance that hasn't ended, in order
abbrev pub round : (quantum : ℕ) → Shared → List Act
round quantum s = map (λ i. turn i quantum) (unended_below s (length s.instances))

-- these acts are turns, and no releases
abbrev pub AreTurns : List Act → Type 0
AreTurns [] = Unit {0}
AreTurns (turn i quantum ∷ acts) = AreTurns acts
AreTurns (release i ∷ acts) = ⊥

-- These acts are rounds, one after another, until no instance is left that hasn't ended.
pub data AreRounds (quantum : ℕ) : List Act → Shared → Type 0 where
  none : (s : Shared) → round quantum s ≡ [] → AreRounds quantum [] s
  first : (s : Shared) (acts : List Act) → AreRounds quantum acts (turns (round quantum s) s) → AreRounds quantum (round quantum s ++ acts) s
