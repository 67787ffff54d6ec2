-- When a module is a compiled form of what a query promises: what its runs do, whatever shares the memory with them.
use Rattle.std.specs.Prelude.{◌≡◌, ℕ, ◌+◌, ◌*◌, ◌^◌, ◌<◌, ◌≤◌, List, length, map, Some, None, Contains, slice_get, sum_by}
use Rattle.std.specs.List.{AllByRecursion}
use Rattle.qw_types.specs.declared.code.Code.{Code}
use Rattle.qw_types.specs.declared.code.Code.TheVariants.{DivZero, OutOfRange}
use Rattle.qw_types.specs.declared.value.Val.{Val}
use Rattle.qw_linear.specs.Memory.{AreOctets, page}
use Rattle.qw_module.specs.declared.module.Function.{Function}
use Rattle.qw_module.specs.declared.module.Module.{Module}
use Rattle.qw_module.specs.Form.{CallsNestWithin, NeverAsksSize, NeverGrows}
use Rattle.qw_module.specs.Start.{weight, weight_of_function}
use Rattle.qw_module.specs.Validity.{IsShaped, imported_functions, code_of_body}
use Rattle.qw_binary.specs.Contents.{contents_of}
use Rattle.qw_binary.specs.Modules.{SpellsModule}
use Rattle.qw_meaning.specs.Outcome.{IsSameOutcome, Outcome, Rows, Raises}
use Rattle.qw_meaning.specs.Select.{AreOfEntries, Entry}
use Rattle.qw_map.specs.Areas.{World}
use Rattle.qw_map.specs.Behaving.{BehavesWith, IsRunnable, beginning}
use Rattle.qw_map.specs.Layout.{Layout, IsReady, descriptor_size, rows_at}
use Rattle.qw_map.specs.Runs.{Moment, BehavesWithin, most_run}
use Rattle.qw_map.specs.Seen.{IsSteady, ended_at}
use Rattle.qw_map.specs.Turns.{End, Done, Exception, Pages, Steps, Trap}
use Rattle.qw_map.specs.declared.layout.Placed.{Placed}
use Rattle.qw_map.specs.declared.layout.Used.{Used}
use Rattle.qw_promise.specs.Promise.{Promise}

-- ---- bounds

-- how many instructions a module has, in all functions of its own
abbrev pub module_weight : Module → ℕ
module_weight m = sum_by (λ (function : Function). weight (code_of_body function.body)) m.functions.items

-- how many instructions a module's own function has with those of the functions that it calls
abbrev pub weight_of : Module → (number : ℕ) → ℕ
weight_of m number = weight_of_function m (length (imported_functions m) + number)

-- the most instructions that a run of it executes over tables
abbrev pub bound : Promise → List (List (List Val)) → Module → (number : ℕ) → ℕ
bound promise tables m number = weight_of m number * (1 + promise.units tables)

-- ---- how a run ends

-- the code that is raised for an exception (docs/FORMATS.md)
abbrev pub raised_for : Code → ℕ
raised_for DivZero = 1
raised_for OutOfRange = 2

-- How an end answers, of an instance with these bounds on its instructions and its pages. At a return no request was refused, and
-- the result rows are the bag of the outcome, in any order. At an exception no request was refused either, and the outcome has it. A
-- request that was refused was past the limit of pages, which so is below their bound. And a limit of instructions that was met is
-- below theirs.
abbrev pub Answers : Outcome → Layout → (most pages : ℕ) → (descriptor : ℕ) → World → List ℕ → End → Type 0
Answers out layout most pages descriptor w memory Done =
    (w.refused ≡ None) × ((bag : List (List Val)) × IsSameOutcome out (Rows bag) × (rows_at layout w memory descriptor ≡ Some bag))
Answers out layout most pages descriptor w memory (Exception code) =
    (w.refused ≡ None) × ((codes : List Code) × (one : Code) × (out ≡ Raises codes) × Contains codes one × (code ≡ raised_for one))
Answers out layout most pages descriptor w memory (Pages held asked limit) =
    (held ≡ w.held) × (limit ≡ w.limit) × (limit < held + asked) × (held + asked ≤ pages)
Answers out layout most pages descriptor w memory (Steps limit) = limit < most
Answers out layout most pages descriptor w memory Trap = ⊥

-- a run that is over answers
abbrev pub AnswersAt : Outcome → Layout → (most pages : ℕ) → (descriptor : ℕ) → Moment → Type 0
AnswersAt out layout most pages descriptor b =
    (end : End) × (ended_at b.state b.world ≡ Some end) × Answers out layout most pages descriptor b.world b.memory end

-- ---- compiled modules

-- a column of the layout is one of an entry, of its type and NOT NULL where it is
abbrev pub IsUsedOf : List Entry → Used → Type 0
IsUsedOf entries used =
    (entry : Entry) × Contains entries entry × (entry.table ≡ used.table)
    × (slice_get entry.columns used.column ≡ Some (record { ty = used.ty; not_null = used.not_null }))

-- The layout goes with what is promised: its columns are columns of the entries, the cells of result rows are of the kinds that are
-- promised, and the descriptor fits a page. What it says of texts are octets, since in no memory anything else can stand.
pub record GoesWith (promise : Promise) (layout : Layout) : Type 0 where
  pub columns : AllByRecursion (IsUsedOf promise.entries) layout.columns
  pub cells : promise.cells ≡ map Some layout.cells
  pub small : descriptor_size layout ≤ page
  pub literals : AreOctets layout.literals

-- The module, with a layout that goes with the promise, is a compiled form of it.
pub record IsCompiled (promise : Promise) (layout : Layout) (m : Module) : Type 0 where
  -- it can be run, and over any memory that is ready for its layout it keeps what is asked of a job
  pub runnable : IsRunnable m
  pub is_job : BehavesWith layout m
  pub goes_with : GoesWith promise layout
  -- its functions call at most three deep, never ask for the memory's size, and never grow it: pages come from the host
  pub nests : CallsNestWithin m 3
  pub no_size : NeverAsksSize m
  pub no_growth : NeverGrows m
  -- it is spelled in at most 64 MiB
  pub spelled : (text : List ℕ) × SpellsModule (contents_of m) text × (length text ≤ 2 ^ 26)
  -- all functions of its own have at most 2^22 instructions together, and its `run` at most 2^24 with all that it calls
  pub short : module_weight m ≤ 2 ^ 22
  pub light : (number : ℕ) → IsShaped m number → weight_of m number ≤ 2 ^ 24
  -- Over any tables of the entries, wherever the layout's columns lie from octet 64 on and the first page behind them, every open run
  -- behaves within the bounds of its instructions and pages, and answers at its end.
  pub behaves : (number descriptor limit : ℕ) (placed : List Placed) (tables : List (List (List Val))) (memory : List ℕ) →
      AreOfEntries promise.entries tables → IsShaped m number → IsReady layout placed tables descriptor limit memory →
      BehavesWithin (bound promise tables m number) (promise.pages tables) most_run
      (AnswersAt (promise.outcome tables) layout (bound promise tables m number) (promise.pages tables) descriptor)
      (beginning m number layout placed descriptor limit memory)
  -- what is seen of a run depends on the values of tables and the limit of pages alone
  pub steady : IsSteady layout m
