-- What the module that is made of a statement of Low keeps; its runs are the statement's.
use Rattle.std.specs.Prelude.{◌≡◌, ℕ, ◌≤◌, List, ◌∷◌, replicate, length, ◌^◌}
use Rattle.qw_types.specs.declared.value.Val.{Val}
use Rattle.qw_linear.specs.Memory.{page}
use Rattle.qw_module.specs.declared.module.Module.{Module}
use Rattle.qw_module.specs.Form.{CallsNestWithin, NeverAsksSize, NeverGrows}
use Rattle.qw_module.specs.Validity.{IsShaped}
use Rattle.qw_binary.specs.Contents.{contents_of}
use Rattle.qw_binary.specs.Modules.{SpellsModule}
use Rattle.qw_map.specs.Behaving.{IsRunnable, beginning}
use Rattle.qw_map.specs.Layout.{Layout, IsReady, descriptor_size}
use Rattle.qw_map.specs.Runs.{Moment, OpenRun}
use Rattle.qw_map.specs.Seen.{Seen, seen}
use Rattle.qw_map.specs.declared.layout.Placed.{Placed}
use Rattle.qw_low.specs.Begin.{first_state}
use Rattle.qw_low.specs.Meaning.{Outcome, meaning}
use Rattle.qw_low.specs.Places.{RunsAs, IsDone}
use Rattle.qw_low.specs.Size.{size}
use Rattle.qw_low.specs.State.{Value, Own, Number, Address}
use Rattle.qw_low.specs.Syntax.{Statement}
use Rattle.qw_promise.specs.Compiled.{module_weight, weight_of}

-- the argument, and so many locals behind it
abbrev pub first_locals : ℕ → List Value
first_locals others = Address (Own 0) 0 ∷ replicate others (Number 0)

-- what the statement comes to over tables
abbrev pub comes_to : (most fuel : ℕ) → Statement → Layout → List (List (List Val)) → (limit others : ℕ) → Outcome
comes_to most fuel s layout tables limit others = meaning most fuel s (first_state layout tables limit (first_locals others))

-- With a layout whose descriptor fits a page, each run of the module over a memory that is ready is the statement's run of the tables, the literals and the limit; and what is seen of all
-- these runs is one course.
pub record RunsOf (m : Module) (s : Statement) (others : ℕ) : Type 0 where
  pub runs : (most fuel number descriptor limit : ℕ) (layout : Layout) (placed : List Placed) (tables : List (List (List Val))) (memory : List ℕ) →
      IsShaped m number → descriptor_size layout ≤ page → IsReady layout placed tables descriptor limit memory →
      RunsAs (comes_to most fuel s layout tables limit others) most (beginning m number layout placed descriptor limit memory)
  pub course : (most fuel number limit : ℕ) (layout : Layout) (tables : List (List (List Val))) → IsShaped m number → descriptor_size layout ≤ page →
      (course : ℕ → Seen) × (IsDone (comes_to most fuel s layout tables limit others) → (k descriptor : ℕ) (placed : List Placed) (memory : List ℕ) (b : Moment) →
      IsReady layout placed tables descriptor limit memory → OpenRun k (beginning m number layout placed descriptor limit memory) b → seen b ≡ course k)

-- It can be run, its calls nest at most three deep, it never asks for the memory's size and never grows it, it is spelled in at most 64
-- MiB, it has as many instructions as the statement, with those that it calls too, and its runs are the statement's.
pub record IsMadeOf (m : Module) (s : Statement) (others : ℕ) : Type 0 where
  pub runnable : IsRunnable m
  pub nests : CallsNestWithin m 3
  pub no_size : NeverAsksSize m
  pub no_growth : NeverGrows m
  pub spelled : (text : List ℕ) × SpellsModule (contents_of m) text × (length text ≤ 2 ^ 26)
  pub weight : module_weight m ≡ size s
  pub called : (number : ℕ) → IsShaped m number → weight_of m number ≡ size s
  pub runs : RunsOf m s others
