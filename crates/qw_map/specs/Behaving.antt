-- When a module behaves: what its runs do over any memory that is ready for them, whatever shares the memory with them.
use Rattle.std.specs.Prelude.{ℕ, ◌≤◌, List, None, IsSome, Contains}
use Rattle.qw_types.specs.declared.value.Val.{Val}
use Rattle.qw_module.specs.declared.module.Import.TheVariants as import
use Rattle.qw_module.specs.declared.module.Module.{Module}
use Rattle.qw_module.specs.Execution.{State, Running, Returned, Raised, Trapped}
use Rattle.qw_module.specs.Start.{begun}
use Rattle.qw_module.specs.Validity.{IsValid, IsShaped, IsDescending}
use Rattle.qw_linear.specs.Memory.{page}
use Rattle.qw_map.specs.Layout.{Layout, IsReady, descriptor_size, first_world, rows_at}
use Rattle.qw_map.specs.Runs.{Moment, Behaves, most_run}
use Rattle.qw_map.specs.declared.layout.Placed.{Placed}

-- the moment at which a run of a module's own function begins, with the descriptor's address as its argument
abbrev pub beginning : Module → (number : ℕ) → Layout → List Placed → (descriptor limit : ℕ) → List ℕ → Moment
beginning m number layout placed descriptor limit memory =
    record { world = first_world layout placed descriptor limit; state = begun m number descriptor; memory = memory }

-- The module can be run: it is valid, of the shape that is executed, its functions call downwards only, and it can be linked to a
-- memory of any size, as it asks for one of at least one page.
pub record IsRunnable (m : Module) : Type 0 where
  pub valid : IsValid m
  pub shaped : (number : ℕ) × IsShaped m number
  pub descends : IsDescending m
  pub links : Contains m.imports.items (import.Memory (record { min = 1; max = None }))

-- at a return result rows are there
abbrev pub HasRows : Layout → (descriptor : ℕ) → Moment → State → Type 0
HasRows layout descriptor b Returned = IsSome (rows_at layout b.world b.memory descriptor)
HasRows layout descriptor b (Running c) = ⊥
HasRows layout descriptor b (Raised code) = Unit {0}
HasRows layout descriptor b (Trapped why) = ⊥

-- The module behaves with a layout: it is valid, of the shape that is executed, and its functions call downwards only; the layout's
-- descriptor fits a page; and over any tables, wherever the layout's columns lie from octet 64 on and the first page behind them, every
-- open run behaves: its loads lie in the columns and its own areas, its stores in its own areas, it doesn't trap, it raises 3 only after
-- a refused request, and where it returns within the greatest limit of instructions it has left result rows. There is no bound on
-- instructions or on pages.
pub record BehavesWith (layout : Layout) (m : Module) : Type 0 where
  pub valid : IsValid m
  pub shaped : (number : ℕ) × IsShaped m number
  pub descends : IsDescending m
  pub small : descriptor_size layout ≤ page
  pub behaves : (number descriptor limit : ℕ) (placed : List Placed) (tables : List (List (List Val))) (memory : List ℕ) →
      IsShaped m number → 1 ≤ limit → IsReady layout placed tables descriptor limit memory →
      Behaves most_run (λ b. HasRows layout descriptor b b.state) (beginning m number layout placed descriptor limit memory)
