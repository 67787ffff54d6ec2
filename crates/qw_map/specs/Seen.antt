-- What is seen of an instance from outside, and that nothing of it but the values of tables and the limit of pages is shown by its runs.
use Rattle.std.specs.Prelude.{◌≡◌, ℕ, List, Option, Some, None}
use Rattle.qw_types.specs.declared.value.Val.{Val}
use Rattle.qw_module.specs.declared.module.Module.{Module}
use Rattle.qw_module.specs.Execution.{State, Running, Returned, Raised, Trapped}
use Rattle.qw_module.specs.Validity.{IsShaped}
use Rattle.qw_map.specs.Areas.{World}
use Rattle.qw_map.specs.Behaving.{beginning}
use Rattle.qw_map.specs.Layout.{Layout, IsReady, rows_at}
use Rattle.qw_map.specs.Runs.{Moment, OpenRun}
use Rattle.qw_map.specs.Turns.{End, Done, Trap, end_of_raise}
use Rattle.qw_map.specs.declared.layout.Placed.{Placed}

-- how a run ended, at a state, where it has
abbrev pub ended_at : State → World → Option End
ended_at (Running c) w = None
ended_at Returned w = Some Done
ended_at (Raised code) w = end_of_raise code w
ended_at (Trapped why) w = Some Trap

-- What is seen of an instance between two steps, apart from memory: how many pages it holds, its last request that was refused, and how
-- it ended, if it has.
pub record Seen : Type 0 where
  pub held : ℕ
  pub refused : Option ℕ
  pub end : Option End

abbrev pub seen : Moment → Seen
seen b = record { held = b.world.held; refused = b.world.refused; end = ended_at b.state b.world }

-- The module is steady with a layout: over tables and with a limit of pages there is one course, such that each open run, wherever columns
-- and pages lie and whatever others do, is seen so after each number of instructions; and any two of them that return have left the same
-- rows in the same order.
pub record IsSteady (layout : Layout) (m : Module) : Type 0 where
  pub course : (number limit : ℕ) (tables : List (List (List Val))) → IsShaped m number →
      (course : ℕ → Seen)
      × ((k descriptor : ℕ) (placed : List Placed) (memory : List ℕ) (b : Moment) → IsReady layout placed tables descriptor limit memory →
      OpenRun k (beginning m number layout placed descriptor limit memory) b → seen b ≡ course k)
  pub rows : (number limit : ℕ) (tables : List (List (List Val))) → IsShaped m number →
      (k j descriptor other : ℕ) (placed others : List Placed) (memory another : List ℕ) (b c : Moment) →
      IsReady layout placed tables descriptor limit memory → IsReady layout others tables other limit another →
      OpenRun k (beginning m number layout placed descriptor limit memory) b → OpenRun j (beginning m number layout others other limit another) c →
      b.state ≡ Returned → c.state ≡ Returned → rows_at layout b.world b.memory descriptor ≡ rows_at layout c.world c.memory other
