-- How many operands and labels each function of a module needs at most.
use Rattle.std.specs.Prelude.{◌≡◌, ℕ, List, length, Some, slice_get}
use Rattle.qw_module.specs.declared.module.Function.{Function}
use Rattle.qw_module.specs.declared.module.Module.{Module}
use Rattle.qw_valid.specs.Heights.{AreHeightsOf}
use Rattle.qw_valid.specs.declared.heights.Heights.{Heights}

-- One pair of bounds for each function of the module's own, in their order: no execution of a function's body has more operands and
-- labels than those of its number.
pub record HaveHeights (m : Module) (heights : List Heights) : Type 0 where
  pub count : length heights ≡ length m.functions.items
  pub each : (number : ℕ) (function : Function) (most : Heights) → slice_get m.functions.items number ≡ Some function →
      slice_get heights number ≡ Some most → AreHeightsOf m function most.operands most.labels
