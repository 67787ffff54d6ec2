-- Which function of a module calls one that isn't below it (no part of the standard: such a module isn't executed here).
use Rattle.std.specs.Prelude.{◌≡◌, ℕ, ◌+◌, ◌<◌, length, Some, slice_get}
use Rattle.qw_module.specs.declared.module.Module.{Module}
use Rattle.qw_module.specs.declared.module.Function.{Function}
use Rattle.qw_module.specs.Validity.{imported_functions, DescendsAt}

-- The first of the module's own functions that calls itself or one above it, counted among all functions, the imported ones first.
pub record IsFirstAscending (m : Module) (func : ℕ) : Type 0 where
  pub number : ℕ
  pub function : Function
  pub func_is : func ≡ length (imported_functions m) + number
  pub there : slice_get m.functions.items number ≡ Some function
  pub ascends : ¬ DescendsAt m number function
  pub earlier : (k : ℕ) (before : Function) → k < number → slice_get m.functions.items k ≡ Some before → DescendsAt m k before
