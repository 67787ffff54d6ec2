use Rattle.std.proofs.Common.{◌≡◌, ℕ, ◌<◌, length, get_or}
use Rattle.qw_module.specs.declared.module.Function.{Function}
use Rattle.qw_valid.specs.Heights.{AreHeightsOf}
use Rattle.qw_valid.specs.Inner.Heights.{at_number}
use Rattle.qw_valid.proofs.heights.module_heights.Given as goal

-- each function so far has what is kept of it
abbrev pub invariant-loop-function : goal.invariant-loop-function
invariant-loop-function l = record {
  count : length l.heights.items ≡ l.function-index;
  each : (k : ℕ) (d : Function) → k < l.function-index →
      AreHeightsOf l.module (get_or l.module.functions.items k d) (at_number l.heights.items k).operands (at_number l.heights.items k).labels;
}
