use Rattle.std.proofs.Common.{◌≡◌, ◌+◌, [], drop}
use Rattle.qw_plain_grouped.proofs.Steps.{later}
use Rattle.qw_plain_grouped.proofs.groups.function_values.Given as goal

-- the values so far, and then those of what is left
abbrev pub invariant-loop-function : goal.invariant-loop-function
invariant-loop-function l = record {
  at : l.at ≡ l.place + l.function-index;
  made : later l.place l.functions l.rows [] ≡ later l.at (drop l.function-index l.functions) l.rows l.values.items;
}
