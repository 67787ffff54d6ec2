use Rattle.std.proofs.Common.{◌≡◌, map, take}
use Rattle.qw_grouped.specs.Query.{function_of}
use Rattle.qw_compile_whole.specs.GroupColumns.{values_from}
use Rattle.qw_compile_whole.proofs.group_columns.value_columns.Given as goal

abbrev pub invariant-loop-index : goal.invariant-loop-index
invariant-loop-index l = l.made.items ≡ values_from l.first (map function_of (take l.index l.functions))
