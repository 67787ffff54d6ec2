use Rattle.std.proofs.Common.{◌≡◌, take}
use Rattle.qw_compile_whole.specs.GroupColumns.{key_from}
use Rattle.qw_compile_whole.proofs.group_columns.key_columns.Given as goal

abbrev pub invariant-loop-number : goal.invariant-loop-number
invariant-loop-number l = l.made.items ≡ key_from 0 (take l.number l.columns)
