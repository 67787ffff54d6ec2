use Rattle.std.proofs.Common.{map}
use Rattle.qw_types.specs.declared.value.Val.TheVariants.{Num}
use Rattle.qw_columns.specs.Inner.Writing.{HasNumbers, KeepsBelow}
use Rattle.qw_columns.proofs.writing.write_short.Given as goal

abbrev pub invariant-loop-row : goal.invariant-loop-row
invariant-loop-row l = record {
  numbers : HasNumbers l.memory.octets l.at 4 (map Num l.numbers) l.row;
  keeps : KeepsBelow l.fn.memory l.memory l.at;
}
