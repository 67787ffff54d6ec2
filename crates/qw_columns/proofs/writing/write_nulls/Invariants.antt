use Rattle.qw_columns.specs.Inner.Writing.{HasNulls, KeepsBelow}
use Rattle.qw_columns.proofs.writing.write_nulls.Given as goal

abbrev pub invariant-loop-group : goal.invariant-loop-group
invariant-loop-group l = record {
  nulls : HasNulls l.memory.octets l.at l.column.values l.group;
  keeps : KeepsBelow l.fn.memory l.memory l.at;
}
