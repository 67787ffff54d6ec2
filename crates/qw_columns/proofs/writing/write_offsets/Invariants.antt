use Rattle.std.proofs.Common.{ℕ, List, suc}
use Rattle.qw_types.specs.declared.value.Val.{Val}
use Rattle.qw_csv.specs.Cells.{AreTexts}
use Rattle.qw_columns.specs.Inner.Writing.{HasStarts, KeepsBelow}
use Rattle.qw_columns.proofs.writing.write_offsets.Given as goal

abbrev pub invariant-loop-row : goal.invariant-loop-row
invariant-loop-row l = record {
  starts : (octets : List ℕ) (values : List Val) → AreTexts l.ends octets values → HasStarts l.memory.octets l.at values (suc l.row);
  keeps : KeepsBelow l.fn.memory l.memory l.at;
}
