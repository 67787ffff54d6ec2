use Rattle.std.proofs.Common.{length}
use Rattle.qw_operator.proofs.strict.+is_read_column.Given as goal

abbrev pub decreases-is_read_column : goal.decreases-is_read_column
decreases-is_read_column l = length l.readers.now
