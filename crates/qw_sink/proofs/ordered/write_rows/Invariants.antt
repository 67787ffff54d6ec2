use Rattle.std.proofs.Common.{List, ℕ, take, ◌++◌}
use Rattle.qw_sink.specs.Sink.{text_of_rows}
use Rattle.qw_sink.specs.Inner.Sink.{HasWritten}
use Rattle.qw_sink.proofs.ordered.write_rows.Given as goal

abbrev pub invariant-loop-row : goal.invariant-loop-row
invariant-loop-row l = (text : List ℕ) → HasWritten l.fn.writer text → HasWritten l.writer (text ++ text_of_rows l.header (take l.row-index l.rows))
