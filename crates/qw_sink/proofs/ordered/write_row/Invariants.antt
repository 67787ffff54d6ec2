use Rattle.std.proofs.Common.{List, ℕ, take}
use Rattle.qw_sink.specs.Sink.{printed_row}
use Rattle.qw_sink.specs.Inner.Sink.{HasBegun, HasWritten}
use Rattle.qw_sink.proofs.ordered.write_row.Given as goal

abbrev pub invariant-loop-index : goal.invariant-loop-index
invariant-loop-index l = (text : List ℕ) → HasWritten l.fn.writer text → HasBegun l.writer text (take l.index (printed_row l.header l.row))
