use Rattle.std.proofs.Common.{List, ℕ, map, take}
use Rattle.qw_sink.specs.declared.sink.Head.{Head}
use Rattle.qw_sink.specs.Inner.Sink.{HasBegun, HasWritten}
use Rattle.qw_sink.proofs.lines.write_names.Given as goal

abbrev pub invariant-loop-head : goal.invariant-loop-head
invariant-loop-head l = (text : List ℕ) → HasWritten l.fn.writer text → HasBegun l.writer text (map (λ (h : Head). h.name) (take l.head-index l.header))
