use Rattle.std.proofs.Common.{◌≡◌, List, ℕ, Some, take}
use Rattle.qw_types.specs.declared.value.Val.{Val}
use Rattle.qw_map.specs.Areas.{Area}
use Rattle.qw_map.specs.Layout.{cells_at}
use Rattle.qw_sink.specs.Sink.{printed_row}
use Rattle.qw_sink.specs.Inner.Sink.{HasBegun, HasWritten}
use Rattle.qw_sink.proofs.received.write_cells.Given as goal

abbrev pub invariant-loop-index : goal.invariant-loop-index
invariant-loop-index l = (texts : List Area) (row : List Val) → cells_at texts l.memory.octets l.cells l.kinds ≡ Some row →
    (text : List ℕ) → HasWritten l.fn.writer text → HasBegun l.writer text (take l.index (printed_row l.header row))
