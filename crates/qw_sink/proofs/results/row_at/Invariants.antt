use Rattle.std.proofs.Common.{List, IsSome}
use Rattle.qw_map.specs.Areas.{Area}
use Rattle.qw_map.specs.Layout.{cells_at}
use Rattle.qw_map.proofs.ResultRows.{AreCells}
use Rattle.qw_sink.proofs.results.row_at.Given as goal

abbrev pub invariant-loop-index : goal.invariant-loop-index
invariant-loop-index l = (texts : List Area) → IsSome (cells_at texts l.memory.octets l.cells l.kinds) → AreCells texts l.memory.octets l.kinds l.cells l.index l.values.items
