use Rattle.std.proofs.Common.{◌≡◌, ◌++◌}
use Rattle.qw_low.specs.Steps.{steps_of}
use Rattle.qw_feed.specs.Cells.{cells_block}
use Rattle.qw_operator.specs.Emitted.{sources_of}
use Rattle.qw_operator.proofs.CellSteps.{left_cells}
use Rattle.qw_operator.proofs.cells.store_cells.Given as goal

abbrev pub invariant-loop-index : goal.invariant-loop-index
invariant-loop-index l = l.block.code.items ++ left_cells l.values l.index ≡ l.initial.block.code.items ++ steps_of (cells_block 8 (sources_of l.values))
