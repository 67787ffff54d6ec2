-- The steps of the cells of a row, one cell after another.
use Rattle.std.proofs.Common.{ℕ, ◌+◌, ◌*◌, List, drop}
use Rattle.qw_low.specs.declared.step.LowStep.{LowStep}
use Rattle.qw_low.specs.Steps.{steps_of}
use Rattle.qw_expr.specs.declared.operand.Operand.{Operand}
use Rattle.qw_feed.specs.Cells.{cells_block}
use Rattle.qw_operator.specs.Emitted.{sources_of}

-- what is left of the cells
abbrev pub left_cells : List Operand → (done : ℕ) → List LowStep
left_cells os i = steps_of (cells_block (8 + 16 * i) (sources_of (drop i os)))
