use Rattle.std.proofs.Common.{take}
use Rattle.qw_bench.specs.Bench.{ArePlaced}
use Rattle.qw_bench.proofs.bench.start.placed_columns.Given as goal

abbrev pub invariant-loop-used : goal.invariant-loop-used
invariant-loop-used l = ArePlaced l.map.placed (take l.used-index l.columns) l.placed.items
