use Rattle.std.proofs.Common.{◌≤◌, ◌-◌}
use Rattle.qw_bench.proofs.SeatSteps.{HasRun}
use Rattle.qw_bench.proofs.bench.Seat.run.Given as goal

abbrev pub invariant-loop-taken : goal.invariant-loop-taken
invariant-loop-taken l = HasRun l.fn.self l.fn.pool l.taken l.self l.pool × (l.taken ≤ l.budget)

abbrev pub decreases-loop-taken : goal.decreases-loop-taken
decreases-loop-taken l = l.budget - l.taken
