use Rattle.std.proofs.Common.{length}
use Rattle.qw_bench.proofs.FirstSeatLemmas.{AreSoFar}
use Rattle.qw_bench.proofs.bench.start.first_seats.Given as goal

abbrev pub invariant-loop-job : goal.invariant-loop-job
invariant-loop-job l =
    (goal.iterator-loop-job).can_next l.job-iterator ×
    (goal.iterator-loop-job).is_finite l.job-iterator ×
    AreSoFar l.map.placed l.fn.memory l.memory l.fn.jobs.items l.limits l.seats.items (length l.yielded)
