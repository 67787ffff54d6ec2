use Rattle.std.proofs.Common.{◌≡◌}
use Rattle.qw_top.specs.Delivered.{ends_below, status_of_ends}
use Rattle.qw_top.proofs.top.report.status_of.Given as goal

abbrev pub invariant-loop-k : goal.invariant-loop-k
invariant-loop-k l = l.status ≡ status_of_ends (ends_below l.bench l.k)
