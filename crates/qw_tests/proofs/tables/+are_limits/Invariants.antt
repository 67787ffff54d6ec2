use Rattle.std.proofs.Common.{length}
use Rattle.qw_tests.proofs.tables.+are_limits.Given as goal

abbrev pub decreases-are_limits : goal.decreases-are_limits
decreases-are_limits l = length l.limits.now
