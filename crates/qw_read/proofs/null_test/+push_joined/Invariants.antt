use Rattle.std.proofs.Common.{length}
use Rattle.qw_read.proofs.null_test.+push_joined.Given as goal

abbrev pub decreases-push_joined : goal.decreases-push_joined
decreases-push_joined l = length l.rest.now
