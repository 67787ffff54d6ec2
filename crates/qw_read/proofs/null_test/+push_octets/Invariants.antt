use Rattle.std.proofs.Common.{length}
use Rattle.qw_read.proofs.null_test.+push_octets.Given as goal

abbrev pub decreases-push_octets : goal.decreases-push_octets
decreases-push_octets l = length l.readers.now
