use Rattle.std.proofs.Common.{length}
use Rattle.qw_operator.proofs.guard.+bind.Given as goal

abbrev pub decreases-bind : goal.decreases-bind
decreases-bind l = length l.known.now
