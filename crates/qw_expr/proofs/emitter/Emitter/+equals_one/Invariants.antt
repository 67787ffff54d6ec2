use Rattle.std.proofs.Common.{length}
use Rattle.qw_expr.proofs.emitter.Emitter.+equals_one.Given as goal

abbrev pub decreases-equals_one : goal.decreases-equals_one
decreases-equals_one l = length l.sought.now
