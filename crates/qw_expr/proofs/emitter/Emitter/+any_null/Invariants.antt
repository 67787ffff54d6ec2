use Rattle.std.proofs.Common.{length}
use Rattle.qw_expr.proofs.emitter.Emitter.+any_null.Given as goal

abbrev pub decreases-any_null : goal.decreases-any_null
decreases-any_null l = length l.rest.now
