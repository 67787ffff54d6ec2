use Rattle.std.proofs.Common.{length}
use Rattle.qw_expr.proofs.emitter.Emitter.+search_halves.Given as goal

abbrev pub decreases-search_halves : goal.decreases-search_halves
decreases-search_halves l = length l.sought.now
