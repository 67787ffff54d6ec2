use Rattle.std.proofs.Common.{length}
use Rattle.qw_layer_tests.proofs.columns.+are_there.Given as goal

abbrev pub decreases-are_there : goal.decreases-are_there
decreases-are_there l = length l.values.now
