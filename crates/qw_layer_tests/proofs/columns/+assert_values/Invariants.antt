use Rattle.std.proofs.Common.{length}
use Rattle.qw_layer_tests.proofs.columns.+assert_values.Given as goal

abbrev pub decreases-assert_values : goal.decreases-assert_values
decreases-assert_values g l = length l.values.now
