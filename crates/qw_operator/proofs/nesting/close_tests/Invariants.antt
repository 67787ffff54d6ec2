use Rattle.std.proofs.Common.{◌≡◌, ◌++◌}
use Rattle.qw_operator.specs.Nesting.{closings}
use Rattle.qw_operator.proofs.nesting.close_tests.Given as goal

abbrev pub invariant-loop-test : goal.invariant-loop-test
invariant-loop-test l = l.block.code.items ≡ l.fn.block.code.items ++ closings l._test
