use Rattle.qw_scalar.specs.Tree.{condition_of}
use Rattle.qw_expr.specs.Bindings.{known_of}
use Rattle.qw_expr.proofs.Tests.{truth_tests}
use Rattle.qw_expr.proofs.emitter.Emitter.test_truth.Goals as goal

pub returns-clause-emits : goal.returns-clause-emits
returns-clause-emits c = truth_tests (known_of c.args.known.now) (condition_of c.args.cond.now) c.args.self.now c.emit_truth.new.emitter c.in_ok-t.t c.in_ok-t.ensures.emits
