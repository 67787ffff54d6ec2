use Rattle.qw_scalar.specs.Expression.{negation_of}
use Rattle.qw_expr.proofs.Tests.{truth_tests, zero_tests}
use Rattle.qw_expr.proofs.emitter.Emitter.test_negation.Goals as goal

pub returns-in-None-clause-emits : goal.returns-in-None-clause-emits
returns-in-None-clause-emits c known condition start ec = zero_tests known condition start c.args.self.now c.args.operand c.in-None.is ec

pub returns-in_ok-t-in-Some-clause-emits : goal.returns-in_ok-t-in-Some-clause-emits
returns-in_ok-t-in-Some-clause-emits c known condition start ec = truth_tests known (negation_of condition) start c.negation.new.self c.in_ok-t-in-Some.t (c.in_ok-t-in-Some.ensures.emits known condition start ec)
