use Rattle.qw_expr.proofs.TruthsEmitted.{negation_emits}
use Rattle.qw_expr.proofs.emitter.Emitter.negation.Goals as goal

pub returns-clause-emits : goal.returns-clause-emits
returns-clause-emits c known condition start emitted = negation_emits known condition start c.args.self.now c.test_false.new.self c.args.operand c.in_ok-t.t emitted c.in_ok-t.ensures.emits
