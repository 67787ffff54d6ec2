use Rattle.qw_low.proofs.Appended.{if_ok}
use Rattle.qw_expr.proofs.Emitted.{negative_emits}
use Rattle.qw_expr.proofs.emitter.Emitter.negative.Goals as goal

pub returns-clause-emits : goal.returns-clause-emits
returns-clause-emits c = if_ok _ _ c.opposite.result (λ out adds known a start typed low ea. negative_emits known a start c.args.self.now c.opposite.new.self c.args.operand out typed low ea adds) c.opposite.ensures.emits
