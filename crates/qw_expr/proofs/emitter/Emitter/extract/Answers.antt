use Rattle.qw_low.proofs.Appended.{if_ok}
use Rattle.qw_expr.proofs.Constants.{field_emits}
use Rattle.qw_expr.proofs.emitter.Emitter.extract.Goals as goal

pub returns-clause-emits : goal.returns-clause-emits
returns-clause-emits c = if_ok _ _ c.field.result (λ out adds known a start typed low ea. field_emits known c.args.field a start c.args.self.now c.field.new.self c.args.operand out typed low ea adds) c.field.ensures.emits
