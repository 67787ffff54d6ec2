use Rattle.std.proofs.Common.{sym, ap, ◌∙◌}
use Rattle.qw_scalar.specs.Typing.{is_number}
use Rattle.qw_low.proofs.Appended.{if_ok}
use Rattle.qw_expr.proofs.Emitted.{brought_emits}
use Rattle.qw_expr.proofs.Constants.{unscaled_emits}
use Rattle.qw_expr.proofs.emitter.Emitter.brought.Goals as goal

pub returns-then-is_number-clause-emits : goal.returns-then-is_number-clause-emits
returns-then-is_number-clause-emits c = if_ok _ _ c.scaled_to.result
    (λ out adds known a start typed low ea. brought_emits known a c.args.scale start c.args.self.now c.scaled_to.new.self c.args.operand out typed
    (ap is_number (sym ea.computes.kind_is) ∙ sym c.is_number.ensures ∙ c.if-is_number.true) low ea adds) c.scaled_to.ensures.emits

pub returns-else-is_number-clause-emits : goal.returns-else-is_number-clause-emits
returns-else-is_number-clause-emits c known a start typed low ea = unscaled_emits known a c.args.scale start c.args.self.now c.args.operand typed (sym c.is_number.ensures ∙ c.if-is_number.false) ea
