use Rattle.std.proofs.Common.{◌∙◌}
use Rattle.qw_expr.proofs.JunctionsEmitted.{both_emits}
use Rattle.qw_expr.proofs.emitter.Emitter.end_and.Goals as goal

pub returns-clause-emits : goal.returns-clause-emits
returns-clause-emits c known left right start mid begun low ec begins ed =
    both_emits known left right start mid begun c.args.self.now c.junction_cell.new.self (record { first = c.decided_steps.new.self.first; block = c.push-2.new.self; own = c.decided_steps.new.self.own }) c.args.left c.args.right c.in_ok-out.out
    c.both_steps.new.self.block.code.items c.push.new.self.code.items c.decided_steps.new.self.block.code.items low ec begins ed c.in_ok-out.ensures.cell
    (c.in_ok-decided_steps.ensures.same.0 ∙ c.in_ok-both_steps.ensures.same.0) (c.in_ok-decided_steps.ensures.same.1 ∙ c.in_ok-both_steps.ensures.same.1)
    c.in_ok-both_steps.ensures.code c.in_ok-push.ensures c.in_ok-decided_steps.ensures.code c.in_ok-push-2.ensures
