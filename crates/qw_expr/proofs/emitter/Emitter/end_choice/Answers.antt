use Rattle.qw_expr.proofs.ChoicesEmitted.{choice_emits}
use Rattle.qw_expr.proofs.emitter.Emitter.end_choice.Goals as goal

pub returns-clause-emits : goal.returns-clause-emits
returns-clause-emits c known condition a b text start mid typed suits low h eb =
    choice_emits known condition a b text start mid c.args.self.now (record { first = c.copy.new.self.first; block = c.push.new.self; own = c.copy.new.self.own }) c.args.to c.args.first c.args.second c.chosen.result c.copy.new.self.block.code.items
    typed suits low h eb c.in_ok-copy.ensures.same.0 c.in_ok-copy.ensures.same.1 c.in_ok-copy.ensures.code c.in_ok-push.ensures c.chosen.ensures
