use Rattle.qw_low.proofs.Appended.{on_ok}
use Rattle.qw_expr.proofs.ChoicesEmitted.{has_first}
use Rattle.qw_expr.proofs.emitter.Emitter.begin_other.Goals as goal

pub returns-clause-first : goal.returns-clause-first
returns-clause-first c = on_ok _ _ c.push.result
    (λ pushed known condition a text start mid begun test ec begins ea.
    has_first known condition a text start mid begun c.args.self.now (record { first = c.copy.new.self.first; block = c.push.new.self; own = c.copy.new.self.own }) test c.args.to c.args.first c.copy.new.self.block.code.items
    ec begins ea c.in_ok-copy.ensures.same.0 c.in_ok-copy.ensures.same.1 c.in_ok-copy.ensures.code pushed) c.push.ensures
