use Rattle.qw_scalar.specs.Expression.{brought}
use Rattle.qw_expr.proofs.emitter.Emitter.first_brought.Goals as goal

pub returns-clause-emits : goal.returns-clause-emits
returns-clause-emits c known condition a text start mid begun test typed low ec begins ea =
    c.in_ok-begin_other.ensures.first known condition (brought a c.args.scale) text start mid begun test ec begins (c.in_ok-first.ensures.emits known a begun typed low ea)
