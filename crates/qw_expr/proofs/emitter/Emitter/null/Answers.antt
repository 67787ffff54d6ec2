use Rattle.qw_expr.proofs.Constants.{null_emits}
use Rattle.qw_expr.proofs.emitter.Emitter.null.Goals as goal

pub returns-clause-emits : goal.returns-clause-emits
returns-clause-emits c known = null_emits known c.args.self.now c.flag.new.self c.in_ok-n.n c.in_ok-n.ensures.emits
