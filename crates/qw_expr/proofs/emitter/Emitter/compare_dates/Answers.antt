use Rattle.qw_low.proofs.Appended.{if_ok}
use Rattle.qw_expr.proofs.TruthsEmitted.{dates_emit}
use Rattle.qw_expr.proofs.emitter.Emitter.compare_dates.Goals as goal

pub returns-clause-emits : goal.returns-clause-emits
returns-clause-emits c = if_ok _ _ c.compared.result
    (λ out adds known a b start mid typed da db low ea eb. dates_emit known c.args.operator a b start mid c.args.self.now c.compared.new.self c.args.left c.args.right out typed da db low ea eb adds)
    (rw (c.dated.ensures, c.dated-2.ensures) at c.compared.ensures.emits)
