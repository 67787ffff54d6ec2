use Rattle.qw_low.proofs.Appended.{if_ok}
use Rattle.qw_expr.proofs.TruthsEmitted.{numbers_emit}
use Rattle.qw_expr.proofs.emitter.Emitter.compare_numbers.Goals as goal

pub returns-clause-emits : goal.returns-clause-emits
returns-clause-emits c = if_ok _ _ c.compared.result
    (λ out adds known a b start mid typed na nb low ea eb. numbers_emit known c.args.operator a b start mid c.args.self.now c.compared.new.self c.args.left c.args.right out typed na nb low ea eb adds)
    (rw (c.scaled.ensures, c.scaled-2.ensures) at c.compared.ensures.emits)
