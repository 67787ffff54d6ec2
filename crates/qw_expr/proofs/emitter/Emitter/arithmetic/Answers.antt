use Rattle.qw_low.proofs.Appended.{if_ok}
use Rattle.qw_expr.proofs.Emitted.{operated_emits}
use Rattle.qw_expr.proofs.emitter.Emitter.arithmetic.Goals as goal

pub returns-clause-emits : goal.returns-clause-emits
returns-clause-emits c = if_ok _ _ c.operated.result
    (λ out adds known a b start mid typed low ea eb. operated_emits known c.args.operator a b start mid c.args.self.now c.operated.new.self c.args.left c.args.right out adds.code adds.made typed low ea eb adds.first_is adds.own_is adds.code_is adds.operated)
    c.operated.ensures.emits
