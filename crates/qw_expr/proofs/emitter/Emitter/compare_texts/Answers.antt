use Rattle.qw_low.proofs.Appended.{if_ok}
use Rattle.qw_expr.proofs.TextDecisions.{texts_emit}
use Rattle.qw_expr.proofs.emitter.Emitter.compare_texts.Goals as goal

pub returns-clause-emits : goal.returns-clause-emits
returns-clause-emits c = if_ok _ _ c.text_compared.result
    (λ out adds known a b start mid typed ta tb low ea eb. texts_emit known c.args.operator a b start mid c.args.self.now c.text_compared.new.self c.args.left c.args.right out typed ta tb low ea eb adds) c.text_compared.ensures.emits
