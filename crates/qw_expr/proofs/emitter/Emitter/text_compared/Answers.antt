use Rattle.std.proofs.Common.{◌∙◌, refl, arith}
use Rattle.qw_expr.proofs.Extents.{texts_comparing}
use Rattle.qw_expr.proofs.TextDecisions.{text_adds}
use Rattle.qw_expr.proofs.emitter.Emitter.text_compared.Goals as goal

pub returns-clause-emits : goal.returns-clause-emits
returns-clause-emits c = text_adds c.args.operator c.args.left c.args.right c.args.self.now c.text_locals.new.self c.end_unless.new.self _ c.in_ok-to.to c.join_nulls.new.self.block.code.items c.begin_zero.new.self.block.code.items c.text_test.new.self.block.code.items c.in_ok-null.null
    c.in_ok-text_test.ensures.code.0 c.in_ok-to.ensures.locals
    (c.in_ok-end_unless.ensures.same.0 ∙ c.in_ok-text_test.ensures.same.0 ∙ c.in_ok-begin_zero.ensures.same.0 ∙ c.in_ok-null.ensures.same.0)
    (c.in_ok-end_unless.ensures.same.1 ∙ c.in_ok-text_test.ensures.same.1 ∙ c.in_ok-begin_zero.ensures.same.1 ∙ c.in_ok-null.ensures.same.1)
    c.in_ok-null.ensures.null c.in_ok-null.ensures.code c.in_ok-begin_zero.ensures.code c.in_ok-text_test.ensures.code.1 c.in_ok-end_unless.ensures.code c.in_ok-text_test.ensures.code.2 refl

pub returns-clause-short : goal.returns-clause-short
returns-clause-short c =
    omega (arith, c.in_ok-to.ensures.short, c.in_ok-null.ensures.short, c.in_ok-begin_zero.ensures.short, c.in_ok-text_test.ensures.short, c.in_ok-end_unless.ensures.short, texts_comparing c.args.operator)
