use Rattle.qw_scalar.specs.declared.comparison.Comparison.TheVariants.{GreaterOrEqual, LessOrEqual}
use Rattle.qw_scalar.specs.Expression.{comparison}
use Rattle.qw_scalar.specs.Tree.{expression_of}
use Rattle.qw_expr.specs.Bindings.{known_of}
use Rattle.qw_expr.specs.Inner.Made.{with_operand}
use Rattle.qw_expr.proofs.PlainTests.{both_plain}
use Rattle.qw_expr.proofs.plain.within.Goals as goal

pub returns-clause-plain : goal.returns-clause-plain
returns-clause-plain c next served =
    let e = expression_of c.args.operand.now in
    both_plain (with_operand e c.args.x (known_of c.args.known.now)) next (comparison GreaterOrEqual e (expression_of c.args.least.now)) (comparison LessOrEqual e (expression_of c.args.greatest.now)) c.in-Some.lower c.in-Some-related.upper
    (c.in-Some.ensures.plain next served) (c.in-Some-related.ensures.plain next served) c.in_ok-both.field-0 c.in_ok-both.ensures.word (c.in_ok-both.ensures.below next)
