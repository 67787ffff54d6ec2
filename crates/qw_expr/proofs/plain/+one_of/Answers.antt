use Rattle.qw_scalar.specs.declared.comparison.Comparison.TheVariants.{Equal}
use Rattle.qw_scalar.specs.Expression.{among, comparison}
use Rattle.qw_scalar.specs.Tree.{expression_of, expressions_of}
use Rattle.qw_expr.specs.Bindings.{known_of}
use Rattle.qw_expr.specs.Inner.Made.{with_operand}
use Rattle.qw_expr.proofs.PlainTests.{swapped_plain}
use Rattle.qw_expr.proofs.plain.+one_of.Goals as goal

pub returns-in_ok-either-in-More-clause-plain : goal.returns-in_ok-either-in-More-clause-plain
returns-in_ok-either-in-More-clause-plain t c next served =
    let e = expression_of c.args.operand.now in
    rw c.in-More.is
    (swapped_plain (with_operand e c.args.x (known_of c.args.known.now)) next (comparison Equal e (expression_of c.in-More.wanted.value)) (among e (expressions_of c.in-More.rest.value)) c.in-Some.first c.in-Some-2.others
    ((rw c.deref-in-More.ensures at c.in-Some.ensures.plain) next served) ((rw (c.deref-in-More-2.ensures, c.in-Some-2.is) at c.in_ok-others-in-More.ensures.plain) next served) c.in_ok-either-in-More.field-0 c.in_ok-either-in-More.ensures.word (c.in_ok-either-in-More.ensures.below next))
