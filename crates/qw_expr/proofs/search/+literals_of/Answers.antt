use Rattle.qw_scalar.specs.declared.comparison.Comparison.TheVariants.{Equal}
use Rattle.qw_scalar.specs.Expression.{among, comparison}
use Rattle.qw_scalar.specs.Tree.{expression_of, expressions_of}
use Rattle.qw_expr.specs.Bindings.{known_of}
use Rattle.qw_expr.specs.Inner.Made.{with_operand}
use Rattle.qw_expr.proofs.Sought.{more_sought}
use Rattle.qw_expr.proofs.search.+literals_of.Goals as goal

pub returns-in_ok-push-in-Last-clause-made : goal.returns-in_ok-push-in-Last-clause-made
returns-in_ok-push-in-Last-clause-made t c next served =
    rw (c.in-Last.is, c.in_ok-push-in-Last.ensures.items, c.new-sought.ensures.items) ((rw c.deref.ensures at c.in-Some.ensures) next served)

pub returns-in_ok-push-in-More-clause-made : goal.returns-in_ok-push-in-More-clause-made
returns-in_ok-push-in-More-clause-made t c next served =
    let e = expression_of c.args.operand.now in
    let first = rw c.deref-in-More.ensures at c.in-Some-literal_of.ensures in
    let rest = rw (c.deref-in-More-2.ensures, c.in-Some-2.is) at c.in_ok-sought-in-More.ensures.made in
    rw (c.in-More.is, c.in_ok-push-in-More.ensures.items)
    (more_sought (with_operand e c.args.x (known_of c.args.known.now)) (comparison Equal e (expression_of c.in-More.value.value)) (among e (expressions_of c.in-More.rest.value)) c.args.x c.in-Some-literal_of.literal c.in-Some-2.sought.items first rest next served)
