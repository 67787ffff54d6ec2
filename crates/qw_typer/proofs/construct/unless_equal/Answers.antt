use Rattle.std.proofs.Common.{refl}
use Rattle.qw_ast.specs.SyntaxTree as syntax
use Rattle.qw_scalar.specs.Tree.{expression_of, expressions_of}
use Rattle.qw_typer.specs.Faults.{first_token}
use Rattle.qw_typer.specs.Inner.Typing.{Refuses, spelled}
use Rattle.qw_typer.proofs.AmongLemmas.{unless_told, some_clash}
use Rattle.qw_typer.proofs.construct.unless_equal.Goals as goal

pub returns-then-not-comparable-clause-gives : goal.returns-then-not-comparable-clause-gives
unfolding Refuses
returns-then-not-comparable-clause-gives c told compared =
    some_clash (first_token (syntax.expression_of c.args.at.now)) (spelled c.first_token.result) c.args.comparable (expression_of c.args.first.tree) (expressions_of c.args.others) _
    c.if-not-comparable.true compared c.first_token.ensures

pub returns-clause-gives : goal.returns-clause-gives
returns-clause-gives c told compared =
    unless_told (first_token (syntax.expression_of c.args.at.now)) c.args.comparable c.args.first (expressions_of c.args.others) _ c.if-not-comparable.false told compared
    (rw (c.in_ok-arguments.ensures.same, c.in_ok-first.ensures.first, c.in_ok-first.ensures.second) refl)
