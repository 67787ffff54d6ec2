use Rattle.std.proofs.Common.{ap}
use Rattle.qw_ast.specs.SyntaxTree as syntax
use Rattle.qw_scalar.specs.Tree.{expression_of, expressions_of}
use Rattle.qw_typer.specs.Faults.{first_token}
use Rattle.qw_typer.specs.Inner.Typing.{Refuses, spelled}
use Rattle.qw_typer.proofs.AmongLemmas.{among_given, some_clash}
use Rattle.qw_typer.proofs.construct.one_of.Goals as goal

pub returns-then-not-comparable-clause-gives : goal.returns-then-not-comparable-clause-gives
unfolding Refuses
returns-then-not-comparable-clause-gives c told =
    some_clash (first_token (syntax.expression_of c.args.at.now)) (spelled c.first_token.result) c.args.comparable (expression_of c.args.operand.tree) (expressions_of c.args.values) _
    c.if-not-comparable.true told c.first_token.ensures

pub returns-clause-gives : goal.returns-clause-gives
returns-clause-gives c told =
    among_given (first_token (syntax.expression_of c.args.at.now)) c.args.negated c.args.comparable (expression_of c.args.operand.tree) (expression_of c.in_ok-operand.operand.value)
    (expressions_of c.args.values) (expressions_of c.in_ok-operand.values.value) c.with_not.result c.if-not-comparable.false told
    (ap expression_of c.in_ok-operand.ensures.first) (ap expressions_of c.in_ok-operand.ensures.second) c.with_not.ensures.gives
