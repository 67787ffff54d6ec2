use Rattle.std.proofs.lemmas.Result.{err_from_is_err_and}
use Rattle.qw_ast.specs.SyntaxTree as syntax
use Rattle.qw_scalar.specs.Tree.{expression_of}
use Rattle.qw_typer.specs.Inner.Typing.{as_entries}
use Rattle.qw_typer.proofs.GroupingLemmas.{applied_column, applied_gives, applied_refused, argument_refused}
use Rattle.qw_typer.proofs.grouping.applied.Goals as goal

pub returns-in_err-x-clause-gives : goal.returns-in_err-x-clause-gives
returns-in_err-x-clause-gives c =
    let err = err_from_is_err_and c.from_residual.result c.from_residual.ensures.1 in
    rw (err.1, err.2) (argument_refused c.in_err-x.field-0.0 (as_entries c.args.entries.now) c.args.place c.args.function (syntax.expression_of c.args.argument.now) (rw c.ungrouped.ensures at c.in_err-x.ensures.gives))

pub returns-in_err-expect_argument-clause-gives : goal.returns-in_err-expect_argument-clause-gives
returns-in_err-expect_argument-clause-gives c =
    let err = err_from_is_err_and c.from_residual-in_err-expect_argument.result c.from_residual-in_err-expect_argument.ensures.1 in
    rw (err.1, err.2)
    (applied_refused c.in_err-expect_argument.field-0.0 (as_entries c.args.entries.now) c.args.place c.args.function (syntax.expression_of c.args.argument.now) (expression_of c.in_ok-x.x.tree)
    (rw c.ungrouped.ensures at c.in_ok-x.ensures.gives.0) (c.in_err-expect_argument.ensures.gives _))

pub returns-clause-gives : goal.returns-clause-gives
returns-clause-gives c =
    let a = syntax.expression_of c.args.argument.now in
    let x = expression_of c.in_ok-x.x.tree in (
      applied_gives (as_entries c.args.entries.now) c.args.place c.args.function a x c.kind_of_function.result (rw c.ungrouped.ensures at c.in_ok-x.ensures.gives.0) c.in_ok-expect_argument.ensures.gives c.kind_of_function.ensures,
      applied_column c.args.place c.args.function a c.kind_of_function.result x c.value_type-ty.result c.in_ok-x.x.kind c.kind_of_function.ensures c.value_type-ty.ensures c.in_ok-x.ensures.gives.1.kind,
    )

pub returns-clause-fits : goal.returns-clause-fits
returns-clause-fits c = record { nodes_fit = c.in_ok-x.ensures.fits.nodes_fit; octets_fit = c.in_ok-x.ensures.fits.octets_fit }
