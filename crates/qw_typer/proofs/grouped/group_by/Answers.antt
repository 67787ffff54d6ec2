use Rattle.std.proofs.lemmas.Result.{err_from_is_err_and}
use Rattle.qw_ast.specs.SyntaxTree.{select_of}
use Rattle.qw_typer.specs.Inner.Grouping.{as_functions}
use Rattle.qw_typer.specs.Inner.Typing.{as_entries}
use Rattle.qw_typer.proofs.PlacedLemmas.{groups_fit, groups_given, many_refused}
use Rattle.qw_typer.proofs.grouped.group_by.Goals as goal

pub returns-in_err-expect_few-clause-gives : goal.returns-in_err-expect_few-clause-gives
returns-in_err-expect_few-clause-gives c =
    let err = err_from_is_err_and c.from_residual-in_err-expect_few.result c.from_residual-in_err-expect_few.ensures.1 in
    rw (err.1, err.2)
    (many_refused c.in_err-expect_few.field-0.0 (as_entries c.args.entries.now) (select_of c.args.statement.now) c.in_ok-columns.columns.items (as_functions c.in_ok-functions.functions)
    (rw c.as_slice.ensures.value at c.in_ok-columns.ensures) (rw c.requires.written at c.in_ok-functions.ensures.gives) (rw c.requires.written at (c.in_err-expect_few.ensures (as_functions c.in_ok-functions.functions))))

pub returns-clause-gives : goal.returns-clause-gives
returns-clause-gives c =
    groups_given (as_entries c.args.entries.now) (select_of c.args.statement.now) c.in_ok-columns.columns.items (as_functions c.in_ok-functions.functions)
    (rw c.as_slice.ensures.value at c.in_ok-columns.ensures) (rw c.requires.written at c.in_ok-functions.ensures.gives) (rw c.requires.written at (c.in_ok-expect_few.ensures (as_functions c.in_ok-functions.functions)))

pub returns-clause-fits : goal.returns-clause-fits
returns-clause-fits c =
    groups_fit _ (as_entries c.args.entries.now) (select_of c.args.statement.now)
    (rw c.as_slice.ensures.value at c.in_ok-columns.ensures) (rw c.requires.written at c.in_ok-functions.ensures.gives) (rw c.requires.written at (c.in_ok-expect_few.ensures (as_functions c.in_ok-functions.functions)))
    (rw c.requires.written at c.in_ok-functions.ensures.fits)
