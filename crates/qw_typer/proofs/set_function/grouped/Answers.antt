use Rattle.std.proofs.lemmas.Result.{err_from_is_err_and}
use Rattle.qw_typer.proofs.OutcomeLemmas.{refuses_then}
use Rattle.qw_typer.proofs.set_function.grouped.Goals as goal

pub returns-in_err-expect_grouping : goal.returns-in_err-expect_grouping
returns-in_err-expect_grouping c x g =
    let err = err_from_is_err_and c.from_residual.result c.from_residual.ensures.1 in
    rw (err.1, err.2) (refuses_then c.in_err-expect_grouping.field-0.0 _ _ c.in_err-expect_grouping.ensures)

pub returns : goal.returns
returns c x g = rw c.in_ok-expect_grouping.ensures g
