use Rattle.std.proofs.lemmas.Result.{err_from_is_err_and}
use Rattle.qw_typer.proofs.PairLemmas.{argument_given, refused_argument}
use Rattle.qw_typer.proofs.set_function.applied.Goals as goal

pub returns-in_err-argument-clause-gives : goal.returns-in_err-argument-clause-gives
returns-in_err-argument-clause-gives c x g =
    let err = err_from_is_err_and c.from_residual.result c.from_residual.ensures.1 in
    rw (err.1, err.2) (refused_argument c.in_err-argument.field-0.0 _ x _ (c.in_err-argument.ensures x g))

pub returns-clause-gives : goal.returns-clause-gives
returns-clause-gives c x g =
    let found = c.in_ok-argument.ensures x g in
    argument_given c.of_argument.result _ x _ _ found.0 (c.of_argument.ensures.gives found.1)
