use Rattle.std.proofs.lemmas.Result.{err_from_is_err_and}
use Rattle.qw_typer.proofs.PairLemmas.{given, refused_pair, values_given}
use Rattle.qw_typer.proofs.branch.values_more.Goals as goal

pub returns-in_err-x-clause-gives : goal.returns-in_err-x-clause-gives
returns-in_err-x-clause-gives c x y g h =
    let err = err_from_is_err_and c.from_residual.result c.from_residual.ensures.1 in
    rw (err.1, err.2) (refused_pair _ _ c.args.x c.args.others c.in_err-x.field-0.0 x y _ c.in_err-x.ensures.refused (given c.args.x x g) (values_given c.args.kind c.args.others y h))

pub returns-clause-gives : goal.returns-clause-gives
returns-clause-gives c x y g h =
    let one = rw c.in_ok-x.ensures.found.0 at g in
    let two = rw c.in_ok-x.ensures.found.1 at h in
    rw (one.0, two.0) (c.value_before.ensures.gives one.1 two.1)

pub returns-clause-fits : goal.returns-clause-fits
returns-clause-fits c n k m j p q = c.value_before.ensures.fits n k m j (rw c.in_ok-x.ensures.found.0 at p) (rw c.in_ok-x.ensures.found.1 at q)
