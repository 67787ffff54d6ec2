use Rattle.std.proofs.lemmas.Result.{err_from_is_err_and}
use Rattle.qw_typer.proofs.PairLemmas.{refused_values}
use Rattle.qw_typer.proofs.construct.unless_found.Goals as goal

pub returns-in_err-first-clause-gives : goal.returns-in_err-first-clause-gives
returns-in_err-first-clause-gives c x vs g h =
    let err = err_from_is_err_and c.from_residual.result c.from_residual.ensures.1 in
    rw (err.1, err.2) (refused_values c.args.first c.args.others c.in_err-first.field-0.0 x vs _ c.in_err-first.ensures.refused g h)

pub returns-clause-gives : goal.returns-clause-gives
returns-clause-gives c x vs g h =
    let one = rw c.in_ok-first.ensures.found.0 at g in
    let two = rw (c.in_ok-first.ensures.found.0, c.in_ok-first.ensures.found.1) at h in
    let comparable = rw one.1.kind at two.1 in
    rw (one.0, two.0) (c.unless_equal.ensures.gives one.1 comparable)

pub returns-clause-fits : goal.returns-clause-fits
returns-clause-fits c n k m j p q = c.unless_equal.ensures.fits n k m j (rw c.in_ok-first.ensures.found.0 at p) (rw c.in_ok-first.ensures.found.1 at q)
