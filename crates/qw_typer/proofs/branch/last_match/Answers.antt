use Rattle.std.proofs.lemmas.Result.{err_from_is_err_and}
use Rattle.qw_typer.proofs.PairLemmas.{given, refused_otherwise}
use Rattle.qw_typer.proofs.branch.last_match.Goals as goal

pub returns-in_err-wanted-clause-gives : goal.returns-in_err-wanted-clause-gives
returns-in_err-wanted-clause-gives c e w a b g h i =
    let err = err_from_is_err_and c.from_residual.result c.from_residual.ensures.1 in
    rw (err.1, err.2)
    (refused_otherwise e c.args.wanted c.args.x c.args.other c.in_err-wanted.field-0.0 w a b c.in_err-wanted.ensures.refused g (given c.args.x a h) (given c.args.other b i))

pub returns-clause-gives : goal.returns-clause-gives
returns-clause-gives c e w a b g h i =
    let one = rw c.in_ok-wanted.ensures.found.0 at g in
    let two = rw c.in_ok-wanted.ensures.found.1.0 at h in
    let last = rw c.in_ok-wanted.ensures.found.1.1 at i in
    rw (one, two.0, last.0) (c.only_match.ensures.gives e two.1 last.1)

pub returns-clause-fits : goal.returns-clause-fits
returns-clause-fits c n k m j p i one two last = c.only_match.ensures.fits n k m j p i (rw c.in_ok-wanted.ensures.found.0 at one) (rw c.in_ok-wanted.ensures.found.1.0 at two) (rw c.in_ok-wanted.ensures.found.1.1 at last)
