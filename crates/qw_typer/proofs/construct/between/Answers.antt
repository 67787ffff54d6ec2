use Rattle.std.proofs.lemmas.Result.{err_from_is_err_and}
use Rattle.qw_typer.proofs.PairLemmas.{given, refused_three}
use Rattle.qw_typer.proofs.construct.between.Goals as goal

pub returns-in_err-operand-clause-gives : goal.returns-in_err-operand-clause-gives
returns-in_err-operand-clause-gives c x y z g h i =
    let err = err_from_is_err_and c.from_residual.result c.from_residual.ensures.1 in
    rw (err.1, err.2)
    (refused_three _ _ _ c.args.operand c.args.least c.args.greatest c.in_err-operand.field-0.0 x y z _ c.in_err-operand.ensures.refused (given c.args.operand x g) (given c.args.least y h) (given c.args.greatest z i))

pub returns-clause-gives : goal.returns-clause-gives
returns-clause-gives c x y z g h i =
    let one = rw c.in_ok-operand.ensures.found.0 at g in
    let two = rw c.in_ok-operand.ensures.found.1.0 at h in
    let last = rw c.in_ok-operand.ensures.found.1.1 at i in
    rw (one.0, two.0, last.0) (c.within.ensures.gives one.1 two.1 last.1)

pub returns-clause-fits : goal.returns-clause-fits
returns-clause-fits c n k m j p i one two last = c.within.ensures.fits n k m j p i (rw c.in_ok-operand.ensures.found.0 at one) (rw c.in_ok-operand.ensures.found.1.0 at two) (rw c.in_ok-operand.ensures.found.1.1 at last)
