use Rattle.std.proofs.lemmas.Result.{err_from_is_err_and}
use Rattle.qw_scalar.specs.Tree.{condition_of}
use Rattle.qw_typer.proofs.PairLemmas.{choices_given, given, refused_three}
use Rattle.qw_typer.proofs.branch.when.Goals as goal

pub returns-in_err-test-clause-gives : goal.returns-in_err-test-clause-gives
returns-in_err-test-clause-gives c x y z g h i =
    let err = err_from_is_err_and c.from_residual.result c.from_residual.ensures.1 in
    rw (err.1, err.2)
    (refused_three condition_of _ _ c.args.test c.args.x c.args.others c.in_err-test.field-0.0 x y z _ c.in_err-test.ensures.refused g (given c.args.x y h) (choices_given c.args.others z i))

pub returns-clause-gives : goal.returns-clause-gives
returns-clause-gives c x y z g h i =
    let one = rw c.in_ok-test.ensures.found.0 at g in
    let two = rw c.in_ok-test.ensures.found.1.0 at h in
    let last = rw c.in_ok-test.ensures.found.1.1 at i in
    rw (one, two.0, last.0) (c.branch_before.ensures.gives two.1 last.1)

pub returns-clause-fits : goal.returns-clause-fits
returns-clause-fits c n k m j p i one two last = c.branch_before.ensures.fits n k m j p i (rw c.in_ok-test.ensures.found.0 at one) (rw c.in_ok-test.ensures.found.1.0 at two) (rw c.in_ok-test.ensures.found.1.1 at last)
