use Rattle.std.proofs.lemmas.Result.{err_from_is_err_and}
use Rattle.qw_scalar.specs.Expression as meaning
use Rattle.qw_scalar.specs.Tree.{expression_of}
use Rattle.qw_scalar.specs.declared.comparison.Comparison.TheVariants.{Equal}
use Rattle.qw_typer.specs.declared.tree.Typed.{Typed}
use Rattle.qw_typer.proofs.PairLemmas.{given, matches_given, refused_three}
use Rattle.qw_typer.proofs.branch.match_more.Goals as goal

pub returns-in_err-wanted-clause-gives : goal.returns-in_err-wanted-clause-gives
returns-in_err-wanted-clause-gives c e w a rest g h i =
    let err = err_from_is_err_and c.from_residual.result c.from_residual.ensures.1 in
    rw (err.1, err.2)
    (refused_three (λ (t : Typed). meaning.comparison Equal e (expression_of t.tree)) _ _ c.args.wanted c.args.x c.args.others c.in_err-wanted.field-0.0 w a rest _ c.in_err-wanted.ensures.refused g (given c.args.x a h) (matches_given e c.args.others rest i))

pub returns-clause-gives : goal.returns-clause-gives
returns-clause-gives c e w a rest g h i =
    let one = rw c.in_ok-wanted.ensures.found.0 at g in
    let two = rw c.in_ok-wanted.ensures.found.1.0 at h in
    let last = rw c.in_ok-wanted.ensures.found.1.1 at i in
    rw (one, two.0, last.0) (c.match_before.ensures.gives e two.1 last.1)

pub returns-clause-fits : goal.returns-clause-fits
returns-clause-fits c n k m j p i one two last = c.match_before.ensures.fits n k m j p i (rw c.in_ok-wanted.ensures.found.0 at one) (rw c.in_ok-wanted.ensures.found.1.0 at two) (rw c.in_ok-wanted.ensures.found.1.1 at last)
