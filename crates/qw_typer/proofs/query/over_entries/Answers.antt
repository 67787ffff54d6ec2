use Rattle.std.proofs.Common.{rules, ◌≡◌, refl}
use Rattle.qw_ast.specs.SyntaxTree.{select_of}
use Rattle.qw_typer.specs.Inner.Typing.{as_entries}
use Rattle.qw_typer.specs.Meant.{ungrouped}
use Rattle.qw_typer.specs.Typed.{result_names}
use Rattle.qw_typer.proofs.FitLemmas.{query_fits}
use Rattle.qw_typer.proofs.query.over_entries.Goals as goal

pub returns-clause-gives : goal.returns-clause-gives
returns-clause-gives c =
    let names : c.in_ok-names.names.items ≡ result_names (ungrouped (as_entries c.args.entries.now)) (select_of c.args.statement.now).selected = search rules in
    (rw (c.in_ok-items.ensures.gives, rw c.as_slice.ensures.value at c.in_ok-sources.ensures.gives, rw c.ungrouped-scope.ensures at c.in_ok-conjuncts.ensures.gives) refl, names)

pub returns-clause-fits : goal.returns-clause-fits
returns-clause-fits c few = query_fits _ (select_of c.args.statement.now) (c.in_ok-items.ensures.fits few) (rw c.as_slice.ensures.value at c.in_ok-sources.ensures.fits) c.in_ok-conjuncts.ensures.fits
