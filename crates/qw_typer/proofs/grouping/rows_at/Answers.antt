use Rattle.qw_typer.proofs.grouping.rows_at.Goals as goal

pub returns-clause-fits : goal.returns-clause-fits
returns-clause-fits c = c.rows_counted.ensures.fits c.args.place
