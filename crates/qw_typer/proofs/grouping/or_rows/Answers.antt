use Rattle.std.proofs.Common.{rules, ◌≡◌, [], ◌∷◌, ◌++◌}
use Rattle.qw_typer.proofs.GroupingLemmas.{rows_added}
use Rattle.qw_typer.proofs.grouping.or_rows.Goals as goal

pub returns-in_ok-push-clause-fits : goal.returns-in_ok-push-clause-fits
returns-in_ok-push-clause-fits c =
    let more : c.push.new.self.items ≡ c.args.functions.now.items ++ c.rows_counted.result ∷ [] = search rules in
    rows_added c.args.functions.now.items c.push.new.self.items c.rows_counted.result more (c.rows_counted.ensures.fits 0)
