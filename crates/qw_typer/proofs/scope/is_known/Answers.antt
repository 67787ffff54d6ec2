use Rattle.std.proofs.Common.{◌∙◌}
use Rattle.qw_typer.proofs.ScopeLemmas.{known_is}
use Rattle.qw_typer.proofs.scope.is_known.Goals as goal

pub returns : goal.returns
returns c = c.has_name.ensures ∙ known_is c.args.entries.now c.args.name.now
