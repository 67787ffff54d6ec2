use Rattle.std.proofs.Common.{refl}
use Rattle.qw_typer.proofs.laws.worked_entries.Goals as goal

pub returns : goal.returns
returns c = record {
  self_join = refl;
  columns = refl;
  twice = refl;
  aliases = refl;
  no_table = refl;
}
