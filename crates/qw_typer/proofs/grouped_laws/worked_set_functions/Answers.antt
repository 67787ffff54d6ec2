use Rattle.std.proofs.Common.{refl}
use Rattle.qw_typer.proofs.grouped_laws.worked_set_functions.Goals as goal

pub returns : goal.returns
returns c = record {
  filter = refl;
  on = refl;
  argument = refl;
  text = refl;
  fifteen = refl;
  fourteen = refl;
}
