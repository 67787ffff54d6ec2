use Rattle.std.proofs.Common.{refl}
use Rattle.qw_typer.proofs.grouped_laws.worked_group.Goals as goal

pub returns : goal.returns
returns c = record {
  faultless = refl;
  grouped = refl;
  columns = refl;
  functions = refl;
  items = refl;
  having = refl;
  conjuncts = refl;
}
