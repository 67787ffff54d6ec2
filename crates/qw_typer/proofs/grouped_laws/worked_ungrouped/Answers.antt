use Rattle.std.proofs.Common.{refl}
use Rattle.qw_typer.proofs.grouped_laws.worked_ungrouped.Goals as goal

pub returns : goal.returns
returns c = record {
  list = refl;
  having = refl;
  star = refl;
  star_of_several = refl;
}
