use Rattle.std.proofs.Common.{refl}
use Rattle.qw_typer.proofs.laws.worked_left_joins.Goals as goal

pub returns : goal.returns
returns c = record {
  faultless = refl;
  sources = refl;
  declared = refl;
  behind = refl;
  other_source = refl;
}
