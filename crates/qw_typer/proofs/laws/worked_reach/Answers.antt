use Rattle.std.proofs.Common.{refl}
use Rattle.qw_typer.proofs.laws.worked_reach.Goals as goal

pub returns : goal.returns
returns c = record {
  behind = refl;
  up_to_its_own = refl;
  other_source = refl;
}
