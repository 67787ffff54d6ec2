use Rattle.std.proofs.Common.{refl}
use Rattle.qw_typer.proofs.grouped_laws.worked_groups.Goals as goal

pub returns : goal.returns
returns c = record {
  kept = refl;
  counted = refl;
  plain = refl;
  star_faultless = refl;
  star = refl;
}
