use Rattle.std.proofs.Common.{refl}
use Rattle.std.specs.Fmt.{digits}
use Rattle.qw_top.proofs.worked_laws.worked_module_lines.Goals as goal

pub returns : goal.returns
unfolding digits
returns c = record { too_long = refl; no_module = refl; profile = refl; part = refl; function = refl; statement = refl }
