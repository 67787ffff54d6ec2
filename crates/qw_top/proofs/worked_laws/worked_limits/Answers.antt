use Rattle.std.proofs.Common.{refl}
use Rattle.qw_top.proofs.worked_laws.worked_limits.Goals as goal

pub returns : goal.returns
returns c = record { texts = refl; tables = refl; modules = refl; defaults = refl }
