use Rattle.std.proofs.Common.{refl, arith}
use Rattle.qw_feed.proofs.worked_laws.cells_of_values.Goals as goal

pub returns-clause-number : goal.returns-clause-number
returns-clause-number c = ((5, refl, omega arith, refl), refl, refl)
