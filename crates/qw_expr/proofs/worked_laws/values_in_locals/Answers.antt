use Rattle.std.proofs.Common.{refl, arith}
use Rattle.qw_expr.proofs.worked_laws.values_in_locals.Goals as goal

pub returns-clause-number : goal.returns-clause-number
returns-clause-number c = ((18446744073709551611, refl, omega arith, refl), refl, refl)

pub returns-clause-date : goal.returns-clause-date
returns-clause-date c = ((19980902, refl, omega arith, refl), refl)
