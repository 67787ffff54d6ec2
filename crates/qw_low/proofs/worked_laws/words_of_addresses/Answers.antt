use Rattle.std.proofs.Common.{refl, arith}
use Rattle.qw_low.proofs.worked_laws.words_of_addresses.Goals as goal

pub returns-clause-page : goal.returns-clause-page
returns-clause-page c = (record { start = 65536; size = 65536 }, refl, omega arith, refl)

pub returns-clause-column : goal.returns-clause-column
returns-clause-column c = (record { start = 64; size = 12 }, refl, omega arith, refl)
