use Rattle.std.proofs.Common.{pos, refl}
use Rattle.qw_types.proofs.DayLemmas.{day_is}
use Rattle.qw_meaning.proofs.select_laws.rows.Goals as goal

pub returns-clause-row : goal.returns-clause-row
returns-clause-row c = (refl, (refl, (day_is (pos 19980902) refl, (tt, tt))))
