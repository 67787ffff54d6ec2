use Rattle.std.proofs.Common.{refl}
use Rattle.std.specs.Fmt.{digits}
use Rattle.qw_sink.proofs.worked_laws.printed_dates.Goals as goal

pub returns : goal.returns
unfolding digits
returns c = record { day = refl; first = refl; last = refl }
