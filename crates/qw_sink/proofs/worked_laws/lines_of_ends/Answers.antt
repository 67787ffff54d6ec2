use Rattle.std.proofs.Common.{refl}
use Rattle.std.specs.Fmt.{digits}
use Rattle.qw_sink.proofs.worked_laws.lines_of_ends.Goals as goal

pub returns : goal.returns
unfolding digits
returns c = record { rows = refl; zero = refl; range = refl; pages = refl; steps = refl; counts = refl }
