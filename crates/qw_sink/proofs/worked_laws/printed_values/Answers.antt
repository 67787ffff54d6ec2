use Rattle.std.proofs.Common.{refl}
use Rattle.std.specs.Fmt.{digits}
use Rattle.qw_sink.proofs.worked_laws.printed_values.Goals as goal

pub returns : goal.returns
unfolding digits
returns c = record { null = refl; whole = refl; price = refl; below = refl; date = refl; text = refl; row = refl }
