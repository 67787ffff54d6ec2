use Rattle.std.proofs.Common.{refl}
use Rattle.std.specs.Fmt.{digits}
use Rattle.qw_top.proofs.worked_laws.worked_file_names.Goals as goal

pub returns : goal.returns
unfolding digits
returns c = record { plain = refl; first = refl; last = refl; one = refl; one_file = refl; two_files = refl; untold = refl; told = refl }
