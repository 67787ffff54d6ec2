use Rattle.std.proofs.Common.{refl}
use Rattle.std.specs.Fmt.{digits}
use Rattle.qw_top.proofs.worked_laws.worked_part_lines.Goals as goal

pub returns : goal.returns
unfolding digits
returns c = record { too_long = refl; bad_header = refl; field_count = refl; not_number = refl; null = refl; too_many_rows = refl }
