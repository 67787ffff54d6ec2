use Rattle.std.proofs.Common.{refl}
use Rattle.std.specs.Fmt.{digits}
use Rattle.qw_top.proofs.worked_laws.worked_table_lines.Goals as goal

pub returns : goal.returns
unfolding digits
returns c = record { too_long = refl; bad_header = refl; field_count = refl; not_number = refl; too_large = refl; too_fine = refl; not_date = refl; null = refl; text_too_long = refl; not_utf8 = refl; too_many_rows = refl }
