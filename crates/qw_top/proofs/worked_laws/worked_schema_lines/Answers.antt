use Rattle.std.proofs.Common.{refl}
use Rattle.std.specs.Fmt.{digits}
use Rattle.qw_top.proofs.worked_laws.worked_schema_lines.Goals as goal

pub returns : goal.returns
unfolding digits
returns c = record { too_long = refl; not_utf8 = refl; not_token = refl; not_grammar = refl; too_deep = refl; too_many = refl; duplicate = refl; bad_size = refl }
