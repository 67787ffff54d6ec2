use Rattle.std.proofs.Common.{refl}
use Rattle.std.specs.Fmt.{digits}
use Rattle.qw_generate.specs.Generated.{draw_of, drawn, next, sale_row, sale_rows, state_after}
use Rattle.qw_top.proofs.worked_laws.worked_generated_files.Goals as goal

pub returns : goal.returns
unfolding digits draw_of drawn next sale_row sale_rows state_after
returns c = record { schema = refl; sale = refl; shop = refl; queries = refl; none = refl }
