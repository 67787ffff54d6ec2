use Rattle.qw_compile.proofs.OneTable.{pages_of_rows}
use Rattle.qw_compile.proofs.planned_laws.pages_of_one_table.Goals as goal

pub returns : goal.returns
returns c = pages_of_rows
