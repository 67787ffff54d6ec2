use Rattle.qw_whole.proofs.PlannedRows.{rows_told}
use Rattle.qw_whole.proofs.whole_laws.rows_of_plans.Goals as goal

pub returns : goal.returns
returns c = rows_told
