use Rattle.qw_grouped.proofs.TypedRows.{rows_typed}
use Rattle.qw_grouped.proofs.group_laws.rows_are_typed.Goals as goal

pub returns : goal.returns
returns c = rows_typed
