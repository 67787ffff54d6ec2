use Rattle.qw_read.proofs.ReadyColumns.{ready_long}
use Rattle.qw_read.proofs.ready_laws.columns_are_long.Goals as goal

pub returns : goal.returns
returns c layout placed tables descriptor limit memory locals ready small = ready_long layout placed tables descriptor limit memory ready small
