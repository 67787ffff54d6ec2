use Rattle.qw_read.proofs.ReadyColumns.{ready_stands_at}
use Rattle.qw_read.proofs.ready_laws.columns_stand.Goals as goal

pub returns : goal.returns
returns c layout placed tables descriptor limit memory locals ready small = ready_stands_at layout placed tables descriptor limit memory ready small
