use Rattle.qw_whole.proofs.GrowingTables.{members_more}
use Rattle.qw_whole.proofs.table_laws.members_so_far.Goals as goal

pub returns : goal.returns
returns c = members_more
