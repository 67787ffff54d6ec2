use Rattle.qw_whole.proofs.GroupRows.{row_formed, row_raises}
use Rattle.qw_whole.proofs.table_laws.rows_of_groups.Goals as goal

pub returns-clause-formed : goal.returns-clause-formed
returns-clause-formed c = row_formed

pub returns-clause-raises : goal.returns-clause-raises
returns-clause-raises c = row_raises
