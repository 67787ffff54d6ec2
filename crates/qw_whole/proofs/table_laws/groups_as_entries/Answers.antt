use Rattle.qw_whole.proofs.GrowingTables.{distinct_keys, groups_of_keys}
use Rattle.qw_whole.proofs.table_laws.groups_as_entries.Goals as goal

pub returns-clause-groups : goal.returns-clause-groups
returns-clause-groups c = groups_of_keys

pub returns-clause-distinct : goal.returns-clause-distinct
returns-clause-distinct c = distinct_keys
