use Rattle.qw_whole.proofs.EntrySizes.{distinct_small, group_small}
use Rattle.qw_whole.proofs.table_laws.sizes_of_entries.Goals as goal

pub returns-clause-group : goal.returns-clause-group
returns-clause-group c = group_small

pub returns-clause-distinct : goal.returns-clause-distinct
returns-clause-distinct c = distinct_small
