use Rattle.qw_physical.proofs.Results.{entries_counted, entries_stored}
use Rattle.qw_physical.proofs.course_laws.entries_of_tables.Goals as goal

pub returns-clause-made : goal.returns-clause-made
returns-clause-made c = entries_stored

pub returns-clause-count : goal.returns-clause-count
returns-clause-count c = entries_counted
