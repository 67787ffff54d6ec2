use Rattle.qw_physical.proofs.Results.{rows_are}
use Rattle.qw_physical.proofs.course_laws.rows_of_queries.Goals as goal

pub returns : goal.returns
returns c = rows_are
