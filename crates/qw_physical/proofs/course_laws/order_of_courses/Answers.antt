use Rattle.qw_physical.proofs.Results.{all_apart, all_null, in_order}
use Rattle.qw_physical.proofs.course_laws.order_of_courses.Goals as goal

pub returns-clause-pipelines : goal.returns-clause-pipelines
returns-clause-pipelines c = in_order

pub returns-clause-apart : goal.returns-clause-apart
returns-clause-apart c = all_apart

pub returns-clause-nulls : goal.returns-clause-nulls
returns-clause-nulls c = all_null
