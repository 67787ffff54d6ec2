use Rattle.qw_plan.proofs.Ordering.{ends, ordered}
use Rattle.qw_plan.proofs.plan_laws.order_of_pipelines.Goals as goal

pub returns-clause-before : goal.returns-clause-before
returns-clause-before c = ordered

pub returns-clause-last : goal.returns-clause-last
returns-clause-last c = ends
