use Rattle.qw_plan.proofs.Placing.{run_of_query}
use Rattle.qw_plan.proofs.plan_laws.pipelines_of_queries.Goals as goal

pub returns : goal.returns
returns c = run_of_query
