use Rattle.qw_plan.proofs.Runs.{run_comes}
use Rattle.qw_plan.proofs.plan_laws.pipelines_of_plans.Goals as goal

pub returns : goal.returns
returns c = run_comes
