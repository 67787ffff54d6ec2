use Rattle.qw_plan.proofs.Stages.{same_flow, same_outcome}
use Rattle.qw_plan.proofs.plan_laws.one_meaning.Goals as goal

pub returns-clause-flow : goal.returns-clause-flow
returns-clause-flow c = same_flow

pub returns-clause-outcome : goal.returns-clause-outcome
returns-clause-outcome c = same_outcome
