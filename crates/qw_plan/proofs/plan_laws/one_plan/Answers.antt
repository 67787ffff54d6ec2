use Rattle.qw_algebra.proofs.Writing.{written_flow}
use Rattle.qw_plan.proofs.Placing.{placed_flow}
use Rattle.qw_plan.proofs.Stages.{same_plan}
use Rattle.qw_plan.proofs.plan_laws.one_plan.Goals as goal

pub returns-clause-written : goal.returns-clause-written
returns-clause-written c = same_plan written_flow

pub returns-clause-placed : goal.returns-clause-placed
returns-clause-placed c = placed_flow
