use Rattle.qw_algebra.proofs.Writing.{written_flow}
use Rattle.qw_algebra.proofs.plan_laws.written_plans.Goals as goal

pub returns : goal.returns
returns c = written_flow
