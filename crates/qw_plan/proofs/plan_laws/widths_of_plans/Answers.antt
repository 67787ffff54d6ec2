use Rattle.qw_plan.proofs.Widths.{plan_wide, written_formed}
use Rattle.qw_plan.proofs.plan_laws.widths_of_plans.Goals as goal

pub returns-clause-formed : goal.returns-clause-formed
returns-clause-formed c = written_formed

pub returns-clause-wide : goal.returns-clause-wide
returns-clause-wide c = plan_wide
