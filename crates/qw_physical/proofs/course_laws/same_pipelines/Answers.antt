use Rattle.qw_physical.proofs.Alikeness.{built_same, costs_same, pipeline_cost_same, pipeline_fed_same}
use Rattle.qw_physical.proofs.course_laws.same_pipelines.Goals as goal

pub returns-clause-fed : goal.returns-clause-fed
returns-clause-fed c = λ tables built. pipeline_fed_same built tables

pub returns-clause-cost : goal.returns-clause-cost
returns-clause-cost c = λ tables built. pipeline_cost_same built tables

pub returns-clause-built : goal.returns-clause-built
returns-clause-built c = built_same

pub returns-clause-costs : goal.returns-clause-costs
returns-clause-costs c = costs_same
