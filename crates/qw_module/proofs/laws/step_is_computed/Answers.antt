use Rattle.qw_module.proofs.Steps.{next-rule, rule_from_next}
use Rattle.qw_module.proofs.laws.step_is_computed.Goals as goal

pub returns-clause-by_rule : goal.returns-clause-by_rule
returns-clause-by_rule c = next-rule

pub returns-clause-by_computing : goal.returns-clause-by_computing
returns-clause-by_computing c = rule_from_next
