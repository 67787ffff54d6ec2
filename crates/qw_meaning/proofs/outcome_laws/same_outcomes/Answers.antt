use Rattle.qw_meaning.proofs.OutcomeLemmas.{not_counted, not_other_code, same_turned}
use Rattle.qw_meaning.proofs.outcome_laws.same_outcomes.Goals as goal

pub returns-clause-turned : goal.returns-clause-turned
returns-clause-turned c = same_turned

pub returns-clause-counted : goal.returns-clause-counted
returns-clause-counted c = not_counted

pub returns-clause-other_code : goal.returns-clause-other_code
returns-clause-other_code c = not_other_code
