use Rattle.qw_meaning.proofs.OutcomeLemmas.{are_given, only_given, only_raised, raised}
use Rattle.qw_meaning.proofs.outcome_laws.each_row_by_itself.Goals as goal

pub returns : goal.returns
returns c = record { only_raised = only_raised; raised = raised; only_given = only_given; given = are_given }
