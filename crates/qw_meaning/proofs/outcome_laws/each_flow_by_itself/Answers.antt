use Rattle.qw_meaning.proofs.OutcomeLemmas.{spread_before, spread_codes, spread_given, spread_raised, spread_rows}
use Rattle.qw_meaning.proofs.outcome_laws.each_flow_by_itself.Goals as goal

pub returns : goal.returns
returns c = record { only_raised = spread_codes; raised = spread_raised; raised_before = spread_before; only_given = spread_rows; given = spread_given }
