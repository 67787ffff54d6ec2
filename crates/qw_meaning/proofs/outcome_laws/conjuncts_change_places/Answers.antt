use Rattle.qw_meaning.proofs.OutcomeLemmas.{change_places}
use Rattle.qw_meaning.proofs.outcome_laws.conjuncts_change_places.Goals as goal

pub returns : goal.returns
returns c = change_places
