use Rattle.qw_meaning.proofs.SameLemmas.{outcome_same}
use Rattle.qw_meaning.proofs.same_laws.outcomes.Goals as goal

pub returns : goal.returns
returns c = outcome_same
