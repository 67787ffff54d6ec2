use Rattle.qw_types.proofs.ValueLemmas.{and_commutes, or_commutes}
use Rattle.qw_types.proofs.value_laws.truth_commutes.Goals as goal

pub returns : goal.returns
returns c = record { and = and_commutes; or = or_commutes }
