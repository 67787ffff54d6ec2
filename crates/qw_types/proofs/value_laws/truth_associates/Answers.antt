use Rattle.qw_types.proofs.ValueLemmas.{and_associates, or_associates}
use Rattle.qw_types.proofs.value_laws.truth_associates.Goals as goal

pub returns : goal.returns
returns c = record { and = and_associates; or = or_associates }
