use Rattle.qw_types.proofs.ValueLemmas.{negated_and, negated_or, negated_twice}
use Rattle.qw_types.proofs.value_laws.truth_negates.Goals as goal

pub returns : goal.returns
returns c = record { and = negated_and; or = negated_or; twice = negated_twice }
