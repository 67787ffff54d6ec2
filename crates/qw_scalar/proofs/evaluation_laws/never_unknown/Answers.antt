use Rattle.qw_scalar.proofs.EvaluationLemmas.{null_predicate_known, is_known}
use Rattle.qw_scalar.proofs.evaluation_laws.never_unknown.Goals as goal

pub returns : goal.returns
returns c = record { null = null_predicate_known; truth = is_known }
