use Rattle.qw_scalar.proofs.EvaluationLemmas.{not_among}
use Rattle.qw_scalar.proofs.evaluation_laws.not_in_beside_null.Goals as goal

pub returns : goal.returns
returns c = not_among
