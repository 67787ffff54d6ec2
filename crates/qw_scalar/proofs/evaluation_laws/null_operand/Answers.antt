use Rattle.qw_scalar.proofs.EvaluationLemmas.{null_left, null_right}
use Rattle.qw_scalar.proofs.evaluation_laws.null_operand.Goals as goal

pub returns : goal.returns
returns c = record { left = null_left; right = null_right }
