use Rattle.qw_scalar.proofs.EvaluationLemmas.{left_first}
use Rattle.qw_scalar.proofs.evaluation_laws.left_operand_first.Goals as goal

pub returns : goal.returns
returns c = left_first
