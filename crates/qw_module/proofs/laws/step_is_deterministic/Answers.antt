use Rattle.qw_module.proofs.Steps.{step_unique}
use Rattle.qw_module.proofs.laws.step_is_deterministic.Goals as goal

pub returns : goal.returns
returns c = step_unique
