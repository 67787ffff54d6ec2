use Rattle.qw_physical.proofs.Plans.{placed_typed}
use Rattle.qw_physical.proofs.spell_laws.pipelines_are_typed.Goals as goal

pub returns : goal.returns
returns c = placed_typed
