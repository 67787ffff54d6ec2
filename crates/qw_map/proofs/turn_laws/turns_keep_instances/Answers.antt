use Rattle.qw_map.proofs.TurnSteps.{turns-whole, turns-typed}
use Rattle.qw_map.proofs.turn_laws.turns_keep_instances.Goals as goal

pub returns-clause-whole : goal.returns-clause-whole
returns-clause-whole c = turns-whole

pub returns-clause-typed : goal.returns-clause-typed
returns-clause-typed c = turns-typed
