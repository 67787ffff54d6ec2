use Rattle.qw_map.proofs.TurnSteps.{ended_stays}
use Rattle.qw_map.proofs.turn_laws.ended_stays_ended.Goals as goal

pub returns : goal.returns
returns c = ended_stays
