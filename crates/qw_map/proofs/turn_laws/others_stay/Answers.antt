use Rattle.qw_map.proofs.Separate.{others-turns, front-turns}
use Rattle.qw_map.proofs.turn_laws.others_stay.Goals as goal

pub returns-clause-octets : goal.returns-clause-octets
returns-clause-octets c = others-turns

pub returns-clause-front : goal.returns-clause-front
returns-clause-front c = front-turns
