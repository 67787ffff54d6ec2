use Rattle.qw_binary.proofs.NumberedBodies.{numbered_bodies, numbered_globals}
use Rattle.qw_binary.proofs.laws.numbered_bodies.Goals as goal

pub returns-clause-bodies : goal.returns-clause-bodies
returns-clause-bodies c = numbered_bodies

pub returns-clause-globals : goal.returns-clause-globals
returns-clause-globals c = numbered_globals
