use Rattle.qw_module.proofs.Sound.{progress, preservation, octets_stay, pages_stay, length_grows}
use Rattle.qw_module.proofs.laws.typed_configurations_go_on.Goals as goal

pub returns-clause-progress : goal.returns-clause-progress
returns-clause-progress c = progress

pub returns-clause-preservation : goal.returns-clause-preservation
returns-clause-preservation c = preservation

pub returns-clause-memory : goal.returns-clause-memory
returns-clause-memory c = octets_stay

pub returns-clause-size : goal.returns-clause-size
returns-clause-size c = length_grows

pub returns-clause-pages : goal.returns-clause-pages
returns-clause-pages c = pages_stay
