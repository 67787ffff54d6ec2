use Rattle.qw_rewrite.proofs.Probes.{placed_probes}
use Rattle.qw_rewrite.proofs.place_laws.joins_are_probes.Goals as goal

pub returns : goal.returns
returns c = placed_probes
