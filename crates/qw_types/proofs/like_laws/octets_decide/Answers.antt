use Rattle.qw_types.proofs.LikeExact.{octets_decide}
use Rattle.qw_types.proofs.like_laws.octets_decide.Goals as goal

pub returns : goal.returns
returns c = octets_decide
