use Rattle.qw_rewrite.proofs.Grounds.{written_sized}
use Rattle.qw_rewrite.proofs.place_laws.written_plans_are_sized.Goals as goal

pub returns : goal.returns
returns c = written_sized
