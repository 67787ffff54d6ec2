use Rattle.qw_low.proofs.Countdown.{countdown_ends}
use Rattle.qw_low.proofs.block_laws.a_countdown_ends.Goals as goal

pub returns : goal.returns
returns c = λ most fuel x n s is room small more. countdown_ends most fuel x n s is room small more
