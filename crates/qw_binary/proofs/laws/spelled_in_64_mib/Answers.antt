use Rattle.qw_binary.proofs.ShortRun.{spelled_in_64_mib}
use Rattle.qw_binary.proofs.laws.spelled_in_64_mib.Goals as goal

pub returns : goal.returns
returns c = spelled_in_64_mib
