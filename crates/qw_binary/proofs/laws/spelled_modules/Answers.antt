use Rattle.qw_binary.proofs.ShortModules.{spelled_modules}
use Rattle.qw_binary.proofs.laws.spelled_modules.Goals as goal

pub returns : goal.returns
returns c = spelled_modules
