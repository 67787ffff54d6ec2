use Rattle.qw_binary.proofs.ModuleLaws.{one_module}
use Rattle.qw_binary.proofs.laws.one_module.Goals as goal

pub returns : goal.returns
returns c = one_module
