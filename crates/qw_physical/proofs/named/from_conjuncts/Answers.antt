use Rattle.std.proofs.Common.{rules}
use Rattle.qw_physical.proofs.Naming.{columns_of_conjuncts}
use Rattle.qw_physical.proofs.named.from_conjuncts.Goals as goal

pub returns : goal.returns
returns c = search (rules, columns_of_conjuncts)
