use Rattle.std.proofs.Common.{rules}
use Rattle.qw_physical.proofs.Naming.{columns_of_items}
use Rattle.qw_physical.proofs.named.from_items.Goals as goal

pub returns : goal.returns
returns c = search (rules, columns_of_items)
