use Rattle.std.proofs.Common.{[]}
use Rattle.qw_order.proofs.SortedLemmas.{keyless, only}
use Rattle.qw_order.proofs.order_laws.without_keys.Goals as goal

pub returns : goal.returns
returns c = record { there = keyless; only = λ rows sorted h. only [] rows sorted rows h (keyless rows) }
