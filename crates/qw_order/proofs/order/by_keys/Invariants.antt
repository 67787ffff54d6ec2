use Rattle.std.proofs.Common.{◌≡◌, drop}
use Rattle.qw_order.specs.Order.{key_order}
use Rattle.qw_order.proofs.order.by_keys.Given as goal

abbrev pub invariant-loop-key : goal.invariant-loop-key
invariant-loop-key l = key_order (drop l.key-index l.keys) l.row l.other ≡ key_order l.keys l.row l.other
