use Rattle.std.proofs.Common.{◌≡◌, map, take}
use Rattle.qw_scalar.specs.Tree.{expression_of}
use Rattle.qw_plain.proofs.one_table.expressions.Given as goal

abbrev pub invariant-loop-item : goal.invariant-loop-item
invariant-loop-item l = map expression_of l.all.items ≡ map expression_of (take l.item-index l.items)
