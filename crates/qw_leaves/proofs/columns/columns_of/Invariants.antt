use Rattle.std.proofs.Common.{◌≡◌, ◌++◌, drop}
use Rattle.qw_leaves.specs.Leaves.{columns_among}
use Rattle.qw_leaves.proofs.columns.columns_of.Given as goal

abbrev pub invariant-loop-leaf : goal.invariant-loop-leaf
invariant-loop-leaf l = l.columns.items ++ columns_among (drop l.leaf-index l.leaves) ≡ columns_among l.leaves
