use Rattle.std.proofs.Common.{◌≡◌, ◌++◌, drop}
use Rattle.qw_leaves.specs.Leaves.{texts_among}
use Rattle.qw_compile.proofs.texts.texts_of.Given as goal

abbrev pub invariant-loop-leaf : goal.invariant-loop-leaf
invariant-loop-leaf l = l.texts.items ++ texts_among (drop l.leaf-index l.leaves) ≡ texts_among l.leaves
