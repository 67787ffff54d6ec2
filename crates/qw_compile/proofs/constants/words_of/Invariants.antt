use Rattle.std.proofs.Common.{◌≡◌, ◌++◌, drop}
use Rattle.qw_compile.specs.Words.{words_among}
use Rattle.qw_compile.proofs.constants.words_of.Given as goal

abbrev pub invariant-loop-leaf : goal.invariant-loop-leaf
invariant-loop-leaf l = l.words.items ++ words_among (drop l.leaf-index l.leaves) ≡ words_among l.leaves
