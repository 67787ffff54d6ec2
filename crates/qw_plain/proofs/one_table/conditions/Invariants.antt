use Rattle.std.proofs.Common.{◌≡◌, map, take}
use Rattle.qw_scalar.specs.Tree.{condition_of}
use Rattle.qw_plain.proofs.one_table.conditions.Given as goal

abbrev pub invariant-loop-conjunct : goal.invariant-loop-conjunct
invariant-loop-conjunct l = map condition_of l.all.items ≡ map condition_of (take l.conjunct-index l.conjuncts)
