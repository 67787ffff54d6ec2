use Rattle.std.proofs.Common.{take}
use Rattle.std.specs.List.{flat_map}
use Rattle.qw_leaves.specs.Leaves.{Gathers, leaves_within}
use Rattle.qw_leaves.proofs.gather.from_conjuncts.Given as goal

abbrev pub invariant-loop-conjunct : goal.invariant-loop-conjunct
invariant-loop-conjunct l = Gathers l.initial.leaves.items l.leaves.items (flat_map leaves_within (take l.conjunct-index l.conjuncts))
