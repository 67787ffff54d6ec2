use Rattle.std.proofs.Common.{take}
use Rattle.qw_fold.specs.Inner.Made.{ConjunctsFold}
use Rattle.qw_fold.proofs.fold.conjuncts_of.Given as goal

abbrev pub invariant-loop-conjunct : goal.invariant-loop-conjunct
invariant-loop-conjunct l = ConjunctsFold (take l.conjunct-index l.conjuncts) l.made.items
