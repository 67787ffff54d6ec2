use Rattle.std.proofs.Common.{length}
use Rattle.qw_types.proofs.LikeTaking.{Goes}
use Rattle.qw_types.proofs.like.take.Given as goal

abbrev pub invariant-loop-wanted : goal.invariant-loop-wanted
invariant-loop-wanted l = Goes l.pattern l.text l.pattern_left l.text_left

abbrev pub decreases-loop-wanted : goal.decreases-loop-wanted
decreases-loop-wanted l = length l.pattern_left
