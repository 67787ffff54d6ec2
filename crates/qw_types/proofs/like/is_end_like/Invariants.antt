use Rattle.std.proofs.Common.{◌≡◌, ◌+◌, length}
use Rattle.qw_types.specs.Inner.Like.{some_end}
use Rattle.qw_types.proofs.like.is_end_like.Given as goal

abbrev pub invariant-loop-end : goal.invariant-loop-end
invariant-loop-end l = some_end l.pattern l.text ≡ some_end l.behind_run l.end

abbrev pub decreases-loop-end : goal.decreases-loop-end
decreases-loop-end l = length l.behind_run + length l.end
