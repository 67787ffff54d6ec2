use Rattle.std.proofs.Common.{◌≡◌, length}
use Rattle.qw_types.specs.Like.{behind}
use Rattle.qw_types.proofs.like.behind.Given as goal

abbrev pub invariant-loop-octet : goal.invariant-loop-octet
invariant-loop-octet l = behind l.text ≡ behind l.rest

abbrev pub decreases-loop-octet : goal.decreases-loop-octet
decreases-loop-octet l = length l.rest
