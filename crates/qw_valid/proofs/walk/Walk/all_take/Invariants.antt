use Rattle.std.proofs.Common.{◌≡◌, drop, map}
use Rattle.qw_module.specs.Typing.{types_of}
use Rattle.qw_valid.specs.Inner.Checking.{taken_in, all_take}
use Rattle.qw_valid.specs.Inner.Walks.{around_in}
use Rattle.qw_valid.proofs.walk.Walk.all_take.Given as goal

-- what is still to be tested decides
abbrev pub invariant-loop-label : goal.invariant-loop-label
invariant-loop-label l =
    all_take (map taken_in (around_in l.self)) (types_of l.taken) l.labels ≡ all_take (map taken_in (around_in l.self)) (types_of l.taken) (drop l.label-index l.labels)
