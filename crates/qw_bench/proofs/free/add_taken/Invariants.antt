use Rattle.std.proofs.Common.{◌≡◌, ◌+◌, ◌≤◌, ◌++◌, false, length, replicate}
use Rattle.std.specs.Vec.{vec_capacity}
use Rattle.qw_bench.proofs.free.add_taken.Given as goal

-- what is left to add
abbrev pub invariant-loop-left : goal.invariant-loop-left
invariant-loop-left l = record {
  added : l.flags.items ++ replicate l.left false ≡ l.fn.flags.items ++ replicate l.pages false;
  room : length l.flags.items + l.left ≤ vec_capacity l.flags;
  capacity : vec_capacity l.flags ≡ vec_capacity l.fn.flags;
}

abbrev pub decreases-loop-left : goal.decreases-loop-left
decreases-loop-left l = l.left
