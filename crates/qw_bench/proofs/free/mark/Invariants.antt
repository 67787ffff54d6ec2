use Rattle.std.proofs.Common.{◌≡◌, ◌+◌, ◌≤◌, length}
use Rattle.qw_map.specs.Free.{marked}
use Rattle.qw_bench.specs.Inner.Pools.{IsChanged, free_among}
use Rattle.qw_bench.proofs.free.mark.Given as goal

-- what is left to mark, and how many were changed
abbrev pub invariant-loop-left : goal.invariant-loop-left
invariant-loop-left l = record {
  marked : marked l.flag l.first l.pages l.fn.flags ≡ marked l.flag l.at l.left l.flags;
  inside : l.at + l.left ≤ length l.flags;
  changed : IsChanged l.flag l.changed (free_among l.fn.flags) (free_among l.flags);
  few : l.changed + l.left ≤ l.pages;
}

abbrev pub decreases-loop-left : goal.decreases-loop-left
decreases-loop-left l = l.left
