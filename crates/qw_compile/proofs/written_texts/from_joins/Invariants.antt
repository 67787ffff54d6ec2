use Rattle.std.proofs.Common.{take}
use Rattle.std.specs.List.{flat_map}
use Rattle.qw_algebra.specs.Sizes.{tests_in}
use Rattle.qw_leaves.specs.Leaves.{Gathers, leaves_within}
use Rattle.qw_compile.proofs.written_texts.from_joins.Given as goal

abbrev pub invariant-loop-join : goal.invariant-loop-join
invariant-loop-join l = Gathers l.initial.leaves.items l.leaves.items (flat_map leaves_within (tests_in (take l.join-index l.joins)))
