use Rattle.std.proofs.Common.{take}
use Rattle.std.specs.List.{flat_map}
use Rattle.qw_algebra.specs.Sizes.{tests_on}
use Rattle.qw_leaves.specs.Leaves.{Gathers, leaves_within}
use Rattle.qw_compile.proofs.written_texts.from_sources.Given as goal

abbrev pub invariant-loop-source : goal.invariant-loop-source
invariant-loop-source l = Gathers l.initial.leaves.items l.leaves.items (flat_map leaves_within (tests_on (take l.source-index l.sources)))
