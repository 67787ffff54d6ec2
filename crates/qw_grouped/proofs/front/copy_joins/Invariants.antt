use Rattle.std.proofs.Common.{◌≡◌, map, take}
use Rattle.qw_meaning.specs.Query.{joined_of}
use Rattle.qw_grouped.proofs.front.copy_joins.Given as goal

abbrev pub invariant-loop-join : goal.invariant-loop-join
invariant-loop-join l = map joined_of l.all.items ≡ map joined_of (take l.join-index l.joins)
