use Rattle.std.proofs.Common.{◌≡◌, ◌++◌, take}
use Rattle.std.specs.List.{flat_map}
use Rattle.qw_physical.specs.Named.{columns_of_join}
use Rattle.qw_physical.proofs.named.from_joins.Given as goal

abbrev pub invariant-loop-join : goal.invariant-loop-join
invariant-loop-join l = l.columns.items ≡ l.initial.columns.items ++ flat_map columns_of_join (take l.join-index l.joins)
