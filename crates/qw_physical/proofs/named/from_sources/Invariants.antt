use Rattle.std.proofs.Common.{◌≡◌, ◌++◌, take}
use Rattle.std.specs.List.{flat_map}
use Rattle.qw_physical.specs.Named.{columns_of_source}
use Rattle.qw_physical.proofs.named.from_sources.Given as goal

abbrev pub invariant-loop-source : goal.invariant-loop-source
invariant-loop-source l = l.columns.items ≡ l.initial.columns.items ++ flat_map columns_of_source (take l.source-index l.sources)
