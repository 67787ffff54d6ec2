use Rattle.std.proofs.Common.{◌≡◌, map, take}
use Rattle.qw_meaning.specs.Query.{source_of}
use Rattle.qw_grouped.proofs.front.copy_sources.Given as goal

abbrev pub invariant-loop-source : goal.invariant-loop-source
invariant-loop-source l = map source_of l.all.items ≡ map source_of (take l.source-index l.sources)
