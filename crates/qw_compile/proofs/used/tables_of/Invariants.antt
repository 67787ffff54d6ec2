use Rattle.std.proofs.Common.{◌≡◌, map, take}
use Rattle.qw_meaning.specs.Query.{source_of}
use Rattle.qw_meaning.specs.Select.{entries_of}
use Rattle.qw_compile.proofs.UsedSteps.{tables_in}
use Rattle.qw_compile.proofs.used.tables_of.Given as goal

abbrev pub invariant-loop-source : goal.invariant-loop-source
invariant-loop-source l = l.tables.items ≡ tables_in (entries_of (map source_of (take l.source-index l.sources)))
