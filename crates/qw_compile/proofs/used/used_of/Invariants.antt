use Rattle.std.proofs.Common.{take}
use Rattle.qw_meaning.specs.Query.{query_of}
use Rattle.qw_meaning.specs.Select.{entries_of}
use Rattle.qw_physical.specs.Named.{numbers}
use Rattle.qw_compile.specs.UsedColumns.{AreUsedAt}
use Rattle.qw_compile.proofs.used.used_of.Given as goal

abbrev pub invariant-loop-column : goal.invariant-loop-column
invariant-loop-column l = AreUsedAt (entries_of (query_of l.query).sources) (numbers (take l.column-index l.columns)) l.used.items
