use Rattle.std.proofs.Common.{take}
use Rattle.std.specs.List.{AllByRecursion}
use Rattle.qw_types.specs.Schema.{AreColumns}
use Rattle.qw_types.specs.declared.schema.Table.{Table}
use Rattle.qw_top.proofs.top.program.limits_kept.Given as goal

abbrev pub invariant-loop-table : goal.invariant-loop-table
invariant-loop-table l = AllByRecursion (λ (table : Table). AreColumns table.columns) (take l.table-index l.schema)
