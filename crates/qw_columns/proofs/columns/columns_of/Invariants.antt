use Rattle.std.proofs.Common.{length, take}
use Rattle.qw_columns.specs.Inner.Writing.{AreColumnsOf}
use Rattle.qw_columns.proofs.columns.columns_of.Given as goal

abbrev pub invariant-loop-table : goal.invariant-loop-table
invariant-loop-table l =
    (goal.iterator-loop-table).can_next l.table-iterator ×
    (goal.iterator-loop-table).is_finite l.table-iterator ×
    AreColumnsOf l.tables.items (take (length l.yielded) l.fn.loaded.items)
