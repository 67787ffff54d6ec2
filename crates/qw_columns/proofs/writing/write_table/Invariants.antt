use Rattle.std.proofs.Common.{◌≡◌, ◌*◌, ℕ, length, take}
use Rattle.qw_types.specs.Contents.{Contents}
use Rattle.qw_linear.specs.Memory.{page}
use Rattle.qw_map.specs.Columns.{columns_end}
use Rattle.qw_columns.specs.Inner.Writing.{AreColumnsAt, GrowsFrom, pages_to}
use Rattle.qw_columns.proofs.TableFacts.{HoldsColumns}
use Rattle.qw_columns.proofs.writing.write_table.Given as goal

abbrev pub invariant-loop-column : goal.invariant-loop-column
invariant-loop-column l =
    (goal.iterator-loop-column).can_next l.column-iterator ×
    (goal.iterator-loop-column).is_finite l.column-iterator ×
    (l.index ≡ length l.yielded) ×
    ((at : ℕ) (table : Contents) → AreColumnsAt at table l.fn.columns.items l.placed → HoldsColumns l.memory.octets l.placed table (length l.yielded)) ×
    ((at : ℕ) (table : Contents) → AreColumnsAt at table l.fn.columns.items l.placed → GrowsFrom l.fn.memory l.memory at) ×
    ((at : ℕ) (table : Contents) → AreColumnsAt at table l.fn.columns.items l.placed → length l.fn.memory.octets ≡ pages_to at * page
    → length l.memory.octets ≡ pages_to (columns_end at (take (length l.yielded) table.columns) 0 table.rows) * page)
