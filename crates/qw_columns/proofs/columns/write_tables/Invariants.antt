use Rattle.std.proofs.Common.{◌≡◌, ◌*◌, List, length, take}
use Rattle.qw_types.specs.Contents.{Contents}
use Rattle.qw_linear.specs.Memory.{page}
use Rattle.qw_map.specs.Columns.{columns_start, map_of, tables_end}
use Rattle.qw_columns.specs.Inner.Writing.{AreColumnsOf, GrowsFrom, pages_to}
use Rattle.qw_columns.proofs.TableFacts.{HoldsTables}
use Rattle.qw_columns.proofs.columns.write_tables.Given as goal

abbrev pub invariant-loop-columns : goal.invariant-loop-columns
invariant-loop-columns l =
    (goal.iterator-loop-columns).can_next l.columns-iterator ×
    (goal.iterator-loop-columns).is_finite l.columns-iterator ×
    (l.index ≡ length l.yielded) ×
    ((loaded : List Contents) → AreColumnsOf l.fn.tables.items loaded → l.map.placed ≡ map_of loaded → HoldsTables l.map.placed l.memory.octets loaded (length l.yielded)) ×
    GrowsFrom l.fn.memory l.memory columns_start ×
    ((loaded : List Contents) → AreColumnsOf l.fn.tables.items loaded → l.map.placed ≡ map_of loaded
    → length l.memory.octets ≡ pages_to (tables_end columns_start (take (length l.yielded) loaded)) * page)
