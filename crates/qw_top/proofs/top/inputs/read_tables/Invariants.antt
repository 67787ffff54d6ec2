use Rattle.std.proofs.Common.{None, take}
use Rattle.qw_command_line.specs.Read.{names_of}
use Rattle.qw_top.specs.Inner.Shelves.{HasRead, told_by}
use Rattle.qw_top.specs.Asking.{AsksWithin}
use Rattle.qw_top.specs.Call.{IsTableLimit}
use Rattle.qw_top.specs.Top.{TablesAre}
use Rattle.qw_top.proofs.top.inputs.read_tables.Given as goal

abbrev pub invariant-loop-table : goal.invariant-loop-table
invariant-loop-table g l =
    TablesAre (g.F.Shelf.files l.initial.files) (names_of l.names) (take l.table-index l.schema) l.tables.items × HasRead None (told_by g.F.Shelf l.initial.files) (told_by g.F.Shelf l.files)
    × AsksWithin (IsTableLimit (names_of l.names)) (g.F.Shelf.watched l.initial.files) (g.F.Shelf.watched l.files)
