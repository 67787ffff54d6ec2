use Rattle.std.proofs.Common.{◌<◌, length}
use Rattle.qw_command_line.specs.Read.{names_of}
use Rattle.qw_top.proofs.TablePartLemmas.{SkipsOver}
use Rattle.qw_top.specs.Inner.Shelves.{told_by}
use Rattle.qw_top.proofs.table_file.skip_files.Given as goal

abbrev pub invariant-loop-index : goal.invariant-loop-index
invariant-loop-index g l =
    SkipsOver (told_by g.F.Shelf l.initial.files) (told_by g.F.Shelf l.files) (names_of l.names) l.table.name l.fn.from l.index × (0 < length l.piece)
