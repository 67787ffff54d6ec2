use Rattle.std.proofs.Common.{◌-◌, ◌+◌, ◌<◌, length}
use Rattle.qw_command_line.specs.Read.{names_of}
use Rattle.qw_top.proofs.TableFileLemmas.{TakesOn}
use Rattle.qw_top.specs.Inner.Shelves.{told_by}
use Rattle.qw_top.specs.Limits.{most_table_octets}
use Rattle.qw_top.proofs.table_file.take_pieces.Given as goal

abbrev pub invariant-loop-at : goal.invariant-loop-at
invariant-loop-at g l =
    TakesOn (told_by g.F.Shelf l.initial.files) (told_by g.F.Shelf l.files) l.name most_table_octets l.table (names_of l.names) l.initial.taken l.taken l.at × (0 < length l.piece)

abbrev pub decreases-loop-at : goal.decreases-loop-at
decreases-loop-at g l = most_table_octets + 1 - l.at
