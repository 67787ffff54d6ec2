use Rattle.std.proofs.Common.{length, ◌-◌, ◌+◌}
use Rattle.qw_top.proofs.WholeFileLemmas.{Reads}
use Rattle.qw_top.specs.Inner.Shelves.{told_by}
use Rattle.qw_top.proofs.files.read_pieces.Given as goal

abbrev pub invariant-loop-bytes : goal.invariant-loop-bytes
invariant-loop-bytes g l =
    Reads (told_by g.F.Shelf l.initial.files) (told_by g.F.Shelf l.files) l.name l.bytes.items l.limit

abbrev pub decreases-loop-bytes : goal.decreases-loop-bytes
decreases-loop-bytes g l = l.limit + 1 - length l.bytes.items
