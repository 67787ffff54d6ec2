use Rattle.std.proofs.Common.{◌-◌, ◌+◌, ◌<◌, length}
use Rattle.qw_top.proofs.TableFileLemmas.{SkipsOn}
use Rattle.qw_top.specs.Inner.Shelves.{told_by}
use Rattle.qw_top.proofs.table_file.skip_rest.Given as goal

abbrev pub invariant-loop-end : goal.invariant-loop-end
invariant-loop-end g l =
    SkipsOn (told_by g.F.Shelf l.initial.files) (told_by g.F.Shelf l.files) l.name l.limit l.fn.at l.end × (0 < length l.piece)

abbrev pub decreases-loop-end : goal.decreases-loop-end
decreases-loop-end g l = l.limit + 1 - l.end
