use Rattle.std.proofs.Common.{length}
use Rattle.qw_plain_grouped.proofs.rows.+add_first.Given as goal

abbrev pub decreases-add_first : goal.decreases-add_first
decreases-add_first l = length l.values.now
