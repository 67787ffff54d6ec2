use Rattle.std.proofs.Common.{length}
use Rattle.qw_run_cases.proofs.plain.+joins_have_rows.Given as goal

abbrev pub decreases-joins_have_rows : goal.decreases-joins_have_rows
decreases-joins_have_rows l = length l.joins.now
