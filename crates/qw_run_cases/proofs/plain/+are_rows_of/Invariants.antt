use Rattle.std.proofs.Common.{length}
use Rattle.qw_run_cases.proofs.plain.+are_rows_of.Given as goal

abbrev pub decreases-are_rows_of : goal.decreases-are_rows_of
decreases-are_rows_of l = length l.rows.now
