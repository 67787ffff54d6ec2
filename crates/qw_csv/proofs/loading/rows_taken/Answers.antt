use Rattle.std.proofs.Common.{arith}
use Rattle.qw_csv.proofs.RowLemmas.{length-rows_in}
use Rattle.qw_csv.proofs.loading.rows_taken.Goals as goal

pub returns-clause-few : goal.returns-clause-few
returns-clause-few c = rw c.new.ensures.rows (omega (arith, length-rows_in c.args.len c.args.values.items, c.requires.few))
