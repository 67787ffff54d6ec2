use Rattle.std.proofs.Common.{arith}
use Rattle.std.proofs.lemmas.Int.{to_z-of_z}
use Rattle.qw_plain_grouped.proofs.Sums.{total_more}
use Rattle.qw_plain_grouped.proofs.reckon.total.Goals as goal

pub loop-value-preserved : goal.loop-value-preserved
loop-value-preserved c = record { sum = grind (arith, to_z-of_z, total_more); small = grind (arith, to_z-of_z) }
