use Rattle.std.proofs.Common.{arith}
use Rattle.std.proofs.Math.Nat.{one-le-pow}
use Rattle.qw_types.proofs.numeral.greatest.Goals as goal

pub overflow_sub-result : goal.overflow_sub-result
overflow_sub-result c = rw c.power_of_ten.ensures (one-le-pow c.from.result 10 (omega arith))
