use Rattle.std.proofs.Common.{◌-◌, arith}
use Rattle.qw_types.proofs.ArithmeticLemmas.{product_within}
use Rattle.qw_types.proofs.arithmetic.brought.Goals as goal

pub overflow_mul-brought : goal.overflow_mul-brought
overflow_mul-brought c = product_within c.args.v c.from.result c.ten_to.result (c.args.to - c.args.from) c.ranges.v c.requires.fits (omega arith) c.from.ensures c.ten_to.ensures
