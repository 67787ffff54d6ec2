use Rattle.qw_types.proofs.NumeralLemmas.{zero_more}
use Rattle.qw_types.proofs.numeral.with_zeros.Goals as goal

pub loop-preserved : goal.loop-preserved
loop-preserved c = zero_more c.args.number c.loop.number c.min-number.result c.loop.counter c.min-number.ensures c.loop.invariant
