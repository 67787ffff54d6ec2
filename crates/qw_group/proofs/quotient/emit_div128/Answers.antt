use Rattle.qw_group.specs.Inner.WideBlocks.{div_128_block}
use Rattle.qw_group.proofs.SumClauses.{divides}
use Rattle.qw_group.proofs.quotient.emit_div128.Goals as goal

pub returns : goal.returns
returns c = (div_128_block c.args.number c.args.divisor, c.in_ok-push_divide.ensures, divides c.args.number c.args.divisor)
