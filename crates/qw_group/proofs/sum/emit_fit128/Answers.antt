use Rattle.qw_group.specs.Inner.WideBlocks.{fit_block}
use Rattle.qw_group.proofs.SumClauses.{fits-kept}
use Rattle.qw_group.proofs.sum.emit_fit128.Goals as goal

pub returns : goal.returns
returns c = (fit_block c.args.sum, c.in_ok-push_fit.ensures, fits-kept c.args.sum)
