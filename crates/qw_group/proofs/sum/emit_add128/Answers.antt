use Rattle.qw_group.specs.Wides.{add_128_block}
use Rattle.qw_group.proofs.SumClauses.{accumulates}
use Rattle.qw_group.proofs.sum.emit_add128.Goals as goal

pub returns : goal.returns
returns c = (add_128_block c.args.sum c.args.number, c.in_ok-push_add.ensures, accumulates c.args.sum c.args.number)
