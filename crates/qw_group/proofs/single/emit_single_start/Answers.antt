use Rattle.std.proofs.lemmas.Result.{on_ok_weaker}
use Rattle.qw_group.proofs.SingleRuns.{begins}
use Rattle.qw_group.proofs.single.emit_single_start.Goals as goal

pub returns : goal.returns
returns c = on_ok_weaker c.push_single.result (λ added. (added, begins c.args.areas c.args.aggregates.now c.requires.areas c.requires.few)) c.push_single.ensures
