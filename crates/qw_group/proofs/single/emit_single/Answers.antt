use Rattle.std.proofs.lemmas.Result.{on_ok_weaker}
use Rattle.qw_group.proofs.SingleRuns.{gathers}
use Rattle.qw_group.proofs.single.emit_single.Goals as goal

pub returns : goal.returns
returns c = on_ok_weaker c.push_areas.result (λ made. (
  made.0,
  made.1,
  made.2,
  λ high uses. gathers c.args.areas c.args.aggregates.now c.args.free made.0 (high, c.requires.areas) uses made.2,
)) c.push_areas.ensures
