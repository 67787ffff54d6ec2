use Rattle.std.proofs.Common.{◌≡◌}
use Rattle.qw_top.specs.Call.{CheckSettles}
use Rattle.qw_top.proofs.StoppedLemmas.{stopped_noted}
use Rattle.qw_top.proofs.top.check.check_file.Goals as goal

pub returns-in-Err-clause-noted : goal.returns-in-Err-clause-noted
returns-in-Err-clause-noted g c = stopped_noted (CheckSettles (g.F.Shelf.files c.args.files.now) c.args.name.now) (λ other. other ≡ c.args.name.now) _ _ c.in-Err.stop c.note_stop.result _ _ c.in-Err.ensures.stops c.in-Err.ensures.shelf.counts c.note_stop.ensures.noted
