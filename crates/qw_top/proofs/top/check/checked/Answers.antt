use Rattle.qw_top.proofs.CommandLemmas.{module_refused_stops}
use Rattle.qw_top.proofs.top.check.checked.Goals as goal

pub returns-clause-stops : goal.returns-clause-stops
returns-clause-stops g c =
    let has = rw c.as_slice.ensures.value at c.in-Err.ensures.fault in
    module_refused_stops (g.F.Shelf.files c.args.files.now) c.args.name.now c.module_stop.result c.in_ok-octets.octets.items c.in-Err.fault c.in_ok-octets.ensures.whole has c.module_stop.ensures.memory c.module_stop.ensures.refused
