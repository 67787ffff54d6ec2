use Rattle.qw_top.proofs.StopLemmas.{schema_refused_stops}
use Rattle.qw_top.proofs.top.inputs.read_schema.Goals as goal

pub returns-clause-stops : goal.returns-clause-stops
returns-clause-stops g c =
    let refused = rw c.as_slice.ensures.value at c.in-Err.ensures.refused in
    schema_refused_stops (g.F.Shelf.files c.args.files.now) c.args.name.now c.schema_stop.result c.in_ok-text.text.items c.in-Err.fault c.in_ok-text.ensures.whole refused c.schema_stop.ensures.memory c.schema_stop.ensures.refused
