use Rattle.qw_top.proofs.StopLemmas.{queries_refused_stop}
use Rattle.qw_top.proofs.top.inputs.read_queries.Goals as goal

pub returns-clause-stops : goal.returns-clause-stops
returns-clause-stops g c =
    let refused = rw c.as_slice.ensures.value at c.in-Err.ensures.refused in
    queries_refused_stop (g.F.Shelf.files c.args.files.now) c.args.name.now c.queries_stop.result c.args.schema.now c.in_ok-text.text.items c.in-Err.fault c.in_ok-text.ensures.whole refused c.queries_stop.ensures
