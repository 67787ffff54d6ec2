use Rattle.std.proofs.Common.{Vec, Global, ap}
use Rattle.std.proofs.lemmas.Result.{IfOk-weaker}
use Rattle.qw_types.specs.declared.row.Row.{Row}
use Rattle.qw_linear.specs.Linear.{Octets}
use Rattle.qw_sink.proofs.DoneLemmas.{IsDone, Leads, done-there, leads}
use Rattle.qw_sink.proofs.results.received.Goals as goal
use Rattle.qw_sink.proofs.results.received.Goals.{After-layout}

done : (c : After-layout) → IsDone c.args.bench.now c.args.i
done c = done-there c.args.bench.now c.args.i c.memory.ensures.kept c.requires.done c.requires.held

found : (c : After-layout) → Leads c.args.bench.now c.args.i c.memory.ensures.kept (done c) c.layout.result.now c.memory.result.now.octets c.descriptor.result
found c =
    leads c.args.bench.now c.args.i c.memory.ensures.kept (done c) c.layout.result.now c.memory.result.now.octets c.descriptor.result
    c.layout.ensures (ap (λ (m : Octets). m.octets) c.memory.ensures.memory) c.descriptor.ensures

pub rows_of-requires-clause-room : goal.rows_of-requires-clause-room
rows_of-requires-clause-room c = (found (goal.at.rows_of-requires-clause-room c).After-layout).room

pub rows_of-requires-clause-there : goal.rows_of-requires-clause-there
rows_of-requires-clause-there c =
    let here = (goal.at.rows_of-requires-clause-there c).After-layout in
    let rows = found here in
    ((done here).instance.world, rows.inside, rows.there)

pub returns : goal.returns
returns c =
    let here = (goal.at.returns c).After-layout in
    let all = found here in
    IfOk-weaker c.rows_of.result _ _
    (λ (rows : Vec Row Global) read. all.reads rows.items (read (done here).instance.world all.there))
    c.rows_of.ensures
