use Rattle.std.proofs.Common.{Vec, Global, ℕ, ap}
use Rattle.std.proofs.lemmas.Result.{IfOk-weaker}
use Rattle.qw_linear.specs.Linear.{Octets}
use Rattle.qw_map.specs.Layout.{rows_at}
use Rattle.qw_sink.proofs.ChainLemmas.{there-is}
use Rattle.qw_sink.proofs.DoneLemmas.{IsDone, Leads, done-there, leads}
use Rattle.qw_sink.proofs.received.with_rows.Goals as goal
use Rattle.qw_sink.proofs.received.with_rows.Goals.{After-layout}

done : (c : After-layout) → IsDone c.args.bench.now c.args.i
done c = done-there c.args.bench.now c.args.i c.memory.ensures.kept c.requires.done c.requires.held

found : (c : After-layout) → Leads c.args.bench.now c.args.i c.memory.ensures.kept (done c) c.layout.result.now c.memory.result.now.octets c.descriptor.result
found c =
    leads c.args.bench.now c.args.i c.memory.ensures.kept (done c) c.layout.result.now c.memory.result.now.octets c.descriptor.result
    c.layout.ensures (ap (λ (m : Octets). m.octets) c.memory.ensures.memory) c.descriptor.ensures

pub with_rows_at-requires-clause-room : goal.with_rows_at-requires-clause-room
with_rows_at-requires-clause-room c = (found (goal.at.with_rows_at-requires-clause-room c).After-layout).room

pub with_rows_at-requires-clause-there : goal.with_rows_at-requires-clause-there
with_rows_at-requires-clause-there c =
    let here = (goal.at.with_rows_at-requires-clause-there c).After-layout in
    let rows = found here in
    ((done here).instance.world, rows.inside, rows.there)

pub returns : goal.returns
returns c =
    let here = (goal.at.returns c).After-layout in
    let all = found here in
    let w = (done here).instance.world in
    let rows = there-is (rows_at c.layout.result.now w c.memory.result.now.octets c.descriptor.result) all.there in
    IfOk-weaker c.with_rows_at.result _ _
    (λ (text : Vec ℕ Global) gives. (rows.0, all.reads rows.0 rows.1, gives w rows.0 rows.1))
    c.with_rows_at.ensures
