use Rattle.std.proofs.Common.{ap}
use Rattle.qw_module.specs.Validity.{declared_types}
use Rattle.qw_scan.specs.Inner.Runs.{runs_in}
use Rattle.qw_scan.proofs.RunLemmas.{read_locals}
use Rattle.qw_scan.proofs.locals.locals_at.Goals as goal

pub returns : goal.returns
returns c = λ found rest e.
    let same = read_locals c.args.octets.now c.in-Ok.count c.in-Ok.behind.now (runs_in 0 c.in_ok-runs.runs.items) c.in_ok-runs.rest.now found rest c.in-Ok.ensures c.in_ok-runs.ensures.read e in
    (ap declared_types same.0, same.1)
