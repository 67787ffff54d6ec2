use Rattle.qw_scan.specs.Inner.Outlines.{contents_in}
use Rattle.qw_scan.proofs.ModuleBodies.{bodies_valid, bodies_fault}
use Rattle.qw_scan.proofs.bodies.check_bodies.Goals as goal

pub returns-clause-valid : goal.returns-clause-valid
returns-clause-valid c = λ m same parts. bodies_valid m (contents_in c.args.octets.now c.args.outline) same parts c.judge_bodies.result c.judge_bodies.ensures

pub returns-clause-fault : goal.returns-clause-fault
returns-clause-fault c = λ m same parts. bodies_fault m (contents_in c.args.octets.now c.args.outline) same parts c.judge_bodies.result c.judge_bodies.ensures
