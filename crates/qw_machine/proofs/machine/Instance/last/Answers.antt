use Rattle.std.proofs.Common.{is_some, ap}
use Rattle.qw_machine.proofs.Instances.{last-running}
use Rattle.qw_machine.proofs.machine.Instance.last.Goals as goal

pub returns-in-None : goal.returns-in-None
returns-in-None c = rw (← c.self.view_is) (last-running c.self.inside (ap is_some c.in-None.is) c.self.invariant)
