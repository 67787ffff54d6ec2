use Rattle.qw_machine.specs.Inner.Points.{point_of}
use Rattle.qw_machine.proofs.activity.Activity.step.Goals as goal

pub finish-requires-clause-done : goal.finish-requires-clause-done
finish-requires-clause-done c =
    (c.args.spare, point_of c.args.self.now, c.args.memory.now.octets, c.execute-done.new.memory.octets, rw c.execute-done.ensures.rooms c.execute-done.ensures.done)

pub returns-clause-stepped : goal.returns-clause-stepped
returns-clause-stepped c =
    (rw c.execute-done.ensures.rooms at c.finish.ensures.stepped) c.args.spare (point_of c.args.self.now) c.args.memory.now.octets c.execute-done.new.memory.octets
    c.execute-done.ensures.done
