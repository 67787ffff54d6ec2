use Rattle.std.proofs.Common.{◌≡◌, ◌-◌}
use Rattle.qw_machine.specs.declared.stepped.Stepped.TheVariants.{Ran}
use Rattle.qw_machine.specs.Inner.Points.{point_of}
use Rattle.qw_machine.specs.Inner.Rooms.{rooms_of}
use Rattle.qw_machine.specs.Inner.Activities.{IsRun}
use Rattle.qw_machine.proofs.activity.Activity.run.Given as goal

-- so many steps led here
abbrev pub invariant-loop-steps : goal.invariant-loop-steps
invariant-loop-steps l =
    (rooms_of l.self ≡ rooms_of l.initial.self)
    × IsRun l.program (rooms_of l.initial.self) l.spare l.most (point_of l.initial.self) l.initial.memory.octets (record { steps = l.steps; last = Ran }) (point_of l.self) l.memory.octets
    × (l.memory.reserved ≡ l.initial.memory.reserved)

abbrev pub decreases-loop-steps : goal.decreases-loop-steps
decreases-loop-steps l = l.most - l.steps
