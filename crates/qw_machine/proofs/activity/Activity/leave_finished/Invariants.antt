use Rattle.std.proofs.Common.{◌≡◌, length}
use Rattle.qw_machine.specs.Inner.Points.{point_of, state_at}
use Rattle.qw_machine.specs.Inner.Rooms.{rooms_of}
use Rattle.qw_machine.specs.Inner.Placed.{IsPoint}
use Rattle.qw_machine.proofs.activity.Activity.leave_finished.Given as goal

-- the point stands for the same state as at first
abbrev pub invariant-loop-self : goal.invariant-loop-self
invariant-loop-self l =
    (rooms_of l.self ≡ rooms_of l.initial.self) × IsPoint l.program (rooms_of l.initial.self) (point_of l.self)
    × (state_at l.program (point_of l.initial.self) ≡ state_at l.program (point_of l.self))

abbrev pub decreases-loop-self : goal.decreases-loop-self
decreases-loop-self l = length l.self.awaiting.values
