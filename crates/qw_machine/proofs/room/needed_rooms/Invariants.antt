use Rattle.std.proofs.Common.{◌≡◌}
use Rattle.qw_machine.specs.Inner.Rooms.{needed_below}
use Rattle.qw_machine.proofs.room.needed_rooms.Given as goal

abbrev pub invariant-loop-number : goal.invariant-loop-number
invariant-loop-number l = l.rooms ≡ needed_below l.«module» l.heights l.number
