use Rattle.std.proofs.Common.{◌≡◌, length}
use Rattle.qw_module.specs.declared.module.Module.{Module}
use Rattle.qw_module.specs.Start.{body_of}
use Rattle.qw_module.specs.Syntax.{sequence_at}
use Rattle.qw_module.specs.Validity.{sequences_of}
use Rattle.qw_machine.specs.declared.room.Rooms.{Rooms}
use Rattle.qw_machine.specs.Inner.Placed.{IsPoint}
use Rattle.qw_machine.specs.Inner.Points.{Point, in_sequence, state_at}
use Rattle.qw_machine.proofs.blocks.leave_labels.Given as goal

-- the point stands for the same state as at first
abbrev pub invariant-loop-index : goal.invariant-loop-index
invariant-loop-index l =
    (l.awaiting.room ≡ l.initial.awaiting.room) × (l.sequence ≡ sequence_at (sequences_of l.body) l.number)
    × ((m : Module) (rooms : Rooms) (p : Point) → sequences_of l.body ≡ body_of m p.function → IsPoint m rooms (in_sequence p l.initial.awaiting.values l.fn.number l.fn.index) →
    IsPoint m rooms (in_sequence p l.awaiting.values l.number l.index)
    × (state_at m (in_sequence p l.initial.awaiting.values l.fn.number l.fn.index) ≡ state_at m (in_sequence p l.awaiting.values l.number l.index)))

abbrev pub decreases-loop-index : goal.decreases-loop-index
decreases-loop-index l = length l.awaiting.values
