use Rattle.std.proofs.Common.{◌≡◌, ◌-◌, ◌≤◌}
use Rattle.qw_module.specs.declared.module.Module.{Module}
use Rattle.qw_machine.specs.declared.room.Rooms.{Rooms}
use Rattle.qw_machine.specs.declared.stepped.Stepped.TheVariants.{Ran}
use Rattle.qw_machine.specs.Inner.Points.{Point, with_held}
use Rattle.qw_machine.specs.Inner.Activities.{IsFollowed, IsRun}
use Rattle.qw_machine.proofs.following.following.Given as goal

-- so many steps led to the index
abbrev pub invariant-loop-index : goal.invariant-loop-index
invariant-loop-index l = record {
  room : l.operands.room ≡ l.initial.operands.room;
  from : l.first ≤ l.index;
  reserved : l.memory.reserved ≡ l.initial.memory.reserved;
  runs : (m : Module) (rooms : Rooms) (p : Point) → IsFollowed m rooms l.sequence p l.first l.initial.operands.room l.initial.operands.values l.initial.globals l.initial.locals →
      IsRun m rooms l.spare (l.end - l.first) (with_held p l.first l.initial.operands.values l.initial.globals l.initial.locals) l.initial.memory.octets (record { steps = l.index - l.first; last = Ran })
      (with_held p l.index l.operands.values l.globals l.locals) l.memory.octets;
}

abbrev pub decreases-loop-index : goal.decreases-loop-index
decreases-loop-index l = l.end - l.index
