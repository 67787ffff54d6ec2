-- Mirrors the fields of `Instance`: what they stand for, and what they keep (its view and its invariant).
use Rattle.std.specs.Prelude.{◌≡◌, length, None, IfSome}
use Rattle.qw_machine.specs.declared.machine.Instance.TheInside.{Inside}
use Rattle.qw_module.specs.Execution.{State}
use Rattle.qw_module.specs.Validity.{imported_functions}
use Rattle.qw_machine.specs.Instance.{Called}
use Rattle.qw_machine.specs.Inner.Ended.{state_after, WhileRunning}
use Rattle.qw_machine.specs.Inner.Points.{state_at, point_of}
use Rattle.qw_machine.specs.Inner.Rooms.{rooms_of}
use Rattle.qw_machine.specs.Inner.Placed.{IsExecuted, IsAsking, IsRunning}

abbrev pub state_of : Inside → State
state_of i = state_after i.ended (state_at i.valid (point_of i.activity))

abbrev pub called : Inside → Called
called i = record { program = i.valid; state = state_of i; asked = i.asked }

-- the module can be executed, and while the call runs, it is typed and has room; where the host owes an answer, it runs, and is at
-- the call that asks
pub record IsHeld (i : Inside) : Type 0 where
  pub executed : IsExecuted i.valid
  pub imported : i.imported ≡ length (imported_functions i.valid)
  pub running : WhileRunning i.ended (IsRunning i.valid (rooms_of i.activity) (point_of i.activity))
  pub asks : IfSome i.asked (λ pages. (i.ended ≡ None) × IsAsking i.valid (point_of i.activity) pages)
