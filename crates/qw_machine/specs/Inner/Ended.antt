-- Mirrors stepped.rt: how a run has ended, and what that says of the state.
use Rattle.std.specs.Prelude.{ℕ, ◌-◌, Bool, true, false, Option, Some, None, is_some}
use Rattle.qw_machine.specs.declared.stepped.RunEnd.{RunEnd}
use Rattle.qw_machine.specs.declared.stepped.RunEnd.TheVariants as end
use Rattle.qw_machine.specs.declared.stepped.Stepped.{Stepped}
use Rattle.qw_machine.specs.declared.stepped.Stepped.TheVariants as stepped
use Rattle.qw_machine.specs.declared.operators.Operated.{Operated}
use Rattle.qw_machine.specs.declared.operators.Operated.TheVariants as operated
use Rattle.qw_machine.specs.declared.stepped.Run.{Run}
use Rattle.qw_machine.specs.Instance.{asked_by}
use Rattle.qw_module.specs.Numbers.{truth}
use Rattle.qw_module.specs.Execution.{State, Returned, Raised, Trapped}

-- how the run has ended by what a step came to, if it has
abbrev pub run_end_of : Stepped → Option RunEnd
run_end_of stepped.Returned = Some end.Returned
run_end_of (stepped.Raised code) = Some (end.Raised code)
run_end_of (stepped.Trapped why) = Some (end.Trapped why)
run_end_of _ = None

-- what an operator came to, as a step
abbrev pub answer_of : Operated → Stepped
answer_of operated.Ran = stepped.Ran
answer_of (operated.Grew at pages) = stepped.Grew at pages
answer_of (operated.Refused pages) = stepped.Refused pages
answer_of (operated.Trapped why) = stepped.Trapped why

-- how the run has ended after what was finished was left, by whether it goes on
abbrev pub end_by : Bool → Option RunEnd
end_by true = None
end_by false = Some end.Returned

-- after this answer nothing runs any more
abbrev pub is_over : Stepped → Bool
is_over answer = is_some (run_end_of answer)

-- the state of a run that has ended so; of one that goes on, the one given
abbrev pub state_after : Option RunEnd → State → State
state_after None state = state
state_after (Some end.Returned) state = Returned
state_after (Some (end.Raised code)) state = Raised code
state_after (Some (end.Trapped why)) state = Trapped why

abbrev pub WhileRunning : Option RunEnd → Type 0 → Type 0
WhileRunning None P = P
WhileRunning (Some _) P = Unit {0}

-- how many of the steps of a run were made: one that asks the host isn't
abbrev pub made_of : Run → ℕ
made_of run = run.steps - truth (is_some (asked_by run.last))
