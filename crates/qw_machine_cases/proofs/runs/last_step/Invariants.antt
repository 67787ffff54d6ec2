use Rattle.std.proofs.Common.{◌≡◌, ◌-◌, None}
use Rattle.qw_machine_cases.proofs.runs.last_step.Given as goal

-- the host owes no answer
abbrev pub invariant-loop-steps : goal.invariant-loop-steps
invariant-loop-steps l = l.instance.asked ≡ None

abbrev pub decreases-loop-steps : goal.decreases-loop-steps
decreases-loop-steps l = 100000000 - l.steps
