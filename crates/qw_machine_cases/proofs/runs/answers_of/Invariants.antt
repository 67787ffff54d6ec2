use Rattle.std.proofs.Common.{◌≡◌, None}
use Rattle.qw_machine_cases.proofs.runs.answers_of.Given as goal

-- the host owes no answer
abbrev pub invariant-loop : goal.invariant-loop
invariant-loop l = l.instance.asked ≡ None
