use Rattle.std.proofs.Common.{◌≡◌, ◌++◌, length, drop, replicate, vec_capacity}
use Rattle.qw_module.specs.Validity.{declared_types}
use Rattle.qw_machine.proofs.activity.declare.Given as goal

-- the locals of a run so far
abbrev pub invariant-loop : goal.invariant-loop
invariant-loop l = (l.locals.items ≡ l.initial.locals.items ++ replicate l.counter 0) × (vec_capacity l.locals ≡ vec_capacity l.initial.locals)

-- the locals so far, and those of the other runs
abbrev pub invariant-loop-run : goal.invariant-loop-run
invariant-loop-run l =
    (l.locals.items ++ replicate (length (declared_types (drop l.run-index l.runs))) 0 ≡ l.initial.locals.items ++ replicate (length (declared_types l.runs)) 0)
    × (vec_capacity l.locals ≡ vec_capacity l.initial.locals)
