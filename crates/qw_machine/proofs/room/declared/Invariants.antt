use Rattle.std.proofs.Common.{◌≡◌, ◌+◌, length, drop}
use Rattle.qw_module.specs.Validity.{declared_types}
use Rattle.qw_machine.proofs.room.declared.Given as goal

-- so many so far, and those of the other runs
abbrev pub invariant-loop-run : goal.invariant-loop-run
invariant-loop-run l = l.count + length (declared_types (drop l.run-index l.runs)) ≡ length (declared_types l.runs)
