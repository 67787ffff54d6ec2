use Rattle.std.proofs.Common.{◌≡◌, ◌-◌, ◌^◌, take, min}
use Rattle.qw_binary.specs.Sections.{locals_count}
use Rattle.qw_binary.proofs.read.functions.are_few.Given as goal

abbrev pub invariant-loop-run : goal.invariant-loop-run
invariant-loop-run l = l.sum ≡ min (locals_count (take l.run-index l.runs)) (2 ^ 64 - 1)
