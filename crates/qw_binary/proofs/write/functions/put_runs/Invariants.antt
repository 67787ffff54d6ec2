use Rattle.std.proofs.Common.{◌-◌, length, take}
use Rattle.qw_octet_grammar.specs.Vectors.{counted, one_more, vector}
use Rattle.qw_octet_grammar.specs.Inner.Awaiting.{Awaits}
use Rattle.qw_binary.specs.Sections.{locals_run}
use Rattle.qw_binary.proofs.write.functions.put_runs.Given as goal

abbrev pub invariant-loop-run : goal.invariant-loop-run
invariant-loop-run l = Awaits (vector locals_run) (counted (length l.runs - l.run-index) (one_more locals_run) (take l.run-index l.runs)) l.fn.out.items l.out.items
