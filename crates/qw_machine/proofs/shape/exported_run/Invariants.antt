use Rattle.std.proofs.Common.{ℕ, ◌<◌, get_or}
use Rattle.qw_module.specs.declared.module.Export.{Export}
use Rattle.qw_machine.specs.Inner.Shape.{ExportsNoRun}
use Rattle.qw_machine.proofs.shape.exported_run.Given as goal

-- no export so far gives a `run`
abbrev pub invariant-loop-export : goal.invariant-loop-export
invariant-loop-export l = (k : ℕ) (d : Export) → k < l.export-index → ExportsNoRun l.«module» (get_or l.«module».exports.items k d)
