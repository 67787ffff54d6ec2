use Rattle.std.proofs.Common.{◌≡◌, take}
use Rattle.qw_operator.specs.Guarded.{picked}
use Rattle.qw_operator.specs.Inner.Strict as strict
use Rattle.qw_operator.proofs.guard.pick_all.Given as goal

abbrev pub invariant-loop-reader : goal.invariant-loop-reader
invariant-loop-reader l = l.tested.items ≡ picked (strict.is_tested l.cond l.left l.end) (take l.reader-index l.readers)
