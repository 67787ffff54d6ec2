use Rattle.std.proofs.Common.{◌≡◌, map, take}
use Rattle.qw_operator.specs.Guarded.{sure_where}
use Rattle.qw_operator.specs.Inner.Strict as strict
use Rattle.qw_operator.proofs.guard.all_behind.Given as goal

abbrev pub invariant-loop-reader : goal.invariant-loop-reader
invariant-loop-reader l = l.sure.items ≡ map (sure_where (strict.is_tested l.cond l.left l.end)) (take l.reader-index l.readers)
