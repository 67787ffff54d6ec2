use Rattle.std.proofs.Common.{◌≡◌, take}
use Rattle.qw_grouped.specs.SetFunctions.{least}
use Rattle.qw_plain_grouped.proofs.reckon.least_of.Given as goal

abbrev pub invariant-loop-other : goal.invariant-loop-other
invariant-loop-other l = l.best ≡ least l.fn.first (take l.other-index l.others)
