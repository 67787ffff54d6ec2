use Rattle.std.proofs.Common.{◌≡◌, take}
use Rattle.qw_grouped.specs.SetFunctions.{greatest}
use Rattle.qw_plain_grouped.proofs.reckon.greatest_of.Given as goal

abbrev pub invariant-loop-other : goal.invariant-loop-other
invariant-loop-other l = l.best ≡ greatest l.fn.first (take l.other-index l.others)
