use Rattle.std.proofs.Common.{◌≡◌}
use Rattle.std.specs.List.{filter}
use Rattle.qw_grouped.specs.SetFunctions.{is_not_null}
use Rattle.qw_plain_grouped.proofs.reckon.not_null.Given as goal

abbrev pub invariant-loop-value : goal.invariant-loop-value
invariant-loop-value l = l.found.items ≡ filter is_not_null l.yielded
