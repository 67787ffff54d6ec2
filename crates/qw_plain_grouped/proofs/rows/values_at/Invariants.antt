use Rattle.std.proofs.Common.{◌≡◌, take}
use Rattle.qw_grouped.specs.Groups.{values_at}
use Rattle.qw_plain_grouped.proofs.rows.values_at.Given as goal

abbrev pub invariant-loop-row : goal.invariant-loop-row
invariant-loop-row l = l.values.items ≡ values_at l.place (take l.row-index l.rows)
