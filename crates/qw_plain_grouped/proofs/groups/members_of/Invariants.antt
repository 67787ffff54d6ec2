use Rattle.std.proofs.Common.{◌≡◌, take}
use Rattle.qw_grouped.specs.Groups.{members}
use Rattle.qw_plain_grouped.proofs.groups.members_of.Given as goal

abbrev pub invariant-loop-row : goal.invariant-loop-row
invariant-loop-row l = l.members.items ≡ members l.columns l.key (take l.row-index l.rows)
