use Rattle.std.proofs.Common.{◌≡◌, map, take}
use Rattle.qw_grouped.specs.Groups.{key_of}
use Rattle.qw_plain_grouped.proofs.groups.keys_of.Given as goal

abbrev pub invariant-loop-row : goal.invariant-loop-row
invariant-loop-row l = l.keys.items ≡ map (key_of l.columns) (take l.row-index l.rows)
