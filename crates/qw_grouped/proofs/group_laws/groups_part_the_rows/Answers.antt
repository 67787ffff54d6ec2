use Rattle.std.proofs.Common.{map}
use Rattle.qw_grouped.specs.Groups.{key_of}
use Rattle.qw_grouped.proofs.GroupLemmas.{apart, groups_are_all}
use Rattle.qw_grouped.proofs.group_laws.groups_part_the_rows.Goals as goal

pub returns : goal.returns
returns c = record { rows = groups_are_all; keys = λ columns rows. apart (map (key_of columns) rows) }
