use Rattle.std.proofs.Common.{◌≡◌, map, take}
use Rattle.std.specs.List.{flat_map}
use Rattle.qw_meaning.specs.Flow.{codes_given, rows_given}
use Rattle.qw_grouped.specs.Grouped.{kinds_of}
use Rattle.qw_grouped.specs.Groups.{group_row, members}
use Rattle.qw_grouped.specs.Query.{function_of}
use Rattle.qw_plain_grouped.proofs.groups.each_group.Given as goal

abbrev pub invariant-loop-key : goal.invariant-loop-key
invariant-loop-key l = record {
  rows : l.table.rows.items ≡ flat_map (λ key. rows_given (group_row l.columns (kinds_of (map function_of l.functions)) (record { key = key; rows = members l.columns key l.rows }))) (take l.key-index l.key-items);
  codes : l.table.codes.items ≡ flat_map (λ key. codes_given (group_row l.columns (kinds_of (map function_of l.functions)) (record { key = key; rows = members l.columns key l.rows }))) (take l.key-index l.key-items);
}
