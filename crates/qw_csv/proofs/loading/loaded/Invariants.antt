use Rattle.std.proofs.Common.{◌≡◌, map, take}
use Rattle.qw_types.specs.Contents.{column_type}
use Rattle.qw_csv.proofs.loading.loaded.Given as goal

abbrev pub invariant-loop-column : goal.invariant-loop-column
invariant-loop-column l = l.types.items ≡ map column_type (take l.column-index l.columns)
