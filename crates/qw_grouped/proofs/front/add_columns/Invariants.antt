use Rattle.std.proofs.Common.{◌≡◌, ◌++◌, map, take}
use Rattle.qw_scalar.specs.Tree.{expression_of}
use Rattle.qw_grouped.specs.Grouped.{expression_of_column}
use Rattle.qw_grouped.proofs.front.add_columns.Given as goal

abbrev pub invariant-loop-column : goal.invariant-loop-column
invariant-loop-column l = map expression_of l.items.items ≡ map expression_of l.initial.items.items ++ map expression_of_column (take l.column-index l.columns)
