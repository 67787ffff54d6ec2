use Rattle.std.proofs.Common.{◌≡◌, ◌+◌, ◌++◌, length, map, sum_by, take}
use Rattle.std.specs.List.{flat_map}
use Rattle.qw_scalar.specs.Texts.{texts_in}
use Rattle.qw_scalar.specs.Nodes.{nodes}
use Rattle.qw_scalar.specs.Tree.{expression_of}
use Rattle.qw_grouped.specs.Grouped.{expression_of_column}
use Rattle.qw_compile_whole.proofs.front.add_columns.Given as goal

abbrev pub invariant-loop-column : goal.invariant-loop-column
invariant-loop-column l = record {
  same : map expression_of l.items.items ≡ map expression_of l.initial.items.items ++ map expression_of_column (take l.column-index l.columns);
  nodes : sum_by nodes l.items.items ≡ sum_by nodes l.initial.items.items + length (take l.column-index l.columns);
  texts : flat_map texts_in l.items.items ≡ flat_map texts_in l.initial.items.items;
}
