use Rattle.std.proofs.Common.{◌≡◌, ◌+◌, ◌*◌, ◌++◌, drop, length, map}
use Rattle.qw_scalar.specs.Tree.{expression_of}
use Rattle.qw_typer.specs.Typed.{columns_from}
use Rattle.qw_typer.proofs.FitLemmas.{ColumnsLeft}
use Rattle.qw_typer.proofs.statement.push_columns.Given as goal

abbrev pub invariant-loop-index : goal.invariant-loop-index
invariant-loop-index l = record {
  meant : map expression_of l.made.items ++ columns_from (64 * l.number + l.index) (drop l.index l.columns) ≡ map expression_of l.initial.made.items ++ columns_from (64 * l.number) l.columns;
  fits : ColumnsLeft l.initial.made.items l.made.items (length (drop l.index l.columns)) (length l.columns);
}
