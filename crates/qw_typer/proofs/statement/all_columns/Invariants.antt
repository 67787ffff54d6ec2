use Rattle.std.proofs.Common.{◌≡◌, ◌++◌, map, length}
use Rattle.qw_scalar.specs.Tree.{expression_of}
use Rattle.qw_typer.specs.Inner.Sizes.{column_count}
use Rattle.qw_typer.specs.Inner.Typing.{as_entries}
use Rattle.qw_typer.specs.Typed.{columns_meant}
use Rattle.qw_typer.proofs.FitLemmas.{FitsWith}
use Rattle.qw_typer.proofs.statement.all_columns.Given as goal

abbrev pub invariant-loop-rest : goal.invariant-loop-rest
invariant-loop-rest l = record {
  meant : map expression_of l.made.items ++ columns_meant (as_entries l.rest) ≡ columns_meant (as_entries l.fn.entries);
  fits : FitsWith l.made.items (column_count (as_entries l.rest)) 0 (column_count (as_entries l.fn.entries)) 0;
}

abbrev pub decreases-loop-rest : goal.decreases-loop-rest
decreases-loop-rest l = length l.rest
