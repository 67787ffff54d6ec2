use Rattle.std.proofs.Common.{◌≡◌, ◌++◌, map, length, Some}
use Rattle.qw_scalar.specs.Tree.{expression_of}
use Rattle.qw_typer.specs.Grouping.{starred, starred_faults}
use Rattle.qw_typer.specs.Typed.{columns_meant}
use Rattle.qw_typer.specs.Inner.Sizes.{column_count}
use Rattle.qw_typer.specs.Inner.Typing.{as_entries, as_grouping}
use Rattle.qw_typer.proofs.FitLemmas.{FitsWith}
use Rattle.qw_typer.proofs.starred.starred.Given as goal

abbrev pub invariant-loop-rest : goal.invariant-loop-rest
invariant-loop-rest l = record {
  faultless : starred_faults (Some (as_grouping l.fn.grouping)) (columns_meant (as_entries l.rest)) ≡ starred_faults (Some (as_grouping l.fn.grouping)) (columns_meant (as_entries l.fn.entries));
  meant : map expression_of l.made.items ++ starred (Some (as_grouping l.fn.grouping)) (columns_meant (as_entries l.rest)) ≡ starred (Some (as_grouping l.fn.grouping)) (columns_meant (as_entries l.fn.entries));
  fits : FitsWith l.made.items (column_count (as_entries l.rest)) 0 (column_count (as_entries l.fn.entries)) 0;
}

abbrev pub decreases-loop-rest : goal.decreases-loop-rest
decreases-loop-rest l = length l.rest
