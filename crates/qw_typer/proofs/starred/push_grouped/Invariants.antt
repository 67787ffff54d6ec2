use Rattle.std.proofs.Common.{◌≡◌, ◌+◌, ◌*◌, ◌++◌, drop, length, map, Some}
use Rattle.qw_scalar.specs.Tree.{expression_of}
use Rattle.qw_typer.specs.Grouping.{starred, starred_faults}
use Rattle.qw_typer.specs.Typed.{columns_from}
use Rattle.qw_typer.specs.Inner.Typing.{as_grouping}
use Rattle.qw_typer.proofs.FitLemmas.{ColumnsLeft}
use Rattle.qw_typer.proofs.starred.push_grouped.Given as goal

abbrev pub invariant-loop-index : goal.invariant-loop-index
invariant-loop-index l = record {
  faultless : starred_faults (Some (as_grouping l.grouping)) (columns_from (64 * l.number + l.index) (drop l.index l.columns)) ≡ starred_faults (Some (as_grouping l.grouping)) (columns_from (64 * l.number) l.columns);
  meant : map expression_of l.made.items ++ starred (Some (as_grouping l.grouping)) (columns_from (64 * l.number + l.index) (drop l.index l.columns))
      ≡ map expression_of l.initial.made.items ++ starred (Some (as_grouping l.grouping)) (columns_from (64 * l.number) l.columns);
  fits : ColumnsLeft l.initial.made.items l.made.items (length (drop l.index l.columns)) (length l.columns);
}
