use Rattle.std.proofs.Common.{◌≡◌, length, map}
use Rattle.qw_ast.specs.SyntaxTree as syntax
use Rattle.qw_typer.specs.Inner.Grouping.{typed_columns}
use Rattle.qw_typer.specs.Inner.Typing.{as_entries}
use Rattle.qw_typer.proofs.GroupingLemmas.{AfterColumns}
use Rattle.qw_typer.proofs.grouping.columns.Given as goal

abbrev pub invariant-loop-rest : goal.invariant-loop-rest
invariant-loop-rest l = typed_columns (as_entries l.fn.entries) (map syntax.reference_of l.fn.references) ≡ AfterColumns (as_entries l.fn.entries) l.made.items (map syntax.reference_of l.rest)

abbrev pub decreases-loop-rest : goal.decreases-loop-rest
decreases-loop-rest l = length l.rest
