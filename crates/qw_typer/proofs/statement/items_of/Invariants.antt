use Rattle.std.proofs.Common.{◌≡◌, map, length}
use Rattle.qw_ast.specs.SyntaxTree as syntax
use Rattle.qw_ast.specs.Limits.{over_items}
use Rattle.qw_typer.specs.Inner.Sizes.{nodes, octets}
use Rattle.qw_typer.specs.Inner.Typing.{in_reach, typed_items}
use Rattle.qw_typer.proofs.FitLemmas.{FitsWith}
use Rattle.qw_typer.proofs.StepLemmas.{After}
use Rattle.qw_typer.proofs.statement.items_of.Given as goal

abbrev pub invariant-loop-rest : goal.invariant-loop-rest
invariant-loop-rest l = record {
  meant : typed_items (in_reach l.fn.scope) (map syntax.item_of l.fn.items) ≡ After (in_reach l.fn.scope) l.made.items (map syntax.item_of l.rest);
  fits : FitsWith l.made.items (over_items nodes (map syntax.item_of l.rest)) (over_items octets (map syntax.item_of l.rest)) (over_items nodes (map syntax.item_of l.fn.items)) (over_items octets (map syntax.item_of l.fn.items));
}

abbrev pub decreases-loop-rest : goal.decreases-loop-rest
decreases-loop-rest l = length l.rest
