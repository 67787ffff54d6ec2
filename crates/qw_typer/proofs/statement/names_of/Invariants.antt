use Rattle.std.proofs.Common.{◌≡◌, ◌+◌, ◌++◌, map, length}
use Rattle.qw_ast.specs.SyntaxTree as syntax
use Rattle.qw_typer.specs.Typed.{item_names}
use Rattle.qw_typer.proofs.statement.names_of.Given as goal

abbrev pub invariant-loop-rest : goal.invariant-loop-rest
invariant-loop-rest l = l.names.items ++ item_names (length l.names.items + 1) (map syntax.item_of l.rest) ≡ item_names 1 (map syntax.item_of l.fn.items)

abbrev pub decreases-loop-rest : goal.decreases-loop-rest
decreases-loop-rest l = length l.rest
