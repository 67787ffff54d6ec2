use Rattle.std.proofs.Common.{length, map}
use Rattle.qw_ast.specs.SyntaxTree as syntax
use Rattle.qw_typer.proofs.KeyLemmas.{KeysWith}
use Rattle.qw_typer.proofs.key.keys.Given as goal

abbrev pub invariant-loop-rest : goal.invariant-loop-rest
invariant-loop-rest l = KeysWith l.fn.names l.made.items (map syntax.sort_of l.rest) (map syntax.sort_of l.fn.order)

abbrev pub decreases-loop-rest : goal.decreases-loop-rest
decreases-loop-rest l = length l.rest
