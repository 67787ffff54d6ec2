use Rattle.std.proofs.Common.{◌≡◌, ◌++◌, length, map}
use Rattle.qw_ast.specs.Limits.{entries_of}
use Rattle.qw_ast.specs.SyntaxTree as syntax
use Rattle.qw_typer.proofs.entries.named.Given as goal

abbrev pub invariant-loop-rest : goal.invariant-loop-rest
invariant-loop-rest l = map syntax.entry_of l.named.items ++ entries_of (map syntax.source_of l.rest) ≡ entries_of (map syntax.source_of l.fn.sources)

abbrev pub decreases-loop-rest : goal.decreases-loop-rest
decreases-loop-rest l = length l.rest
