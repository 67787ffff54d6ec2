use Rattle.std.proofs.Common.{length, map}
use Rattle.qw_ast.specs.SyntaxTree as syntax
use Rattle.qw_typer.proofs.EntryLemmas.{EntriesWith}
use Rattle.qw_typer.proofs.entries.entries.Given as goal

abbrev pub invariant-loop-rest : goal.invariant-loop-rest
invariant-loop-rest l = EntriesWith l.fn.tables l.made.items (map syntax.entry_of l.rest) (map syntax.entry_of l.fn.named)

abbrev pub decreases-loop-rest : goal.decreases-loop-rest
decreases-loop-rest l = length l.rest
