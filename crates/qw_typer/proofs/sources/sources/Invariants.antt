use Rattle.std.proofs.Common.{◌≡◌, ◌≤◌, length, map}
use Rattle.qw_ast.specs.Limits.{entries_of}
use Rattle.qw_ast.specs.SyntaxTree as syntax
use Rattle.qw_typer.specs.Inner.Typing.{as_entries, typed_sources}
use Rattle.qw_typer.proofs.SourceLemmas.{AfterSources, SourcesWith}
use Rattle.qw_typer.proofs.sources.sources.Given as goal

abbrev pub invariant-loop-rest : goal.invariant-loop-rest
invariant-loop-rest l = record {
  meant : typed_sources (as_entries l.fn.entries) (map syntax.source_of l.fn.sources) ≡ AfterSources l.others l.made.items (map syntax.source_of l.rest);
  counts : length l.others ≡ length (entries_of (map syntax.source_of l.rest));
  left : length l.others ≤ length l.fn.entries;
  fits : SourcesWith l.made.items (map syntax.source_of l.rest) (map syntax.source_of l.fn.sources);
}

abbrev pub decreases-loop-rest : goal.decreases-loop-rest
decreases-loop-rest l = length l.rest
