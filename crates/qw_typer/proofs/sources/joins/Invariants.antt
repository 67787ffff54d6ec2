use Rattle.std.proofs.Common.{◌≡◌, ◌+◌, drop, length, map, take}
use Rattle.qw_ast.specs.SyntaxTree as syntax
use Rattle.qw_typer.specs.Inner.Typing.{as_entries, typed_joins}
use Rattle.qw_typer.proofs.SourceLemmas.{AfterJoins, JoinsWith}
use Rattle.qw_typer.proofs.sources.joins.Given as goal

abbrev pub invariant-loop-rest : goal.invariant-loop-rest
invariant-loop-rest l = record {
  meant : typed_joins (as_entries (take 1 l.fn.own)) (as_entries (drop 1 l.fn.own)) (map syntax.joined_of l.fn.joins) ≡ AfterJoins l.fn.own l.made.items (map syntax.joined_of l.rest);
  counts : length l.made.items + length l.rest ≡ length l.fn.joins;
  fits : JoinsWith l.made.items (map syntax.joined_of l.rest) (map syntax.joined_of l.fn.joins);
}

abbrev pub decreases-loop-rest : goal.decreases-loop-rest
decreases-loop-rest l = length l.rest
