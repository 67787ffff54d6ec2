use Rattle.std.proofs.Common.{◌≡◌, ◌++◌, drop, map}
use Rattle.qw_ast.specs.Syntax.{Joined}
use Rattle.qw_ast.specs.SyntaxTree as syntax
use Rattle.qw_typer.proofs.entries.push_joined.Given as goal

abbrev pub invariant-loop-join : goal.invariant-loop-join
invariant-loop-join l =
    map syntax.entry_of l.named.items ++ map (λ (j : Joined). j.entry) (map syntax.joined_of (drop l.join-index l.joins))
    ≡ map syntax.entry_of l.initial.named.items ++ map (λ (j : Joined). j.entry) (map syntax.joined_of l.joins)
