use Rattle.std.proofs.Common.{length}
use Rattle.qw_ast.specs.SyntaxTree.{octets_of}
use Rattle.qw_typer.specs.Meant.{referred}
use Rattle.qw_typer.specs.Inner.Typing.{as_entries}
use Rattle.qw_typer.proofs.ScopeLemmas.{FoundWith}
use Rattle.qw_typer.proofs.scope.referred.Given as goal

abbrev pub invariant-loop-rest : goal.invariant-loop-rest
invariant-loop-rest l = FoundWith l.found (referred (as_entries l.rest) (octets_of l.qualifier) l.name) (referred (as_entries l.entries) (octets_of l.qualifier) l.name)

abbrev pub decreases-loop-rest : goal.decreases-loop-rest
decreases-loop-rest l = length l.rest
