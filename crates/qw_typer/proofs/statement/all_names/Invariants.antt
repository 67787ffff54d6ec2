use Rattle.std.proofs.Common.{◌≡◌, ◌++◌, length}
use Rattle.qw_typer.specs.Inner.Typing.{as_entries}
use Rattle.qw_typer.specs.Typed.{column_names}
use Rattle.qw_typer.proofs.statement.all_names.Given as goal

abbrev pub invariant-loop-rest : goal.invariant-loop-rest
invariant-loop-rest l = l.names.items ++ column_names (as_entries l.rest) ≡ column_names (as_entries l.fn.entries)

abbrev pub decreases-loop-rest : goal.decreases-loop-rest
decreases-loop-rest l = length l.rest
