use Rattle.std.proofs.Common.{drop}
use Rattle.std.specs.Str.{bytes_eq}
use Rattle.qw_typer.specs.Keys.{positions_where}
use Rattle.qw_typer.proofs.KeyLemmas.{NamedWith}
use Rattle.qw_typer.proofs.key.of_name.Given as goal

abbrev pub invariant-loop-position : goal.invariant-loop-position
invariant-loop-position l = NamedWith l.found (positions_where (bytes_eq l.name) l.position (drop l.position l.names)) (positions_where (bytes_eq l.name) 0 l.names)
