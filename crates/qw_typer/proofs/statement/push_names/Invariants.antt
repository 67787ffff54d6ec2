use Rattle.std.proofs.Common.{◌≡◌, ◌++◌, drop, map}
use Rattle.qw_types.specs.declared.schema.Column.{Column}
use Rattle.qw_typer.proofs.statement.push_names.Given as goal

abbrev pub invariant-loop-column : goal.invariant-loop-column
invariant-loop-column l = l.names.items ++ map (λ (c : Column). c.name) (drop l.column-index l.columns) ≡ l.initial.names.items ++ map (λ (c : Column). c.name) l.columns
