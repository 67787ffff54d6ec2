-- What a script's queries mean, in order, with their names and keys (ISO/IEC 9075:1992, 7.9, 13.1).
use Rattle.std.specs.Prelude.{List, [], ◌∷◌}
use Rattle.qw_types.specs.declared.schema.Table.{Table}
use Rattle.qw_ast.specs.Syntax.{Select}
use Rattle.qw_grouped.specs.WholeQuery.{whole_of}
use Rattle.qw_typer.specs.declared.query.TypedQuery.{TypedQuery}
use Rattle.qw_typer.specs.Typed.{Means}

-- one for each query
abbrev pub AreMeant : List Table → List Select → List TypedQuery → Type 0
AreMeant schema [] [] = Unit {0}
AreMeant schema [] (t ∷ ts) = ⊥
AreMeant schema (s ∷ others) [] = ⊥
AreMeant schema (s ∷ others) (t ∷ ts) = Means schema s (whole_of t.query) t.names.items t.keys.items × AreMeant schema others ts
