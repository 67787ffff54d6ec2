-- Tables and queries of worked cases.
use Rattle.std.specs.Prelude.{ℕ, false, true, List, [], ◌∷◌, map, Some, None, codes}
use Rattle.qw_types.specs.declared.schema.Column.{Column}
use Rattle.qw_types.specs.declared.schema.Table.{Table}
use Rattle.qw_types.specs.declared.value.Ty.TheVariants as type
use Rattle.qw_scalar.specs.declared.comparison.Comparison.TheVariants.{Equal}
use Rattle.qw_order.specs.declared.sort_key.SortKey.{SortKey}
use Rattle.qw_ast.specs.Syntax.{Expression, column, number, comparison, Entry, Joined, Source, Key, result_column, SortSpecification, Select, all_columns, items}
use Rattle.qw_typer.specs.Keys.{keys_meant}
use Rattle.qw_typer.specs.Typed.{result_names, scope_of}

abbrev pub integer_column : List ℕ → Column
integer_column name = record { name = name; ty = type.Integer; not_null = false }

-- A (K INTEGER, X INTEGER) and B (K INTEGER, Y INTEGER)
abbrev pub two_tables : List Table
two_tables =
    record { name = codes "A"; columns = integer_column (codes "K") ∷ integer_column (codes "X") ∷ [] }
    ∷ record { name = codes "B"; columns = integer_column (codes "K") ∷ integer_column (codes "Y") ∷ [] }
    ∷ []

-- C (K INTEGER NOT NULL)
abbrev pub strict_table : List Table
strict_table = record { name = codes "C"; columns = record { name = codes "K"; ty = type.Integer; not_null = true } ∷ [] } ∷ []

-- a table without an alias, and with one
abbrev pub table : List ℕ → Entry
table name = record { table = name; alias = None }

abbrev pub table_as : List ℕ → List ℕ → Entry
table_as name alias = record { table = name; alias = Some alias }

abbrev pub alone : Entry → Source
alone entry = record { first = entry; joins = [] }

-- qualifier.name
abbrev pub of : List ℕ → List ℕ → Expression
of qualifier name = column (Some qualifier) name

-- JOIN entry ON a = b, and LEFT JOIN
abbrev pub join : Entry → Expression → Expression → Joined
join entry a b = record { entry = entry; outer = false; on = comparison Equal a b }

abbrev pub left_join : Entry → Expression → Expression → Joined
left_join entry a b = record { entry = entry; outer = true; on = comparison Equal a b }

-- SELECT * FROM sources, and SELECT e FROM sources
abbrev pub all_from : List Source → Select
all_from sources = record { distinct = false; selected = all_columns; sources = sources; filter = None; grouping = []; having = None; order = [] }

abbrev pub item_from : Expression → List Source → Select
item_from e sources = record { distinct = false; selected = items (record { value = e; name = None } ∷ []); sources = sources; filter = None; grouping = []; having = None; order = [] }

-- a result column by its name
abbrev pub key_of : List ℕ → Key
key_of name = result_column name

abbrev pub sorts : List Key → List SortSpecification
sorts keys = map (λ (k : Key). record { key = k; is_descending = false }) keys

-- SELECT A.X AS Z, B.K, 5 FROM A, B ORDER BY keys
abbrev pub in_order : List Key → Select
in_order keys = record {
  distinct = false;
  selected = items (record { value = of (codes "a") (codes "x"); name = Some (codes "z") } ∷ record { value = of (codes "b") (codes "k"); name = None } ∷ record { value = number (codes "5"); name = None } ∷ []);
  sources = alone (table (codes "a")) ∷ alone (table (codes "b")) ∷ [];
  filter = None;
  grouping = [];
  having = None;
  order = sorts keys;
}

-- SELECT * FROM A, B ORDER BY keys
abbrev pub all_in_order : List Key → Select
all_in_order keys = record { distinct = false; selected = all_columns; sources = alone (table (codes "a")) ∷ alone (table (codes "b")) ∷ []; filter = None; grouping = []; having = None; order = sorts keys }

-- the keys that the first of the two means
abbrev pub keys_of : List Key → List SortKey
keys_of keys =
    keys_meant (result_names (scope_of two_tables (in_order keys)) (in_order keys).selected) (sorts keys)

abbrev pub ascending : ℕ → SortKey
ascending position = record { position = position; is_descending = false }
