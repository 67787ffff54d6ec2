-- The columns that a query reads: those that its expressions name, each once, in the order in which they are first named; and of each entry of
-- FROM of which none is named its first one, by which the rows of its table are counted.
use Rattle.std.specs.Prelude.{◌≡◌, ℕ, zero, suc, ◌+◌, ◌*◌, ◌/◌, ◌%◌, ◌==◌, if◌then◌else◌, List, [], ◌∷◌, ◌++◌, map, Option, Some, None, slice_get}
use Rattle.std.specs.List.{flat_map, list_any}
use Rattle.qw_types.specs.declared.schema.ColumnType.{ColumnType}
use Rattle.qw_types.specs.declared.value.Ty.{Ty}
use Rattle.qw_scalar.specs.declared.expression.Expr.{Expr}
use Rattle.qw_scalar.specs.declared.expression.Cond.{Cond}
use Rattle.qw_leaves.specs.Leaves.{columns_among, leaves_in, leaves_within}
use Rattle.qw_meaning.specs.Query.{QueryParts}
use Rattle.qw_meaning.specs.Select.{Entry}
use Rattle.qw_meaning.specs.declared.query.Joined.{Joined}
use Rattle.qw_meaning.specs.declared.query.Source.{Source}
use Rattle.qw_algebra.specs.Columns.{owner}
use Rattle.qw_physical.specs.declared.pipeline.ReadColumn.{ReadColumn}

-- ---- the numbers of the columns of trees, from left to right
abbrev pub columns_in : Expr → List ℕ
columns_in e = columns_among (leaves_in e)

abbrev pub columns_within : Cond → List ℕ
columns_within c = columns_among (leaves_within c)

-- of each ON in written order, of WHERE, and of the select list
abbrev pub columns_of_join : Joined → List ℕ
columns_of_join j = flat_map columns_within j.on.items

abbrev pub columns_of_source : Source → List ℕ
columns_of_source source = flat_map columns_of_join source.joins.items

abbrev pub columns_of_query : QueryParts → List ℕ
columns_of_query query = flat_map columns_of_source query.sources ++ (flat_map columns_within query.conjuncts ++ flat_map columns_in query.items)

-- ---- each once
-- a column behind others, where it isn't one of them
abbrev pub and_column : List ℕ → ℕ → List ℕ
and_column columns i = if list_any (λ j. j == i) columns then columns else columns ++ i ∷ []

abbrev pub and_columns : List ℕ → (more : List ℕ) → List ℕ
and_columns columns [] = columns
and_columns columns (i ∷ more) = and_columns (and_column columns i) more

abbrev pub named_by : QueryParts → List ℕ
named_by query = and_columns [] (columns_of_query query)

-- ---- and of each other entry the first one
abbrev pub and_first : List ℕ → (entry : ℕ) → List ℕ
and_first columns entry = if list_any (λ i. owner i == entry) columns then columns else columns ++ (64 * entry) ∷ []

-- of so many entries from one on
abbrev pub and_firsts : List ℕ → (entry count : ℕ) → List ℕ
and_firsts columns entry zero = columns
and_firsts columns entry (suc count) = and_firsts (and_first columns entry) (entry + 1) count

-- ---- as they are declared
-- the column of a number, its entry's being this list of them
abbrev pub column_in : Option (List ColumnType) → (column : ℕ) → Option ColumnType
column_in None column = None
column_in (Some columns) column = slice_get columns column

abbrev pub declared_at : (entries : List (List ColumnType)) → ℕ → Option ColumnType
declared_at entries i = column_in (slice_get entries (i / 64)) (i % 64)

-- the columns of entries of FROM
abbrev pub columns_of_entries : List Entry → List (List ColumnType)
columns_of_entries entries = map (λ (entry : Entry). entry.columns) entries

abbrev pub columns_joined : Joined → List ColumnType
columns_joined j = j.entry.columns.items

-- a column of one of the entries, of its type there, and NOT NULL exactly where it is
abbrev pub IsDeclared : List (List ColumnType) → ReadColumn → Type 0
IsDeclared entries c = declared_at entries c.number ≡ Some (record { ty = c.ty; not_null = c.not_null })

-- there is one of this number
abbrev pub HasColumn : List (List ColumnType) → ℕ → Type 0
HasColumn entries i = (declared : ColumnType) × (declared_at entries i ≡ Some declared)

-- ---- of lists of columns
abbrev pub numbers : List ReadColumn → List ℕ
numbers columns = map (λ (c : ReadColumn). c.number) columns

-- each with its type
abbrev pub typed_numbers : List ReadColumn → List (ℕ × Ty)
typed_numbers columns = map (λ (c : ReadColumn). (c.number, c.ty)) columns
