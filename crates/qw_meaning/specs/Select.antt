-- A query specification (ISO/IEC 9075:1992, 7.9): SELECT items FROM sources WHERE conjuncts, its names resolved. Column c of entry e of FROM,
-- both counted from 0, is number 64 * e + c in every clause, so that a conjunct means the same wherever it stands; a table has at most 64
-- columns.
use Rattle.std.specs.Prelude.{◌≡◌, ℕ, ◌+◌, ◌/◌, ◌%◌, ◌≤◌, ◌<◌, Bool, true, false, List, [], ◌∷◌, map, length, Option, Some, None, slice_get}
use Rattle.std.specs.List.{AllByRecursion, AllZip, flat_map}
use Rattle.qw_types.specs.Contents.{IsOfColumnType, rows_of}
use Rattle.qw_types.specs.Limits.{most_rows}
use Rattle.qw_types.specs.declared.schema.ColumnType.{ColumnType}
use Rattle.qw_types.specs.declared.value.Ty.{Ty}
use Rattle.qw_types.specs.declared.value.Val.{Val}
use Rattle.qw_scalar.specs.declared.expression.Expr.{Expr}
use Rattle.qw_scalar.specs.declared.expression.Cond.{Cond}
use Rattle.qw_scalar.specs.Columns.{HasColumns, HaveColumns}
use Rattle.qw_scalar.specs.Expression.{Condition, Expression}
use Rattle.qw_scalar.specs.Tree.{condition_of, expression_of}
use Rattle.qw_scalar.specs.Typing.{AreTyped, HasKind, IsTyped}

-- an entry of FROM (7.4): a table of the schema, counted from 0, and the type of each of its columns, with its NOT NULL (11.4)
pub record Entry : Type 0 where
  pub table : ℕ
  pub columns : List ColumnType

-- JOIN entry ON conjuncts, or LEFT JOIN where `outer`, with all that stands before it in its source (7.5)
pub record Joined : Type 0 where
  pub entry : Entry
  pub outer : Bool
  pub on : List Condition

-- a source of FROM, up to the next comma: an entry, and those joined to it from left to right
pub record Source : Type 0 where
  pub first : Entry
  pub joins : List Joined

-- The conjuncts are the operands of the outermost AND chain of WHERE in written order, none without a WHERE.
pub record Specification : Type 0 where
  pub sources : List Source
  pub conjuncts : List Condition
  pub items : List Expression

-- the entries of a source, and of all sources, from left to right
abbrev pub entries_in : Source → List Entry
entries_in source = source.first ∷ map (λ (j : Joined). j.entry) source.joins

abbrev pub entries_of : List Source → List Entry
entries_of sources = flat_map entries_in sources

-- The entries as rows of FROM have them: where one is the right side of a LEFT JOIN its columns may be null, NOT NULL or not (7.5).
abbrev pub with_nulls : ColumnType → ColumnType
with_nulls c = record c { not_null = false }

abbrev pub in_rows : (outer : Bool) → Entry → Entry
in_rows true entry = record entry { columns = map with_nulls entry.columns }
in_rows false entry = entry

abbrev pub entries_in_row : Source → List Entry
entries_in_row source = source.first ∷ map (λ (j : Joined). in_rows j.outer j.entry) source.joins

abbrev pub entries_in_rows : List Source → List Entry
entries_in_rows sources = flat_map entries_in_row sources

-- the conjuncts of every ON, in written order
abbrev pub conjuncts_on : List Source → List Condition
conjuncts_on sources = flat_map (λ (source : Source). flat_map (λ (j : Joined). j.on) source.joins) sources

-- the data types of columns
abbrev pub types_of : List ColumnType → List Ty
types_of columns = map (λ (c : ColumnType). c.ty) columns

-- the type of a column of an entry, where there is one
abbrev pub type_in : Option Entry → (column : ℕ) → Option Ty
type_in None column = None
type_in (Some entry) column = slice_get (types_of entry.columns) column

-- one of the entries has the column of this number, of this type
abbrev pub IsColumnOf : List Entry → ℕ → Ty → Type 0
IsColumnOf entries i ty = type_in (slice_get entries (i / 64)) (i % 64) ≡ Some ty

-- and it is one of those from number `first` on and before number `next`
abbrev pub IsReached : List Entry → (first next : ℕ) → ℕ → Ty → Type 0
IsReached entries first next i ty = IsColumnOf entries i ty × ((first ≤ i / 64) × (i / 64 < next))

-- The table that an entry names has rows of the entry's columns: a value of each column, in their order, which is null only where the
-- column isn't NOT NULL; and no more rows than a table may have.
pub record IsOfEntry (tables : List (List (List Val))) (entry : Entry) : Type 0 where
  pub few : length (rows_of tables entry.table) ≤ most_rows
  pub typed : AllByRecursion (AllZip IsOfColumnType entry.columns) (rows_of tables entry.table)

-- so has each table of FROM
abbrev pub AreOfEntries : List Entry → (tables : List (List (List Val))) → Type 0
AreOfEntries entries tables = AllByRecursion (IsOfEntry tables) entries

-- a condition over columns of which something holds
abbrev pub IsConditionOver : (ℕ → Ty → Type 0) → Condition → Type 0
IsConditionOver Holds c = AreTyped c × HaveColumns Holds c

-- an item over such columns, which has a kind
abbrev pub IsItemOver : (ℕ → Ty → Type 0) → Expression → Type 0
IsItemOver Holds e = (IsTyped e × HasKind e) × HasColumns Holds e

-- An ON reaches the entries of its source, from number `first` on, up to its own, number `next` (7.5).
abbrev pub AreJoinsOver : List Entry → (first next : ℕ) → List Joined → Type 0
AreJoinsOver entries first next [] = Unit {0}
AreJoinsOver entries first next (j ∷ joins) =
    AllByRecursion (IsConditionOver (IsReached entries first (next + 1))) j.on × AreJoinsOver entries first (next + 1) joins

abbrev pub AreSourcesOver : List Entry → (first : ℕ) → List Source → Type 0
AreSourcesOver entries first [] = Unit {0}
AreSourcesOver entries first (source ∷ sources) =
    AreJoinsOver entries first (first + 1) source.joins × AreSourcesOver entries (first + length (entries_in source)) sources

-- what a specification keeps: its limits, and that all of it is typed over the columns of its entries
pub record IsSpecification (specification : Specification) : Type 0 where
  pub some_source : 1 ≤ length specification.sources
  pub few_entries : length (entries_of specification.sources) ≤ 8
  pub few_columns : AllByRecursion (λ (entry : Entry). length entry.columns ≤ 64) (entries_of specification.sources)
  pub few_conjuncts : length (conjuncts_on specification.sources) + length specification.conjuncts ≤ 1000
  pub some_item : 1 ≤ length specification.items
  -- 64 columns of each of 8 entries, where all are selected
  pub few_items : length specification.items ≤ 512
  pub sources : AreSourcesOver (entries_of specification.sources) 0 specification.sources
  pub conjuncts : AllByRecursion (IsConditionOver (IsColumnOf (entries_of specification.sources))) specification.conjuncts
  pub items : AllByRecursion (IsItemOver (IsColumnOf (entries_of specification.sources))) specification.items

-- the parts of a specification over one table, as trees of the code
pub record Parts : Type 0 where
  pub table : ℕ
  pub columns : List ColumnType
  pub conjuncts : List Cond
  pub items : List Expr

-- a source of one entry
abbrev pub alone : Entry → Source
alone entry = record { first = entry; joins = [] }

-- the specification that they make
abbrev pub specification_of : Parts → Specification
specification_of parts = record {
  sources = alone (record { table = parts.table; columns = parts.columns }) ∷ [];
  conjuncts = map condition_of parts.conjuncts;
  items = map expression_of parts.items;
}
