-- The sides of a plan's joins for which tables are built, in the order in which they are built, and what the pipeline of each feeds.
use Rattle.std.specs.Prelude.{◌≡◌, ℕ, ◌≤◌, Bool, true, false, ◌/◌, ◌%◌, ◌||◌, nat_eq, Option, Some, None, slice_get, List, [], ◌∷◌, ◌++◌, drop, length, take}
use Rattle.std.specs.List.{AllByRecursion, AllZip, Contains}
use Rattle.qw_types.specs.Value.{IsOfTypeOrNull, IsSized}
use Rattle.qw_types.specs.declared.code.Code.{Code}
use Rattle.qw_types.specs.declared.schema.ColumnType.{ColumnType}
use Rattle.qw_types.specs.declared.value.Val.{Val}
use Rattle.qw_types.specs.declared.value.Val.TheVariants.{Null}
use Rattle.qw_scalar.specs.Evaluation.{cell_of}
use Rattle.qw_scalar.specs.Expression.{Expression}
use Rattle.qw_scalar.specs.Typing.{IsValueOf, kind_of}
use Rattle.qw_meaning.specs.From.{entry_flow}
use Rattle.qw_meaning.specs.Select.{AreOfEntries, Entry, IsSpecification, Specification, entries_in_rows, entries_of}
use Rattle.qw_algebra.specs.Node.{Node, scan, filter, join, project, node_flow}
use Rattle.qw_rewrite.specs.Placed.{IsWellPlaced}
use Rattle.qw_pipe.specs.Pipes.{split}
use Rattle.qw_table.specs.Joins.{have_values}
use Rattle.qw_physical.specs.Physical.{Build, Operator, Pipeline, Sink, build, filter as filter_by, probe, select}
use Rattle.qw_physical.specs.Courses.{pipeline_fed}
use Rattle.qw_physical.specs.Reads.{AreRead, AreScaled, is_read}
use Rattle.qw_physical.specs.Spelled.{all_spelled, spelled}
use Rattle.qw_physical.specs.declared.pipeline.ReadColumn.{ReadColumn}

-- ---- plans that are run

-- a column of an entry of FROM, where there is one, with its type and its NOT NULL
abbrev pub column_in : Option Entry → (column : ℕ) → Option ColumnType
column_in None column = None
column_in (Some entry) column = slice_get entry.columns column

abbrev pub IsOfEntries : List Entry → ReadColumn → Type 0
IsOfEntries entries c = column_in (slice_get entries (c.number / 64)) (c.number % 64) ≡ Some (record { ty = c.ty; not_null = c.not_null })

-- The well placed plan of a query, whose equalities compare operands of one scale, over tables of its entries, whose columns are of sizes that
-- types may have, and columns of these entries as rows of FROM have them, among which are all that it reads.
pub record IsPlanned (query : Specification) (tables : List (List (List Val))) (columns : List ReadColumn) (node : Node) : Type 0 where
  pub specification : IsSpecification query
  pub loaded : AreOfEntries (entries_of query.sources) tables
  pub sized : AllByRecursion (λ (e : Entry). AllByRecursion (λ (c : ColumnType). IsSized c.ty) e.columns) (entries_of query.sources)
  pub there : AllByRecursion (IsOfEntries (entries_in_rows query.sources)) columns
  pub read : AreRead columns query
  pub scaled : AreScaled query
  pub placed : IsWellPlaced query node

-- its pipelines that build tables, and the last one
abbrev pub builds_of : List ReadColumn → Node → List Pipeline
builds_of columns node = all_spelled columns 0 (split 0 node).builds

abbrev pub last_of : List ReadColumn → Node → Pipeline
last_of columns node = spelled columns (length (split 0 node).builds) (split 0 node).last

-- ---- sides

-- those that are built, the first of them first
abbrev pub sides : Node → List Node
sides (scan entry table) = []
sides (filter conjuncts below) = sides below
sides (join outer left right on keys) = sides right ++ right ∷ sides left
sides (project below items) = sides below

-- An entry has values of the key, each of its expression's kind and none null, and then those of the columns that are kept, each of its
-- column's type, and null only where the column isn't NOT NULL.
pub record IsEntryOf (b : Build) (entry : List Val) : Type 0 where
  pub key : AllZip (λ (e : Expression) (v : Val). IsValueOf (kind_of e) v) b.key (take (length b.key) entry)
  pub present : have_values (take (length b.key) entry) ≡ true
  pub kept : AllZip (λ (c : ReadColumn) (v : Val). IsOfTypeOrNull c.ty c.not_null v) b.kept (drop (length b.key) entry)

abbrev pub IsMadeFor : Sink → List Val → Type 0
IsMadeFor (build b) entry = IsEntryOf b entry
IsMadeFor (select items) row = Unit {0}

-- Exceptions of the pipeline that builds a table are those of its side, and it feeds at most as many entries as that has rows.
pub record FeedsSide (tables built : List (List (List Val))) (p : Pipeline) (side : Node) : Type 0 where
  pub codes : (code : Code) → Contains (pipeline_fed tables built p).codes code → Contains (node_flow tables side).codes code
  pub few : length (pipeline_fed tables built p).rows ≤ length (node_flow tables side).rows
  pub entries : AllByRecursion (IsMadeFor p.sink) (pipeline_fed tables built p).rows

-- no lookup keeps a column that the row has already, or that a lookup before it keeps
abbrev pub KeepApart : (taken : ℕ → Bool) → List Operator → Type 0
KeepApart taken [] = Unit {0}
KeepApart taken (filter_by conjuncts ∷ operators) = KeepApart taken operators
KeepApart taken (probe p ∷ operators) =
    AllByRecursion (λ (c : ReadColumn). taken c.number ≡ false) p.kept × KeepApart (λ i. taken i || is_read p.kept i) operators

-- beginning with the columns of the entry that is scanned
abbrev pub IsApart : Pipeline → Type 0
IsApart p = KeepApart (λ i. nat_eq p.entry (i / 64)) p.operators

-- a row is null at the columns that lookups keep
abbrev pub IsNullAtKept : List Val → List Operator → Type 0
IsNullAtKept row [] = Unit {0}
IsNullAtKept row (filter_by conjuncts ∷ operators) = IsNullAtKept row operators
IsNullAtKept row (probe p ∷ operators) = AllByRecursion (λ (c : ReadColumn). cell_of (slice_get row c.number) ≡ Null) p.kept × IsNullAtKept row operators

-- each that is scanned is
abbrev pub ScansNulls : (tables : List (List (List Val))) → Pipeline → Type 0
ScansNulls tables p = AllByRecursion (λ (row : List Val). IsNullAtKept row p.operators) (entry_flow tables p.entry p.table).rows
