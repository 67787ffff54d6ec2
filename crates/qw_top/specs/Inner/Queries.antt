-- Mirrors `top::queries::queries_of`: the queries that it answers, and why there are none; and `top::header`.
use Rattle.std.specs.Prelude.{◌≡◌, ◌⊎◌, ℕ, List, [], ◌∷◌, Some, map, slice_get, unwrap_or}
use Rattle.std.specs.List.{AllByRecursion}
use Rattle.qw_types.specs.Contents.{Contents, column_type}
use Rattle.qw_types.specs.declared.kind.Kind.TheVariants as kind
use Rattle.qw_types.specs.declared.schema.Table.{Table}
use Rattle.qw_scalar.specs.Expression.{Expression}
use Rattle.qw_scalar.specs.Typing.{kind_of}
use Rattle.qw_meaning.specs.Select.{Entry, entries_of}
use Rattle.qw_grouped.specs.Whole.{sources_in}
use Rattle.qw_grouped.specs.WholeQuery.{body_of, whole_of}
use Rattle.qw_parse.specs.Script.{IsScriptRefused}
use Rattle.qw_parse.specs.declared.fault.ParseFault.TheVariants as parsing
use Rattle.qw_typer.specs.declared.fault.TypeFault.TheVariants as typing
use Rattle.qw_typer.specs.declared.query.TypedQuery.{TypedQuery}
use Rattle.qw_whole.specs.WholePromises.{items_in}
use Rattle.qw_compile_whole.specs.ShortQueries.{IsShortWhole}
use Rattle.qw_bench.specs.Bench.{IsColumnIn, Program}
use Rattle.qw_sink.specs.declared.sink.Head.{Head}
use Rattle.qw_top.specs.Causes.{queries_mistyped, queries_refused}
use Rattle.qw_top.specs.Delivered.{IsProgramOf}
use Rattle.qw_top.specs.Top.{Asked, IsMistyped}
use Rattle.qw_top.specs.declared.stop.Stop.{Stop}
use Rattle.qw_top.specs.declared.stop.Stop.TheVariants.{NoMemory}
use Rattle.qw_top.specs.declared.top.queries.QueriesFault.{QueriesFault}
use Rattle.qw_top.specs.declared.top.queries.QueriesFault.TheVariants.{Script, Typing}
use Rattle.qw_top.specs.Inner.Stages.{AreContentsOf}
use Rattle.qw_top.specs.Inner.Stop.{StopsFor}

-- the head of a column of this name, whose values an item gives; one without a kind is none of a query
abbrev pub head_of : List ℕ → Expression → Head
head_of name item = record { name = name; kind = unwrap_or (kind_of item) (kind.Number 0) }

abbrev pub heads_of : List (List ℕ) → List Expression → List Head
heads_of [] items = []
heads_of (name ∷ names) [] = []
heads_of (name ∷ names) (item ∷ items) = head_of name item ∷ heads_of names items

-- the query that it is
abbrev pub asked_of : TypedQuery → Asked
asked_of query = record { whole = whole_of query.query; header = heads_of query.names.items (items_in (body_of query.query.body)); keys = query.keys.items }

-- an entry of FROM is over a table of the schema, and its columns are that table's
pub record IsEntryOver (schema : List Table) (entry : Entry) : Type 0 where
  pub table : Table
  pub there : slice_get schema entry.table ≡ Some table
  pub columns_are : entry.columns ≡ map column_type table.columns

-- Each entry of its FROM is, and it isn't too long to be compiled.
pub record IsOver (schema : List Table) (query : TypedQuery) : Type 0 where
  pub entries : AllByRecursion (IsEntryOver schema) (entries_of (sources_in (body_of query.query.body)))
  pub short : IsShortWhole query.query

-- a text is refused for a fault, or memory was wanted
abbrev pub Refuses : List Table → (text : List ℕ) → QueriesFault → Type 0
Refuses schema text (Script fault) = (fault ≡ parsing.NoMemory) ⊎ IsScriptRefused text fault
Refuses schema text (Typing fault) = (fault ≡ typing.NoMemory) ⊎ IsMistyped schema text fault

-- how a run stops for it
abbrev pub StopsForFault : QueriesFault → Stop → Type 0
StopsForFault (Script fault) stop = (fault ≡ parsing.NoMemory → stop ≡ NoMemory) × ((fault ≡ parsing.NoMemory → ⊥) → StopsFor (queries_refused fault) stop)
StopsForFault (Typing fault) stop = (fault ≡ typing.NoMemory → stop ≡ NoMemory) × ((fault ≡ typing.NoMemory → ⊥) → StopsFor (queries_mistyped fault) stop)

-- A program is compiled for it, and reads columns that the schema's tables have.
pub record IsJobOf (schema : List Table) (query : TypedQuery) (job : Program) : Type 0 where
  pub compiled : IsProgramOf (asked_of query) job
  pub columns : (tables : List Contents) → AreContentsOf schema tables → AllByRecursion (IsColumnIn tables) job.layout.columns
