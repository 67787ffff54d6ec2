-- What the files of a run hold, and which ends of a run the words and the files explain.
use Rattle.std.specs.Prelude.{◌≡◌, ◌⊎◌, ℕ, suc, ◌+◌, ◌<◌, ◌≤◌, List, [], ◌∷◌, ◌++◌, Option, Some, length, map, Contains, slice_get}
use Rattle.std.specs.List.{AllByRecursion}
use Rattle.qw_io.specs.Files.{OfFile}
use Rattle.qw_types.specs.Contents.{Contents, column_type}
use Rattle.qw_types.specs.declared.code.Code.{Code}
use Rattle.qw_types.specs.declared.schema.Table.{Table}
use Rattle.qw_types.specs.declared.value.Val.{Val}
use Rattle.qw_linear.specs.Memory.{most_pages}
use Rattle.qw_csv.specs.Loading.{IsFirstPartFault, LoadsParts}
use Rattle.qw_csv.specs.declared.loading.LoadFault.{LoadFault}
use Rattle.qw_meaning.specs.Outcome.{Raises}
use Rattle.qw_grouped.specs.Whole.{Whole, whole_outcome}
use Rattle.qw_order.specs.declared.sort_key.SortKey.{SortKey}
use Rattle.qw_ast.specs.Syntax.{Select}
use Rattle.qw_schema.specs.Parse.{IsRefused, ReadsSchema}
use Rattle.qw_parse.specs.Script.{IsScriptRefused, ReadsScript}
use Rattle.qw_typer.specs.Typed.{HasFirstFault, Means}
use Rattle.qw_typer.specs.declared.fault.TypeFault.{TypeFault}
use Rattle.qw_module.specs.Validity.{IsShaped}
use Rattle.qw_promise.specs.Compiled.{bound}
use Rattle.qw_whole.specs.WholePromises.{cells_of, promise_of_whole, whole_pages}
use Rattle.qw_bench.specs.Bench.{Task, rows_in_tables}
use Rattle.qw_bench.specs.Standing.{Standing, total_pages as pages_in_all}
use Rattle.qw_bench.specs.declared.bench.Limits.{Limits}
use Rattle.qw_sink.specs.declared.sink.Head.{Head}
pub use Rattle.qw_command_line.specs.Words.{Names}
use Rattle.qw_top.specs.Causes.{Cause, schema_too_long, schema_refused, table_too_long, table_refused, queries_too_long, queries_refused, queries_mistyped, total_pages, status_of_cause}
use Rattle.qw_top.specs.FileNames.{file_of, files_in, told_part}
use Rattle.qw_top.specs.Limits.{most_table_octets, most_text_octets}
use Rattle.qw_top.specs.declared.status.Status.{Status}
use Rattle.qw_top.specs.declared.status.Status.TheVariants.{Done, WordsRefused, SchemaRefused, TableFileRefused, QueriesRefused, ReadFailed, WriteFailed, Raised, PageLimitMet, StepLimitMet, TotalPages, NoMemory}

-- ---- what files hold

-- The octets of each file by its name, where they are told. What is said of files below holds of the told
-- ones; of files that aren't told it says only that some octets would do.
abbrev pub Files : Type 0
Files = Option (List ℕ → Option (List ℕ))

-- the file of this name is these octets, which are within the limit
pub record IsFile (files : Files) (name : List ℕ) (limit : ℕ) (bytes : List ℕ) : Type 0 where
  pub there : OfFile files name (λ file. file ≡ bytes)
  pub short : length bytes ≤ limit

-- the file of this name is longer than the limit
abbrev pub IsTooLong : Files → List ℕ → ℕ → Type 0
IsTooLong files name limit = OfFile files name (λ file. limit < length file)

-- the schema file of this name declares these tables
pub record SchemaIs (files : Files) (name : List ℕ) (schema : List Table) : Type 0 where
  pub text : List ℕ
  pub file : IsFile files name most_text_octets text
  pub reads : ReadsSchema text schema

-- The files of a table from the one of this number on hold these octets, one for one, each within the limit.
abbrev pub HoldFrom : Files → Names → (table : List ℕ) → (parts : List (List ℕ)) → (part : ℕ) → Type 0
HoldFrom files names table [] part = Unit {0}
HoldFrom files names table (bytes ∷ parts) part =
    IsFile files (file_of names.folder names.parts table part) most_table_octets bytes × HoldFrom files names table parts (suc part)

-- all its files hold these octets: its parts in order, or its one file
pub record HoldAll (files : Files) (names : Names) (table : List ℕ) (parts : List (List ℕ)) : Type 0 where
  pub each : HoldFrom files names table parts 1
  pub all : length parts ≡ files_in names.parts

-- the files of a table stand for these rows
pub record TableIs (files : Files) (names : Names) (table : Table) (contents : Contents) : Type 0 where
  pub parts : List (List ℕ)
  pub held : HoldAll files names table.name parts
  pub loads : LoadsParts table names.null parts contents.rows
  pub columns : contents.columns ≡ map column_type table.columns

-- the files of tables stand for these rows, one for one
abbrev pub TablesAre : Files → Names → List Table → List Contents → Type 0
TablesAre files names [] [] = Unit {0}
TablesAre files names (table ∷ tables) (one ∷ contents) = TableIs files names table one × TablesAre files names tables contents
TablesAre files names _ _ = ⊥

-- A query of a script: what it means, the header of its rows, and the keys by which these are sorted, none without ORDER BY.
pub record Asked : Type 0 where
  pub whole : Whole
  pub header : List Head
  pub keys : List SortKey

-- The header of a query's rows, whose columns have these names: of each column its name, and the kind of its values.
pub record IsHeader (whole : Whole) (names : List (List ℕ)) (header : List Head) : Type 0 where
  pub names_are : map (λ (head : Head). head.name) header ≡ names
  pub kinds_are : map (λ (head : Head). Some head.kind) header ≡ cells_of whole

-- a query of the text means this over the schema
pub record IsAsked (schema : List Table) (query : Select) (one : Asked) : Type 0 where
  pub names : List (List ℕ)
  pub means : Means schema query one.whole names one.keys
  pub header : IsHeader one.whole names one.header

-- queries of the text mean these over the schema, one for one
abbrev pub AreAsked : List Table → List Select → List Asked → Type 0
AreAsked schema [] [] = Unit {0}
AreAsked schema (query ∷ script) (one ∷ queries) = IsAsked schema query one × AreAsked schema script queries
AreAsked schema _ _ = ⊥

-- The text of a script asks for these queries over the schema, one for each statement.
pub record AsksFor (schema : List Table) (text : List ℕ) (queries : List Asked) : Type 0 where
  pub script : List Select
  pub reads : ReadsScript text script
  pub asked : AreAsked schema script queries

-- The text is a script, and this is a fault of the first of its queries that has any over the schema.
abbrev pub IsMistyped : List Table → (text : List ℕ) → TypeFault → Type 0
IsMistyped schema text fault = (script : List Select) × ReadsScript text script × HasFirstFault schema 1 script fault

-- the queries file of this name asks for these queries over the schema
pub record QueriesAre (files : Files) (name : List ℕ) (schema : List Table) (queries : List Asked) : Type 0 where
  pub text : List ℕ
  pub file : IsFile files name most_text_octets text
  pub asks : AsksFor schema text queries

-- the schema file declares these tables, and their files stand for these rows
pub record HasTables (files : Files) (names : Names) (schema : List Table) (tables : List Contents) : Type 0 where
  pub declared : SchemaIs files names.schema schema
  pub loaded : TablesAre files names schema tables

-- the schema file declares these tables, their files stand for these rows, and the queries file asks for these queries over them
pub record HasQueries (files : Files) (names : Names) (schema : List Table) (tables : List Contents) (queries : List Asked) : Type 0 where
  pub before : HasTables files names schema tables
  pub asked : QueriesAre files names.queries schema queries

-- The schema file was accepted, and the files of the tables before this one were.
pub record IsNextTable (files : Files) (names : Names) (table : Table) : Type 0 where
  pub before : List Table
  pub behind : List Table
  pub declared : SchemaIs files names.schema (before ++ table ∷ behind)
  pub contents : List Contents
  pub loaded : TablesAre files names before contents

-- The files of a table before the one of this number, counted from 1, are within the limit.
pub record IsNextPart (files : Files) (names : Names) (table : List ℕ) (part : ℕ) : Type 0 where
  pub before : List (List ℕ)
  pub held : HoldFrom files names table before 1
  pub next : part ≡ length before + 1
  pub few : part ≤ files_in names.parts

-- the name of a file of a table, of which those before it are within the limit
abbrev pub IsTableFile : Files → Names → (table : List ℕ) → (name : List ℕ) → Type 0
IsTableFile files names table name = (part : ℕ) × IsNextPart files names table part × (name ≡ file_of names.folder names.parts table part)

-- The name of a file that a run may read: that of the schema file; where this was accepted, those of the tables' files, a table's files
-- where those of the tables before it were accepted, and each of them where those before it are within the limit; and where all were
-- accepted, that of the queries file.
abbrev pub IsFileOf : Files → Names → List ℕ → Type 0
IsFileOf files names name = (name ≡ names.schema)
    ⊎ ((table : Table) × IsNextTable files names table × IsTableFile files names table.name name)
    ⊎ ((schema : List Table) × (tables : List Contents) × HasTables files names schema tables × (name ≡ names.queries))

-- ---- which cause they settle

-- the limits of queries, each the same
abbrev pub same_limits : Limits → List Asked → List Limits
same_limits limits queries = map (λ (asked : Asked). limits) queries

-- the file of a table of this number is too long, and those before it aren't
abbrev pub IsLongPart : Files → Names → Table → (part : ℕ) → Type 0
IsLongPart files names table part =
    IsNextPart files names table.name part × IsTooLong files (file_of names.folder names.parts table.name part) most_table_octets

-- no file of a table is too long, and the first fault among them is in the one of this number
abbrev pub IsFaultyPart : Files → Names → Table → (part : ℕ) → LoadFault → Type 0
IsFaultyPart files names table part fault =
    (parts : List (List ℕ)) × HoldAll files names table.name parts × IsFirstPartFault table names.null parts part fault

-- The files of these names settle the cause for which a run ends before it has a bench, under limits for each query. A table is
-- refused only where the schema file and all tables before it were accepted, and the queries file only where all tables were.
abbrev pub FilesSettle : (limits : Limits) → Files → Names → Cause → Type 0
FilesSettle limits files names schema_too_long = IsTooLong files names.schema most_text_octets
FilesSettle limits files names (schema_refused fault) = (text : List ℕ) × IsFile files names.schema most_text_octets text × IsRefused text fault
FilesSettle limits files names (table_too_long table number) =
    IsNextTable files names table × ((part : ℕ) × (number ≡ told_part names.parts part) × IsLongPart files names table part)
FilesSettle limits files names (table_refused table number fault) =
    IsNextTable files names table × ((part : ℕ) × (number ≡ told_part names.parts part) × IsFaultyPart files names table part fault)
FilesSettle limits files names queries_too_long = (schema : List Table) × (tables : List Contents)
    × HasTables files names schema tables × IsTooLong files names.queries most_text_octets
FilesSettle limits files names (queries_refused fault) = (schema : List Table) × (tables : List Contents) × (text : List ℕ)
    × HasTables files names schema tables × IsFile files names.queries most_text_octets text × IsScriptRefused text fault
FilesSettle limits files names (queries_mistyped fault) = (schema : List Table) × (tables : List Contents) × (text : List ℕ)
    × HasTables files names schema tables × IsFile files names.queries most_text_octets text × IsMistyped schema text fault
FilesSettle limits files names (total_pages need) = (schema : List Table) × (tables : List Contents) × (queries : List Asked)
    × HasQueries files names schema tables queries × (need ≡ pages_in_all tables (same_limits limits queries)) × (most_pages < need)
FilesSettle limits files names _ = ⊥

-- ---- which ends they explain

-- the pages of the tables' columns and all that the queries may hold under the limits fit a memory
abbrev pub HaveRoom : (limits : Limits) → List Contents → List Asked → Type 0
HaveRoom limits tables queries = pages_in_all tables (same_limits limits queries) ≤ most_pages

-- the files ask for queries, which have room, and of which one has the property
abbrev pub AsksOne : (limits : Limits) → Files → Names → (List Contents → Asked → Type 0) → Type 0
AsksOne limits files names P = (schema : List Table) × (tables : List Contents) × (queries : List Asked) × (one : Asked)
    × HasQueries files names schema tables queries × HaveRoom limits tables queries × Contains queries one × P tables one

-- a refusal, which the words and the files settle
abbrev pub IsRefusal : Status → Type 0
IsRefusal WordsRefused = Unit {0}
IsRefusal SchemaRefused = Unit {0}
IsRefusal TableFileRefused = Unit {0}
IsRefusal QueriesRefused = Unit {0}
IsRefusal TotalPages = Unit {0}
IsRefusal _ = ⊥

-- an end of a run whose queries were executed to their ends
abbrev pub IsReported : Status → Type 0
IsReported Done = Unit {0}
IsReported Raised = Unit {0}
IsReported PageLimitMet = Unit {0}
IsReported StepLimitMet = Unit {0}
IsReported _ = ⊥

-- a fault of the outside, or want of memory
abbrev pub IsFault : Status → Type 0
IsFault ReadFailed = Unit {0}
IsFault WriteFailed = Unit {0}
IsFault NoMemory = Unit {0}
IsFault _ = ⊥

-- the module that a bench has for its query of number k, counted from 0, has a bound over tables that is past so many instructions
pub record IsPastSteps (steps : ℕ) (tables : List (List (List Val))) (b : Standing) (k : ℕ) (one : Asked) : Type 0 where
  pub task : Task
  pub there : slice_get b.tasks k ≡ Some task
  pub number : ℕ
  pub shaped : IsShaped task.program.module' number
  pub past : steps < bound (promise_of_whole one.whole) tables task.program.module' number

-- limits are enough for the queries of a bench over tables: the bound of each on pages is within them, and so is that of its module there
-- on instructions
pub record IsEnough (limits : Limits) (tables : List (List (List Val))) (queries : List Asked) (b : Standing) : Type 0 where
  pub pages : AllByRecursion (λ (one : Asked). whole_pages one.whole tables ≤ limits.pages) queries
  pub steps : (k number : ℕ) (one : Asked) (task : Task) → slice_get queries k ≡ Some one → slice_get b.tasks k ≡ Some task →
      IsShaped task.program.module' number → bound (promise_of_whole one.whole) tables task.program.module' number ≤ limits.steps

-- the query raises nothing over tables
abbrev pub RaisesNothing : (tables : List (List (List Val))) → Asked → Type 0
RaisesNothing tables one = (codes : List Code) → whole_outcome one.whole tables ≡ Raises codes → ⊥

-- The files of these names, and the bench that was kept, explain how a run under limits ended: they settle a cause of a refusal; or they
-- ask for queries that have room, of which one raises, where an exception was raised; or has a bound on pages, or a module in the bench
-- with a bound on instructions, that is past the limit, where that was met. Of a fault of the outside and of want of memory nothing is said.
abbrev pub RunExplains : (limits : Limits) → Files → Names → (kept : Option Standing) → Status → Type 0
RunExplains limits files names kept Done =
    (schema : List Table) × (tables : List Contents) × (queries : List Asked) × HasQueries files names schema tables queries × HaveRoom limits tables queries
RunExplains limits files names kept Raised = AsksOne limits files names (λ tables one. (codes : List Code) × (whole_outcome one.whole (rows_in_tables tables) ≡ Raises codes))
RunExplains limits files names kept PageLimitMet = AsksOne limits files names (λ tables one. limits.pages < whole_pages one.whole (rows_in_tables tables))
RunExplains limits files names kept StepLimitMet = (b : Standing) × (kept ≡ Some b) × (schema : List Table) × (tables : List Contents) × (queries : List Asked) × (k : ℕ) × (one : Asked)
    × HasQueries files names schema tables queries × HaveRoom limits tables queries × (slice_get queries k ≡ Some one) × IsPastSteps limits.steps (rows_in_tables tables) b k one
RunExplains limits files names kept ReadFailed = Unit {0}
RunExplains limits files names kept WriteFailed = Unit {0}
RunExplains limits files names kept NoMemory = Unit {0}
RunExplains limits files names kept status = (cause : Cause) × FilesSettle limits files names cause × (status ≡ status_of_cause cause)
