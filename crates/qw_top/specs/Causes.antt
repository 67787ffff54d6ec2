-- Why a run ends before it has a bench, and the line that says so.
use Rattle.std.specs.Prelude.{◌≡◌, ◌⊎◌, ℕ, List, [], ◌++◌, codes, slice_get, Option, Some, None}
use Rattle.std.specs.Fmt.{decimal}
use Rattle.std.specs.Option.{option_map_or}
use Rattle.qw_types.specs.declared.numeral.FieldFault.{FieldFault}
use Rattle.qw_types.specs.declared.numeral.FieldFault.TheVariants.{NotNumber, TooLarge, TooFine, NotDate}
use Rattle.qw_types.specs.declared.schema.Column.{Column}
use Rattle.qw_types.specs.declared.schema.Table.{Table}
use Rattle.qw_csv.specs.declared.cell.CellFault.{CellFault}
use Rattle.qw_csv.specs.declared.cell.CellFault.TheVariants as cell
use Rattle.qw_csv.specs.declared.loading.LoadFault.{LoadFault}
use Rattle.qw_csv.specs.declared.loading.LoadFault.TheVariants as load
use Rattle.qw_schema.specs.declared.parse.Count.{Count}
use Rattle.qw_schema.specs.declared.parse.Count.TheVariants.{Tables, Columns}
use Rattle.qw_schema.specs.declared.parse.SchemaFault.{SchemaFault}
use Rattle.qw_schema.specs.declared.parse.SchemaFault.TheVariants as schema
use Rattle.qw_parse.specs.declared.fault.Count.{Count as ScriptCount}
use Rattle.qw_parse.specs.declared.fault.Count.TheVariants.{Statements, SelectItems, FromEntries, GroupColumns, SortKeys, Nodes, LiteralOctets}
use Rattle.qw_parse.specs.declared.fault.ParseFault.{ParseFault}
use Rattle.qw_parse.specs.declared.fault.ParseFault.TheVariants as script
use Rattle.qw_typer.specs.declared.fault.FaultKind.{FaultKind}
use Rattle.qw_typer.specs.declared.fault.FaultKind.TheVariants.{UnknownTable, UnknownColumn, Ambiguous, DuplicateAlias, Clash, ScaleTooLarge, LiteralTooLong, BadDate, BadOrdinal, NotGrouped, NestedAggregate, TooManyFunctions}
use Rattle.qw_typer.specs.declared.fault.TypeFault.{TypeFault}
use Rattle.qw_typer.specs.declared.fault.TypeFault.TheVariants as typing
use Rattle.qw_command_line.specs.Words.{name_of}
use Rattle.qw_command_line.specs.declared.command.Number.{Number}
use Rattle.qw_octet_grammar.specs.declared.fault.What.{What}
use Rattle.qw_octet_grammar.specs.declared.fault.What.TheVariants as what
use Rattle.qw_valid.specs.declared.valid.Part.{Part}
use Rattle.qw_valid.specs.declared.valid.Part.TheVariants as part
use Rattle.qw_check.specs.declared.check.CheckFault.{CheckFault}
use Rattle.qw_check.specs.declared.check.CheckFault.TheVariants as check
use Rattle.qw_top.specs.declared.status.Status.{Status}
use Rattle.qw_top.specs.declared.status.Status.TheVariants.{WordsRefused, SchemaRefused, TableFileRefused, QueriesRefused, TotalPages}

-- What the words and the files settle: no words of a command, or words with a number that is out of its range; a file that is
-- longer than its limit; a text that is no schema, a table whose files stand for no rows, a text that is no script, a script with a
-- query that means nothing over the schema, octets that are no valid module, each with its fault; a statement that isn't there; or more pages than a memory has.
-- Where tables have parts, a table's file is told with the number of its part.
pub data Cause : Type 0 where
  words_refused : Cause
  number_out_of_range : Number → Cause
  schema_too_long : Cause
  schema_refused : SchemaFault → Cause
  table_too_long : Table → (number : Option ℕ) → Cause
  table_refused : Table → (number : Option ℕ) → LoadFault → Cause
  queries_too_long : Cause
  queries_refused : ParseFault → Cause
  queries_mistyped : TypeFault → Cause
  no_statement : (statement : ℕ) → Cause
  module_too_long : Cause
  module_refused : CheckFault → Cause
  total_pages : (need : ℕ) → Cause

-- the status of a run that ends for it
abbrev pub status_of_cause : Cause → Status
status_of_cause words_refused = WordsRefused
status_of_cause (number_out_of_range number) = WordsRefused
status_of_cause schema_too_long = SchemaRefused
status_of_cause (schema_refused fault) = SchemaRefused
status_of_cause (table_too_long table number) = TableFileRefused
status_of_cause (table_refused table number fault) = TableFileRefused
status_of_cause queries_too_long = QueriesRefused
status_of_cause (queries_refused fault) = QueriesRefused
status_of_cause (queries_mistyped fault) = QueriesRefused
status_of_cause (no_statement statement) = QueriesRefused
status_of_cause module_too_long = QueriesRefused
status_of_cause (module_refused fault) = QueriesRefused
status_of_cause (total_pages need) = TotalPages

-- ---- the words

-- a file is longer than its limit
abbrev pub too_long : List ℕ
too_long = codes "too long"

-- a text isn't UTF-8
abbrev pub not_utf8 : List ℕ
not_utf8 = codes "not utf-8"

-- no token begins at this octet
abbrev pub not_token : ℕ → List ℕ
not_token at = codes "not a token at " ++ decimal at

-- something is wrong in the statement of this number
abbrev pub in_statement : List ℕ → ℕ → List ℕ
in_statement words k = words ++ codes " in statement " ++ decimal k

-- what there may be too many of
abbrev pub counted : Count → List ℕ
counted Tables = codes "tables"
counted Columns = codes "columns"

abbrev pub counted_in_script : ScriptCount → List ℕ
counted_in_script Statements = codes "statements"
counted_in_script SelectItems = codes "select items"
counted_in_script FromEntries = codes "from entries"
counted_in_script GroupColumns = codes "group columns"
counted_in_script SortKeys = codes "sort keys"
counted_in_script Nodes = codes "nodes"
counted_in_script LiteralOctets = codes "literal octets"

-- more than the limit of something
abbrev pub too_many : ℕ → (what : List ℕ) → ℕ → List ℕ
too_many k what limit = in_statement (codes "too many " ++ what) k ++ codes ", limit " ++ decimal limit

-- why a text is no schema
abbrev pub schema_cause : SchemaFault → List ℕ
schema_cause schema.NotUtf8 = not_utf8
schema_cause (schema.NotToken at) = not_token at
schema_cause (schema.NotGrammar k) = in_statement (codes "not grammar") k
schema_cause (schema.TooDeep k) = in_statement (codes "too deep") k
schema_cause (schema.TooMany k what limit) = too_many k (counted what) limit
schema_cause (schema.Duplicate k) = in_statement (codes "duplicate") k
schema_cause (schema.BadSize k) = in_statement (codes "bad size") k
schema_cause schema.NoMemory = codes "want of memory"

-- why a text is no script
abbrev pub script_cause : ParseFault → List ℕ
script_cause script.NotUtf8 = not_utf8
script_cause (script.NotToken at) = not_token at
script_cause (script.NotGrammar k) = in_statement (codes "not grammar") k
script_cause (script.TooDeep k) = in_statement (codes "too deep") k
script_cause (script.TooMany k what limit) = too_many k (counted_in_script what) limit
script_cause script.NoMemory = codes "want of memory"

-- what is wrong with a construct of a query
abbrev pub kind_words : FaultKind → List ℕ
kind_words UnknownTable = codes "unknown table"
kind_words UnknownColumn = codes "unknown column"
kind_words Ambiguous = codes "ambiguous"
kind_words DuplicateAlias = codes "duplicate alias"
kind_words Clash = codes "clash"
kind_words ScaleTooLarge = codes "scale too large"
kind_words LiteralTooLong = codes "literal too long"
kind_words BadDate = codes "bad date"
kind_words BadOrdinal = codes "bad ordinal"
kind_words NotGrouped = codes "not grouped"
kind_words NestedAggregate = codes "nested aggregate"
kind_words TooManyFunctions = codes "too many functions"

-- why a script means nothing over the schema
abbrev pub typing_cause : TypeFault → List ℕ
typing_cause (typing.Fault k kind name) = in_statement (kind_words kind ++ codes " " ++ name) k
typing_cause typing.NoMemory = codes "want of memory"

-- why a field stands for no value of its column
abbrev pub form_cause : FieldFault → List ℕ
form_cause NotNumber = codes "not a number"
form_cause TooLarge = codes "too large"
form_cause TooFine = codes "too fine"
form_cause NotDate = codes "not a date"

abbrev pub cell_cause : CellFault → List ℕ
cell_cause (cell.Form why) = form_cause why
cell_cause cell.NullForbidden = codes "null forbidden"
cell_cause cell.TextTooLong = codes "text too long"
cell_cause cell.NotUtf8 = not_utf8

-- the name of a column of a table, counted from 0
abbrev pub column_name : Table → ℕ → List ℕ
column_name table index = option_map_or (λ (column : Column). column.name) (slice_get table.columns index) []

-- a table, or the part of it of this number
abbrev pub file_words : Table → (number : Option ℕ) → List ℕ
file_words table None = table.name
file_words table (Some number) = table.name ++ codes " part " ++ decimal number

-- a file that is told by these words, and what is wrong in its record of this number
abbrev pub in_record : (file : List ℕ) → ℕ → List ℕ
in_record file row = file ++ codes " record " ++ decimal row

-- why a file of a table, which is told by these words, stands for no rows
abbrev pub load_cause : (file : List ℕ) → Table → LoadFault → List ℕ
load_cause file table load.BadHeader = file ++ codes ": bad header"
load_cause file table (load.FieldCount row) = in_record file row ++ codes ": field count"
load_cause file table (load.Field row index why) = in_record file row ++ codes " column " ++ column_name table index ++ codes ": " ++ cell_cause why
load_cause file table load.TooManyRows = file ++ codes ": too many rows"
load_cause file table load.NoMemory = codes "want of memory"

-- and where it is the one of this number
abbrev pub table_cause : Table → (number : Option ℕ) → LoadFault → List ℕ
table_cause table number fault = load_cause (file_words table number) table fault

-- the name of what is out of the profile
abbrev pub what_words : What → List ℕ
what_words what.Float = codes "Float"
what_words what.CallIndirect = codes "CallIndirect"
what_words what.Table = codes "Table"
what_words what.Start = codes "Start"
what_words what.Element = codes "Element"
what_words what.DataSection = codes "DataSection"
what_words what.Import = codes "Import"

-- the name of a part of a module
abbrev pub part_words : Part → List ℕ
part_words part.Types = codes "Types"
part_words part.Imports = codes "Imports"
part_words part.Functions = codes "Functions"
part_words part.Memory = codes "Memory"
part_words part.Globals = codes "Globals"
part_words part.Exports = codes "Exports"

-- why octets are no valid module
abbrev pub module_cause : CheckFault → List ℕ
module_cause check.NotModule = codes "not a module"
module_cause (check.OutOfProfile what) = codes "out of profile " ++ what_words what
module_cause (check.Part part) = codes "invalid " ++ part_words part
module_cause (check.Body func at) = codes "invalid function " ++ decimal func ++ codes " at " ++ decimal at
module_cause check.NoMemory = codes "want of memory"

-- what is said of a cause; of words that are none what clap says, which isn't fixed
abbrev pub words_of_cause : Cause → Option (List ℕ)
words_of_cause words_refused = None
words_of_cause (number_out_of_range number) = Some (codes "words: " ++ name_of number ++ codes " out of range")
words_of_cause schema_too_long = Some (codes "schema: " ++ too_long)
words_of_cause (schema_refused fault) = Some (codes "schema: " ++ schema_cause fault)
words_of_cause (table_too_long table number) = Some (file_words table number ++ codes ": " ++ too_long)
words_of_cause (table_refused table number fault) = Some (table_cause table number fault)
words_of_cause queries_too_long = Some (codes "queries: " ++ too_long)
words_of_cause (queries_refused fault) = Some (codes "queries: " ++ script_cause fault)
words_of_cause (queries_mistyped fault) = Some (codes "queries: " ++ typing_cause fault)
words_of_cause (no_statement statement) = Some (codes "queries: no statement " ++ decimal statement)
words_of_cause module_too_long = Some (codes "module: " ++ too_long)
words_of_cause (module_refused fault) = Some (codes "module: " ++ module_cause fault)
words_of_cause (total_pages need) = Some (codes "total pages " ++ decimal need)

-- the line on a cause
abbrev pub line_of_cause : Cause → List ℕ
line_of_cause cause = option_map_or (λ words. words ++ codes "\n") (words_of_cause cause) []

-- ---- which of several is told

-- faults of one statement's constructs, of which either may be told
pub record AreMistyped (cause other : Cause) : Type 0 where
  pub statement : ℕ
  pub kind : FaultKind
  pub name : List ℕ
  pub other_kind : FaultKind
  pub other_name : List ℕ
  pub cause_is : cause ≡ queries_mistyped (typing.Fault statement kind name)
  pub other_is : other ≡ queries_mistyped (typing.Fault statement other_kind other_name)

-- one cause, or such faults
abbrev pub AreOne : Cause → Cause → Type 0
AreOne cause other = (cause ≡ other) ⊎ AreMistyped cause other
