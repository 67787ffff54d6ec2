-- What a call promises, by the command that its words are read as.
use Rattle.std.specs.Prelude.{◌≡◌, ◌⊎◌, ℕ, ◌<◌, ◌-◌, List, Option, Some, None, codes, length, slice_get}
use Rattle.qw_types.specs.Contents.{Contents}
use Rattle.qw_types.specs.declared.schema.Table.{Table}
use Rattle.qw_schema.specs.Parse.{IsRefused}
use Rattle.qw_parse.specs.Script.{IsScriptRefused}
use Rattle.qw_module.specs.declared.module.Module.{Module}
use Rattle.qw_binary.specs.Contents.{contents_of}
use Rattle.qw_binary.specs.Modules.{SpellsModule}
use Rattle.qw_check.specs.Check.{HasFault, SpellsValid}
use Rattle.qw_check.specs.declared.check.CheckFault.TheVariants as check_faults
use Rattle.qw_map.specs.Layout.{Layout}
use Rattle.qw_promise.specs.Compiled.{IsCompiled}
use Rattle.qw_whole.specs.Layouts.{IsLayoutOf}
use Rattle.qw_whole.specs.WholePromises.{promise_of_whole}
use Rattle.qw_bench.specs.Standing.{Standing}
use Rattle.qw_command_line.specs.Words.{run, compile, check, gen, Reading, RunOptions, command, no_command, out_of_range, TextNames, reading}
use Rattle.qw_top.specs.Causes.{Cause, words_refused, number_out_of_range, schema_too_long, schema_refused, queries_too_long, queries_refused, queries_mistyped, no_statement, module_too_long, module_refused, status_of_cause}
use Rattle.qw_top.specs.Delivered.{CommandNotes, LeavesBench, LeavesNothing, RunLeaves}
use Rattle.qw_top.specs.FileNames.{file_of}
use Rattle.qw_top.specs.Generated.{generated_files, generated_names}
use Rattle.qw_top.specs.Limits.{limits_of, most_module_octets, most_table_octets, most_text_octets}
use Rattle.qw_top.specs.Output.{TookFront, with_text}
use Rattle.qw_top.specs.Top.{Asked, Files, FilesSettle, HasQueries, IsFile, IsFileOf, IsMistyped, IsTooLong, Names, QueriesAre, RunExplains, SchemaIs}
use Rattle.qw_top.specs.declared.status.Status.{Status}
use Rattle.qw_top.specs.declared.status.Status.TheVariants.{Done, WordsRefused, ReadFailed, WriteFailed, NoMemory}

-- ---- `check`

-- the file of this name is a valid module
abbrev pub IsValidFile : Files → (name : List ℕ) → Type 0
IsValidFile files name = (octets : List ℕ) × IsFile files name most_module_octets octets × SpellsValid octets

-- the file of a module settles the cause
abbrev pub CheckSettles : Files → (name : List ℕ) → Cause → Type 0
CheckSettles files name module_too_long = IsTooLong files name most_module_octets
CheckSettles files name (module_refused fault) =
    (octets : List ℕ) × IsFile files name most_module_octets octets × HasFault octets fault × (fault ≡ check_faults.NoMemory → ⊥)
CheckSettles files name _ = ⊥

-- what is written of a valid module
abbrev pub CheckWrites : Files → (name : List ℕ) → (text : List ℕ) → Type 0
CheckWrites files name text = IsValidFile files name × (text ≡ codes "valid\n")

-- ---- `compile`

-- the schema file and the queries file of these names ask for these queries
pub record HasScript (files : Files) (names : TextNames) (schema : List Table) (queries : List Asked) : Type 0 where
  pub declared : SchemaIs files names.schema schema
  pub asked : QueriesAre files names.queries schema queries

-- the statement of this number, counted from 1, of the files of these names asks for this query
abbrev pub HasStatement : Files → TextNames → (statement : ℕ) → Asked → Type 0
HasStatement files names statement one =
    (schema : List Table) × (queries : List Asked) × HasScript files names schema queries × (slice_get queries (statement - 1) ≡ Some one)

-- the files of these names settle the cause, for the statement of this number
abbrev pub CompileSettles : Files → TextNames → (statement : ℕ) → Cause → Type 0
CompileSettles files names statement schema_too_long = IsTooLong files names.schema most_text_octets
CompileSettles files names statement (schema_refused fault) =
    (text : List ℕ) × IsFile files names.schema most_text_octets text × IsRefused text fault
CompileSettles files names statement queries_too_long =
    (schema : List Table) × SchemaIs files names.schema schema × IsTooLong files names.queries most_text_octets
CompileSettles files names statement (queries_refused fault) = (schema : List Table) × (text : List ℕ)
    × SchemaIs files names.schema schema × IsFile files names.queries most_text_octets text × IsScriptRefused text fault
CompileSettles files names statement (queries_mistyped fault) = (schema : List Table) × (text : List ℕ)
    × SchemaIs files names.schema schema × IsFile files names.queries most_text_octets text × IsMistyped schema text fault
CompileSettles files names statement (no_statement number) = (number ≡ statement) × ((schema : List Table) × (queries : List Asked)
    × HasScript files names schema queries × (length queries < statement))
CompileSettles files names statement _ = ⊥

-- the name of a file that is read: that of the schema file; where it was accepted, that of the queries file
abbrev pub IsScriptFile : Files → TextNames → (name : List ℕ) → Type 0
IsScriptFile files names name = (name ≡ names.schema) ⊎ ((schema : List Table) × SchemaIs files names.schema schema × (name ≡ names.queries))

-- The octets spell a compiled module of the query, whose layout is one that the query tells: exactly the columns that are read, and the text literals in
-- the order in which they first stand.
pub record SpellsCompiled (one : Asked) (octets : List ℕ) : Type 0 where
  pub layout : Layout
  pub m : Module
  pub compiled : IsCompiled (promise_of_whole one.whole) layout m
  pub told : IsLayoutOf one.whole layout
  pub spelled : SpellsModule (contents_of m) octets

-- what is written of a statement
abbrev pub CompileWrites : Files → TextNames → (statement : ℕ) → (text : List ℕ) → Type 0
CompileWrites files names statement text = (one : Asked) × HasStatement files names statement one × SpellsCompiled one text

-- ---- a command that writes one text

-- How it ended is explained: its work can be done; or a cause is settled, whose status this is. Of a fault of the outside and of want
-- of memory nothing is said.
abbrev pub TextExplains : (done : Type 0) → (settles : Cause → Type 0) → Status → Type 0
TextExplains done settles Done = done
TextExplains done settles ReadFailed = Unit {0}
TextExplains done settles WriteFailed = Unit {0}
TextExplains done settles NoMemory = Unit {0}
TextExplains done settles status = (cause : Cause) × settles cause × (status ≡ status_of_cause cause)

-- a front of a text that the command writes was taken
abbrev pub TookFrontOf : (writes : List ℕ → Type 0) → (old new : Option (List ℕ)) → Type 0
TookFrontOf writes old new = (text : List ℕ) × writes text × TookFront old new text

-- What it leaves of what it writes, by its status: the whole; or a front of it, or nothing; or nothing.
abbrev pub LeavesText : (writes : List ℕ → Type 0) → Status → (old new : Option (List ℕ)) → Type 0
LeavesText writes Done old new = (text : List ℕ) × writes text × (new ≡ with_text old text)
LeavesText writes WriteFailed old new = (new ≡ old) ⊎ TookFrontOf writes old new
LeavesText writes NoMemory old new = (new ≡ old) ⊎ TookFrontOf writes old new
LeavesText writes status old new = new ≡ old

-- ---- words that are those of no command

-- how a call ends then
abbrev pub IsEndOfWords : Status → Type 0
IsEndOfWords WordsRefused = Unit {0}
IsEndOfWords WriteFailed = Unit {0}
IsEndOfWords NoMemory = Unit {0}
IsEndOfWords _ = ⊥

-- some text was taken
abbrev pub TookText : (old new : Option (List ℕ)) → Type 0
TookText old new = (text : List ℕ) × (new ≡ with_text old text)

-- ---- a call, by the reading of its words

-- the words and the files settle the cause
abbrev pub SettlesBy : Files → Reading → Cause → Type 0
SettlesBy files no_command cause = cause ≡ words_refused
SettlesBy files (out_of_range number) cause = cause ≡ number_out_of_range number
SettlesBy files (command (run names options)) cause = FilesSettle (limits_of options) files names cause
SettlesBy files (command (compile names statement)) cause = CompileSettles files names statement cause
SettlesBy files (command (check name)) cause = CheckSettles files name cause
SettlesBy files (command (gen seed rows options)) cause = FilesSettle (limits_of options) (generated_files seed rows) generated_names cause

abbrev pub Settles : Files → (words : List (List ℕ)) → Cause → Type 0
Settles files words cause = SettlesBy files (reading words) cause

-- they, and the bench that was kept, explain how the call ended
abbrev pub ExplainsBy : Files → Reading → (kept : Option Standing) → Status → Type 0
ExplainsBy files no_command kept status = IsEndOfWords status
ExplainsBy files (out_of_range number) kept status = IsEndOfWords status
ExplainsBy files (command (run names options)) kept status = RunExplains (limits_of options) files names kept status
ExplainsBy files (command (compile names statement)) kept status =
    TextExplains ((one : Asked) × HasStatement files names statement one) (CompileSettles files names statement) status
ExplainsBy files (command (check name)) kept status = TextExplains (IsValidFile files name) (CheckSettles files name) status
ExplainsBy files (command (gen seed rows options)) kept status = RunExplains (limits_of options) (generated_files seed rows) generated_names kept status

abbrev pub Explains : Files → (words : List (List ℕ)) → (kept : Option Standing) → Status → Type 0
Explains files words kept status = ExplainsBy files (reading words) kept status

-- the bench that was kept, and what `out` had taken before and has taken now; only `run` and `gen` keep a bench
abbrev pub LeavesBy : Files → Reading → Status → (kept : Option Standing) → (old new : Option (List ℕ)) → Type 0
LeavesBy files (command (run names options)) status kept old new = RunLeaves options files names status kept old new
LeavesBy files (command (compile names statement)) status kept old new = (kept ≡ None) × LeavesText (CompileWrites files names statement) status old new
LeavesBy files (command (check name)) status kept old new = (kept ≡ None) × LeavesText (CheckWrites files name) status old new
LeavesBy files (command (gen seed rows options)) status kept old new = RunLeaves options (generated_files seed rows) generated_names status kept old new
LeavesBy files _ status kept old new = LeavesNothing kept old new

abbrev pub Leaves : Files → (words : List (List ℕ)) → Status → (kept : Option Standing) → (old new : Option (List ℕ)) → Type 0
Leaves files words status kept old new = LeavesBy files (reading words) status kept old new

-- what is left where `out` counted a fault: a run's bench with a front of its report, or a front of a command's text
abbrev pub LeavesFrontBy : Files → Reading → (kept : Option Standing) → (old new : Option (List ℕ)) → Type 0
LeavesFrontBy files (command (run names options)) kept old new =
    LeavesBench options files names kept (λ status report. TookFront old new report)
LeavesFrontBy files (command (compile names statement)) kept old new = (kept ≡ None) × TookFrontOf (CompileWrites files names statement) old new
LeavesFrontBy files (command (check name)) kept old new = (kept ≡ None) × TookFrontOf (CheckWrites files name) old new
LeavesFrontBy files (command (gen seed rows options)) kept old new =
    LeavesBench options (generated_files seed rows) generated_names kept (λ status report. TookFront old new report)
LeavesFrontBy files _ kept old new = ⊥

abbrev pub LeavesFront : Files → (words : List (List ℕ)) → (kept : Option Standing) → (old new : Option (List ℕ)) → Type 0
LeavesFront files words kept old new = LeavesFrontBy files (reading words) kept old new

-- the name of a file that the call may read; `gen` reads none
abbrev pub NamesBy : Files → Reading → (name : List ℕ) → Type 0
NamesBy files (command (run names options)) name = IsFileOf files names name
NamesBy files (command (compile names statement)) name = IsScriptFile files names name
NamesBy files (command (check file)) name = name ≡ file
NamesBy files _ name = ⊥

abbrev pub IsNamed : Files → (words : List (List ℕ)) → (name : List ℕ) → Type 0
IsNamed files words name = NamesBy files (reading words) name

-- What is noted. Of words that are those of no command it is clap's text, which isn't fixed, as far as the sink takes it.
abbrev pub NotesBy : Files → Reading → (fault_name : Option (List ℕ)) → Status → (old new : Option (List ℕ)) → Type 0
NotesBy files no_command fault_name status old new = TookText old new
NotesBy files r fault_name status old new = CommandNotes (SettlesBy files r) (NamesBy files r) fault_name status old new

abbrev pub Notes : Files → (words : List (List ℕ)) → (fault_name : Option (List ℕ)) → Status → (old new : Option (List ℕ)) → Type 0
Notes files words fault_name status old new = NotesBy files (reading words) fault_name status old new

-- ---- how far files are read

-- the limit of a text's file of one of two names
abbrev pub IsTextLimit : (schema queries : List ℕ) → (name : List ℕ) → (limit : ℕ) → Type 0
IsTextLimit schema queries name limit = ((name ≡ schema) ⊎ (name ≡ queries)) × (limit ≡ most_text_octets)

-- the limit of a file of a table
abbrev pub IsTableLimit : Names → (name : List ℕ) → (limit : ℕ) → Type 0
IsTableLimit names name limit =
    ((table : List ℕ) × (part : ℕ) × (name ≡ file_of names.folder names.parts table part)) × (limit ≡ most_table_octets)

-- the limits of the files of a run
abbrev pub IsRunLimit : Names → (name : List ℕ) → (limit : ℕ) → Type 0
IsRunLimit names name limit = IsTextLimit names.schema names.queries name limit ⊎ IsTableLimit names name limit

-- a limit of the file of this name, by what the words say of it; they may name one file twice
abbrev pub IsLimitBy : Reading → (name : List ℕ) → (limit : ℕ) → Type 0
IsLimitBy (command (run names options)) name limit = IsRunLimit names name limit
IsLimitBy (command (compile names statement)) name limit = IsTextLimit names.schema names.queries name limit
IsLimitBy (command (check file)) name limit = (name ≡ file) × (limit ≡ most_module_octets)
IsLimitBy _ name limit = ⊥

abbrev pub IsLimit : (words : List (List ℕ)) → (name : List ℕ) → (limit : ℕ) → Type 0
IsLimit words name limit = IsLimitBy (reading words) name limit

-- ---- what words ask for

-- What a run reads, and its options.
pub record Input : Type 0 where
  pub files : Files
  pub names : Names
  pub options : RunOptions

-- that of `run`, and that of `gen`, which is generated
abbrev pub input_of : Files → Reading → Option Input
input_of files (command (run names options)) = Some (record { files = files; names = names; options = options })
input_of files (command (gen seed rows options)) = Some (record { files = generated_files seed rows; names = generated_names; options = options })
input_of files _ = None

-- they are read as `run` or `gen` with these options, over files that are told, and these ask for these queries over these tables
abbrev pub Asks : Files → (words : List (List ℕ)) → RunOptions → List Table → List Contents → List Asked → Type 0
Asks files words options schema tables queries = (told : List ℕ → Option (List ℕ)) × (names : Names)
    × (input_of files (reading words) ≡ Some (record { files = Some told; names = names; options = options })) × HasQueries (Some told) names schema tables queries

-- they are read as `compile`, and the statement asks for this query
abbrev pub AsksToCompile : Files → (words : List (List ℕ)) → Asked → Type 0
AsksToCompile files words one =
    (names : TextNames) × (statement : ℕ) × (reading words ≡ command (compile names statement)) × HasStatement files names statement one

-- they are read as `check`, and the file is a valid module
abbrev pub AsksToCheck : Files → (words : List (List ℕ)) → Type 0
AsksToCheck files words = (name : List ℕ) × (reading words ≡ command (check name)) × IsValidFile files name
