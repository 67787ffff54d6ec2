-- What a run leaves: the bench that it turned to the end, what it wrote of the report, and what it noted.
use Rattle.std.specs.Prelude.{◌≡◌, ◌⊎◌, ℕ, zero, suc, ◌<◌, Bool, true, false, if◌then◌else◌, List, [], ◌∷◌, ◌++◌, length, Contains, Option, Some, None, IfSome, IsSome}
use Rattle.std.specs.List.{AllByRecursion, AllZip, list_any}
use Rattle.std.specs.List.Sorted.{IsPermutation}
use Rattle.qw_types.specs.Contents.{Contents}
use Rattle.qw_types.specs.declared.code.Code.{Code}
use Rattle.qw_types.specs.declared.schema.Table.{Table}
use Rattle.qw_types.specs.declared.value.Val.{Val}
use Rattle.qw_meaning.specs.Outcome.{Rows, Raises}
use Rattle.qw_grouped.specs.Whole.{sources_in, whole_outcome}
use Rattle.qw_map.specs.Turns.{Act, End, Done as EndedDone, Exception, Pages, Steps, Trap, Shared, turns}
use Rattle.qw_meaning.specs.Select.{AreOfEntries, entries_of}
use Rattle.qw_order.specs.Order.{AreSorted}
use Rattle.qw_promise.specs.Compiled.{IsCompiled, raised_for}
use Rattle.qw_whole.specs.WholePromises.{promise_of_whole}
use Rattle.qw_bench.specs.Bench.{AreRounds, IsStart, Program, end_in, held_in, ran_in, rows_in_tables}
use Rattle.qw_bench.specs.Standing.{Standing, AreTasksOf, rows_in}
use Rattle.qw_bench.specs.declared.bench.Limits.{Limits}
use Rattle.qw_sink.specs.Sink.{report_of_counts, report_of_rows, report_of_exception, report_of_pages, report_of_steps}
use Rattle.qw_command_line.specs.Words.{RunOptions}
use Rattle.qw_top.specs.Causes.{Cause, line_of_cause, status_of_cause}
use Rattle.qw_top.specs.Limits.{limits_of}
use Rattle.qw_top.specs.Notes.{read_fault_line, want_of_memory_line}
use Rattle.qw_top.specs.Output.{TookFront, with_text}
use Rattle.qw_top.specs.Top.{Asked, Files, HasQueries, HaveRoom, Names, same_limits}
use Rattle.qw_top.specs.declared.status.Status.{Status}
use Rattle.qw_top.specs.declared.status.Status.TheVariants.{Done, ReadFailed, WriteFailed, Raised, PageLimitMet, StepLimitMet, NoMemory}

-- a program is a query's compiled form
abbrev pub IsProgramOf : Asked → Program → Type 0
IsProgramOf asked program = IsCompiled (promise_of_whole asked.whole) program.layout program.module'

-- A bench has run queries over tables to their ends, under limits, in turns of so many instructions: there is room for them; the tables
-- that they read have rows of the columns that they take them to have; it has one task for each query in order, its compiled module; it
-- stands where rounds of turns led from a start of these tasks; and all instances ended.
pub record HasRun (limits : Limits) (quantum : ℕ) (tables : List Contents) (queries : List Asked) (b : Standing) : Type 0 where
  pub room : HaveRoom limits tables queries
  pub read : AllByRecursion (λ (asked : Asked). AreOfEntries (entries_of (sources_in asked.whole.body)) (rows_in_tables tables)) queries
  pub programs : List Program
  pub compiled : AllZip IsProgramOf queries programs
  pub tasks : AreTasksOf programs (same_limits limits queries) b.tasks
  pub start : Shared
  pub began : IsStart tables b.tasks start
  pub given : List Act
  pub rounds : AreRounds quantum given start
  pub turned : b.shared ≡ turns given start
  pub ended : (k : ℕ) → k < length queries → IsSome (end_in b.shared k)

-- What is reported of the end of query k, counted from 0: the rows that stand in the bench's memory, which are the bag of the query's meaning,
-- sorted by its keys, and without keys in their order there; the exception, which is one of its meaning's; the pages, or the limit of
-- instructions. There is no other end.
abbrev pub ShowsEnd : List Contents → Asked → Standing → ℕ → Option End → (block : List ℕ) → Type 0
ShowsEnd tables asked b k None block = ⊥
ShowsEnd tables asked b k (Some EndedDone) block = (bag : List (List Val)) × (rows : List (List Val)) × (printed : List (List Val))
    × (whole_outcome asked.whole (rows_in_tables tables) ≡ Rows bag) × IsPermutation bag rows × (rows_in b k ≡ Some rows)
    × AreSorted asked.keys rows printed × (block ≡ report_of_rows (suc k) asked.header printed)
ShowsEnd tables asked b k (Some (Exception code)) block = (raised : List Code) × (one : Code)
    × (whole_outcome asked.whole (rows_in_tables tables) ≡ Raises raised) × Contains raised one × (code ≡ raised_for one) × (block ≡ report_of_exception (suc k) one)
ShowsEnd tables asked b k (Some (Pages held asked_for limit)) block = block ≡ report_of_pages (suc k) held asked_for limit
ShowsEnd tables asked b k (Some (Steps limit)) block = block ≡ report_of_steps (suc k) limit
ShowsEnd tables asked b k (Some Trap) block = ⊥

-- the line on the counts of query k, where counts are asked for: the instructions that it ran, and the pages that it holds
abbrev pub counts_line : (counts : Bool) → Standing → (k : ℕ) → List ℕ
counts_line counts b k = if counts then report_of_counts (suc k) (ran_in b.shared k) (held_in b.shared k) else []

-- The blocks of queries from number k on, one behind another, each before the line on its query's counts, where they are asked for.
abbrev pub ShowsEnds : (counts : Bool) → List Contents → List Asked → Standing → (k : ℕ) → (report : List ℕ) → Type 0
ShowsEnds counts tables [] b k report = report ≡ []
ShowsEnds counts tables (asked ∷ queries) b k report = (block : List ℕ) × (blocks : List ℕ) × (report ≡ block ++ counts_line counts b k ++ blocks)
    × ShowsEnd tables asked b k (end_in b.shared k) block × ShowsEnds counts tables queries b (suc k) blocks

-- whether an end was at a limit of pages, at one of instructions, at an exception
abbrev pub is_pages : Option End → Bool
is_pages (Some (Pages held asked limit)) = true
is_pages _ = false

abbrev pub is_steps : Option End → Bool
is_steps (Some (Steps limit)) = true
is_steps _ = false

abbrev pub is_exception : Option End → Bool
is_exception (Some (Exception code)) = true
is_exception _ = false

-- the ends of the first n instances
abbrev pub ends_below : Standing → (n : ℕ) → List (Option End)
ends_below b zero = []
ends_below b (suc n) = ends_below b n ++ end_in b.shared n ∷ []

-- The status of a run whose report was written: a limit of pages that was met comes before one of instructions, and that before
-- an exception.
abbrev pub status_of_ends : List (Option End) → Status
status_of_ends ends =
    if list_any is_pages ends then PageLimitMet else (if list_any is_steps ends then StepLimitMet else (if list_any is_exception ends then Raised else Done))

-- The files of these names ask for queries, this bench has run them by the options, the report shows their ends, with counts where these
-- are asked for, and this is the status of a run with those ends.
pub record Reports (options : RunOptions) (files : Files) (names : Names) (b : Standing) (report : List ℕ) (status : Status) : Type 0 where
  pub schema : List Table
  pub tables : List Contents
  pub queries : List Asked
  pub asks : HasQueries files names schema tables queries
  pub run : HasRun (limits_of options) options.quantum tables queries b
  pub shows : ShowsEnds options.counts tables queries b 0 report
  pub status_is : status ≡ status_of_ends (ends_below b (length queries))

-- there is no bench, and nothing was written
abbrev pub LeavesNothing : (kept : Option Standing) → (old new : Option (List ℕ)) → Type 0
LeavesNothing kept old new = (kept ≡ None) × (new ≡ old)

-- the bench is there, and its report, at this status, has the property
abbrev pub LeavesBench : RunOptions → Files → Names → (kept : Option Standing) → (Status → List ℕ → Type 0) → Type 0
LeavesBench options files names kept P =
    (b : Standing) × (report : List ℕ) × (status : Status) × (kept ≡ Some b) × Reports options files names b report status × P status report

-- the bench is there, and its report, of this status, was written whole
abbrev pub LeavesReport : RunOptions → Files → Names → Status → (kept : Option Standing) → (old new : Option (List ℕ)) → Type 0
LeavesReport options files names result kept old new =
    LeavesBench options files names kept (λ status report. (status ≡ result) × (new ≡ with_text old report))

-- What a run leaves, by its status: the bench that it kept, and what a sink had taken before of the report and has taken now.
-- Memory may be wanted before there is a bench, or while the report is made and written; and a line on what went wrong may
-- fail to be written.
abbrev pub RunLeaves : RunOptions → Files → Names → Status → (kept : Option Standing) → (old new : Option (List ℕ)) → Type 0
RunLeaves options files names Done kept old new = LeavesReport options files names Done kept old new
RunLeaves options files names Raised kept old new = LeavesReport options files names Raised kept old new
RunLeaves options files names PageLimitMet kept old new = LeavesReport options files names PageLimitMet kept old new
RunLeaves options files names StepLimitMet kept old new = LeavesReport options files names StepLimitMet kept old new
RunLeaves options files names WriteFailed kept old new =
    LeavesNothing kept old new ⊎ LeavesBench options files names kept (λ status report. TookFront old new report)
RunLeaves options files names NoMemory kept old new =
    LeavesNothing kept old new ⊎ LeavesBench options files names kept (λ status report. TookFront old new report)
RunLeaves options files names status kept old new = LeavesNothing kept old new

-- A command may settle causes, and may read files of names; these are given where what is noted is said of it.

-- a line that is noted
abbrev pub IsLine : (settles : Cause → Type 0) → (named : List ℕ → Type 0) → List ℕ → Type 0
IsLine settles named line = (line ≡ want_of_memory_line)
    ⊎ ((name : List ℕ) × named name × (line ≡ read_fault_line name))
    ⊎ ((cause : Cause) × settles cause × (line ≡ line_of_cause cause))

-- the line of the cause that is settled, and whose status this is
abbrev pub NotesCause : (settles : Cause → Type 0) → Status → (old new : Option (List ℕ)) → Type 0
NotesCause settles status old new = (cause : Cause) × settles cause × (status ≡ status_of_cause cause) × (new ≡ with_text old (line_of_cause cause))

-- What is noted, by the status: at a refusal the line of its cause; at ReadFailed the line of a name that may be read, which is the
-- name of the last fault that the shelf counted, where it tells that; at NoMemory and WriteFailed a front of a line that may be
-- noted; and where the work was done nothing.
abbrev pub CommandNotes : (settles : Cause → Type 0) → (named : List ℕ → Type 0) → (fault_name : Option (List ℕ)) → Status → (old new : Option (List ℕ)) → Type 0
CommandNotes settles named fault_name ReadFailed old new =
    (name : List ℕ) × named name × IfSome fault_name (λ last. last ≡ name) × (new ≡ with_text old (read_fault_line name))
CommandNotes settles named fault_name NoMemory old new = (line : List ℕ) × IsLine settles named line × TookFront old new line
CommandNotes settles named fault_name WriteFailed old new = (line : List ℕ) × IsLine settles named line × TookFront old new line
CommandNotes settles named fault_name Done old new = new ≡ old
CommandNotes settles named fault_name Raised old new = new ≡ old
CommandNotes settles named fault_name PageLimitMet old new = new ≡ old
CommandNotes settles named fault_name StepLimitMet old new = new ≡ old
CommandNotes settles named fault_name status old new = NotesCause settles status old new
