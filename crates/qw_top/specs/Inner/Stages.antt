-- Mirrors what the stages of a run hand on (`top::run::run`, `top::report::deliver`), and how they stop.
use Rattle.std.specs.Prelude.{◌≡◌, ◌⊎◌, ◌<◌, ◌≤◌, ℕ, Bool, List, [], ◌∷◌, Option, map, length}
use Rattle.std.specs.List.{AllByRecursion, AllZip}
use Rattle.qw_types.specs.Contents.{Contents, IsOfColumnType, column_type}
use Rattle.qw_types.specs.Limits.{most_rows}
use Rattle.qw_types.specs.declared.schema.Table.{Table}
use Rattle.qw_linear.specs.Memory.{most_pages}
use Rattle.qw_bench.specs.Standing.{Standing, total_pages as pages_in_all}
use Rattle.qw_bench.specs.declared.bench.Limits.{Limits}
use Rattle.qw_top.specs.declared.status.Status.{Status}
use Rattle.qw_top.specs.declared.status.Status.TheVariants.{Done, Raised, PageLimitMet, StepLimitMet, WriteFailed, NoMemory as EndsInWant}
use Rattle.qw_top.specs.declared.stop.Stop.{Stop}
use Rattle.qw_top.specs.declared.stop.Stop.TheVariants.{NoMemory}
use Rattle.qw_top.specs.Causes.{total_pages}
use Rattle.qw_top.specs.Delivered.{HasRun, ShowsEnds, ends_below, status_of_ends}
use Rattle.qw_top.specs.Output.{TookFront, with_text}
use Rattle.qw_top.specs.Top.{Asked, Files, FilesSettle, HasQueries, IsFileOf, Names, same_limits}
use Rattle.qw_top.specs.Inner.Stop.{StopsBy, StopsFor}

-- the files of these names explain a stop of a run under limits
abbrev pub FilesStop : Limits → Files → Names → Stop → Type 0
FilesStop limits files names stop = StopsBy (FilesSettle limits files names) (IsFileOf files names) stop

-- the rows of a table are of its columns, and no more than a table may have
pub record IsContentsOf (table : Table) (one : Contents) : Type 0 where
  pub columns : one.columns ≡ map column_type table.columns
  pub few : length one.rows ≤ most_rows
  pub typed : AllByRecursion (AllZip IsOfColumnType (map column_type table.columns)) one.rows

-- the contents of tables are of their columns, and within the limits
abbrev pub AreContentsOf : List Table → List Contents → Type 0
AreContentsOf [] [] = Unit {0}
AreContentsOf (table ∷ tables) (one ∷ contents) = IsContentsOf table one × AreContentsOf tables contents
AreContentsOf _ _ = ⊥

-- a stop as so many pages are needed, which are more than there can be
abbrev pub StopsForPages : (need : ℕ) → Stop → Type 0
StopsForPages need stop = (most_pages < need) × StopsFor (total_pages need) stop

-- why a run of queries over tables stopped before its bench: for want of memory, or as they need too many pages
abbrev pub StopsToRun : Limits → List Contents → List Asked → Stop → Type 0
StopsToRun limits tables queries stop = (stop ≡ NoMemory) ⊎ StopsForPages (pages_in_all tables (same_limits limits queries)) stop

-- a bench has run these queries, which the files ask for
pub record HasAsked (limits : Limits) (quantum : ℕ) (files : Files) (names : Names) (queries : List Asked) (b : Standing) : Type 0 where
  pub schema : List Table
  pub tables : List Contents
  pub asks : HasQueries files names schema tables queries
  pub run : HasRun limits quantum tables queries b

-- a bench has run these queries, whatever the limits and the turns
pub record Ran (queries : List Asked) (b : Standing) : Type 0 where
  pub limits : Limits
  pub quantum : ℕ
  pub tables : List Contents
  pub run : HasRun limits quantum tables queries b

-- the report that shows the ends of queries, over whichever tables they ran, and the status of a run with those ends
abbrev pub IsReport : (counts : Bool) → (queries : List Asked) → Standing → (report : List ℕ) → Status → Type 0
IsReport counts queries b report status = (ran : Ran queries b)
    → ShowsEnds counts ran.tables queries b 0 report × (status ≡ status_of_ends (ends_below b (length queries)))

-- How the writing of a report ended: it was taken whole, and the run ends with this status; or a front of it was taken.
abbrev pub Writes : (status result : Status) → (old new : Option (List ℕ)) → (report : List ℕ) → Type 0
Writes status Done old new report = (status ≡ Done) × (new ≡ with_text old report)
Writes status Raised old new report = (status ≡ Raised) × (new ≡ with_text old report)
Writes status PageLimitMet old new report = (status ≡ PageLimitMet) × (new ≡ with_text old report)
Writes status StepLimitMet old new report = (status ≡ StepLimitMet) × (new ≡ with_text old report)
Writes status WriteFailed old new report = TookFront old new report
Writes status EndsInWant old new report = TookFront old new report
Writes status _ old new report = ⊥
