-- How a run ends that no limit, fault of the outside or want of memory cuts short: by what its queries mean.
use Rattle.std.specs.Prelude.{◌≡◌, ◌⊎◌, ℕ, suc, ◌+◌, ◌*◌, ◌^◌, ◌≤◌, Bool, true, false, if◌then◌else◌, List, [], ◌∷◌, ◌++◌, Contains, Option, Some}
use Rattle.std.specs.List.{AllByRecursion, list_any}
use Rattle.std.specs.List.Sorted.{IsPermutation, IsSorted}
use Rattle.qw_types.specs.Contents.{Contents}
use Rattle.qw_types.specs.declared.code.Code.{Code}
use Rattle.qw_types.specs.declared.schema.Table.{Table}
use Rattle.qw_types.specs.declared.value.Val.{Val}
use Rattle.qw_meaning.specs.Outcome.{Outcome, Rows, Raises}
use Rattle.qw_grouped.specs.Whole.{whole_outcome}
use Rattle.qw_order.specs.Order.{key_order}
use Rattle.qw_order.specs.declared.sort_key.SortKey.{SortKey}
use Rattle.qw_whole.specs.WholePromises.{whole_pages, whole_units}
use Rattle.qw_bench.specs.Bench.{rows_in_tables}
use Rattle.qw_bench.specs.Standing.{Standing}
use Rattle.qw_bench.specs.declared.bench.Limits.{Limits}
use Rattle.qw_sink.specs.Sink.{report_of_exception, report_of_rows}
use Rattle.qw_sink.specs.declared.sink.Head.{Head}
use Rattle.qw_command_line.specs.Words.{RunOptions}
use Rattle.qw_top.specs.Call.{Asks}
use Rattle.qw_top.specs.Delivered.{counts_line}
use Rattle.qw_top.specs.Limits.{limits_of}
use Rattle.qw_top.specs.Output.{with_text}
use Rattle.qw_top.specs.Top.{Asked, Files, HaveRoom, IsEnough, IsFault}
use Rattle.qw_top.specs.declared.status.Status.{Status}
use Rattle.qw_top.specs.declared.status.Status.TheVariants.{Done, Raised}

-- ---- limits that are enough

-- The most instructions that a compiled module of the query runs over tables, whichever it is: with all that it calls it has at most 2^24,
-- and each is run at most once more than the query has units.
abbrev pub most_steps : Asked → List (List (List Val)) → ℕ
most_steps one tables = 2 ^ 24 * (1 + whole_units one.whole tables)

-- limits are enough for the query over tables, whichever module it is compiled to
pub record SufficesFor (limits : Limits) (tables : List (List (List Val))) (one : Asked) : Type 0 where
  pub pages : whole_pages one.whole tables ≤ limits.pages
  pub steps : most_steps one tables ≤ limits.steps

-- Limits are enough for queries over tables: for whichever modules they are compiled to; or, where a bench was kept, for those that it has.
abbrev pub AreEnough : Limits → List (List (List Val)) → List Asked → (kept : Option Standing) → Type 0
AreEnough limits tables queries kept = AllByRecursion (SufficesFor limits tables) queries ⊎ ((b : Standing) × (kept ≡ Some b) × IsEnough limits tables queries b)

-- ---- what queries mean

-- whether an outcome is that of a statement that ends with an exception (ISO/IEC 9075:1992, 22.1)
abbrev pub is_raised : Outcome → Bool
is_raised (Rows bag) = false
is_raised (Raises codes) = true

-- The status that queries mean over tables: that an exception was raised, where the outcome of one of them is one, and else that the work is done.
abbrev pub status_meant : List (List (List Val)) → List Asked → Status
status_meant tables queries = if list_any (λ (one : Asked). is_raised (whole_outcome one.whole tables)) queries then Raised else Done

-- The block of query k, counted from 0, tells the outcome: rows under the header, each as often as the outcome has it (7.9), in an order that the keys
-- allow (13.1); or one of its exceptions.
abbrev pub TellsOutcome : Outcome → List Head → List SortKey → (k : ℕ) → (block : List ℕ) → Type 0
TellsOutcome (Rows bag) header keys k block =
    (rows : List (List Val)) × IsPermutation bag rows × IsSorted (key_order keys) rows × (block ≡ report_of_rows (suc k) header rows)
TellsOutcome (Raises codes) header keys k block = (one : Code) × Contains codes one × (block ≡ report_of_exception (suc k) one)

-- The report of queries from number k on tells the outcome of each over tables, with the counts of the bench behind it where they are asked for.
abbrev pub TellsOutcomes : (counts : Bool) → List (List (List Val)) → List Asked → Standing → (k : ℕ) → (report : List ℕ) → Type 0
TellsOutcomes counts tables [] b k report = report ≡ []
TellsOutcomes counts tables (one ∷ queries) b k report = (block : List ℕ) × (blocks : List ℕ) × (report ≡ block ++ counts_line counts b k ++ blocks)
    × TellsOutcome (whole_outcome one.whole tables) one.header one.keys k block × TellsOutcomes counts tables queries b (suc k) blocks

-- A run ended as its queries mean over tables: with their status; it kept a bench; and a sink that had taken the first has taken the whole
-- report on all of them besides.
pub record EndsAsMeant (counts : Bool) (tables : List (List (List Val))) (queries : List Asked) (result : Status) (kept : Option Standing) (old new : Option (List ℕ)) : Type 0 where
  pub status : result ≡ status_meant tables queries
  pub bench : Standing
  pub there : kept ≡ Some bench
  pub report : List ℕ
  pub tells : TellsOutcomes counts tables queries bench 0 report
  pub written : new ≡ with_text old report

-- Where the words ask for a run of queries over told or generated files, there is room for them, and the limits are enough, the run ended as the queries
-- mean over the tables, or with a fault of the outside or want of memory.
abbrev pub Completes : Files → (words : List (List ℕ)) → (kept : Option Standing) → Status → (old new : Option (List ℕ)) → Type 0
Completes files words kept result old new =
    (options : RunOptions) (schema : List Table) (tables : List Contents) (queries : List Asked) → Asks files words options schema tables queries →
    HaveRoom (limits_of options) tables queries → AreEnough (limits_of options) (rows_in_tables tables) queries kept →
    EndsAsMeant options.counts (rows_in_tables tables) queries result kept old new ⊎ IsFault result
