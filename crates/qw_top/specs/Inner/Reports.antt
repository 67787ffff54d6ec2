-- Mirrors `top::report::with_block`, `with_query`, `blocks_of` and `status_with`.
use Rattle.std.specs.Prelude.{◌≡◌, ℕ, suc, Bool, true, false, ◌||◌, List, [], ◌∷◌, ◌++◌, Option, Some, None, if◌then◌else◌}
use Rattle.qw_types.specs.declared.code.Code.{Code}
use Rattle.qw_types.specs.declared.value.Val.{Val}
use Rattle.qw_order.specs.Order.{AreSorted}
use Rattle.qw_map.specs.Turns.{End, Done as EndedDone, Exception, Pages, Steps, Trap}
use Rattle.qw_promise.specs.Compiled.{raised_for}
use Rattle.qw_bench.specs.Bench.{end_in}
use Rattle.qw_bench.specs.Standing.{Standing, rows_in}
use Rattle.qw_sink.specs.Sink.{report_of_rows, report_of_exception, report_of_pages, report_of_steps}
use Rattle.qw_top.specs.Delivered.{counts_line, is_exception, is_pages, is_steps}
use Rattle.qw_top.specs.Top.{Asked}
use Rattle.qw_top.specs.declared.status.Status.{Status}
use Rattle.qw_top.specs.declared.status.Status.TheVariants.{Raised, PageLimitMet, StepLimitMet}

-- the block of an end of the instance of a number, counted from 0
abbrev pub IsBlock : Asked → Standing → ℕ → Option End → (block : List ℕ) → Type 0
IsBlock asked b k None block = ⊥
IsBlock asked b k (Some EndedDone) block = (rows printed : List (List Val)) × (rows_in b k ≡ Some rows) × AreSorted asked.keys rows printed
    × (block ≡ report_of_rows (suc k) asked.header printed)
IsBlock asked b k (Some (Exception code)) block = (one : Code) × (code ≡ raised_for one) × (block ≡ report_of_exception (suc k) one)
IsBlock asked b k (Some (Pages held asked_for limit)) block = block ≡ report_of_pages (suc k) held asked_for limit
IsBlock asked b k (Some (Steps limit)) block = block ≡ report_of_steps (suc k) limit
IsBlock asked b k (Some Trap) block = ⊥

-- the blocks of queries from number k on, each with the line on counts where they are asked for, one behind another
abbrev pub AreBlocks : (counts : Bool) → List Asked → Standing → (k : ℕ) → (text : List ℕ) → Type 0
AreBlocks counts [] b k text = text ≡ []
AreBlocks counts (asked ∷ queries) b k text = (block : List ℕ) × (blocks : List ℕ) × (text ≡ block ++ counts_line counts b k ++ blocks)
    × IsBlock asked b k (end_in b.shared k) block × AreBlocks counts queries b (suc k) blocks

-- whether it is that of a limit of pages that was met, of one of instructions, of an exception
abbrev pub is_page_limit : Status → Bool
is_page_limit PageLimitMet = true
is_page_limit _ = false

abbrev pub is_step_limit : Status → Bool
is_step_limit StepLimitMet = true
is_step_limit _ = false

abbrev pub is_raised : Status → Bool
is_raised Raised = true
is_raised _ = false

-- the status of a run with one end more
abbrev pub status_with : Status → Option End → Status
status_with status end =
    if is_pages end || is_page_limit status then PageLimitMet
    else (if is_steps end || is_step_limit status then StepLimitMet
    else (if is_exception end || is_raised status then Raised else status))
