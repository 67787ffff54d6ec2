-- What a host sees of a bench, and what it gives and is told.
use Rattle.std.specs.Prelude.{◌≡◌, ℕ, ◌+◌, ◌*◌, ◌≤◌, List, [], ◌∷◌, length, Option, Some, None, slice_get}
use Rattle.std.specs.Option.{option_and_then}
use Rattle.qw_types.specs.Contents.{Contents}
use Rattle.qw_types.specs.declared.value.Val.{Val}
use Rattle.qw_linear.specs.Memory.{page, most_pages}
use Rattle.qw_map.specs.Columns.{column_pages}
use Rattle.qw_map.specs.Layout.{rows_at}
use Rattle.qw_map.specs.Runs.{most_run}
use Rattle.qw_map.specs.Turns.{Done, Exception, Pages, Steps, End, Instance, Shared, may_ask}
use Rattle.qw_promise.specs.Compiled.{raised_for}
use Rattle.qw_bench.specs.declared.bench.Ended.{Ended}
use Rattle.qw_bench.specs.declared.bench.Ended.TheVariants as ended
use Rattle.qw_bench.specs.declared.bench.Limits.{Limits}
use Rattle.qw_bench.specs.Bench.{AreServing, Program, Task}

-- A bench: the memory with the instances that share it, each in the state that it has reached, what each of them is to do, and
-- how many pages are reserved for the memory.
pub record Standing : Type 0 where
  pub shared : Shared
  pub tasks : List Task
  pub reserved : ℕ

-- What every bench keeps: its instances serve their tasks over tables, and there is room for all pages that they may still ask
-- for.
pub record IsBench (b : Standing) : Type 0 where
  pub tables : List Contents
  pub serving : AreServing tables b.tasks b.shared
  pub room : length b.shared.common.memory + may_ask b.shared.instances * page ≤ b.reserved * page

-- the end that is told
abbrev pub end_of : Option Ended → Option End
end_of None = None
end_of (Some ended.Done) = Some Done
end_of (Some (ended.Raised code)) = Some (Exception (raised_for code))
end_of (Some (ended.Pages held asked limit)) = Some (Pages held asked limit)
end_of (Some (ended.Steps limit)) = Some (Steps limit)

-- Limits in their ranges. No run has more instructions than the greatest limit of them.
pub record AreLimits (one : Limits) : Type 0 where
  pub some_pages : 1 ≤ one.pages
  pub few_pages : one.pages ≤ most_pages
  pub some_steps : 1 ≤ one.steps
  pub few_steps : one.steps ≤ most_run

-- how many pages the instances with these limits may hold together
abbrev pub limit_pages : List Limits → ℕ
limit_pages [] = 0
limit_pages (one ∷ limits) = one.pages + limit_pages limits

-- the pages that a bench needs over tables: those of the columns, and all that the instances with these limits may hold
abbrev pub total_pages : List Contents → List Limits → ℕ
total_pages tables limits = column_pages tables + limit_pages limits

-- the tasks of programs under limits
abbrev pub AreTasksOf : List Program → List Limits → List Task → Type 0
AreTasksOf [] [] [] = Unit {0}
AreTasksOf (program ∷ programs) (one ∷ limits) (t ∷ tasks) =
    (t.program ≡ program) × (t.pages ≡ one.pages) × (t.steps ≡ one.steps) × AreTasksOf programs limits tasks
AreTasksOf _ _ _ = ⊥

-- the result rows of the instance of a number: those that its own areas hold, from the descriptor of its task on
abbrev pub rows_in : Standing → ℕ → Option (List (List Val))
rows_in b i =
    option_and_then (λ (t : Task). option_and_then (λ (instance : Instance). rows_at t.program.layout instance.world b.shared.common.memory t.descriptor)
    (slice_get b.shared.instances i)) (slice_get b.tasks i)
