-- Mirrors `LocalRuns`: runs of locals by how many locals there are up to the end of each.
use Rattle.std.specs.Prelude.{ℕ, ◌-◌, ◌≤◌, List, [], ◌∷◌}
use Rattle.qw_module.specs.declared.module.Locals.{Locals}
use Rattle.qw_binary.specs.Sections.{locals_from}
use Rattle.qw_scan.specs.declared.locals.Run.{Run}

-- the runs behind so many locals
abbrev pub runs_in : (before : ℕ) → List Run → List Locals
runs_in before [] = []
runs_in before (run ∷ runs) = locals_from (run.end - before) run.ty ∷ runs_in run.end runs

-- how many locals there are up to the end of the last
abbrev pub last_end : (before : ℕ) → List Run → ℕ
last_end before [] = before
last_end before (run ∷ runs) = last_end run.end runs

-- no end is below the one before it
abbrev pub Rise : (before : ℕ) → List Run → Type 0
Rise before [] = Unit {0}
Rise before (run ∷ runs) = (before ≤ run.end) × Rise run.end runs
