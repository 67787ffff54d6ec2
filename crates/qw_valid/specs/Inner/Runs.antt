-- Mirrors locals.rt: how many locals there are up to the end of each run.
use Rattle.std.specs.Prelude.{◌≡◌, ℕ, zero, suc, ◌+◌, ◌-◌, ◌<◌, ◌^◌, min, List, [], ◌∷◌, length, get_or}
use Rattle.qw_module.specs.declared.module.Locals.{Locals}

-- how many locals the first so many runs have
abbrev pub locals_before : List Locals → ℕ → ℕ
locals_before runs zero = 0
locals_before [] (suc k) = 0
locals_before (run ∷ runs) (suc k) = run.count + locals_before runs k

-- the greatest number of a word stands for all above it too
pub record AreEnds (runs : List Locals) (ends : List ℕ) : Type 0 where
  pub count : length ends ≡ length runs
  pub each : (k d : ℕ) → k < length runs → get_or ends k d ≡ min (locals_before runs (suc k)) (2 ^ 64 - 1)
