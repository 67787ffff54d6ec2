-- What others keep, and what an instance has once a request was answered.
use Rattle.std.specs.Prelude.{ℕ, ◌+◌, ◌++◌, List, Some}
use Rattle.qw_map.specs.Areas.{World, Others, granted_area}

-- others keep M
pub record IsKept (w : World) (M : List ℕ → Type 0) : Type 0 where
  pub keeps : (before after : List ℕ) → Others w before after → M before → M after

-- what the instance has once a request is granted pages from this address on, and once it is refused
abbrev pub with_granted : World → (start asked : ℕ) → World
with_granted w start asked = record w { own = w.own ++ granted_area start asked; held = w.held + asked }

abbrev pub with_refused : World → ℕ → World
with_refused w asked = record w { refused = Some asked }
