-- How the answers of a shelf or a sink bear on its count of faults.
use Rattle.std.specs.Prelude.{◌≡◌, ◌⊎◌, ℕ, ◌-◌, ◌^◌, ◌<◌}

-- the last value of a count of faults, at which it stays
abbrev pub last_count : ℕ
last_count = 2 ^ 64 - 1

-- a fault between these two counts is counted: the count rose, or stands at its last value
abbrev pub IsCounted : ℕ → ℕ → Type 0
IsCounted before after = (before < after) ⊎ (after ≡ last_count)
