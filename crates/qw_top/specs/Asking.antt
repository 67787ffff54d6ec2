-- How far files are asked for.
use Rattle.std.specs.Prelude.{◌≡◌, ◌⊎◌, ℕ, suc, ◌≤◌, List, Option, Some, None}
use Rattle.qw_io.specs.Files.{Watched}

-- A file that is watched was asked for no further than before, or within a limit that it has and one octet more, by which a longer file
-- is known to be too long.
abbrev pub AsksWithin : (limited : List ℕ → ℕ → Type 0) → (old new : Option Watched) → Type 0
AsksWithin limited None new = new ≡ None
AsksWithin limited (Some before) new = (after : Watched) × (new ≡ Some after) × (after.name ≡ before.name)
    × ((after.asked_to ≤ before.asked_to) ⊎ ((limit : ℕ) × limited before.name limit × (after.asked_to ≤ suc limit)))

-- the file of one name, within this limit
abbrev pub IsOne : (name : List ℕ) → (limit : ℕ) → List ℕ → ℕ → Type 0
IsOne name limit other most = (other ≡ name) × (most ≡ limit)
