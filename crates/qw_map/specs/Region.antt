-- Regions of a memory, as sets of octets.
use Rattle.std.specs.Prelude.{ℕ, ◌+◌, ◌<◌, ◌≤◌}
use Rattle.qw_map.specs.declared.region.Region.{Region}

-- the octet at an address lies in a region
abbrev pub IsIn : Region → ℕ → Type 0
IsIn region address = (region.start ≤ address) × (address < region.start + region.len)

-- no octet lies in both
abbrev pub AreDisjoint : Region → Region → Type 0
AreDisjoint a b = (address : ℕ) → IsIn a address → IsIn b address → ⊥

-- each octet of one region lies in another
abbrev pub IsInside : Region → Region → Type 0
IsInside a b = (address : ℕ) → IsIn a address → IsIn b address
