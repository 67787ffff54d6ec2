-- What a descriptor says of columns, as it is written: mirrors `write_entries` and `write_entry`.
use Rattle.std.specs.Prelude.{◌≡◌, ℕ, ◌+◌, ◌*◌, ◌<◌, ◌≤◌, ◌⊎◌, List, Some, slice_get, slice_index}
use Rattle.qw_map.specs.Layout.{HasEntry}
use Rattle.qw_map.specs.declared.layout.Placed.{Placed}
use Rattle.qw_map.specs.declared.layout.Used.{Used}

-- the entries of columns say where they stand, one behind another from an address on
abbrev pub AreEntries : List ℕ → (entries : ℕ) → List Used → List Placed → Type 0
AreEntries memory entries columns placed =
    (k : ℕ) (used : Used) (one : Placed) → slice_get columns k ≡ Some used → slice_get placed k ≡ Some one → HasEntry memory (entries + 16 * k) used one

-- the octets but so many from an address on are the same in two memories
abbrev pub SameOutside : List ℕ → List ℕ → (address width : ℕ) → Type 0
SameOutside before after address width = (k : ℕ) → (k < address) ⊎ (address + width ≤ k) → slice_index after k ≡ slice_index before k
