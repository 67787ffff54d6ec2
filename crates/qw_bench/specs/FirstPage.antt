-- The first page of an instance, and the memory that it begins in.
use Rattle.std.specs.Prelude.{◌≡◌, ℕ, ◌+◌, ◌^◌, ◌<◌, List, slice_index}
use Rattle.qw_linear.specs.Memory.{page}
use Rattle.qw_map.specs.declared.layout.Placed.{Placed}

-- the page at an address is zeros
abbrev pub IsBlank : List ℕ → ℕ → Type 0
IsBlank memory address = (k : ℕ) → k < page → slice_index memory (address + k) ≡ 0

-- what the descriptor says of a column is numbers of four octets
pub record HasAddresses (one : Placed) : Type 0 where
  pub values : one.values < 2 ^ 32
  pub octets : one.octets < 2 ^ 32
  pub nulls : one.nulls < 2 ^ 32
  pub rows_are : one.rows < 2 ^ 32
