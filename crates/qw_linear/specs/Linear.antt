-- A linear memory, as its users see it (WebAssembly Core Specification 1.0, 4.2.8).
use Rattle.std.specs.Prelude.{◌≡◌, ℕ, ◌*◌, ◌≤◌, List, length, vec_capacity}
use Rattle.std.specs.Global.{Vec}
use Rattle.qw_linear.specs.Memory.{page, most_pages, pages_of, AreOctets}

-- its octets, and how many pages it may grow to
pub record Octets : Type 0 where
  pub octets : List ℕ
  pub reserved : ℕ

-- whole pages, as many as are reserved at most
pub record IsLinear (memory : Octets) : Type 0 where
  pub pages : ℕ
  pub whole : length memory.octets ≡ pages * page
  pub within : pages ≤ memory.reserved
  pub limit : memory.reserved ≤ most_pages
  pub each : AreOctets memory.octets

-- How a memory is held: the vector of its octets is as `IsLinear` says, and has room for all that is reserved. That its
-- items are octets its type says.
pub record IsHeld (octets : Vec ℕ) (reserved : ℕ) : Type 0 where
  pub whole : length octets.items ≡ pages_of octets.items * page
  pub within : pages_of octets.items ≤ reserved
  pub limit : reserved ≤ most_pages
  pub room : reserved * page ≤ vec_capacity octets
