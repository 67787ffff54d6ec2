-- What the fields of `Pool` stand for, and what they keep: mirrors `Pool`.
use Rattle.std.specs.Prelude.{◌≡◌, ℕ, ◌+◌, ◌*◌, ◌≤◌, Bool, true, false, List, length, count_by}
use Rattle.std.specs.Vec.{vec_capacity}
use Rattle.qw_linear.specs.Memory.{most_pages, page, pages_of}
use Rattle.qw_map.specs.Turns.{Common}
use Rattle.qw_bench.specs.declared.pool.Pool.{Pool}

-- what the instances of a bench have in common
abbrev pub common_of : Pool → Common
common_of pool = record { memory = pool.memory.octets; free = pool.free.items }

-- how many flags say that their page is free
abbrev pub free_among : List Bool → ℕ
free_among flags = count_by (λ flag. flag) flags

-- how many pages are free where so many flags were changed to one
abbrev pub IsChanged : Bool → (changed before after : ℕ) → Type 0
IsChanged true changed before after = after ≡ before + changed
IsChanged false changed before after = after + changed ≡ before

-- The memory is whole pages, of which each has a flag; it isn't larger than it may be; there is room for a flag of each page that it may have; and it is known how many pages are free.
pub record IsPool (pool : Pool) : Type 0 where
  pub whole : length pool.memory.octets ≡ pages_of pool.memory.octets * page
  pub flags : length pool.free.items ≡ pages_of pool.memory.octets
  pub within : length pool.memory.octets ≤ pool.memory.reserved * page
  pub limit : pool.memory.reserved ≤ most_pages
  pub room : pool.memory.reserved ≤ vec_capacity pool.free
  pub counted : pool.free_count ≡ free_among pool.free.items
