-- Mirrors src/size.rt: counts that stay at the greatest number.
use Rattle.std.specs.Prelude.{◌≡◌, ℕ, ◌+◌, ◌-◌, ◌^◌, ◌<◌, min}
use Rattle.qw_parse.specs.declared.size.Size.{Size}

-- a number, as far as counts go
abbrev pub counted : ℕ → ℕ
counted n = min n (2 ^ 64 - 1)

-- So many nodes and so many octets more were counted.
pub record Counts (old new : Size) (nodes octets : ℕ) : Type 0 where
  pub nodes_are : new.nodes ≡ counted (old.nodes + nodes)
  pub octets_are : new.octets ≡ counted (old.octets + octets)

-- Both sizes, each with what is still to be counted, are one.
pub record GoesOn (old : Size) (nodes octets : ℕ) (now : Size) (nodes_left octets_left : ℕ) : Type 0 where
  pub nodes_fit : now.nodes < 2 ^ 64
  pub octets_fit : now.octets < 2 ^ 64
  pub nodes_same : counted (now.nodes + nodes_left) ≡ counted (old.nodes + nodes)
  pub octets_same : counted (now.octets + octets_left) ≡ counted (old.octets + octets)
