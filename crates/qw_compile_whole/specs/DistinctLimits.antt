-- Queries with DISTINCT that aren't grouped, of a size that is always compiled.
use Rattle.std.specs.Prelude.{◌+◌, ◌*◌, ◌≤◌, Bool, false, true, length}
use Rattle.qw_scalar.specs.Nodes.{nodes, nodes_of}
use Rattle.qw_meaning.specs.Query.{QueryParts}
use Rattle.qw_algebra.specs.Sizes.{query_size}
use Rattle.qw_compile.specs.Limits.{IsShort}

-- Each item is a column of the key besides, evaluated where rows come and read again where they are walked over: it counts as three nodes more.
pub record IsShortDistinct (parts : QueryParts) : Type 0 where
  pub short : IsShort parts
  pub few_keys : query_size nodes nodes_of parts + 3 * length parts.items ≤ 4012

-- a query that isn't grouped, with DISTINCT or without
abbrev pub IsShortPlain : (distinct : Bool) → QueryParts → Type 0
IsShortPlain false parts = IsShort parts
IsShortPlain true parts = IsShortDistinct parts
