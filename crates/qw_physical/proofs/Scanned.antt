-- The right side of a LEFT JOIN is one entry of FROM (ISO/IEC 9075:1992, 7.5): a scan, with filters above it.
use Rattle.std.proofs.Common.{◌≡◌, ℕ, ◌+◌, Bool, true, false, ◌&&◌, List, [], ◌∷◌, ◌++◌, length}
use Rattle.qw_scalar.specs.Expression.{Condition}
use Rattle.qw_meaning.specs.Select.{Joined, Source, Specification, entries_in}
use Rattle.qw_algebra.specs.Node.{Node, scan, filter, join, project}
use Rattle.qw_algebra.specs.Written.{from_written, source_written, with_joins, with_sources}
use Rattle.qw_rewrite.specs.Probe.{keyed}
use Rattle.qw_rewrite.specs.Sift.{beyond, down_from, is_quiet, moved, sifted, within}

abbrev pub IsScanned : Node → Type 0
IsScanned (scan entry table) = Unit {0}
IsScanned (filter conjuncts below) = IsScanned below
IsScanned (join outer left right on keys) = ⊥
IsScanned (project below items) = ⊥

-- at each join
abbrev pub ScansRights : Node → Type 0
ScansRights (scan entry table) = Unit {0}
ScansRights (filter conjuncts below) = ScansRights below
ScansRights (join outer left right on keys) = (outer ≡ true → IsScanned right) × (ScansRights left × ScansRights right)
ScansRights (project below items) = ScansRights below

-- ---- the plan as it is written

joins_scan : (joins : List Joined) (next : ℕ) (node : Node) → ScansRights node → ScansRights (with_joins next node joins)
joins_scan [] next node h = h
joins_scan (j ∷ joins) next node h = joins_scan joins (next + 1) (join j.outer node (scan next j.entry.table) j.on []) ((λ e. tt), (h, tt))

sources_scan : (sources : List Source) (next : ℕ) (node : Node) → ScansRights node → ScansRights (with_sources next node sources)
sources_scan [] next node h = h
sources_scan (source ∷ sources) next node h =
    sources_scan sources (next + length (entries_in source)) (join false node (source_written next source) [] [])
    ((λ e. absurd (let no : false ≡ true = e in cc)), (h, joins_scan source.joins (next + 1) (scan next source.first.table) tt))

from_scan : (sources : List Source) → ScansRights (from_written sources)
from_scan [] = tt
from_scan (source ∷ sources) = sources_scan sources (length (entries_in source)) (source_written 0 source) (joins_scan source.joins 1 (scan 0 source.first.table) tt)

pub clauses_scan : (query : Specification) → ScansRights (filter query.conjuncts (from_written query.sources))
clauses_scan query = from_scan query.sources

-- ---- the well placed plan

sifted_scanned : (node : Node) (clean : Bool) (above : List Condition) → IsScanned node → IsScanned (sifted clean above node)
sifted_scanned (scan entry table) clean above h = h
sifted_scanned (filter conjuncts below) clean above h = sifted_scanned below clean (moved (clean && is_quiet below) conjuncts ++ above) h
sifted_scanned (join outer left right on keys) clean above h = absurd h
sifted_scanned (project below items) clean above h = absurd h

pub sifted_scan : (node : Node) (clean : Bool) (above : List Condition) → ScansRights node → ScansRights (sifted clean above node)
sifted_scan (scan entry table) clean above h = h
sifted_scan (filter conjuncts below) clean above h = sifted_scan below clean (moved (clean && is_quiet below) conjuncts ++ above) h
sifted_scan (join true left right on keys) clean above h = (
  (λ e. sifted_scanned right (clean && is_quiet left) [] (h.0 e)),
  (sifted_scan left clean (within left above) h.1.0, sifted_scan right (clean && is_quiet left) [] h.1.1),
)
sifted_scan (join false left right on keys) clean above h =
    let down : List Condition = down_from clean left right on above in (
      (λ e. absurd (let no : false ≡ true = e in cc)),
      (sifted_scan left clean (within left down) h.1.0, sifted_scan right (clean && is_quiet left) (within right (beyond left down)) h.1.1),
    )
sifted_scan (project below items) clean above h = sifted_scan below clean above h

pub keyed_scanned : (node : Node) (clean : Bool) → IsScanned node → IsScanned (keyed clean node)
keyed_scanned (scan entry table) clean h = h
keyed_scanned (filter conjuncts below) clean h = keyed_scanned below clean h
keyed_scanned (join outer left right on keys) clean h = absurd h
keyed_scanned (project below items) clean h = absurd h
