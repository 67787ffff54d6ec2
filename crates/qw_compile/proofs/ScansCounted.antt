-- How many pipelines and tables a query has: a pipeline for each entry of FROM, of which all but one build a table.
use Rattle.std.proofs.Common.{◌≡◌, ◌∙◌, ◌≤◌, ℕ, suc, ◌+◌, false, List, [], ◌∷◌, ◌++◌, length, length-append, map, refl, ap, arith}
use Rattle.qw_meaning.specs.Select.{IsSpecification, Joined, Source, Specification, entries_in, entries_of}
use Rattle.qw_algebra.specs.Columns.{entries_below}
use Rattle.qw_algebra.specs.Node.{Node, scan, filter, join, project}
use Rattle.qw_algebra.specs.Written.{from_written, source_written, with_joins, with_sources, written}
use Rattle.qw_rewrite.specs.Placed.{IsWellPlaced}
use Rattle.qw_rewrite.proofs.Once.{all_entries}
use Rattle.qw_pipe.specs.Octets.{table_count}
use Rattle.qw_pipe.specs.Pipes.{Lookup, pipelines, split, to_table}

-- one table less than there are scans
tables_less : (node : Node) → suc (table_count node) ≡ length (entries_below node)
tables_less (scan entry table) = refl
tables_less (filter conjuncts below) = tables_less below
tables_less (join outer left right on keys) =
    let first = tables_less right in
    let second = tables_less left in
    let scans = length-append (entries_below left) (entries_below right) in
    omega (arith, first, second, scans)
tables_less (project below items) = tables_less below

builds_less : (node : Node) (next : ℕ) → suc (length (split next node).builds) ≡ length (entries_below node)
builds_less (scan entry table) next = refl
builds_less (filter conjuncts below) next = builds_less below next
builds_less (join outer left right on keys) next =
    let m : ℕ = next + length (split next right).builds in
    let lookup : Lookup = record { entries = entries_below right; outer = outer; on = on; keys = keys } in
    let first = builds_less right next in
    let second = builds_less left (m + 1) in
    let both = length-append (split next right).builds (record (split next right).last { target = to_table lookup } ∷ (split (m + 1) left).builds) in
    let scans = length-append (entries_below left) (entries_below right) in
    omega (arith, first, second, both, scans)
builds_less (project below items) next = builds_less below next

joins_scan : (joins : List Joined) (next : ℕ) (node : Node) → length (entries_below (with_joins next node joins)) ≡ length (entries_below node) + length (map (λ (j : Joined). j.entry) joins)
joins_scan [] next node = omega arith
joins_scan (j ∷ joins) next node =
    let rest = joins_scan joins (next + 1) (join j.outer node (scan next j.entry.table) j.on []) in
    let one : length (entries_below node ++ next ∷ []) ≡ length (entries_below node) + 1 = length-append (entries_below node) (next ∷ []) in
    omega (arith, rest, one)

source_scans : (source : Source) (next : ℕ) → length (entries_below (source_written next source)) ≡ length (entries_in source)
source_scans source next = let rest = joins_scan source.joins (next + 1) (scan next source.first.table) in omega (arith, rest)

sources_scan : (sources : List Source) (next : ℕ) (node : Node) → length (entries_below (with_sources next node sources)) ≡ length (entries_below node) + length (entries_of sources)
sources_scan [] next node = omega arith
sources_scan (source ∷ sources) next node =
    let rest = sources_scan sources (next + length (entries_in source)) (join false node (source_written next source) [] []) in
    let one = length-append (entries_below node) (entries_below (source_written next source)) in
    let own = source_scans source next in
    let all : length (entries_of (source ∷ sources)) ≡ length (entries_in source) + length (entries_of sources) = length-append (entries_in source) (entries_of sources) in
    omega (arith, rest, one, own, all)

from_scans : (sources : List Source) → 1 ≤ length sources → length (entries_below (from_written sources)) ≡ length (entries_of sources)
from_scans [] some = absurd (omega (arith, some))
from_scans (source ∷ sources) some =
    let rest = sources_scan sources (length (entries_in source)) (source_written 0 source) in
    let own = source_scans source 0 in
    let all : length (entries_of (source ∷ sources)) ≡ length (entries_in source) + length (entries_of sources) = length-append (entries_in source) (entries_of sources) in
    omega (arith, rest, own, all)

module _ (query : Specification) (node : Node) (whole : IsSpecification query) (placed : IsWellPlaced query node) where
  scans : length (entries_below node) ≡ length (entries_of query.sources)
  scans = ap (λ (l : List ℕ). length l) (all_entries (written query) node placed) ∙ from_scans query.sources whole.some_source

  pub tables_counted : suc (table_count node) ≡ length (entries_of query.sources)
  tables_counted = tables_less node ∙ scans

  pub pipelines_counted : length (pipelines node) ≡ length (entries_of query.sources)
  pipelines_counted =
      let builds = builds_less node 0 in
      let all = length-append (split 0 node).builds ((split 0 node).last ∷ []) in
      omega (arith, builds, all, scans)
