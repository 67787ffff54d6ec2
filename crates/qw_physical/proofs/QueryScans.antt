-- Each pipeline of a query scans an entry of FROM, and its table.
use Rattle.std.proofs.Common.{◌≡◌, ◌∙◌, ℕ, suc, ◌+◌, true, Some, slice_get, List, [], ◌∷◌, length, refl, sym, ap, subst, arith}
use Rattle.std.specs.List.{AllByRecursion}
use Rattle.qw_types.specs.declared.value.Val.{Val}
use Rattle.qw_meaning.specs.Select.{Entry, Specification, entries_of}
use Rattle.qw_algebra.specs.Columns.{entries_below}
use Rattle.qw_algebra.specs.Node.{Node, scan, filter, join, project}
use Rattle.qw_algebra.specs.Written.{written}
use Rattle.qw_algebra.proofs.Lists.{all_append}
use Rattle.qw_rewrite.specs.Sift.{sifted}
use Rattle.qw_pipe.specs.Pipes as pipes
use Rattle.qw_pipe.specs.Pipes.{split, to_table}
use Rattle.qw_physical.specs.Follows.{FollowsPipeline}
use Rattle.qw_physical.specs.Physical.{Pipeline}
use Rattle.qw_physical.specs.Sides.{IsPlanned, builds_of, last_of}
use Rattle.qw_physical.specs.Spelled.{all_spelled}
use Rattle.qw_physical.specs.declared.pipeline.ReadColumn.{ReadColumn}
use Rattle.qw_physical.proofs.Declared.{AllScans, Hold, from_scans, keyed_scans, sifted_scans}
use Rattle.qw_physical.proofs.QueryNulls.{none_more, one_more}

-- the table is that of an entry
pub record IsScanOf (entries : List Entry) (entry table : ℕ) : Type 0 where
  pub one : Entry
  pub stands : slice_get entries entry ≡ Some one
  pub table_is : table ≡ one.table

abbrev pub ScansOne : List Entry → Pipeline → Type 0
ScansOne entries p = IsScanOf entries p.entry p.table

hold_each : (all es : List Entry) (next : ℕ) → ((k : ℕ) → slice_get all (next + k) ≡ slice_get es k) → Hold (IsScanOf all) next es
hold_each all [] next at = tt
hold_each all (e ∷ es) next at = (
  record { one = e; stands = ap (slice_get all) (none_more next) ∙ at 0; table_is = refl },
  hold_each all es (next + 1) (λ k. ap (slice_get all) (one_more next k) ∙ at (suc k)),
)

module _ (P : ℕ → ℕ → Type 0) where
  last_scans : (node : Node) (next : ℕ) → AllScans P node → P (split next node).last.entry (split next node).last.table
  last_scans (scan entry table) next h = h
  last_scans (filter conjuncts below) next h = last_scans below next h
  last_scans (join outer left right on keys) next h = last_scans left (next + length (split next right).builds + 1) h.0
  last_scans (project below items) next h = last_scans below next h

  builds_scan : (node : Node) (next : ℕ) → AllScans P node → AllByRecursion (λ (p : pipes.Pipeline). P p.entry p.table) (split next node).builds
  builds_scan (scan entry table) next h = tt
  builds_scan (filter conjuncts below) next h = builds_scan below next h
  builds_scan (join outer left right on keys) next h =
      let m : ℕ = next + length (split next right).builds in
      all_append (λ (p : pipes.Pipeline). P p.entry p.table) (split next right).builds
      (record (split next right).last { target = to_table (record { entries = entries_below right; outer = outer; on = on; keys = keys }) } ∷ (split (m + 1) left).builds)
      (builds_scan right next h.1) (last_scans right next h.1, builds_scan left (m + 1) h.0)
  builds_scan (project below items) next h = builds_scan below next h

  spelled_scan : (columns : List ReadColumn) (ps : List pipes.Pipeline) (next : ℕ) → AllByRecursion (λ (p : pipes.Pipeline). P p.entry p.table) ps → AllByRecursion (λ (p : Pipeline). P p.entry p.table) (all_spelled columns next ps)
  spelled_scan columns [] next h = tt
  spelled_scan columns (p ∷ ps) next h = (h.0, spelled_scan columns ps (next + 1) h.1)

module _ (query : Specification) (tables : List (List (List Val))) (columns : List ReadColumn) (node : Node) (planned : IsPlanned query tables columns node) where
  plan_scans : AllScans (IsScanOf (entries_of query.sources)) node
  plan_scans =
      let P : ℕ → ℕ → Type 0 = IsScanOf (entries_of query.sources) in
      subst (AllScans P) (sym planned.placed)
      (keyed_scans P (sifted true [] (written query)) true (sifted_scans P (written query) true []
      (from_scans P query.sources planned.specification.some_source (hold_each (entries_of query.sources) (entries_of query.sources) 0 (λ k. ap (slice_get (entries_of query.sources)) (from_none k))))))
    where
      from_none : (k : ℕ) → 0 + k ≡ k
      from_none k = omega arith

  pub query_builds_scan : AllByRecursion (ScansOne (entries_of query.sources)) (builds_of columns node)
  query_builds_scan = spelled_scan (IsScanOf (entries_of query.sources)) columns (split 0 node).builds 0 (builds_scan (IsScanOf (entries_of query.sources)) node 0 plan_scans)

  pub query_last_scans : ScansOne (entries_of query.sources) (last_of columns node)
  query_last_scans = last_scans (IsScanOf (entries_of query.sources)) node 0 plan_scans

pub scans_follow : (entries : List Entry) (p q : Pipeline) → FollowsPipeline p q → ScansOne entries p → ScansOne entries q
scans_follow entries p q z h = subst (λ (e : ℕ). IsScanOf entries e q.table) z.entry (subst (λ (t : ℕ). IsScanOf entries p.entry t) z.table h)
