-- Each expression of a query's pipelines, and of those that follow them, names only columns of the entry that is scanned, and those that lookups keep.
use Rattle.std.proofs.Common.{◌≡◌, ◌∙◌, ◌⊎◌, ◌≤◌, ◌<◌, ℕ, zero, suc, ◌+◌, ◌/◌, ◌%◌, nat_eq, Bool, true, false, ◌||◌, Some, slice_get, List, [], ◌∷◌, ◌++◌, length, map, inl, inr, refl, sym, ap, subst, length-append, arith}
use Rattle.std.specs.List.{AllByRecursion, AllZip}
use Rattle.std.proofs.lemmas.Bool.Decides.{nat_tests}
use Rattle.qw_types.specs.declared.value.Ty.{Ty}
use Rattle.qw_types.specs.declared.value.Val.{Val}
use Rattle.qw_scalar.specs.Expression.{Expression, Condition}
use Rattle.qw_scalar.proofs.ColumnLemmas.{columns_more}
use Rattle.qw_meaning.specs.Select.{Entry, IsColumnOf, IsItemOver, Joined, Source, Specification, conjuncts_on, entries_in, entries_of, type_in}
use Rattle.qw_algebra.specs.Columns.{is_of, owns}
use Rattle.qw_algebra.specs.Node.{Node, scan, filter, join, project}
use Rattle.qw_algebra.specs.Written.{from_written, source_written, with_joins, with_sources}
use Rattle.qw_rewrite.specs.Lowest.{NamesBelow}
use Rattle.qw_rewrite.specs.Sift.{sifted}
use Rattle.qw_rewrite.proofs.Below.{placed_below}
use Rattle.qw_rewrite.proofs.Once.{keyed_entries, sifted_entries}
use Rattle.qw_rewrite.proofs.Sifting.{owns_join}
use Rattle.qw_pipe.specs.Pipes.{split}
use Rattle.qw_physical.specs.Courses.{column_of, sink_values}
use Rattle.qw_physical.specs.Follows.{FollowsOperator, FollowsPipeline, FollowsSink}
use Rattle.qw_physical.specs.Named.{typed_numbers}
use Rattle.qw_physical.specs.Physical.{Operator, Pipeline, Sink, build, filter as filter_by, probe, select}
use Rattle.qw_physical.specs.Sides.{IsPlanned, builds_of, last_of}
use Rattle.qw_physical.specs.declared.pipeline.ReadColumn.{ReadColumn}
use Rattle.qw_leaves.proofs.LeafLemmas.{columns_both}
use Rattle.qw_leaves.proofs.LeafLists.{all_back, all_front, all_joined}
use Rattle.qw_physical.proofs.Outcomes.{below, last_is, ready_below}
use Rattle.qw_physical.proofs.Conjuncts.{AllConjuncts, placed_all}
use Rattle.qw_physical.proofs.PlanSeen.{builds_see, last_sees}
use Rattle.qw_physical.proofs.Shown.{IsAmong, IsSeen, Sees, Shows, ShowsIn, among_owned, of_entry, owned}
use Rattle.qw_physical.proofs.Typing.{tests_columns, values_columns}
use Rattle.qw_physical.proofs.EntryRows.{or_true}

-- ---- the entries of FROM are those of the plan

-- all columns of the entries from number `low` on and before number `high`
abbrev Covers : ℕ → ℕ → Node → Type 0
Covers low high node = (i : ℕ) → low ≤ i / 64 → i / 64 < high → owns node i ≡ true

nat_same : (a b : ℕ) → a ≡ b → nat_eq a b ≡ true
nat_same a b h = grind (arith, nat_tests)

or_left : (a b : Bool) → a ≡ true → (a || b) ≡ true
or_left true b h = refl
or_left false b h = absurd cc

scan_covers : (next table : ℕ) → Covers next (next + 1) (scan next table)
scan_covers next table i h g = or_left (nat_eq next (i / 64)) false (nat_same next (i / 64) (omega (arith, h, g)))

join_covers : (outer : Bool) (left right : Node) (on : List Condition) (keys : List ℕ) (low mid high : ℕ) → Covers low mid left → Covers mid high right → Covers low high (join outer left right on keys)
join_covers outer left right on keys low mid high hl hr i h g = owns_join outer left right on keys i ∙ one (sides (i / 64) mid)
  where
    sides : (a b : ℕ) → (a < b) ⊎ (b ≤ a)
    sides a b = grind arith

    one : (i / 64 < mid) ⊎ (mid ≤ i / 64) → (owns left i || owns right i) ≡ true
    one (inl before) = or_left (owns left i) (owns right i) (hl i h before)
    one (inr later) = or_true (owns left i) (owns right i) (hr i later g)

joins_cover : (joins : List Joined) (first next : ℕ) (node : Node) → Covers first next node → Covers first (next + length (map (λ (j : Joined). j.entry) joins)) (with_joins next node joins)
joins_cover [] first next node covers =
    let count : next ≡ next + 0 = omega arith in
    subst (λ (n : ℕ). Covers first n node) count covers
joins_cover (j ∷ joins) first next node covers =
    let new : Node = join j.outer node (scan next j.entry.table) j.on [] in
    let rest = joins_cover joins first (next + 1) new (join_covers j.outer node (scan next j.entry.table) j.on [] first next (next + 1) covers (scan_covers next j.entry.table)) in
    let count : (next + 1) + length (map (λ (i : Joined). i.entry) joins) ≡ next + suc (length (map (λ (i : Joined). i.entry) joins)) = omega arith in
    subst (λ (n : ℕ). Covers first n (with_joins (next + 1) new joins)) count rest

source_covers : (source : Source) (next : ℕ) → Covers next (next + length (entries_in source)) (source_written next source)
source_covers source next =
    let rest = joins_cover source.joins next (next + 1) (scan next source.first.table) (scan_covers next source.first.table) in
    let count : (next + 1) + length (map (λ (i : Joined). i.entry) source.joins) ≡ next + length (entries_in source) = omega arith in
    subst (λ (n : ℕ). Covers next n (source_written next source)) count rest

counted : (next a b c : ℕ) → c ≡ a + b → (next + a) + b ≡ next + c
counted next a b c h = omega (arith, h)

sources_cover : (sources : List Source) (next : ℕ) (node : Node) → Covers 0 next node → Covers 0 (next + length (entries_of sources)) (with_sources next node sources)
sources_cover [] next node covers =
    let count : next ≡ next + 0 = omega arith in
    subst (λ (n : ℕ). Covers 0 n node) count covers
sources_cover (source ∷ sources) next node covers =
    let high : ℕ = next + length (entries_in source) in
    let new : Node = join false node (source_written next source) [] [] in
    let rest = sources_cover sources high new (join_covers false node (source_written next source) [] [] 0 next high covers (source_covers source next)) in
    let count : high + length (entries_of sources) ≡ next + length (entries_of (source ∷ sources)) =
    counted next (length (entries_in source)) (length (entries_of sources)) (length (entries_of (source ∷ sources))) (length-append (entries_in source) (entries_of sources)) in
    subst (λ (n : ℕ). Covers 0 n (with_sources high new sources)) count rest

from_covers : (sources : List Source) → 1 ≤ length sources → Covers 0 (length (entries_of sources)) (from_written sources)
from_covers [] some = absurd (omega arith)
from_covers (source ∷ sources) some =
    let here : 0 + length (entries_in source) ≡ length (entries_in source) = omega arith in
    let rest = sources_cover sources (length (entries_in source)) (source_written 0 source) (subst (λ (n : ℕ). Covers 0 n (source_written 0 source)) here (source_covers source 0)) in
    subst (λ (n : ℕ). Covers 0 n (from_written (source ∷ sources))) (sym (length-append (entries_in source) (entries_of sources))) rest

entry_there : (entries : List Entry) (k j : ℕ) (ty : Ty) → type_in (slice_get entries k) j ≡ Some ty → k < length entries
entry_there [] k j ty h = absurd cc
entry_there (entry ∷ entries) zero j ty h = omega arith
entry_there (entry ∷ entries) (suc k) j ty h = let rest : k < length entries = entry_there entries k j ty h in omega (arith, rest)

-- ---- what is spelled out

module _ (query : Specification) (tables : List (List (List Val))) (columns : List ReadColumn) (node : Node) (planned : IsPlanned query tables columns node)
    (on : AllByRecursion (ShowsIn columns) (conjuncts_on query.sources)) (conjuncts : AllByRecursion (ShowsIn columns) query.conjuncts) (items : AllByRecursion (Shows columns) query.items) where
  abbrev plan : Node
  plan = below query tables columns planned.specification planned.loaded planned.sized planned.read planned.scaled

  plan_shown : AllConjuncts (ShowsIn columns) plan
  plan_shown = placed_all (ShowsIn columns) query (all_joined (ShowsIn columns) (conjuncts_on query.sources) query.conjuncts on conjuncts)

  plan_names : NamesBelow plan
  plan_names = placed_below query (project plan query.items) planned.specification refl

  plan_owns : (i : ℕ) (ty : Ty) → IsColumnOf (entries_of query.sources) i ty → owns plan i ≡ true
  plan_owns i ty h =
      ap (λ (es : List ℕ). is_of es i) (keyed_entries (sifted true [] (filter query.conjuncts (from_written query.sources))) true ∙ sifted_entries (filter query.conjuncts (from_written query.sources)) true [])
      ∙ from_covers query.sources planned.specification.some_source i (omega arith) (entry_there (entries_of query.sources) (i / 64) (i % 64) ty h)

  items_shown : (es : List Expression) → AllByRecursion (IsItemOver (IsColumnOf (entries_of query.sources))) es → AllByRecursion (Shows columns) es → AllByRecursion (Shows (owned (owns plan) columns)) es
  items_shown [] over shows = tt
  items_shown (e ∷ es) over shows = (
    columns_more (λ i ty. IsColumnOf (entries_of query.sources) i ty × IsAmong (typed_numbers columns) i ty) (IsAmong (typed_numbers (owned (owns plan) columns)))
        (λ i ty h. among_owned (owns plan) columns i ty (plan_owns i ty h.0) h.1) e
        (columns_both (IsColumnOf (entries_of query.sources)) (IsAmong (typed_numbers columns)) e over.0.1 shows.0),
    items_shown es over.1 shows.1,
  )

  pub builds_seen : AllByRecursion (IsSeen columns) (builds_of columns node)
  builds_seen =
      subst (λ (n : Node). AllByRecursion (IsSeen columns) (builds_of columns n)) (sym planned.placed)
      (builds_see (entries_of query.sources) tables columns planned.sized plan 0
      (ready_below query tables columns planned.specification planned.loaded planned.sized planned.read planned.scaled) plan_names plan_shown)

  pub last_seen : IsSeen columns (last_of columns node)
  last_seen =
      subst (λ (n : Node). IsSeen columns (last_of columns n)) (sym planned.placed)
      (subst (IsSeen columns) (sym (last_is query tables columns planned.specification planned.loaded planned.sized planned.read planned.scaled (length (split 0 plan).builds)))
      (last_sees (entries_of query.sources) tables columns planned.sized plan 0 query.items
      (ready_below query tables columns planned.specification planned.loaded planned.sized planned.read planned.scaled) plan_names plan_shown
      (items_shown query.items planned.specification.items items)))

-- ---- what follows it

sink_follows : (s t : Sink) → FollowsSink s t → (seen : List ReadColumn) → AllByRecursion (Shows seen) (sink_values s) → AllByRecursion (Shows seen) (sink_values t)
sink_follows (build b) (build c) z seen h =
    all_joined (Shows seen) c.key (map column_of c.kept)
    (values_columns (IsAmong (typed_numbers seen)) b.key c.key z.key (all_front (Shows seen) b.key (map column_of b.kept) h))
    (subst (λ (k : List ReadColumn). AllByRecursion (Shows seen) (map column_of k)) z.kept (all_back (Shows seen) b.key (map column_of b.kept) h))
sink_follows (build b) (select others) z seen h = absurd z
sink_follows (select items) (build c) z seen h = absurd z
sink_follows (select items) (select others) z seen h = values_columns (IsAmong (typed_numbers seen)) items others z h

sees_follow : (os rs : List Operator) (vs ws : List Expression) (seen : List ReadColumn) → AllZip FollowsOperator os rs
    → ((more : List ReadColumn) → AllByRecursion (Shows more) vs → AllByRecursion (Shows more) ws) → Sees seen os vs → Sees seen rs ws
sees_follow [] [] vs ws seen z f h = f seen h
sees_follow [] (r ∷ rs) vs ws seen z f h = absurd z
sees_follow (o ∷ os) [] vs ws seen z f h = absurd z
sees_follow (filter_by cs ∷ os) (filter_by ds ∷ rs) vs ws seen z f h = (tests_columns (IsAmong (typed_numbers seen)) cs ds z.0 h.0, sees_follow os rs vs ws seen z.1 f h.1)
sees_follow (filter_by cs ∷ os) (probe q ∷ rs) vs ws seen z f h = absurd z.0
sees_follow (probe p ∷ os) (filter_by ds ∷ rs) vs ws seen z f h = absurd z.0
sees_follow (probe p ∷ os) (probe q ∷ rs) vs ws seen z f h = (
  values_columns (IsAmong (typed_numbers seen)) p.key q.key z.0.key h.0,
  subst (λ (k : List ReadColumn). AllByRecursion (ShowsIn (k ++ seen)) q.on × Sees (k ++ seen) rs ws) z.0.kept
      (tests_columns (IsAmong (typed_numbers (p.kept ++ seen))) p.on q.on z.0.on h.1.0, sees_follow os rs vs ws (p.kept ++ seen) z.1 f h.1.1),
)

pub seen_follows : (columns : List ReadColumn) (p q : Pipeline) → FollowsPipeline p q → IsSeen columns p → IsSeen columns q
seen_follows columns p q z h =
    subst (λ (e : ℕ). Sees (of_entry e columns) q.operators (sink_values q.sink)) z.entry
    (sees_follow p.operators q.operators (sink_values p.sink) (sink_values q.sink) (of_entry p.entry columns) z.operators (λ more g. sink_follows p.sink q.sink z.sink more g) h)
