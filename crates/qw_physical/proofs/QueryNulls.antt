-- Columns that entries of a LEFT JOIN's table keep may be null in rows: its right side has only entries whose columns rows of FROM have as such.
use Rattle.std.proofs.Common.{◌≡◌, ◌∙◌, ℕ, zero, suc, ◌+◌, ◌/◌, ◌%◌, nat_eq, Bool, true, false, ◌&&◌, ◌||◌, if◌then◌else◌, Option, Some, slice_get, List, [], ◌∷◌, ◌++◌, map, length, refl, sym, ap, subst, arith}
use Rattle.std.specs.List.{AllByRecursion, AllZip, list_any}
use Rattle.std.specs.List as list
use Rattle.std.proofs.lemmas.List.{length-map}
use Rattle.std.proofs.lemmas.Option.{same_Some}
use Rattle.qw_types.specs.declared.schema.ColumnType.{ColumnType}
use Rattle.qw_types.specs.declared.value.Val.{Val}
use Rattle.qw_scalar.specs.Expression.{Condition}
use Rattle.qw_meaning.specs.Select.{Entry, Joined, Source, Specification, entries_in, entries_in_rows, in_rows, with_nulls}
use Rattle.qw_algebra.specs.Columns.{entries_below, is_of}
use Rattle.qw_algebra.specs.Node.{Node, scan, filter, join, project}
use Rattle.qw_algebra.specs.Written.{from_written, source_written, with_joins, with_sources, written}
use Rattle.qw_algebra.proofs.Lists.{all_append}
use Rattle.qw_rewrite.specs.Probe.{keyed}
use Rattle.qw_rewrite.specs.Sift.{beyond, down_from, is_quiet, moved, sifted, within}
use Rattle.qw_rewrite.proofs.Once.{keyed_entries, sifted_entries}
use Rattle.qw_pipe.specs.Pipes as pipes
use Rattle.qw_pipe.specs.Pipes.{Lookup, Pipeline as Split, Step, make, split, test, to_table}
use Rattle.qw_physical.specs.Follows.{FollowsOperator, FollowsPipeline}
use Rattle.qw_physical.specs.Physical.{MayBeNull, Operator, Pipeline, filter as filter_by, probe}
use Rattle.qw_physical.specs.Sides.{IsOfEntries, IsPlanned, builds_of, column_in, last_of}
use Rattle.qw_physical.specs.Spelled.{all_spelled, spelled_steps}
use Rattle.qw_physical.specs.declared.pipeline.ReadColumn.{ReadColumn}
use Rattle.qw_physical.proofs.Entries.{nat_is}

-- ---- the right sides of a plan's LEFT JOINs
module _ (N : ℕ → Type 0) where
  abbrev pub OuterRights : Node → Type 0
  OuterRights (scan entry table) = Unit {0}
  OuterRights (filter conjuncts below) = OuterRights below
  OuterRights (join outer left right on keys) = (outer ≡ true → AllByRecursion N (entries_below right)) × (OuterRights left × OuterRights right)
  OuterRights (project below items) = OuterRights below

  sifted_rights : (node : Node) (clean : Bool) (above : List Condition) → OuterRights node → OuterRights (sifted clean above node)
  sifted_rights (scan entry table) clean above h = tt
  sifted_rights (filter conjuncts below) clean above h = sifted_rights below clean (moved (clean && is_quiet below) conjuncts ++ above) h
  sifted_rights (join true left right on keys) clean above h = (
    λ e. subst (AllByRecursion N) (sym (sifted_entries right (clean && is_quiet left) [])) (h.0 e),
    (sifted_rights left clean (within left above) h.1.0, sifted_rights right (clean && is_quiet left) [] h.1.1),
  )
  sifted_rights (join false left right on keys) clean above h =
      let down : List Condition = down_from clean left right on above in (
        λ e. absurd cc,
        (sifted_rights left clean (within left down) h.1.0, sifted_rights right (clean && is_quiet left) (within right (beyond left down)) h.1.1),
      )
  sifted_rights (project below items) clean above h = sifted_rights below clean above h

  keyed_rights : (node : Node) (clean : Bool) → OuterRights node → OuterRights (keyed clean node)
  keyed_rights (scan entry table) clean h = tt
  keyed_rights (filter conjuncts below) clean h = keyed_rights below clean h
  keyed_rights (join outer left right on keys) clean h = (
    λ e. subst (AllByRecursion N) (sym (keyed_entries right (clean && is_quiet left))) (h.0 e),
    (keyed_rights left clean h.1.0, keyed_rights right (clean && is_quiet left) h.1.1),
  )
  keyed_rights (project below items) clean h = keyed_rights below clean h

  -- of sources, whose entries are numbered from `next` on
  abbrev JoinsHold : (next : ℕ) → List Joined → Type 0
  JoinsHold next [] = Unit {0}
  JoinsHold next (j ∷ joins) = (j.outer ≡ true → N next) × JoinsHold (next + 1) joins

  abbrev SourcesHold : (next : ℕ) → List Source → Type 0
  SourcesHold next [] = Unit {0}
  SourcesHold next (source ∷ sources) = JoinsHold (next + 1) source.joins × SourcesHold (next + length (entries_in source)) sources

  joins_rights : (joins : List Joined) (next : ℕ) (node : Node) → OuterRights node → JoinsHold next joins → OuterRights (with_joins next node joins)
  joins_rights [] next node h g = h
  joins_rights (j ∷ joins) next node h g = joins_rights joins (next + 1) (join j.outer node (scan next j.entry.table) j.on []) ((λ e. (g.0 e, tt)), (h, tt)) g.1

  sources_rights : (sources : List Source) (next : ℕ) (node : Node) → OuterRights node → SourcesHold next sources → OuterRights (with_sources next node sources)
  sources_rights [] next node h g = h
  sources_rights (source ∷ sources) next node h g =
      sources_rights sources (next + length (entries_in source)) (join false node (source_written next source) [] [])
      ((λ e. absurd cc), (h, joins_rights source.joins (next + 1) (scan next source.first.table) tt g.0)) g.1

  from_rights : (sources : List Source) → SourcesHold 0 sources → OuterRights (from_written sources)
  from_rights [] g = tt
  from_rights (source ∷ sources) g =
      let count : 0 + length (entries_in source) ≡ length (entries_in source) = omega arith in
      sources_rights sources (length (entries_in source)) (source_written 0 source) (joins_rights source.joins (0 + 1) (scan 0 source.first.table) tt g.0) (subst (λ (n : ℕ). SourcesHold n sources) count g.1)

  -- ---- pipelines
  abbrev StepHolds : Step → Type 0
  StepHolds (test conjuncts) = Unit {0}
  StepHolds (pipes.probe table lookup) = lookup.outer ≡ true → AllByRecursion N lookup.entries
  StepHolds (make items) = Unit {0}

  abbrev Holds : Split → Type 0
  Holds p = AllByRecursion StepHolds p.steps

  last_holds : (node : Node) (next : ℕ) → OuterRights node → Holds (split next node).last
  last_holds (scan entry table) next h = tt
  last_holds (filter conjuncts below) next h = all_append StepHolds (split next below).last.steps (test conjuncts ∷ []) (last_holds below next h) (tt, tt)
  last_holds (join outer left right on keys) next h =
      let m : ℕ = next + length (split next right).builds in
      let lookup : Lookup = record { entries = entries_below right; outer = outer; on = on; keys = keys } in
      all_append StepHolds (split (m + 1) left).last.steps (pipes.probe m lookup ∷ []) (last_holds left (m + 1) h.1.0) (h.0, tt)
  last_holds (project below items) next h = all_append StepHolds (split next below).last.steps (make items ∷ []) (last_holds below next h) (tt, tt)

  builds_hold : (node : Node) (next : ℕ) → OuterRights node → AllByRecursion Holds (split next node).builds
  builds_hold (scan entry table) next h = tt
  builds_hold (filter conjuncts below) next h = builds_hold below next h
  builds_hold (join outer left right on keys) next h =
      let m : ℕ = next + length (split next right).builds in
      let lookup : Lookup = record { entries = entries_below right; outer = outer; on = on; keys = keys } in
      all_append Holds (split next right).builds (record (split next right).last { target = to_table lookup } ∷ (split (m + 1) left).builds)
      (builds_hold right next h.1.1) (last_holds right next h.1.1, builds_hold left (m + 1) h.1.0)
  builds_hold (project below items) next h = builds_hold below next h

-- ---- entries of which rows have each column as one that may be null
abbrev pub NullAt : List Entry → ℕ → Type 0
NullAt entries e = (k : ℕ) (c : ColumnType) → column_in (slice_get entries e) k ≡ Some c → c.not_null ≡ false

nulls_at : (columns : List ColumnType) (k : ℕ) (c : ColumnType) → slice_get (map with_nulls columns) k ≡ Some c → c.not_null ≡ false
nulls_at [] k c e = absurd cc
nulls_at (d ∷ columns) zero c e = sym (ap (λ (x : ColumnType). x.not_null) (same_Some (with_nulls d) c e))
nulls_at (d ∷ columns) (suc k) c e = nulls_at columns k c e

one_null : (entries : List Entry) (n : ℕ) (outer : Bool) (e : Entry) → slice_get entries n ≡ Some (in_rows outer e) → outer ≡ true → NullAt entries n
one_null entries n true e there is k c col = nulls_at e.columns k c (subst (λ (o : Option Entry). column_in o k ≡ Some c) there col)
one_null entries n false e there is k c col = absurd cc

pub none_more : (n : ℕ) → n ≡ n + 0
none_more n = omega arith

pub one_more : (n k : ℕ) → (n + 1) + k ≡ n + suc k
one_more n k = omega arith

module _ (all : List Entry) where
  joins_null : (joins : List Joined) (next : ℕ) (rest : List Entry) → ((k : ℕ) → slice_get all (next + k) ≡ slice_get (map (λ (j : Joined). in_rows j.outer j.entry) joins ++ rest) k)
      → JoinsHold (NullAt all) next joins × ((k : ℕ) → slice_get all ((next + length joins) + k) ≡ slice_get rest k)
  joins_null [] next rest at = (tt, λ k. ap (λ (n : ℕ). slice_get all (n + k)) (sym (none_more next)) ∙ at k)
  joins_null (j ∷ joins) next rest at =
      let more = joins_null joins (next + 1) rest (λ k. ap (slice_get all) (one_more next k) ∙ at (suc k)) in (
        ((λ is. one_null all next j.outer j.entry (ap (slice_get all) (none_more next) ∙ at 0) is), more.0),
        λ k. ap (λ (n : ℕ). slice_get all (n + k)) (sym (one_more next (length joins))) ∙ more.1 k,
      )

  sources_null : (sources : List Source) (next : ℕ) → ((k : ℕ) → slice_get all (next + k) ≡ slice_get (entries_in_rows sources) k) → SourcesHold (NullAt all) next sources
  sources_null [] next at = tt
  sources_null (source ∷ sources) next at =
      let own = joins_null source.joins (next + 1) (entries_in_rows sources) (λ k. ap (slice_get all) (one_more next k) ∙ at (suc k)) in
      let many : (next + 1) + length source.joins ≡ next + length (entries_in source) = counted next (length source.joins) (length (map (λ (j : Joined). j.entry) source.joins)) (length-map source.joins (λ (j : Joined). j.entry)) in
      (own.0, sources_null sources (next + length (entries_in source)) (λ k. ap (λ (n : ℕ). slice_get all (n + k)) (sym many) ∙ own.1 k))
    where
      counted : (n a b : ℕ) → b ≡ a → (n + 1) + a ≡ n + suc b
      counted n a b e = omega (arith, e)

-- ---- columns that are kept
pub entry_among : (N : ℕ → Type 0) (entries : List ℕ) (n : ℕ) → list_any (λ entry. nat_eq entry n) entries ≡ true → AllByRecursion N entries → N n
entry_among N [] n h all = absurd cc
entry_among N (m ∷ entries) n h all = one (nat_eq m n) refl h (λ g. entry_among N entries n g all.1)
  where
    one : (b : Bool) → nat_eq m n ≡ b → (b || list_any (λ entry. nat_eq entry n) entries) ≡ true → (list_any (λ entry. nat_eq entry n) entries ≡ true → N n) → N n
    one true e g later = subst N (nat_is m n e) all.0
    one false e g later = later g

module _ (all : List Entry) where
  kept_null : (entries : List ℕ) (columns : List ReadColumn) → AllByRecursion (IsOfEntries all) columns → AllByRecursion (NullAt all) entries
      → AllByRecursion (λ (c : ReadColumn). c.not_null ≡ false) (list.filter (λ (c : ReadColumn). is_of entries c.number) columns)
  kept_null entries [] there nulls = tt
  kept_null entries (c ∷ columns) there nulls = one (is_of entries c.number) refl (kept_null entries columns there.1 nulls)
    where
      rest : List ReadColumn
      rest = list.filter (λ (d : ReadColumn). is_of entries d.number) columns

      one : (b : Bool) → is_of entries c.number ≡ b → AllByRecursion (λ (d : ReadColumn). d.not_null ≡ false) rest → AllByRecursion (λ (d : ReadColumn). d.not_null ≡ false) (if b then c ∷ rest else rest)
      one true e h = (entry_among (NullAt all) entries (c.number / 64) e nulls (c.number % 64) (record { ty = c.ty; not_null = c.not_null }) there.0, h)
      one false e h = h

  steps_null : (columns : List ReadColumn) → AllByRecursion (IsOfEntries all) columns → (steps : List Step) → AllByRecursion (StepHolds (NullAt all)) steps → AllByRecursion MayBeNull (spelled_steps columns steps)
  steps_null columns there [] h = tt
  steps_null columns there (test conjuncts ∷ steps) h = (tt, steps_null columns there steps h.1)
  steps_null columns there (pipes.probe table lookup ∷ steps) h = ((λ is. kept_null lookup.entries columns there (h.0 is)), steps_null columns there steps h.1)
  steps_null columns there (make items ∷ steps) h = steps_null columns there steps h.1

  all_null : (columns : List ReadColumn) → AllByRecursion (IsOfEntries all) columns → (ps : List Split) (next : ℕ) → AllByRecursion (Holds (NullAt all)) ps
      → AllByRecursion (λ (p : Pipeline). AllByRecursion MayBeNull p.operators) (all_spelled columns next ps)
  all_null columns there [] next h = tt
  all_null columns there (p ∷ ps) next h = (steps_null columns there p.steps h.0, all_null columns there ps (next + 1) h.1)

-- ---- a query
module _ (query : Specification) (tables : List (List (List Val))) (columns : List ReadColumn) (node : Node) (planned : IsPlanned query tables columns node) where
  abbrev pub all_entries : List Entry
  all_entries = entries_in_rows query.sources

  pub rights : OuterRights (NullAt all_entries) node
  rights =
      subst (OuterRights (NullAt all_entries)) (sym planned.placed)
      (keyed_rights (NullAt all_entries) (sifted true [] (written query)) true
      (sifted_rights (NullAt all_entries) (written query) true []
      (from_rights (NullAt all_entries) query.sources (sources_null all_entries query.sources 0 (λ k. ap (slice_get all_entries) (from_none k))))))
    where
      from_none : (k : ℕ) → 0 + k ≡ k
      from_none k = omega arith

  pub query_builds_nulls : AllByRecursion (λ (p : Pipeline). AllByRecursion MayBeNull p.operators) (builds_of columns node)
  query_builds_nulls = all_null all_entries columns planned.there (split 0 node).builds 0 (builds_hold (NullAt all_entries) node 0 rights)

  pub query_last_nulls : AllByRecursion MayBeNull (last_of columns node).operators
  query_last_nulls = steps_null all_entries columns planned.there (split 0 node).last.steps (last_holds (NullAt all_entries) node 0 rights)

-- ---- what follows keeps the same
operators_follow : (os rs : List Operator) → AllZip FollowsOperator os rs → AllByRecursion MayBeNull os → AllByRecursion MayBeNull rs
operators_follow [] [] z h = tt
operators_follow [] (r ∷ rs) z h = absurd z
operators_follow (o ∷ os) [] z h = absurd z
operators_follow (filter_by cs ∷ os) (filter_by ds ∷ rs) z h = (tt, operators_follow os rs z.1 h.1)
operators_follow (filter_by cs ∷ os) (probe q ∷ rs) z h = absurd z.0
operators_follow (probe p ∷ os) (filter_by ds ∷ rs) z h = absurd z.0
operators_follow (probe p ∷ os) (probe q ∷ rs) z h =
    ((λ is. subst (λ (l : List ReadColumn). AllByRecursion (λ (c : ReadColumn). c.not_null ≡ false) l) z.0.kept (h.0 (z.0.outer ∙ is))), operators_follow os rs z.1 h.1)

pub nulls_follow : (p q : Pipeline) → FollowsPipeline p q → AllByRecursion MayBeNull p.operators → AllByRecursion MayBeNull q.operators
nulls_follow p q z h = operators_follow p.operators q.operators z.operators h
