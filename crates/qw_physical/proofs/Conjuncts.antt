-- What holds of every conjunct of a query holds of every conjunct of its well placed plan, and what a specification says of those of ON.
use Rattle.std.proofs.Common.{ℕ, ◌+◌, Bool, true, false, not, ◌&&◌, List, [], ◌∷◌, ◌++◌, length}
use Rattle.std.specs.List.{AllByRecursion, flat_map}
use Rattle.qw_scalar.specs.Expression.{Condition}
use Rattle.qw_scalar.proofs.ColumnLemmas.{conditions_more}
use Rattle.qw_meaning.specs.Select.{AreJoinsOver, AreSourcesOver, Entry, IsColumnOf, IsConditionOver, IsReached, Joined, Source, Specification, conjuncts_on, entries_in}
use Rattle.qw_algebra.specs.Columns.{condition_names_only, owns}
use Rattle.qw_algebra.specs.Node.{Node, scan, filter, join, project}
use Rattle.qw_algebra.specs.Written.{from_written, source_written, with_joins, with_sources}
use Rattle.qw_leaves.proofs.LeafLists.{all_back, all_front}
use Rattle.qw_algebra.proofs.Lists.{all_append, all_more}
use Rattle.qw_rewrite.specs.Probe.{keyed}
use Rattle.qw_rewrite.specs.Sift.{beyond, is_clean_on, is_quiet, moved, sifted, stayed, within}
use Rattle.qw_rewrite.proofs.Moved.{moved_all, stayed_all}
use Rattle.qw_rewrite.proofs.Stages.{all_filtered}

-- something holds of each conjunct of a plan below its select list
abbrev pub AllConjuncts : (Condition → Type 0) → Node → Type 0
AllConjuncts P (scan entry table) = Unit {0}
AllConjuncts P (filter conjuncts below) = AllByRecursion P conjuncts × AllConjuncts P below
AllConjuncts P (join outer left right on keys) = AllByRecursion P on × (AllConjuncts P left × AllConjuncts P right)
AllConjuncts P (project below items) = ⊥

module _ (P : Condition → Type 0) where
  pub sifted_all : (node : Node) (clean : Bool) (above : List Condition) → AllByRecursion P above → AllConjuncts P node → AllConjuncts P (sifted clean above node)
  sifted_all (scan entry table) clean above ha h = (ha, tt)
  sifted_all (filter conjuncts below) clean above ha h =
      let own : Bool = clean && is_quiet below in (
        stayed_all P own conjuncts h.0,
        sifted_all below clean (moved own conjuncts ++ above) (all_append P (moved own conjuncts) above (moved_all P own conjuncts h.0) ha) h.1,
      )
  sifted_all (join true left right on keys) clean above ha h = (
    all_filtered P (λ c. not (condition_names_only (owns left) c)) above ha,
    (
      h.0,
      (
        sifted_all left clean (within left above) (all_filtered P (condition_names_only (owns left)) above ha) h.1.0,
        sifted_all right (clean && is_quiet left) [] tt h.1.1,
      ),
    ),
  )
  sifted_all (join false left right on keys) clean above ha h =
      let own : Bool = is_clean_on clean left right in
      let down : List Condition = moved own on ++ above in
      let hd : AllByRecursion P down = all_append P (moved own on) above (moved_all P own on h.0) ha in
      let rest : AllByRecursion P (beyond left down) = all_filtered P (λ c. not (condition_names_only (owns left) c)) down hd in (
        all_append P (beyond right (beyond left down)) (stayed own on) (all_filtered P (λ c. not (condition_names_only (owns right) c)) (beyond left down) rest) (stayed_all P own on h.0),
        (
          sifted_all left clean (within left down) (all_filtered P (condition_names_only (owns left)) down hd) h.1.0,
          sifted_all right (clean && is_quiet left) (within right (beyond left down)) (all_filtered P (condition_names_only (owns right)) (beyond left down) rest) h.1.1,
        ),
      )
  sifted_all (project below items) clean above ha h = h

  keyed_all : (node : Node) (clean : Bool) → AllConjuncts P node → AllConjuncts P (keyed clean node)
  keyed_all (scan entry table) clean h = tt
  keyed_all (filter conjuncts below) clean h = (h.0, keyed_all below clean h.1)
  keyed_all (join outer left right on keys) clean h = (h.0, (keyed_all left clean h.1.0, keyed_all right (clean && is_quiet left) h.1.1))
  keyed_all (project below items) clean h = h

  joins_all : (joins : List Joined) (next : ℕ) (node : Node) → AllConjuncts P node → AllByRecursion P (flat_map (λ (j : Joined). j.on) joins) → AllConjuncts P (with_joins next node joins)
  joins_all [] next node h g = h
  joins_all (j ∷ joins) next node h g =
      let on = flat_map (λ (i : Joined). i.on) joins in
      joins_all joins (next + 1) (join j.outer node (scan next j.entry.table) j.on []) (all_front P j.on on g, (h, tt)) (all_back P j.on on g)

  sources_all : (sources : List Source) (next : ℕ) (node : Node) → AllConjuncts P node → AllByRecursion P (conjuncts_on sources) → AllConjuncts P (with_sources next node sources)
  sources_all [] next node h g = h
  sources_all (source ∷ sources) next node h g =
      let on = flat_map (λ (j : Joined). j.on) source.joins in
      sources_all sources (next + length (entries_in source)) (join false node (source_written next source) [] [])
      (tt, (h, joins_all source.joins (next + 1) (scan next source.first.table) tt (all_front P on (conjuncts_on sources) g))) (all_back P on (conjuncts_on sources) g)

  from_all : (sources : List Source) → AllByRecursion P (conjuncts_on sources) → AllConjuncts P (from_written sources)
  from_all [] g = tt
  from_all (source ∷ sources) g =
      let on = flat_map (λ (j : Joined). j.on) source.joins in
      sources_all sources (length (entries_in source)) (source_written 0 source) (joins_all source.joins 1 (scan 0 source.first.table) tt (all_front P on (conjuncts_on sources) g)) (all_back P on (conjuncts_on sources) g)

  -- a query's, before and after it is placed well
  pub clauses_all : (query : Specification) → AllByRecursion P (conjuncts_on query.sources ++ query.conjuncts) → AllConjuncts P (filter query.conjuncts (from_written query.sources))
  clauses_all query h = (all_back P (conjuncts_on query.sources) query.conjuncts h, from_all query.sources (all_front P (conjuncts_on query.sources) query.conjuncts h))

  pub placed_all : (query : Specification) → AllByRecursion P (conjuncts_on query.sources ++ query.conjuncts) → AllConjuncts P (keyed true (sifted true [] (filter query.conjuncts (from_written query.sources))))
  placed_all query h =
      let from : Node = filter query.conjuncts (from_written query.sources) in
      keyed_all (sifted true [] from) true (sifted_all from true [] tt (clauses_all query h))

-- each ON is over columns of the entries
joins_over : (entries : List Entry) (first next : ℕ) (joins : List Joined) → AreJoinsOver entries first next joins
    → AllByRecursion (IsConditionOver (IsColumnOf entries)) (flat_map (λ (j : Joined). j.on) joins)
joins_over entries first next [] h = tt
joins_over entries first next (j ∷ joins) h =
    all_append (IsConditionOver (IsColumnOf entries)) j.on (flat_map (λ (i : Joined). i.on) joins)
    (all_more (IsConditionOver (IsReached entries first (next + 1))) (IsConditionOver (IsColumnOf entries)) j.on
    (λ c t. (t.0, conditions_more (IsReached entries first (next + 1)) (IsColumnOf entries) (λ i ty r. r.0) c t.1)) h.0)
    (joins_over entries first (next + 1) joins h.1)

pub sources_over : (entries : List Entry) (first : ℕ) (sources : List Source) → AreSourcesOver entries first sources → AllByRecursion (IsConditionOver (IsColumnOf entries)) (conjuncts_on sources)
sources_over entries first [] h = tt
sources_over entries first (source ∷ sources) h =
    all_append (IsConditionOver (IsColumnOf entries)) (flat_map (λ (j : Joined). j.on) source.joins) (conjuncts_on sources)
    (joins_over entries first (first + 1) source.joins h.0) (sources_over entries (first + length (entries_in source)) sources h.1)
