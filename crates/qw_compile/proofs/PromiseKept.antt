-- The pipelines that are made of a query keep what is promised of it: they feed its rows, raise what its outcome tells, and stay within its units
-- and pages.
use Rattle.std.proofs.Common.{◌≡◌, ◌∙◌, ◌≤◌, ◌<◌, ℕ, ◌+◌, ◌-◌, ◌*◌, ◌/◌, max, true, Option, List, [], ◌∷◌, ◌++◌, length, length-append, map, refl, sym, ap, ap₂, subst, arith}
use Rattle.std.specs.List.{AllByRecursion, AllZip}
use Rattle.std.specs.declared.cmp.Ordering.TheVariants as ordering
use Rattle.qw_types.specs.ValueOrder.{is_same_row, value_order}
use Rattle.qw_types.specs.declared.kind.Kind.{Kind}
use Rattle.qw_types.specs.declared.value.Val.{Val}
use Rattle.qw_linear.specs.Memory.{page}
use Rattle.qw_scalar.specs.Expression.{Expression}
use Rattle.qw_scalar.specs.Same.{IsSame}
use Rattle.qw_scalar.specs.Typing.{kind_of}
use Rattle.qw_meaning.specs.Outcome.{IsSameOutcome, Rows, outcome}
use Rattle.qw_meaning.specs.Query.{QueryParts, query_of}
use Rattle.qw_meaning.specs.Select.{AreOfEntries, Specification, entries_of}
use Rattle.qw_algebra.specs.Node.{Node, filter, node_flow}
use Rattle.qw_algebra.specs.Written.{from_written}
use Rattle.qw_rewrite.specs.Probe.{keyed}
use Rattle.qw_rewrite.specs.Sift.{sifted}
use Rattle.qw_pipe.specs.Octets.{greatest_entry, table_count, table_octets}
use Rattle.qw_pipe.specs.Pipes.{pipelines, split}
use Rattle.qw_map.specs.Layout.{row_size}
use Rattle.qw_read.specs.Reading.{known_of}
use Rattle.qw_read.specs.declared.constant.Word.{Word}
use Rattle.qw_physical.specs.Coded.{pipeline_of}
use Rattle.qw_physical.specs.Courses.{AreBuilt, costs}
use Rattle.qw_physical.specs.Held.{held, kept_of, sink_size}
use Rattle.qw_physical.specs.Physical.{Pipeline, Sink, build, select}
use Rattle.qw_physical.specs.Sides.{IsPlanned, last_of}
use Rattle.qw_physical.specs.Spelled.{IsSamePipeline, IsSameSink, all_spelled}
use Rattle.qw_physical.specs.Typed.{IsTypedPhysical}
use Rattle.qw_physical.specs.declared.pipeline.Pipeline as coded
use Rattle.qw_physical.specs.declared.pipeline.ReadColumn.{ReadColumn}
use Rattle.qw_physical.proofs.Alikeness.{pipeline_fed_same}
use Rattle.qw_physical.proofs.Begun.{costs_bounded, sink_last}
use Rattle.qw_physical.proofs.Holding.{all_count, all_sizes, held_within}
use Rattle.qw_algebra.proofs.Lists.{all_more}
use Rattle.qw_leaves.proofs.LeafLists.{all_back, all_front}
use Rattle.qw_physical.proofs.QueryScans.{ScansOne}
use Rattle.qw_physical.proofs.Typing.{zip_all}
use Rattle.qw_operator.specs.Takes.{CanCarry}
use Rattle.qw_operator.proofs.Stood.{Stood}
use Rattle.qw_emit.proofs.Answered.{IsTold}
use Rattle.qw_compile.specs.QueryColumns.{AreColumnsOf}
use Rattle.qw_compile.specs.QueryPasses.{ArePipelinesOf}
use Rattle.qw_compile.specs.PlannedQueries.{greatest, page_bound, placed, planned_units, stored, units}
use Rattle.qw_compile.proofs.Greatest.{greatest_small}
use Rattle.qw_compile.proofs.KeptBounds.{greatest_few, stored_few}
use Rattle.qw_compile.proofs.LocalsPlaced.{literal_count, literals_known}
use Rattle.qw_compile.proofs.PipelineRuns.{AreStood, fed_over, readers_of}
use Rattle.qw_compile.proofs.QueryBounded.{held_same, size_same}
use Rattle.qw_compile.proofs.QueryCompiled.{IsBounded}
use Rattle.qw_compile.proofs.Planned.{IsPartedOf, all_scan, are_distinct, planned}
use Rattle.qw_compile.proofs.QueryReach.{table_of, zip_long}
use Rattle.qw_compile.proofs.QueryTold.{same_rows}
use Rattle.qw_compile.proofs.QueryWithin.{query_bounded}
use Rattle.qw_compile.proofs.StoodBuilt.{built_alike}

-- ---- lists

-- a list that is alike another, where that one has two parts
pub record Halves (R : Pipeline → Pipeline → Type 0) (xs front back : List Pipeline) : Type 0 where
  pub before : List Pipeline
  pub after : List Pipeline
  pub is : xs ≡ before ++ after
  pub same_before : AllZip R before front
  pub same : AllZip R (before ++ after) (front ++ back)

pub halves : (R : Pipeline → Pipeline → Type 0) (xs front back : List Pipeline) → AllZip R xs (front ++ back) → Halves R xs front back
halves R xs [] back z = record { before = []; after = xs; is = refl; same_before = tt; same = z }
halves R [] (q ∷ front) back z = absurd z
halves R (x ∷ xs) (q ∷ front) back z =
    let rest = halves R xs front back z.1 in
    record { before = x ∷ rest.before; after = rest.after; is = ap (λ (l : List Pipeline). x ∷ l) rest.is; same_before = (z.0, rest.same_before); same = (z.0, rest.same) }

kinds_same : (es fs : List Expression) → AllZip IsSame es fs → map kind_of fs ≡ map kind_of es
kinds_same [] [] z = refl
kinds_same [] (f ∷ fs) z = absurd z
kinds_same (e ∷ es) [] z = absurd z
kinds_same (e ∷ es) (f ∷ fs) z = ap₂ (λ (k : Option Kind) (ks : List (Option Kind)). k ∷ ks) (sym z.0.kind) (kinds_same es fs z.1)

-- ---- how much may be given up of a page

some_left : (greatest : ℕ) → greatest ≤ 24216 → 0 < page - greatest
some_left greatest h = omega (arith, h)

page_less : (greatest : ℕ) → page - greatest ≤ page
page_less greatest = omega arith

same_less : (a b most greatest : ℕ) → a ≡ b → a ≤ most → most ≤ greatest → b ≤ greatest
same_less a b most greatest same h g = omega (arith, same, h, g)

fits_page : (size greatest : ℕ) → size ≤ greatest → greatest ≤ 24216 → size + (page - greatest) ≤ page
fits_page size greatest h g = omega (arith, h, g)

-- ---- a query

-- a sink that makes rows, of items that mean the same as these
pub record SelectsItems (items : List Expression) (sink : Sink) : Type 0 where
  pub made : List Expression
  pub is : sink ≡ select made
  pub same : AllZip IsSame items made
  pub kinds : map kind_of made ≡ map kind_of items

selects : (items : List Expression) (s : Sink) → IsSameSink (select items) s → SelectsItems items s
selects items (build b) z = absurd z
selects items (select made) z = record { made = made; is = refl; same = z; kinds = kinds_same items made z }

module _ (row_is : (row other : List Val) → is_same_row row other ≡ true → row ≡ other) (value_is : (a : Val) → value_order a a ≡ ordering.Equal)
    (parts : QueryParts) (kept columns : List ReadColumn) (made : List coded.Pipeline) (are : AreColumnsOf parts kept columns) (of : ArePipelinesOf parts kept made) (cut : IsPartedOf kept of.node (map pipeline_of made)) where
  abbrev query : Specification
  query = query_of parts

  -- the well placed plan, but for its select list
  abbrev below : Node
  below = keyed true (sifted true [] (filter query.conjuncts (from_written query.sources)))

  abbrev IsWithin : Pipeline → Type 0
  IsWithin p = sink_size p.sink + (page - greatest query) ≤ page

  pub spelled_are : all_spelled kept 0 (pipelines of.node) ≡ all_spelled kept 0 (pipelines (placed (query_of parts)))
  spelled_are = ap (λ (n : Node). all_spelled kept 0 (pipelines n)) of.placed

  -- all that are spelled out are the code's
  pub same_whole : AllZip IsSamePipeline (all_spelled kept 0 (pipelines (placed (query_of parts)))) (cut.building ++ cut.last ∷ [])
  same_whole =
      subst (λ (ps : List Pipeline). AllZip IsSamePipeline ps (cut.building ++ cut.last ∷ [])) spelled_are
      (subst (AllZip IsSamePipeline (all_spelled kept 0 (pipelines of.node))) cut.whole of.same)

  -- ---- sizes

  -- an entry is no greater than a result row would be, or the greatest of the plan's tables
  pub sizes_whole : AllByRecursion (λ (p : Pipeline). sink_size p.sink ≤ greatest (query_of parts)) (cut.building ++ cut.last ∷ [])
  sizes_whole =
      let most : ℕ = max (8 + 16 * length query.items) (greatest_entry (kept_of kept) (placed query)) in
      let few : most ≤ greatest query = greatest_few parts kept are.kept_once are.named in
      zip_all IsSamePipeline (λ p. sink_size p.sink ≤ most) (λ p. sink_size p.sink ≤ greatest query)
      (λ p q z h. same_less (sink_size p.sink) (sink_size q.sink) most (greatest query) (size_same p.sink q.sink z.sink) h few)
      (all_spelled kept 0 (pipelines (placed query))) (cut.building ++ cut.last ∷ []) same_whole
      (all_sizes row_is value_is kept [] below query.items)

  all_fit : AllByRecursion IsWithin (cut.building ++ cut.last ∷ [])
  all_fit =
      let small : greatest query ≤ 24216 = greatest_small query are.specification in
      all_more (λ (p : Pipeline). sink_size p.sink ≤ greatest query) IsWithin (cut.building ++ cut.last ∷ []) (λ p h. fits_page (sink_size p.sink) (greatest query) h small) sizes_whole

  -- a table for each join
  pub built_many : length cut.building ≡ table_count (placed (query_of parts))
  built_many =
      let count : length (all_spelled kept 0 (pipelines (placed query))) ≡ table_count (placed query) + 1 = all_count row_is value_is kept [] below query.items in
      let long = zip_long IsSamePipeline (all_spelled kept 0 (pipelines (placed query))) (cut.building ++ cut.last ∷ []) same_whole in
      let both = length-append cut.building (cut.last ∷ []) in
      summed (length (all_spelled kept 0 (pipelines (placed query)))) (table_count (placed query)) (length (cut.building ++ cut.last ∷ [])) (length cut.building) count long both
    where
      summed : (whole tables parts n : ℕ) → whole ≡ tables + 1 → whole ≡ parts → parts ≡ n + 1 → n ≡ tables
      summed whole tables parts n e f g = omega (arith, e, f, g)

  typed_whole : AllByRecursion IsTypedPhysical (cut.building ++ cut.last ∷ [])
  typed_whole = subst (AllByRecursion IsTypedPhysical) cut.whole of.typed

  pub scans_whole : AllByRecursion (ScansOne (entries_of (query_of parts).sources)) (cut.building ++ cut.last ∷ [])
  scans_whole = subst (AllByRecursion (ScansOne (entries_of query.sources))) cut.whole (all_scan parts kept columns made are of)

  -- ---- its last pipeline makes rows of its select list

  pub last_selects : SelectsItems query.items cut.last.sink
  last_selects =
      let is : (last_of kept of.node).sink ≡ select query.items =
      ap (λ (n : Node). (last_of kept n).sink) of.placed ∙ sink_last row_is value_is kept [] below query.items (length (split 0 (placed query)).builds) in
      selects query.items cut.last.sink (subst (λ (s : Sink). IsSameSink s cut.last.sink) is cut.same_last.sink)

  -- ---- over tables

  module _ (tables : List (List (List Val))) (loaded : AreOfEntries (entries_of (query_of parts).sources) tables) where
    pub plan : IsPlanned (query_of parts) tables kept of.node
    plan = planned parts kept columns made are of tables loaded

    pub cost_within : (front back : List Pipeline) (more : List (List (List Val))) → all_spelled kept 0 (pipelines of.node) ≡ front ++ back → AreBuilt tables [] front more → costs tables [] (front ++ back) more ≤ planned_units (query_of parts) tables
    cost_within front back more is built =
        costs_bounded row_is value_is kept tables query front back more are.specification loaded of.sized are.reads plan.scaled (sym spelled_are ∙ is) built

  module _ (T at : ℕ) (texts : List (List ℕ)) (words : List Word) (all_built : length cut.building ≡ T) (items : List Expression) (last_is : cut.last.sink ≡ select items)
      (can : AllByRecursion (λ (p : Pipeline). CanCarry (literals_known T at texts words ++ map known_of (readers_of T (literal_count texts words) columns p.entry)) p.operators p.sink) cut.building)
      (can_last : CanCarry (literals_known T at texts words ++ map known_of (readers_of T (literal_count texts words) columns cut.last.entry)) cut.last.operators cut.last.sink)
      (tables : List (List (List Val))) (loaded : AreOfEntries (entries_of (query_of parts).sources) tables) where
    stored_within : (front back : List Pipeline) (more : List (List (List Val))) → cut.building ++ cut.last ∷ [] ≡ front ++ back → AreBuilt tables [] front more → held tables [] (front ++ back) more ≤ stored query tables
    stored_within front back more is built =
        let half = halves IsSamePipeline (all_spelled kept 0 (pipelines (placed query))) front back (subst (AllZip IsSamePipeline (all_spelled kept 0 (pipelines (placed query)))) is same_whole) in
        let spelled : AreBuilt tables [] half.before more = built_alike IsSamePipeline tables (λ p q z b. pipeline_fed_same b tables p q z) [] half.before front more half.same_before built in
        less_same (held tables [] (half.before ++ half.after) more) (held tables [] (front ++ back) more)
        (table_octets (kept_of kept) tables (placed query) + length (node_flow tables (placed query)).rows * row_size (length query.items)) (stored query tables)
        (held_within row_is value_is kept tables query half.before half.after more are.specification loaded of.sized are.reads (plan tables loaded).scaled half.is spelled)
        (held_same tables [] (half.before ++ half.after) (front ++ back) more half.same) (stored_few parts kept are.kept_once are.named tables)
      where
        less_same : (h g b s : ℕ) → h ≤ b → h ≡ g → b ≤ s → g ≤ s
        less_same h g b s less same few = omega (arith, less, same, few)

    pub promise_kept : IsBounded T (literal_count texts words) columns texts words at (table_of (entries_of (query_of parts).sources)) cut.building cut.last items (IsTold (outcome (query_of parts) tables))
        (page - greatest (query_of parts)) (page_bound (query_of parts) tables) (1 + units (query_of parts) tables) tables
    promise_kept =
        let u : ℕ = page - greatest query in
        let many : T ≡ table_count (placed query) = sym all_built ∙ built_many in
        let typed = all_front IsTypedPhysical cut.building (cut.last ∷ []) typed_whole in
        let scans = all_front (ScansOne (entries_of query.sources)) cut.building (cut.last ∷ []) scans_whole in
        let last_scans = (all_back (ScansOne (entries_of query.sources)) cut.building (cut.last ∷ []) scans_whole).0 in
        let fit = all_front IsWithin cut.building (cut.last ∷ []) all_fit in
        let fit_last = (all_back IsWithin cut.building (cut.last ∷ []) all_fit).0 in
        subst (λ (k : ℕ). IsBounded T (literal_count texts words) columns texts words at (table_of (entries_of query.sources)) cut.building cut.last items (IsTold (outcome query tables))
        (page - greatest query) (2 + 2 * k + stored query tables / (page - greatest query)) (1 + units query tables) tables) many
        (query_bounded query tables kept of.node (plan tables loaded) cut.building cut.last cut.same cut.same_last typed (are_distinct kept are.kept_once) scans last_scans columns are.each T at texts words all_built items last_is
        can can_last (units query tables) (λ front back more is built. let less = cost_within tables loaded front back more is built in omega (arith, less)) u (stored query tables) (some_left (greatest query) (greatest_small query are.specification)) (page_less (greatest query)) stored_within fit fit_last)

    pub rows_kept : (stoods : List Stood) → AreStood tables [] cut.building stoods → (fed_over tables stoods cut.last).codes ≡ [] → IsSameOutcome (outcome (query_of parts) tables) (Rows (fed_over tables stoods cut.last).rows)
    rows_kept = same_rows query tables kept of.node (plan tables loaded) cut.building cut.last cut.same cut.same_last
