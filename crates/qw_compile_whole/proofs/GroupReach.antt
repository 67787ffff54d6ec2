-- The pipelines of what reaches a query's groups are within bounds of units and pages that leave room for the groups and for the result: each that builds a
-- table finds what it looks up and what it puts into memory is paid for; and so many octets more are paid for behind all of them.
use Rattle.std.proofs.Common.{◌≡◌, ◌∙◌, ◌≤◌, ◌<◌, ℕ, suc, ◌+◌, ◌-◌, ◌*◌, ◌/◌, max, true, List, [], ◌∷◌, ◌++◌, length, map, sym, ap, subst, append_assoc, append-nil, arith}
use Rattle.std.proofs.Math.Nat.{add-mul}
use Rattle.std.specs.List.{AllByRecursion}
use Rattle.qw_types.specs.declared.value.Val.{Val}
use Rattle.qw_linear.specs.Memory.{page}
use Rattle.qw_meaning.specs.Select.{AreOfEntries, Entry, Specification, entries_of}
use Rattle.qw_read.specs.Reading.{known_of}
use Rattle.qw_physical.specs.Courses.{AreBuilt, pipeline_cost, pipeline_fed}
use Rattle.qw_physical.specs.Held.{held, sink_octets, sink_size}
use Rattle.qw_physical.specs.Physical.{Pipeline}
use Rattle.qw_physical.specs.Sides.{IsPlanned, builds_of}
use Rattle.qw_physical.proofs.Permuted.{built_in_order}
use Rattle.qw_physical.proofs.QueryScans.{ScansOne}
use Rattle.qw_operator.specs.Takes.{CanCarry}
use Rattle.qw_operator.proofs.Stood.{Stood, built_of}
use Rattle.qw_compile.proofs.Budgets.{pages_pay, spent}
use Rattle.qw_compile.proofs.PipelineRuns.{AreStood, Finds, fed_over, readers_of}
use Rattle.qw_compile.proofs.QueryBounded.{built_pays}
use Rattle.qw_compile.proofs.QueryFinds.{last_finds}
use Rattle.qw_compile.proofs.QueryReach.{table_of}
use Rattle.qw_compile.proofs.QueryRuns.{Reach}
use Rattle.qw_compile.proofs.QueryTold.{cost_last, spelled_built, told, told_last}
use Rattle.qw_compile.proofs.QueryWithin.{reach_paid}
use Rattle.qw_compile.proofs.Spent.{spent_front}
use Rattle.qw_compile.proofs.StoodBuilt.{stood_built}
use Rattle.std.specs.declared.cmp.Ordering.TheVariants as ordering
use Rattle.qw_types.specs.ValueOrder.{is_same_row, value_order}
use Rattle.qw_map.specs.Layout.{Layout}
use Rattle.qw_meaning.proofs.ListLemmas.{all_more}
use Rattle.qw_meaning.specs.Outcome.{outcome}
use Rattle.qw_meaning.specs.Query.{query_of}
use Rattle.qw_leaves.proofs.LeafLists.{all_front}
use Rattle.qw_pipe.specs.Octets.{greatest_entry, table_octets}
use Rattle.qw_feed.specs.Feeds.{Tells}
use Rattle.qw_physical.proofs.Results.{entries_stored}
use Rattle.qw_emit.proofs.Answered.{IsTold}
use Rattle.qw_operator.specs.Costs.{pipeline_cost_to}
use Rattle.qw_compile.specs.PlannedQueries.{greatest, kept_by, placed, planned_units}
use Rattle.qw_compile.proofs.Planned.{are_distinct}
use Rattle.qw_compile_whole.proofs.FrontLed.{FrontOf, cut, end_takes, front_at, front_count, front_takes, front_words, literals_over}
use Rattle.qw_compile_whole.proofs.GroupCosts.{pipeline_to_less, present_served, stoods_have}
use Rattle.qw_compile_whole.proofs.GroupPlanned.{builds_size, builds_within, cost_within, plan, scans_whole, typed_builds}
use Rattle.qw_compile_whole.proofs.GroupTotals.{total}

-- ---- what is held

-- by tables that were built, and by the next pipeline
held_last : (tables built : List (List (List Val))) (ps : List Pipeline) (p : Pipeline) (more : List (List (List Val))) → AreBuilt tables built ps more
    → held tables built (ps ++ p ∷ []) more ≡ held tables built ps more + sink_octets p.sink (length (pipeline_fed tables (built ++ more) p).rows)
held_last tables built [] p [] h =
    none_more (sink_octets p.sink (length (pipeline_fed tables built p).rows)) (sink_octets p.sink (length (pipeline_fed tables (built ++ []) p).rows)) (ap (λ (b : List (List (List Val))). sink_octets p.sink (length (pipeline_fed tables b p).rows)) (sym (append-nil built)))
  where
    none_more : (a b : ℕ) → a ≡ b → a ≡ 0 + b
    none_more a b e = omega (arith, e)
held_last tables built [] p (e ∷ more) h = absurd h
held_last tables built (q ∷ ps) p [] h = absurd h
held_last tables built (q ∷ ps) p (e ∷ more) h =
    let rest = held_last tables (built ++ e ∷ []) ps p more h.2 in
    let same : sink_octets p.sink (length (pipeline_fed tables ((built ++ e ∷ []) ++ more) p).rows) ≡ sink_octets p.sink (length (pipeline_fed tables (built ++ e ∷ more) p).rows) =
    ap (λ (b : List (List (List Val))). sink_octets p.sink (length (pipeline_fed tables b p).rows)) (append_assoc built (e ∷ []) more) in
    omega (arith, rest, same)

-- ---- pages
more_pages : (tables k q u : ℕ) → (2 + 2 * tables + q + 1) * u ≤ (2 + 2 * (tables + k) + q + 1) * u
more_pages tables k q u =
    let parts : (2 + 2 * (tables + k) + q + 1) * u ≡ (2 * k) * u + (2 + 2 * tables + q + 1) * u = ap (λ (n : ℕ). n * u) (regrouped tables k q) ∙ add-mul (2 * k) (2 + 2 * tables + q + 1) u in
    omega (arith, parts)
  where
    regrouped : (a k b : ℕ) → 2 + 2 * (a + k) + b + 1 ≡ 2 * k + (2 + 2 * a + b + 1)
    regrouped a k b = omega arith

-- two for each of so many tables of groups, and for each of those of joins
abbrev pub most : (u S groups : ℕ) → List Pipeline → ℕ
most u S groups building = 2 + 2 * (length building + groups) + S / u

-- what was paid for before each of these pipelines
abbrev pub budget : (u : ℕ) → (tables : List (List (List Val))) → List Pipeline → ℕ → ℕ
budget u tables building i = spent u building (built_in_order tables [] building) i

module _ (u S : ℕ) (some : 0 < u) (tables : List (List (List Val))) (building : List Pipeline) where
  -- all tables of joins, whatever the order of their entries
  pub built_spent : (more : List (List (List Val))) → AreBuilt tables [] building more → (last : Pipeline) → budget u tables building (length building) ≡ length building * u + held tables [] building more
  built_spent more are last =
      let all = subst (λ (l : List Pipeline). spent u l (built_in_order tables [] l) (length building) + sink_octets last.sink (length (pipeline_fed tables more last).rows) ≡ length building * u + held tables [] (building ++ last ∷ []) more) (append-nil building)
      (spent_front u tables building [] [] last [] [] more tt are) in
      let parts = held_last tables [] building last more are in
      cancelled (budget u tables building (length building)) (sink_octets last.sink (length (pipeline_fed tables more last).rows)) (length building * u) (held tables [] (building ++ last ∷ []) more) (held tables [] building more) all parts
    where
      cancelled : (b o t w h : ℕ) → b + o ≡ t + w → w ≡ h + o → b ≡ t + h
      cancelled b o t w h e g = omega (arith, e, g)

  -- and behind them what is stored besides, with so many more tables
  pub paid : (groups : ℕ) (more : List (List (List Val))) → AreBuilt tables [] building more → (last : Pipeline) → (octets : ℕ) → held tables [] building more + octets ≤ S → budget u tables building (length building) + groups * u + octets + 2 * u < (most u S groups building + 1) * u
  paid groups more are last octets within =
      added (budget u tables building (length building)) (length building * u) (held tables [] building more) octets ((length building + groups) * u) (groups * u) ((most u S groups building + 1) * u) (built_spent more are last) (add-mul (length building) groups u)
      (pages_pay (held tables [] building more + octets) S u (length building + groups) some within)
    where
      added : (b t h o w v m : ℕ) → b ≡ t + h → w ≡ t + v → (w + (h + o)) + 2 * u < m → b + v + o + 2 * u < m
      added b t h o w v m e g p = omega (arith, e, g, p)

-- ---- pipelines that build tables, and the last one
module _ (row_is : (row other : List Val) → is_same_row row other ≡ true → row ≡ other) (value_is : (a : Val) → value_order a a ≡ ordering.Equal)
    {texts : List (List ℕ)} {layout : Layout} (source : FrontOf texts layout) (widest : ℕ) (widest_low : widest ≤ 24216) (rows_fit : 8 + 16 * length (query_of source.parts).items ≤ widest) (joins_fit : greatest_entry (kept_by (query_of source.parts)) (placed (query_of source.parts)) ≤ widest)
    (T : ℕ) (room : length source.ps ≤ T) (tables : List (List (List Val))) (loaded : AreOfEntries (entries_of (query_of source.parts).sources) tables) (units_for octets_for S beside N : ℕ) (units_within : 1 + (planned_units (query_of source.parts) tables + units_for) ≤ N)
    (octets_within : table_octets (kept_by (query_of source.parts)) tables (placed (query_of source.parts)) + octets_for ≤ S) where
  abbrev spec : Specification
  spec = query_of source.parts

  abbrev entries : List Entry
  entries = entries_of (query_of source.parts).sources

  -- what may be given up of a page
  abbrev u : ℕ
  u = page - widest

  abbrev IsTaken : Pipeline → Type 0
  IsTaken p = CanCarry (literals_over source T ++ map known_of (readers_of T (front_count source) source.columns p.entry)) p.operators p.sink

  the_plan : IsPlanned (query_of source.parts) tables source.kept source.of.node
  the_plan = plan row_is value_is source tables loaded

  some_given : 0 < page - widest
  some_given = omega (arith, widest_low)

  builds_fit : AllByRecursion (λ (p : Pipeline). sink_size p.sink + u ≤ page) source.building
  builds_fit =
      all_more (λ (p : Pipeline). sink_size p.sink ≤ greatest spec) (λ (p : Pipeline). sink_size p.sink + u ≤ page) source.building
      (λ p h. less (greatest_entry (kept_by spec) (placed spec)) (8 + 16 * length spec.items) (sink_size p.sink) h rows_fit joins_fit) (builds_size row_is value_is source)
    where
      less : (e i s : ℕ) → s ≤ max i e → i ≤ widest → e ≤ widest → s + (page - widest) ≤ page
      less e i s h f g = omega (arith, h, f, g, widest_low)

  pub builds_reach : (front : List Pipeline) (p : Pipeline) (back : List Pipeline) (stoods : List Stood) → source.building ≡ front ++ p ∷ back → AreStood tables [] front stoods →
      Reach T (front_count source) source.columns (literals_over source T) tables (page - widest) (most (page - widest) S beside source.building) N (table_of (entries_of (query_of source.parts).sources)) stoods p (budget (page - widest) tables source.building (length front))
      (budget (page - widest) tables source.building (suc (length front)))
  builds_reach front p back stoods parts are =
      let built = stood_built tables [] front stoods are in
      let joins = builds_within row_is value_is source tables loaded front (p ∷ back) (built_of stoods) parts built in
      let pays : budget u tables source.building (suc (length front)) + 2 * u < (2 + 2 * length source.building + S / u + 1) * u =
      subst (λ (l : List Pipeline). spent u l (built_in_order tables [] l) (suc (length front)) + 2 * u < (2 + 2 * length source.building + S / u + 1) * u) (sym parts)
      (built_pays u S (length source.building) some_given tables front p back back (built_of stoods) built (omega (arith, joins, octets_within)) (ap (λ (l : List Pipeline). length l) (sym parts))) in
      reach_paid spec tables source.kept source.of.node the_plan source.building source.last (cut source).same (cut source).same_last (typed_builds row_is value_is source) (are_distinct source.kept source.are.kept_once)
      (all_front (ScansOne entries) source.building (source.last ∷ []) (scans_whole row_is value_is source)) source.columns source.are.each T (front_at source) texts (front_words source) (front_takes source T room) (planned_units spec tables)
      (cost_within row_is value_is source tables loaded) N u (most u S beside source.building) (omega (arith, units_within)) builds_fit front p back stoods parts are
      (less_then (budget u tables source.building (suc (length front)) + 2 * u) ((2 + 2 * length source.building + S / u + 1) * u) ((most u S beside source.building + 1) * u) pays (more_pages (length source.building) beside (S / u) u))
    where
      less_then : (a b c : ℕ) → a < b → b ≤ c → a < c
      less_then a b c h g = omega (arith, h, g)

  -- what is told of them
  module _ (Told : ℕ → Type 0) (front_tells : (raised : ℕ) → IsTold (outcome (query_of source.parts) tables) raised → Told raised) where
    pub builds_told : (front : List Pipeline) (p : Pipeline) (back : List Pipeline) (stoods : List Stood) → source.building ≡ front ++ p ∷ back → AreStood tables [] front stoods → (raised : ℕ) → Tells (fed_over tables stoods p).codes raised → Told raised
    builds_told front p back stoods is stood raised tells = front_tells raised (told spec tables source.kept source.of.node the_plan source.building source.last (cut source).same (cut source).same_last front p back stoods is stood raised tells)

    pub last_told : (stoods : List Stood) → AreStood tables [] source.building stoods → (raised : ℕ) → Tells (fed_over tables stoods source.last).codes raised → Told raised
    last_told stoods stood raised tells = front_tells raised (told_last spec tables source.kept source.of.node the_plan source.building source.last (cut source).same (cut source).same_last stoods stood raised tells)

  -- ---- the last one, where the tables of joins stand
  module _ (stoods : List Stood) (stood : AreStood tables [] source.building stoods) where
    last_cost : pipeline_cost tables (built_of stoods) source.last ≤ planned_units spec tables
    last_cost = cost_last spec tables source.kept source.of.node the_plan source.building source.last (cut source).same (cut source).same_last (planned_units spec tables) (cost_within row_is value_is source tables loaded) stoods stood

    pub finds : Finds T (front_count source) source.columns (literals_over source T) tables N stoods source.last
    finds =
        last_finds spec tables source.kept source.of.node the_plan source.building source.last (cut source).same (cut source).same_last (typed_builds row_is value_is source) (are_distinct source.kept source.are.kept_once) source.columns T (front_count source) (front_at source) texts (front_words source) N stoods stood
        (end_takes source T room) (let taken = last_cost in omega (arith, taken, units_within))

    -- with what is done at each row that comes of it
    pub turned_cost : (turn : List Val → ℕ) → total turn (fed_over tables stoods source.last).rows ≤ units_for → 1 + pipeline_cost_to source.group.values turn tables (built_of stoods) source.last ≤ N
    turned_cost turn turns =
        let built = spelled_built spec tables source.kept source.of.node the_plan source.building source.last (cut source).same (cut source).same_last (builds_of source.kept source.of.node) source.building stoods (cut source).same stood in
        let stored = entries_stored spec tables source.kept source.of.node the_plan (builds_of source.kept source.of.node) [] (built_of stoods) (sym (append-nil (builds_of source.kept source.of.node))) built in
        let present = present_served stoods (stoods_have tables (builds_of source.kept source.of.node) source.building stoods [] (cut source).same stood stored) source.last.operators finds.served in
        let less = pipeline_to_less source.group.values turn (built_of stoods) tables source.last source.values_are present in
        let taken = last_cost in
        omega (arith, less, taken, turns, units_within)

    pub pays : (octets : ℕ) → table_octets (kept_by (query_of source.parts)) tables (placed (query_of source.parts)) + octets ≤ S →
        budget (page - widest) tables source.building (length source.building) + beside * (page - widest) + octets + 2 * (page - widest) < (most (page - widest) S beside source.building + 1) * (page - widest)
    pays octets h =
        let built = stood_built tables [] source.building stoods stood in
        let low : held tables [] source.building (built_of stoods) ≤ table_octets (kept_by spec) tables (placed spec) =
        subst (λ (ps : List Pipeline). held tables [] ps (built_of stoods) ≤ table_octets (kept_by spec) tables (placed spec)) (append-nil source.building)
        (builds_within row_is value_is source tables loaded source.building [] (built_of stoods) (sym (append-nil source.building)) built) in
        paid u S some_given tables source.building beside (built_of stoods) built source.last octets (omega (arith, low, h))
