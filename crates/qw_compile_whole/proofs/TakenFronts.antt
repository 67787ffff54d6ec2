-- The scan whose rows the areas of set functions take, behind the tables of joins, whether its rows are counted or not. Where they are counted and few, the areas
-- take them all; where they are many, it takes as many instructions as rows are taken, and stops (ISO/IEC 9075:1992, 7.8).
use Rattle.std.proofs.Common.{◌≡◌, ℕ, ◌+◌, ◌-◌, ◌*◌, ◌^◌, ◌<◌, ◌≤◌, inl, inr, Some, List, [], length, slice_get, slice_set, take, arith, None, refl, subst, ◌++◌, ⊎_elim, append-nil, ◌⊎◌}
use Rattle.std.proofs.lemmas.Bool.{cases_lt}
use Rattle.qw_linear.specs.Memory.{page}
use Rattle.qw_module.specs.declared.instruction.ValType.TheVariants.{I32}
use Rattle.qw_types.specs.declared.value.Val.{Val}
use Rattle.qw_types.specs.declared.code.Code.TheVariants.{DivZero}
use Rattle.qw_map.proofs.TurnFacts.{slice_get-set_same}
use Rattle.qw_low.specs.State.{Number, LowState}
use Rattle.qw_low.specs.Meaning.{meaning}
use Rattle.qw_low.specs.Promise.{Ends}
use Rattle.qw_low.specs.Size.{size}
use Rattle.qw_low.proofs.Promises.{Ends-weaker}
use Rattle.qw_low.specs.Syntax.{Statement}
use Rattle.qw_feed.specs.Feeds.{Sink, Tells}
use Rattle.qw_feed.specs.Frames.{pos}
use Rattle.qw_feed.proofs.Frames.{Never}
use Rattle.qw_feed.proofs.RoomRuns.{IsRefusal}
use Rattle.qw_limit.specs.Counting.{CountsDown, EndsOrTakes}
use Rattle.qw_limit.proofs.LimitedFeeds.{limit_of}
use Rattle.qw_table.specs.declared.key.Field.{Field}
use Rattle.qw_group.specs.Single.{single_block}
use Rattle.qw_physical.specs.Physical.{Pipeline}
use Rattle.qw_operator.specs.Carries.{directory}
use Rattle.qw_operator.proofs.CarriedTyped.{AreLed}
use Rattle.qw_operator.specs.Grouping.{CanGroup, Group, over_fields}
use Rattle.qw_operator.proofs.RowCounted.{one_scan_counts}
use Rattle.qw_operator.specs.OneGroup.{IsOneGroup}
use Rattle.qw_operator.proofs.OneFeeds.{row_taken, taken_runs}
use Rattle.qw_operator.proofs.LimitedOne.{first_taken_runs, row_first_taken}
use Rattle.qw_emit.proofs.Answered.{IsSomeCode}
use Rattle.qw_compile.specs.QueryLocals.{cell_start, rows_end, rows_left}
use Rattle.qw_compile.proofs.PipelineRuns.{Between, declared_over, fed_over, laid, readers_of}
use Rattle.qw_compile.proofs.QueryRuns.{Joined, Joins, Setting, base, c, grounds, literals, many, n, own_first, types}
use Rattle.qw_compile_whole.proofs.Beginnings.{IsBeginning, beginning_first, beginning_few}
use Rattle.qw_compile_whole.proofs.RunsInto.{AreFirstOf, Placed, first_beginning, first_rows, placed_within}
use Rattle.qw_compile_whole.proofs.FrontEnds.{Collects, directory_declared, local_low, readers_declared, stood_low, Collecting}
use Rattle.qw_compile_whole.proofs.GroupBounded.{rows_met}
use Rattle.qw_compile_whole.proofs.LongFronts.{Nowhere, counted, counted_few, counted_many}
use Rattle.qw_compile_whole.proofs.FieldCounts.{areas_long}
use Rattle.qw_compile_whole.specs.GuardedSingles.{IsTakingBy}
use Rattle.qw_compile_whole.specs.SingleStatements.{take_block}
use Rattle.qw_compile_whole.proofs.SingleBounded.{TakeReach, areas_paid}
use Rattle.qw_compile_whole.proofs.Taken.{AreTaken, areas_placed, into_areas}
use Rattle.qw_compile_whole.proofs.TakingPlaced.{End}
use Rattle.qw_compile_whole.proofs.FirstTakenBounded.{FirstTake}
use Rattle.qw_compile_whole.proofs.ScanRuns.{at_put, scan_counted, scan_ends}

module _ (S : Setting) (Told : ℕ → Type 0) (j : Joins S Told) (t : LowState) (h : Joined S Told j t) where
  open S use {T, columns, tables, table_of, most, N, u}

  abbrev pub TakenBy : Group → List Field → Pipeline → LowState → Type 0
  TakenBy group fields gathering w = AreTaken T (n S) (c S) (base S) u h.s0 h.stoods group fields (j.budget (length j.building)) (rows_met tables h.stoods gathering) w × ((fed_over tables h.stoods gathering).codes ≡ [])

  placed : (Is : Collecting) (g : Collects S Told j Is) → CanGroup g.group → g.group.columns ≡ 0 → 32 * length g.group.functions + u ≤ page → areas_paid g.group (j.budget (length j.building)) + 2 * u < (most + 1) * u → (May : List (List Val) → Type 0) (first : (rows more : List (List Val)) → May (rows ++ more) → May rows)
      (s : LowState) (between : Between T (n S) (c S) (base S) u h.s0 h.stoods (j.budget (length j.building)) s) →
      Ends 26 (Placed (directory g.group.table) (pos between.part between.offset) (into_areas (c S) g.group g.fields u (j.budget (length j.building)) May first) [] s) Never IsRefusal (meaning most N (single_block (32 * length (over_fields g.group.functions g.fields)) (directory g.group.table)) s)
  placed Is g can none fits enough May first s between =
      let ground = grounds S h.s0 h.begun in
      let known = ground.long in
      let own_known = ground.first_own in
      let below = g.room_T in
      areas_placed (c S) u most N g.group g.fields May first (j.budget (length j.building)) s between.part between.offset between.room between.paid (areas_long g.group g.fields can none g.field_kinds) (omega (arith, below, known, own_known, between.keeps.many)) fits enough

  -- ---- not counted
  module _ (g : Collects S Told j (IsTakingBy None)) (can : CanGroup g.group) (none : g.group.columns ≡ 0) (r : TakeReach T (n S) columns (literals S) tables u most N table_of g.group h.stoods g.gathering (j.budget (length j.building)))
      (told : (raised : ℕ) → Tells (fed_over tables h.stoods g.gathering).codes raised → Told raised) where
    abbrev all : List (List Val)
    all = rows_met tables h.stoods g.gathering

    abbrev taking : ℕ → Statement
    taking areas = take_block T g.group.table areas g.gathers

    few_rows : (xs : List (List Val)) → IsBeginning all xs → 1 ≤ length g.group.functions → length xs ≤ 10 ^ 18
    few_rows xs may some = let fewer = beginning_few all xs may in let few = r.few some in omega (arith, fewer, few)

    pub takes_end : Ends (size (taking (length g.group.functions)) * N) (TakenBy g.group g.fields g.gathering) Never Told (meaning most N (taking (length g.group.functions)) t)
    takes_end =
        let areas : ℕ = length (over_fields g.group.functions g.fields) in
        let low = stood_low S Told j (IsTakingBy None) g t h in
        let below = g.room_T in
        let held : ℕ = j.budget (length j.building) + 32 * areas in
        let May : List (List Val) → Type 0 = IsBeginning all in
        subst (λ (m : ℕ). Ends (size (taking m) * N) (TakenBy g.group g.fields g.gathering) Never Told (meaning most N (taking m) t)) (areas_long g.group g.fields can none g.field_kinds)
        (Ends-weaker (size (taking areas) * N) (size (taking areas) * N) (TakenBy g.group g.fields g.gathering) (TakenBy g.group g.fields g.gathering) Never Never (Tells (fed_over tables h.stoods g.gathering).codes) Told (meaning most N (taking areas) t) (omega arith) (λ w x. x) (λ w x. x) told
        (scan_ends S Told j t h (IsTakingBy None) g (λ known at a more. IsOneGroup g.fields known at g.group a more) g.is r.chosen r.table_is r.has_column r.finds r.cost
        (into_areas (c S) g.group g.fields u (j.budget (length j.building)) May (beginning_first all)) (λ k o at wide low'. low') (λ k o. ([], append-nil all))
        (λ k o seen tables'. (
          taken_runs (c S) h.stoods (rows_left T) (omega (arith, low)) most N (many S) (types S) g.group can none g.fields k o u held r.chosen May (beginning_first all) (omega (arith, below)) few_rows r.compared seen tables',
          row_taken (c S) h.stoods (rows_left T) (omega (arith, low)) most N (many S) (types S) g.group can none g.fields k o u held r.chosen May (beginning_first all) (omega (arith, below)) few_rows r.compared seen tables',
        ))
        t h.between (AreTaken T (n S) (c S) (base S) u h.s0 h.stoods g.group g.fields (j.budget (length j.building)) all) (λ k o after first w has keeps stand. record { part = k; offset = o; behind = after; has = has; keeps = keeps; fronts = first; stand = stand })
        (single_block (32 * areas) (directory g.group.table)) (omega arith) (placed (IsTakingBy None) g can none r.fits r.enough May (beginning_first all) t h.between)))

  -- ---- counted
  module _ (top : ℕ) (few_top : top ≤ 10 ^ 18) (counted_top : top < 2 ^ 64) (g : Collects S Told j (IsTakingBy (Some 4))) (can : CanGroup g.group) (none : g.group.columns ≡ 0) (r : FirstTake T (n S) columns (literals S) tables u most N table_of g.group h.stoods g.gathering (j.budget (length j.building)))
      (told : (raised : ℕ) → Tells (fed_over tables h.stoods g.gathering).codes raised → Told raised) (led : AreLed (types S) g.gathering.operators) where
    abbrev rows : List (List Val)
    rows = rows_met tables h.stoods g.gathering

    abbrev scan_of : ℕ → Statement
    scan_of areas = take_block T g.group.table areas g.gathers

    abbrev scan : Statement
    scan = take_block T g.group.table (length g.group.functions) g.gathers

    abbrev put : LowState
    put = record t { locals = slice_set t.locals 4 (Number top) }

    low : 4 < length t.locals
    low = local_low S Told j (IsTakingBy (Some 4)) g t h 4 (omega arith)

    in_types : slice_get (types S) (directory g.group.table) ≡ Some I32
    in_types = directory_declared S Told j (IsTakingBy (Some 4)) g

    few_first : (xs : List (List Val)) → AreFirstOf top rows xs → 1 ≤ length g.group.functions → length xs ≤ 10 ^ 18
    few_first xs may some = let few = may.1 in omega (arith, few, few_top)

    abbrev AreIn : List (List Val) → LowState → Type 0
    AreIn xs w = AreTaken T (n S) (c S) (base S) u h.s0 h.stoods g.group g.fields (j.budget (length j.building)) xs w

    -- the areas have taken the first rows, and the local says how many may still come
    abbrev First : LowState → Type 0
    First w = AreIn (take top rows) w × (slice_get w.locals 4 ≡ Some (Number (top - length rows)))

    abbrev Mid : LowState → Type 0
    Mid w = First w × ((fed_over tables h.stoods g.gathering).codes ≡ [])

    scans : Ends (size scan * N) Mid Never (Tells (fed_over tables h.stoods g.gathering).codes) (meaning most N scan put)
    scans =
        let areas : ℕ = length (over_fields g.group.functions g.fields) in
        let stood_T = stood_low S Told j (IsTakingBy (Some 4)) g t h in
        let below = g.room_T in
        let held : ℕ = j.budget (length j.building) + 32 * areas in
        let May : List (List Val) → Type 0 = AreFirstOf top rows in
        let between = at_put S Told j t h (IsTakingBy (Some 4)) g 4 (omega arith, omega arith) (Number top) in
        let front : ℕ = pos between.part between.offset in
        let d : ℕ = directory g.group.table in
        let begins : Statement = single_block (32 * areas) d in
        let into : (part offset : ℕ) → Sink = into_areas (c S) g.group g.fields u (j.budget (length j.building)) May (first_beginning top rows) in
        subst (λ (m : ℕ). Ends (size (scan_of m) * N) Mid Never (Tells (fed_over tables h.stoods g.gathering).codes) (meaning most N (scan_of m) put)) (areas_long g.group g.fields can none g.field_kinds)
        (scan_ends S Told j t h (IsTakingBy (Some 4)) g (End (Some 4) g.fields g.group) g.is r.chosen r.table_is r.has_column r.finds r.cost
        (λ k o. limit_of top 4 (into k o)) (λ k o at wide low'. low') (λ k o. first_rows top rows)
        (λ k o seen tables'. (
          first_taken_runs (c S) h.stoods (rows_left T) (omega (arith, stood_T)) most N (many S) (types S) g.group can none g.fields k o u held r.chosen May (first_beginning top rows) (omega (arith, below)) few_first r.compared seen tables' top 4 counted_top (omega arith, omega arith) refl refl refl in_types,
          row_first_taken (c S) h.stoods (rows_left T) (omega (arith, stood_T)) most N (many S) (types S) g.group can none g.fields k o u held r.chosen May (first_beginning top rows) (omega (arith, below)) few_first r.compared seen tables' top 4 counted_top (omega arith, omega arith) refl refl refl in_types,
        ))
        put between First (λ k o after first w has keeps stand. (record { part = k; offset = o; behind = after; has = has.has; keeps = keeps; fronts = first; stand = stand }, has.left)) begins (omega arith)
        (Ends-weaker 26 26 (Placed d front into [] put) (Placed d front (λ k o. limit_of top 4 (into k o)) [] put) Never Never IsRefusal IsRefusal (meaning most N begins put) (omega arith)
        (λ x begun. placed_within d front into put x top 4 (omega arith) (omega arith) (slice_get-set_same t.locals 4 (Number top) low) begun) (λ x y. y) (λ code x. x)
        (placed (IsTakingBy (Some 4)) g can none r.fits r.enough May (first_beginning top rows) put between)))

    counts : CountsDown 4 scan
    counts =
        let ground = grounds S h.s0 h.begun in
        let next : ℕ = own_first S + length j.builds_own in
        let declared = readers_declared S Told j (IsTakingBy (Some 4)) g in
        scan_counted S Told j t h (IsTakingBy (Some 4)) g (End (Some 4) g.fields g.group) g.is r.chosen 4 (32 * length g.group.functions) (omega arith, omega arith) refl
        (one_scan_counts (types S) refl refl 4 (omega arith, omega arith) refl g.fields g.group can in_types (literals S) (readers_of T (n S) columns g.gathering.entry) (rows_left T) (rows_left T) (rows_end T) (cell_start T (n S) (length columns)) next (omega arith)
        (laid T (n S) columns (literals S) tables (c S) (base S) u most N N (many S) (types S) h.s0 ground g.gathering.entry next (omega arith)) (declared_over T (n S) columns (literals S) tables (c S) (base S) u most N N (many S) (types S) h.s0 ground g.gathering.entry)
        declared g.gathering.operators g.gathers.row g.own (omega arith) g.types_are led none g.is.row)

    pub takes_counted : ((length (rows_met tables h.stoods g.gathering) < top) × Ends (size (counted top 4 scan) * N) (TakenBy g.group g.fields g.gathering) Never Told (meaning most N (counted top 4 scan) t)) ⊎
        EndsOrTakes top (size (counted top 4 scan) * N) Nowhere Nowhere Never Told IsSomeCode (meaning most N (counted top 4 scan) t)
    takes_counted = ⊎_elim
        (λ fewer. inl (fewer, counted_few most N top 4 S.some scan t low AreIn (fed_over tables h.stoods g.gathering) Told told scans fewer))
        (λ more. inr (counted_many most N top 4 S.some scan t low AreIn (fed_over tables h.stoods g.gathering) Told told scans counts counted_top more IsSomeCode (inr (DivZero, refl))))
        (cases_lt (length (rows_met tables h.stoods g.gathering)) top)
