-- The scan whose rows go into groups, behind the tables of joins, whether its rows are counted or not. Where they are counted and few, they all go into groups;
-- where they are many, it takes as many instructions as rows are taken, and stops (ISO/IEC 9075:1992, 7.7).
use Rattle.std.proofs.Common.{◌≡◌, ℕ, ◌+◌, ◌-◌, ◌*◌, ◌^◌, ◌<◌, ◌≤◌, Some, List, [], length, slice_get, slice_set, take, arith, ◌&&◌, nat_le, Bool, true, false, if◌then◌else◌, Option, None, refl, sym, ap, subst, ◌++◌, append-nil}
use Rattle.qw_module.specs.declared.instruction.ValType.TheVariants.{I32, I64}
use Rattle.qw_types.specs.declared.value.Val.{Val}
use Rattle.qw_meaning.specs.Flow.{Flow}
use Rattle.qw_map.proofs.TurnFacts.{slice_get-set_same}
use Rattle.qw_low.specs.State.{Number, LowState}
use Rattle.qw_low.specs.Meaning.{meaning}
use Rattle.qw_low.specs.Promise.{Ends}
use Rattle.qw_low.specs.Size.{size}
use Rattle.qw_low.proofs.Promises.{Ends-weaker}
use Rattle.qw_low.specs.Syntax.{Statement}
use Rattle.qw_feed.specs.Feeds.{Sink, Tells}
use Rattle.qw_feed.specs.Frames.{pos}
use Rattle.qw_feed.proofs.Frames.{Never}
use Rattle.qw_feed.proofs.RoomRuns.{IsRefusal}
use Rattle.qw_limit.specs.Counting.{EndsOrTakes}
use Rattle.qw_limit.proofs.LimitedFeeds.{limit_of}
use Rattle.qw_table.specs.Tables.{directory_block}
use Rattle.qw_table.specs.declared.key.Field.{Field}
use Rattle.qw_physical.specs.Physical.{Pipeline}
use Rattle.qw_operator.specs.Carries.{directory}
use Rattle.qw_operator.proofs.CarriedTyped.{AreLed}
use Rattle.qw_operator.specs.Grouping.{CanGroup, Group, turn_of, IsGrouped}
use Rattle.qw_operator.proofs.LimitedFeeds.{first_grouped_runs, row_guarded}
use Rattle.qw_operator.proofs.RowCounted.{scan_counts}
use Rattle.qw_compile.specs.QueryLocals.{cell_start, rows_end, rows_left}
use Rattle.qw_compile.specs.Statements.{build_block}
use Rattle.qw_compile.proofs.PipelineRuns.{Between, declared_over, fed_over, laid, readers_of}
use Rattle.qw_compile.proofs.QueryRuns.{Joined, Joins, Setting, base, c, grounds, literals, many, n, own_first, types}
use Rattle.qw_compile_whole.proofs.Beginnings.{keys_fewer, slot_fewer, IsBeginning, beginning_first, beginning_few}
use Rattle.qw_compile_whole.proofs.FirstBounded.{FirstReach, first_of}
use Rattle.qw_compile_whole.proofs.Gathered.{AreGathered, Suits, groups_placed, into_groups, suits, groups_take}
use Rattle.qw_compile_whole.proofs.GatheringPlaced.{End}
use Rattle.qw_compile_whole.proofs.RunsInto.{AreFirstOf, Placed, first_beginning, first_rows, placed_within}
use Rattle.qw_compile_whole.specs.GuardedStatements.{IsGatheringBy, gather_block, guard_for}
use Rattle.qw_compile_whole.proofs.FrontEnds.{Collects, directory_declared, local_low, number_is, readers_declared, stood_low, Collecting}
use Rattle.qw_compile_whole.proofs.GroupBounded.{GatherReach, rows_met, ReachWith}
use Rattle.qw_compile_whole.proofs.LongFronts.{Nowhere, counted, counted_few, counted_many}
use Rattle.qw_compile_whole.proofs.ScanRuns.{at_put, scan_counted, scan_ends}

-- rows are counted in local 4, or not at all
abbrev pub IsGuard : Option ℕ → Type 0
IsGuard None = Unit {0}
IsGuard (Some z) = z ≡ 4

pub guard_is : (t f : ℕ) → IsGuard (guard_for t f)
guard_is t f = either (nat_le 3 t && nat_le 1 f)
  where
    either : (b : Bool) → IsGuard (if b then Some 4 else None)
    either true = refl
    either false = tt

module _ (S : Setting) (Told : ℕ → Type 0) (j : Joins S Told) (t : LowState) (h : Joined S Told j t) where
  open S use {T, columns, tables, table_of, most, N, u}

  abbrev pub GatheredBy : Group → List Field → Pipeline → LowState → Type 0
  GatheredBy group fields gathering w = AreGathered T (n S) (c S) (base S) u h.s0 h.stoods group fields (j.budget (length j.building)) (rows_met tables h.stoods gathering) w × ((fed_over tables h.stoods gathering).codes ≡ [])

  -- what is paid for where the table has been placed
  abbrev before : ℕ
  before = j.budget (length j.building) + u + 4096

  -- ---- counted or not
  module _ (Is : Collecting) (g : Collects S Told j Is) (can : CanGroup g.group) (Few : Type 0) (r : ReachWith Few T (n S) columns (literals S) tables u most N table_of g.group h.stoods g.gathering (j.budget (length j.building))) where
    abbrev fed : Flow (List Val)
    fed = fed_over tables h.stoods g.gathering

    abbrev d : ℕ
    d = directory g.group.table

    number : g.group.table ≡ length h.stoods
    number = number_is S Told j Is g t h

    stood_T : length h.stoods < T
    stood_T = stood_low S Told j Is g t h

    -- those that come are the first
    comes : (May : List (List Val) → Type 0) → ((rows more : List (List Val)) → May (rows ++ more) → May rows) → ((xs : List (List Val)) → May xs → 1 ≤ length g.group.functions → length xs ≤ 10 ^ 18) → ((xs : List (List Val)) → May xs → IsBeginning fed.rows xs) →
        Suits g.group g.fields u most before r.entries r.chosen May
    comes May first few begins =
        suits g.group g.fields u most (j.budget (length j.building)) r.entries r.chosen fed.rows can g.field_kinds May first few r.compared
        (λ xs may. keys_fewer g.group.columns fed.rows xs (begins xs may)) (λ i xs may. slot_fewer i g.group.columns fed.rows xs (begins xs may)) r.met r.fits r.enough

    placed : (May : List (List Val) → Type 0) (first : (rows more : List (List Val)) → May (rows ++ more) → May rows) (s : LowState) (between : Between T (n S) (c S) (base S) u h.s0 h.stoods (j.budget (length j.building)) s) →
        Ends 26 (Placed d (pos between.part between.offset) (into_groups (c S) g.group g.fields u before May first) [] s) Never IsRefusal (meaning most N (directory_block d) s)
    placed May first s between =
        let ground = grounds S h.s0 h.begun in
        let known = ground.long in
        let own_known = ground.first_own in
        let paid_for = r.enough in
        let low = stood_T in
        let is_number = number in
        groups_placed (c S) u most N g.group g.fields May first (j.budget (length j.building)) s between.part between.offset between.room between.paid S.u_low (omega (arith, is_number, low, known, own_known, between.keeps.many)) (omega (arith, paid_for))

  -- ---- not counted
  module _ (g : Collects S Told j (IsGatheringBy None)) (can : CanGroup g.group) (r : GatherReach T (n S) columns (literals S) tables u most N table_of g.group h.stoods g.gathering (j.budget (length j.building))) where
    abbrev Few : Type 0
    Few = 1 ≤ length g.group.functions → length (rows_met tables h.stoods g.gathering) < 10 ^ 18

    abbrev all : List (List Val)
    all = rows_met tables h.stoods g.gathering

    q : Suits g.group g.fields u most (j.budget (length j.building) + u + 4096) r.entries r.chosen (IsBeginning all)
    q = comes (IsGatheringBy None) g can Few r (IsBeginning all) (beginning_first all) (λ xs may some. (let fewer = beginning_few all xs may in let few = r.few some in omega (arith, fewer, few))) (λ xs may. may)

    gathers : Ends (size (build_block T g.group.table g.gathers) * N) (GatheredBy g.group g.fields g.gathering) Never (Tells (fed_over tables h.stoods g.gathering).codes) (meaning most N (build_block T g.group.table g.gathers) t)
    gathers =
        let low = stood_low S Told j (IsGatheringBy None) g t h in
        let May : List (List Val) → Type 0 = IsBeginning all in
        scan_ends S Told j t h (IsGatheringBy None) g (λ known at a more. IsGrouped g.fields known at g.group a more) g.is (turn_of g.group r.entries r.chosen) r.table_is r.has_column r.finds r.cost
        (into_groups (c S) g.group g.fields u before May q.first) (λ k o at wide low'. low') (λ k o. ([], append-nil all))
        (groups_take (c S) T h.stoods (omega (arith, low)) most N (many S) (types S) g.group can g.room_T g.fields u before r.entries r.chosen May q)
        t h.between (AreGathered T (n S) (c S) (base S) u h.s0 h.stoods g.group g.fields (j.budget (length j.building)) all)
        (λ k o after first w has keeps stand. record { part = k; offset = o; behind = after; has = has; keeps = keeps; fronts = first; stand = stand })
        (directory_block (directory g.group.table)) (omega arith) (placed (IsGatheringBy None) g can Few r May q.first t h.between)

  -- ---- counted
  module _ (top z : ℕ) (is : z ≡ 4) (few_top : top ≤ 10 ^ 18) (counted_top : top < 2 ^ 64) (g : Collects S Told j (IsGatheringBy (Some z))) (can : CanGroup g.group) (r : FirstReach T (n S) columns (literals S) tables u most N table_of g.group h.stoods g.gathering (j.budget (length j.building)))
      (told : (raised : ℕ) → Tells (fed_over tables h.stoods g.gathering).codes raised → Told raised) where
    abbrev scan : Statement
    scan = build_block T g.group.table g.gathers

    abbrev rows : List (List Val)
    rows = rows_met tables h.stoods g.gathering

    abbrev May : List (List Val) → Type 0
    May = AreFirstOf top rows

    place : (3 ≤ z) × (z ≤ 4)
    place = (omega (arith, is), omega (arith, is))

    low : z < length t.locals
    low = local_low S Told j (IsGatheringBy (Some z)) g t h z place.1

    in_types : slice_get (types S) (directory g.group.table) ≡ Some I32
    in_types = directory_declared S Told j (IsGatheringBy (Some z)) g

    z_is : slice_get (types S) z ≡ Some I64
    z_is = subst (λ (k : ℕ). slice_get (types S) k ≡ Some I64) (sym is) refl

    first_q : Suits g.group g.fields u most before r.entries r.chosen May
    first_q = comes (IsGatheringBy (Some z)) g can (Unit {0}) r May (first_beginning top rows) (λ xs may some. (let few = may.1 in omega (arith, few, few_top))) (λ xs may. may.0)

    abbrev AreIn : List (List Val) → LowState → Type 0
    AreIn xs w = AreGathered T (n S) (c S) (base S) u h.s0 h.stoods g.group g.fields (j.budget (length j.building)) xs w

    -- the groups of the first rows stand there, and the local says how many may still come
    abbrev First : LowState → Type 0
    First w = AreIn (take top rows) w × (slice_get w.locals z ≡ Some (Number (top - length rows)))

    scans : Ends (size scan * N) (λ w. First w × ((fed_over tables h.stoods g.gathering).codes ≡ [])) Never (Tells (fed_over tables h.stoods g.gathering).codes) (meaning most N scan (record t { locals = slice_set t.locals z (Number top) }))
    scans =
        let put : LowState = record t { locals = slice_set t.locals z (Number top) } in
        let number = number_is S Told j (IsGatheringBy (Some z)) g t h in
        let stood_T = stood_low S Told j (IsGatheringBy (Some z)) g t h in
        let between = at_put S Told j t h (IsGatheringBy (Some z)) g z place (Number top) in
        let front : ℕ = pos between.part between.offset in
        let d : ℕ = directory g.group.table in
        let into : (part offset : ℕ) → Sink = into_groups (c S) g.group g.fields u before May first_q.first in
        scan_ends S Told j t h (IsGatheringBy (Some z)) g (End (Some z) g.fields g.group) g.is (turn_of g.group r.entries r.chosen) r.table_is r.has_column r.finds r.cost
        (λ k o. limit_of top z (into k o)) (λ k o at wide low'. low') (λ k o. first_rows top rows)
        (λ k o seen tables'. (
          first_grouped_runs (c S) h.stoods (rows_left T) (omega (arith, stood_T)) most N (many S) (types S) g.group can g.fields k o u before r.entries r.chosen May first_q.first (omega (arith, number, stood_T)) first_q.small first_q.few_rows first_q.chosen_within first_q.enough first_q.met seen tables' top z counted_top place refl refl z_is in_types,
          row_guarded (c S) h.stoods (rows_left T) (omega (arith, stood_T)) most N (many S) (types S) g.group can g.fields k o u before r.entries r.chosen May first_q.first (omega (arith, number, stood_T)) first_q.small first_q.few_rows first_q.chosen_within first_q.enough first_q.met seen tables' top z counted_top place refl refl z_is in_types,
        ))
        put between First (λ k o after first w has keeps stand. (record { part = k; offset = o; behind = after; has = has.has; keeps = keeps; fronts = first; stand = stand }, has.left)) (directory_block d) (omega arith)
        (Ends-weaker 26 26 (Placed d front into [] put) (Placed d front (λ k o. limit_of top z (into k o)) [] put) Never Never IsRefusal IsRefusal (meaning most N (directory_block d) put) (omega arith)
        (λ x begun. placed_within d front into put x top z place.0 (omega (arith, place.1)) (slice_get-set_same t.locals z (Number top) low) begun) (λ x y. y) (λ code x. x)
        (placed (IsGatheringBy (Some z)) g can (Unit {0}) r May first_q.first put between))

    pub gathers_few : length (rows_met tables h.stoods g.gathering) < top → Ends (size (counted top z scan) * N) (GatheredBy g.group g.fields g.gathering) Never Told (meaning most N (counted top z scan) t)
    gathers_few fewer = counted_few most N top z S.some scan t low AreIn (fed_over tables h.stoods g.gathering) Told told scans fewer

    pub gathers_many : AreLed (types S) g.gathering.operators → top ≤ length (rows_met tables h.stoods g.gathering) → (R : ℕ → Type 0) → R 1 → EndsOrTakes top (size (counted top z scan) * N) Nowhere Nowhere Never Told R (meaning most N (counted top z scan) t)
    gathers_many led more R stops =
        let ground = grounds S h.s0 h.begun in
        let next : ℕ = own_first S + length j.builds_own in
        counted_many most N top z S.some scan t low AreIn (fed_over tables h.stoods g.gathering) Told told scans
        (scan_counted S Told j t h (IsGatheringBy (Some z)) g (End (Some z) g.fields g.group) g.is (turn_of g.group r.entries r.chosen) z 4096 place z_is
        (scan_counts (types S) refl refl z place z_is g.fields g.group can in_types (literals S) (readers_of T (n S) columns g.gathering.entry) (rows_left T) (rows_left T) (rows_end T) (cell_start T (n S) (length columns)) next (omega arith)
        (laid T (n S) columns (literals S) tables (c S) (base S) u most N N (many S) (types S) h.s0 ground g.gathering.entry next (omega arith)) (declared_over T (n S) columns (literals S) tables (c S) (base S) u most N N (many S) (types S) h.s0 ground g.gathering.entry)
        (readers_declared S Told j (IsGatheringBy (Some z)) g) g.gathering.operators g.gathers.row g.own (omega arith) g.types_are led g.is.row))
        counted_top more R stops

  -- ---- counted or not
  pub gathers_end : (guard : Option ℕ) → IsGuard guard → (g : Collects S Told j (IsGatheringBy guard)) → CanGroup g.group → GatherReach T (n S) columns (literals S) tables u most N table_of g.group h.stoods g.gathering (j.budget (length j.building)) →
      ((raised : ℕ) → Tells (fed_over tables h.stoods g.gathering).codes raised → Told raised) → (guard ≡ Some 4 → length (rows_met tables h.stoods g.gathering) < 10 ^ 18) →
      Ends (size (gather_block guard T g.group.table g.gathers) * N) (GatheredBy g.group g.fields g.gathering) Never Told (meaning most N (gather_block guard T g.group.table g.gathers) t)
  gathers_end None is g can r told fewer =
      let block : Statement = build_block T g.group.table g.gathers in
      Ends-weaker (size block * N) (size block * N) (GatheredBy g.group g.fields g.gathering) (GatheredBy g.group g.fields g.gathering) Never Never (Tells (fed_over tables h.stoods g.gathering).codes) Told (meaning most N block t) (omega arith) (λ w x. x) (λ w x. x) told (gathers g can r)
  gathers_end (Some z) is g can r told fewer =
      gathers_few (10 ^ 18) z is (omega arith) (omega arith) g can (first_of T (n S) columns (literals S) tables u most N table_of g.group h.stoods g.gathering (j.budget (length j.building)) r) told
      (fewer (ap (λ (k : ℕ). let o : Option ℕ = Some k in o) is))
