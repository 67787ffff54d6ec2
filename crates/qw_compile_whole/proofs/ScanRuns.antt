-- The scan of a statement whose rows go into something that is placed behind the tables of joins, as groups and the areas of set functions are; a local may count
-- its rows down.
use Rattle.std.proofs.Common.{◌≡◌, ℕ, ◌+◌, ◌*◌, ◌≤◌, Some, List, [], length, slice_get, slice_set, ◌∙◌, arith, refl, ⊎_elim}
use Rattle.qw_module.specs.declared.instruction.ValType.{ValType}
use Rattle.qw_module.specs.declared.instruction.ValType.TheVariants.{I64}
use Rattle.qw_types.specs.declared.value.Val.{Val}
use Rattle.qw_meaning.specs.Flow.{Flow}
use Rattle.qw_map.proofs.TurnFacts.{slice_get-set_other}
use Rattle.qw_low.specs.State.{Value, LowState}
use Rattle.qw_low.specs.Meaning.{meaning}
use Rattle.qw_low.specs.Promise.{Ends}
use Rattle.qw_low.specs.Size.{size}
use Rattle.qw_low.specs.Syntax.{Statement, seq}
use Rattle.qw_feed.specs.Feeds.{Sink, Tells}
use Rattle.qw_feed.specs.Frames.{pos, Before, Below, Keeps}
use Rattle.qw_feed.proofs.Frames.{Never, Keeps-same, Keeps-set, Keeps-then}
use Rattle.qw_feed.proofs.RoomRuns.{IsRefusal}
use Rattle.qw_feed.specs.Scans.{rows_block}
use Rattle.qw_limit.specs.Counting.{CountsDown}
use Rattle.qw_group.specs.Single.{single_block}
use Rattle.qw_expr.specs.Computes.{Known}
use Rattle.qw_physical.specs.Physical.{select}
use Rattle.qw_operator.specs.Carries.{directory}
use Rattle.qw_operator.proofs.Stood.{AllStand, built_of}
use Rattle.qw_operator.proofs.Filters.{Runs}
use Rattle.qw_operator.proofs.OperatorsFeed.{FeedsEnd}
use Rattle.qw_operator.specs.Costs.{pipeline_cost_to}
use Rattle.qw_compile.specs.QueryLocals.{query_readers, rows_left}
use Rattle.qw_compile.specs.Statements.{course_block}
use Rattle.qw_compile.proofs.PipelineRuns.{Between, Steady, all_keep, fed_over, Finds}
use Rattle.qw_compile.proofs.QueryRuns.{GroundsAt, Joined, Joins, Setting, base, c, grounds, literals, many, n, own_first, source_of, types, HasColumnOf}
use Rattle.qw_compile_whole.specs.GroupedStatements.{IsGatheringTo}
use Rattle.qw_compile_whole.proofs.RunsInto.{Placed, course_counts, into_ends, SeenBefore, TablesBefore}
use Rattle.qw_compile_whole.proofs.FrontEnds.{Collects, number_is, readers_declared, stood_low, Collecting}
use Rattle.qw_compile_whole.proofs.GroupBounded.{rows_met}
use Rattle.qw_compile_whole.proofs.SeenBehind.{StandBetween}

module _ (S : Setting) (Told : ℕ → Type 0) (j : Joins S Told) (t : LowState) (h : Joined S Told j t) (Is : Collecting) (g : Collects S Told j Is) where
  open S use {T, columns, tables, table_of, most, N, u}

  abbrev next : ℕ
  next = own_first S + length j.builds_own

  abbrev fed : Flow (List Val)
  fed = fed_over tables h.stoods g.gathering

  ground : GroundsAt S h.s0
  ground = grounds S h.s0 h.begun

  -- ---- before the scan a local may be set
  module _ (z : ℕ) (place : (3 ≤ z) × (z ≤ 4)) (v : Value) where
    abbrev put : LowState
    put = record t { locals = slice_set t.locals z v }

    put_keeps : (Old : ℕ → Type 0) (Spared : ℕ → ℕ → Type 0) → ((i : ℕ) → Old i → i ≡ z → ⊥) → Keeps Old Spared t put
    put_keeps Old Spared new = Keeps-set Old Spared t t z v new (Keeps-same Old Spared t)

    pub at_put : Between T (n S) (c S) (base S) u h.s0 h.stoods (j.budget (length j.building)) (record t { locals = slice_set t.locals z v })
    at_put =
        let low = stood_low S Told j Is g t h in
        let between : Between T (n S) (c S) (base S) u h.s0 h.stoods (j.budget (length j.building)) t = h.between in
        record {
          part = between.part;
          offset = between.offset;
          room = record {
            last = between.room.last;
            pages = between.room.pages;
            within = between.room.within;
            free = slice_get-set_other t.locals z 1 v (λ e. omega (arith, e, place.0)) ∙ between.room.free;
            left = slice_get-set_other t.locals z 2 v (λ e. omega (arith, e, place.0)) ∙ between.room.left;
            zeros = between.room.zeros;
            owned = between.room.owned;
            limited = between.room.limited;
            few = between.room.few;
          };
          paid = between.paid;
          behind = between.behind;
          fronts = between.fronts;
          stand = all_keep T (n S) columns (literals S) tables (c S) (base S) u most N N (many S) (types S) h.s0 ground IsRefusal h.stoods (rows_left T) (λ at wide'. Unit {0}) (pos between.part between.offset) t put between.fronts (λ at wide' low'. tt) (omega (arith, low))
              (put_keeps (Below (rows_left T)) (λ at wide'. Unit {0}) (λ i old e. ⊎_elim (λ first. omega (arith, first, e, place.0)) (λ later. omega (arith, later.0, e, place.1)) old)) between.stand;
          keeps = Keeps-then (Steady T (n S)) (Before (base S)) h.s0 t put between.keeps
              (put_keeps (Steady T (n S)) (Before (base S)) (λ i old e. ⊎_elim (λ first. omega (arith, first, e, place.0)) (λ later. omega (arith, later.0, e, place.1)) old));
        }

  module _ (End : List Known → (next : ℕ) → Statement → List ValType → Type 0) (is : IsGatheringTo End (literals S) (query_readers T (n S) columns) (own_first S + length j.builds_own) g.gathering g.gathers g.own) (turn : List Val → ℕ) where
    -- ---- it is placed, and then the scan feeds it
    pub scan_ends : g.gathering.table ≡ table_of g.gathering.entry → HasColumnOf columns g.gathering.entry → Finds T (n S) columns (literals S) tables N h.stoods g.gathering → 1 + pipeline_cost_to g.group.values turn tables (built_of h.stoods) g.gathering ≤ N →
        (sink : (part offset : ℕ) → Sink) → ((k o at wide : ℕ) → at + wide ≤ pos k o → (sink k o).Spared at wide) → ((k o : ℕ) → (sink k o).May (rows_met tables h.stoods g.gathering)) →
        ((k o : ℕ) → SeenBefore (c S) k o → TablesBefore h.stoods k o → Runs (c S) h.stoods (rows_left T) (sink k o) × FeedsEnd (c S) h.stoods (rows_left T) (sink k o) most N (many S) (types S) End (select g.group.values) turn) →
        (s : LowState) (between : Between T (n S) (c S) (base S) u h.s0 h.stoods (j.budget (length j.building)) s) (Post : LowState → Type 0) →
        ((k o : ℕ) → base S ≤ pos k o → StandBetween (base S) (pos k o) h.stoods → (w : LowState) → (sink k o).Has (rows_met tables h.stoods g.gathering) w → Keeps (Steady T (n S)) (Before (base S)) h.s0 w → AllStand (c S) h.stoods w → Post w) →
        (begins : Statement) → 26 ≤ size begins → Ends 26 (Placed (directory g.group.table) (pos between.part between.offset) sink [] s) Never IsRefusal (meaning most N begins s) →
        Ends (size (seq begins (course_block T g.gathers)) * N) (λ w. Post w × (fed.codes ≡ [])) Never (Tells fed.codes) (meaning most N (seq begins (course_block T g.gathers)) s)
    scan_ends table_is has_column finds cost sink spared may feeds s between Post taken begins long placed =
        let number = number_is S Told j Is g t h in
        let low = stood_low S Told j Is g t h in
        into_ends T (n S) columns (literals S) tables (c S) (base S) u most N N (many S) (types S) h.s0 ground h.stoods low g.gathering g.group.values g.is_select turn End g.gathers next g.own (omega arith) g.room is g.types_are
        (source_of S h.s0 h.begun g.gathering table_is has_column) finds cost (directory g.group.table) (omega (arith, number)) (omega (arith, number, low)) sink [] spared may feeds
        (pos between.part between.offset) between.behind between.fronts s between.stand between.keeps Post taken begins 26 long placed

    -- ---- all of it counts a local down, where the block of a row does
    pub scan_counted : (z octets : ℕ) → (3 ≤ z) × (z ≤ 4) → slice_get (types S) z ≡ Some I64 → CountsDown z (rows_block (rows_left T) g.gathers.row) → CountsDown z (seq (single_block octets (directory g.group.table)) (course_block T g.gathers))
    scan_counted z octets place z_is row =
        course_counts T (n S) columns (literals S) tables (c S) (base S) u most N N (many S) (types S) h.s0 ground h.stoods (stood_low S Told j Is g t h) g.gathering g.group.values g.is_select turn End g.gathers next g.own (omega arith) g.room is g.types_are
        z octets (directory g.group.table) (omega (arith, place.1)) place refl refl refl z_is (readers_declared S Told j Is g) row
