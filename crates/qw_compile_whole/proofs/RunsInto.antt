-- The run of a pipeline whose rows go into something that stands behind the tables of joins, as groups and the areas of set functions do: it is placed there
-- with nothing in it, and then a scan feeds it. It may have rows already, of pipelines before.
use Rattle.std.proofs.Common.{◌≡◌, ℕ, ◌+◌, ◌*◌, ◌<◌, ◌≤◌, inl, inr, Some, List, [], ◌++◌, drop, length, length-append, map, slice_get, take, sym, ap, ◌∙◌, subst, ⊎_elim, arith}
use Rattle.std.specs.List.{AllByRecursion}
use Rattle.std.proofs.lemmas.List.{take-append-drop, take_all}
use Rattle.std.proofs.lemmas.Option.{slice_get_within}
use Rattle.std.proofs.lemmas.Nat.{mul-le}
use Rattle.std.proofs.Math.Nat.{add-mul}
use Rattle.qw_linear.specs.Memory.{page}
use Rattle.qw_module.specs.declared.instruction.ValType.{ValType}
use Rattle.qw_module.specs.declared.instruction.ValType.TheVariants.{I32, I64}
use Rattle.qw_types.specs.declared.value.Val.{Val}
use Rattle.qw_scalar.specs.Expression.{Expression}
use Rattle.qw_meaning.specs.Flow.{Flow}
use Rattle.qw_low.specs.Syntax.{Statement, seq}
use Rattle.qw_low.specs.State.{Own, Column, Value, Number, Cells, LowState}
use Rattle.qw_low.specs.Meaning.{meaning}
use Rattle.qw_low.specs.Promise.{Ends}
use Rattle.qw_low.specs.Size.{size}
use Rattle.qw_low.proofs.LessKnown.{IsLess}
use Rattle.qw_low.proofs.Promises.{Ends-more, Ends-then, Ends-weaker}
use Rattle.qw_low.proofs.Results.{at_least}
use Rattle.qw_feed.specs.Feeds.{Any, FedTo, Sink, Tells}
use Rattle.qw_feed.specs.Frames.{pos, Before, Below, But, From, Keeps}
use Rattle.qw_feed.specs.Scans.{rows_block}
use Rattle.qw_feed.proofs.Frames.{Never, Keeps-kept, Keeps-less, Keeps-then, below-under}
use Rattle.qw_feed.proofs.RoomRuns.{IsRefusal}
use Rattle.qw_limit.specs.Counting.{CountsDown}
use Rattle.qw_limit.proofs.CountedBlocks.{spares_counts}
use Rattle.qw_limit.proofs.LimitedFeeds.{limit_of}
use Rattle.qw_group.specs.Single.{single_block}
use Rattle.qw_expr.specs.Computes.{Known}
use Rattle.qw_read.specs.Reading.{known_of}
use Rattle.qw_read.specs.declared.reader.Reader.{Reader}
use Rattle.qw_physical.specs.Physical as physical
use Rattle.qw_physical.specs.Physical.{Pipeline, select}
use Rattle.qw_physical.specs.declared.pipeline.ReadColumn.{ReadColumn}
use Rattle.qw_operator.specs.Takes.{CanCarry}
use Rattle.qw_operator.proofs.CarriedTyped.{IsReaderDeclared}
use Rattle.qw_operator.proofs.Filters.{Runs}
use Rattle.qw_operator.proofs.OperatorsFeed.{FeedsEnd}
use Rattle.qw_operator.proofs.Promised.{AreOwn}
use Rattle.qw_operator.proofs.Stood.{AllStand, Stood, built_of, stood_keeps}
use Rattle.qw_operator.specs.Costs.{pipeline_cost_to}
use Rattle.qw_operator.proofs.FieldParts.{take_few}
use Rattle.qw_operator.proofs.PipelineFeeds.{ScannedTo, pipeline_to_feeds}
use Rattle.qw_operator.proofs.RowCounted.{begins_spare}
use Rattle.qw_compile.specs.QueryLocals.{base_start, cell_start, own_start, query_readers, rows_end, rows_left}
use Rattle.qw_compile.specs.Statements.{Course, count_block, course_block}
use Rattle.qw_compile.proofs.CourseBegins.{Opened}
use Rattle.qw_compile.proofs.PipelineRuns.{Finds, Grounds, Source, Steady, all_keep, course_opens, declared_over, fed_over, laid, less_known, opened_keeps, readers_of, scanned_rows, standing_at, steady_below}
use Rattle.qw_compile_whole.specs.GroupedStatements.{IsGatheringTo}
use Rattle.qw_compile_whole.proofs.Beginnings.{IsBeginning, beginning_first}
use Rattle.qw_compile_whole.proofs.SeenBehind.{StandBetween}

-- ---- the first of the rows
abbrev pub AreFirstOf : (limit : ℕ) → (all : List (List Val)) → List (List Val) → Type 0
AreFirstOf limit all rows = IsBeginning all rows × (length rows ≤ limit)

pub first_beginning : (limit : ℕ) (all rows more : List (List Val)) → AreFirstOf limit all (rows ++ more) → AreFirstOf limit all rows
first_beginning limit all rows more h = (beginning_first all rows more h.0, (let count = length-append rows more in let fewer = h.1 in omega (arith, count, fewer)))

pub first_rows : (limit : ℕ) (all : List (List Val)) → AreFirstOf limit all (take limit all)
first_rows limit all = ((drop limit all, take-append-drop limit all), take_few limit all)

-- ---- where it is placed
-- what is seen and the tables stand before it
abbrev pub SeenBefore : Cells → (part offset : ℕ) → Type 0
SeenBefore c k o = (j a w : ℕ) (x : Value) → c (Own j) a w ≡ Some x → pos j a + w ≤ pos k o

abbrev pub TablesBefore : List Stood → (part offset : ℕ) → Type 0
TablesBefore stoods k o = (i : ℕ) (st : Stood) → slice_get stoods i ≡ Some st → st.front ≤ pos k o

-- a local leads to it, and it has these rows
pub record Placed (d front : ℕ) (sink : (part offset : ℕ) → Sink) (so_far : List (List Val)) (s t : LowState) : Type 0 where
  pub part : ℕ
  pub offset : ℕ
  pub behind : front ≤ pos part offset
  pub keeps : Keeps (But d (From 3)) (Before front) s t
  pub has : (sink part offset).Has so_far t

-- of one that takes no more than a local counts, where none has come yet
pub placed_within : (d front : ℕ) (sink : (part offset : ℕ) → Sink) (s t : LowState) (limit z : ℕ) → 3 ≤ z → z < d → slice_get s.locals z ≡ Some (Number limit) → Placed d front sink [] s t → Placed d front (λ k o. limit_of limit z (sink k o)) [] s t
placed_within d front sink s t limit z high low holds h = record {
  part = h.part;
  offset = h.offset;
  behind = h.behind;
  keeps = h.keeps;
  has = record {
    has = subst (λ (xs : List (List Val)). (sink h.part h.offset).Has xs t) (sym (take_all limit [] (omega arith))) h.has;
    left = h.keeps.locals z (inr high, λ e. omega (arith, e, low)) ∙ (holds ∙ ap (λ (m : ℕ). Some (Number m)) (omega arith));
  };
}

-- ---- the local is one that it doesn't rest on
block_counts : (z octets d : ℕ) → 3 ≤ z → z < d → CountsDown z (single_block octets d)
block_counts z octets d high low =
    (inl ((λ e. omega (arith, e, high), inl (λ e. omega (arith, e, high))), tt), (inl (λ e. omega (arith, e, low)), (inl (λ e. omega (arith, e, high)), inl (λ e. omega (arith, e, high)))))

count_counts : (z t k : ℕ) → z ≤ 4 → CountsDown z (count_block t k)
count_counts z t k low = ((λ e. omega (arith, e, low)), (inl (λ e. omega (arith, e, low)), inl (λ e. omega (arith, e, low))))

module _ (T n : ℕ) (columns : List ReadColumn) (literals : List Known) (contents : List (List (List Val))) (c : Cells) (base u most fuel N many : ℕ) (types : List ValType) (s0 : LowState) (grounds : Grounds T n columns literals c base u fuel N many types s0) where
  abbrev start : ℕ
  start = base_start T n

  abbrev low : ℕ
  low = cell_start T n (length columns)

  abbrev over : (entry : ℕ) → List Reader
  over entry = readers_of T n columns entry

  abbrev Same : LowState → Type 0
  Same s = Keeps (Steady T n) (Before base) s0 s

  module _ (stoods : List Stood) (room_T : length stoods < T) (p : Pipeline) (values : List Expression) (is_select : p.sink ≡ select values) (turn : List Val → ℕ) (End : List Known → (next : ℕ) → Statement → List ValType → Type 0)
      (course : Course) (next : ℕ) (own : List ValType) (behind : own_start T n (length columns) ≤ next) (room : next + length own ≤ many) (is : IsGatheringTo End literals (query_readers T n columns) next p course own) (own_types : AreOwn types next own) where
    abbrev fed : Flow (List Val)
    fed = fed_over contents stoods p

    -- ---- all of it counts the local down, where the scan does
    pub course_counts : (z octets d : ℕ) → z < d → (place : (3 ≤ z) × (z ≤ 4)) → slice_get types 0 ≡ Some I32 → slice_get types 1 ≡ Some I32 → slice_get types 2 ≡ Some I32 → slice_get types z ≡ Some I64 → AllByRecursion (IsReaderDeclared types) (over p.entry) →
        CountsDown z (rows_block (rows_left T) course.row) → CountsDown z (seq (single_block octets d) (course_block T course))
    course_counts z octets d z_low place page_is free_is left_is z_is readers_declared scan = (
      block_counts z octets d place.0 z_low,
      (
        count_counts z T course.index place.1,
        (
          spares_counts z course.begins (begins_spare types free_is left_is z place z_is literals (over p.entry) (rows_left T) (rows_left T) (rows_end T) low next (omega arith) (laid T n columns literals contents c base u most fuel N many types s0 grounds p.entry next behind)
              (declared_over T n columns literals contents c base u most fuel N many types s0 grounds p.entry) readers_declared page_is course.begins is.begins),
          scan,
        ),
      ),
    )

    -- It is one of these sinks, which spare all that is before it, and may take these rows behind those that it has; behind what is seen and the tables a row's block feeds it.
    module _ (source : Source T n columns contents s0 p) (finds : Finds T n columns literals contents N stoods p) (cost : 1 + pipeline_cost_to values turn contents (built_of stoods) p ≤ N) (d : ℕ) (d_high : 5 + length stoods ≤ d) (d_low : d < rows_left T)
        (sink : (part offset : ℕ) → Sink) (so_far : List (List Val)) (spared : (k o at wide : ℕ) → at + wide ≤ pos k o → (sink k o).Spared at wide) (may : (k o : ℕ) → (sink k o).May (so_far ++ (fed_over contents stoods p).rows))
        (feeds : (k o : ℕ) → SeenBefore c k o → TablesBefore stoods k o → Runs c stoods (rows_left T) (sink k o) × FeedsEnd c stoods (rows_left T) (sink k o) most fuel many types End (select values) turn)
        (front : ℕ) (front_behind : base ≤ front) (fronts : StandBetween base front stoods) (s : LowState) (stand : AllStand c stoods s) (keeps : Keeps (Steady T n) (Before base) s0 s)
        (Post : LowState → Type 0) (taken : (k o : ℕ) → base ≤ pos k o → StandBetween base (pos k o) stoods → (w : LowState) → (sink k o).Has (so_far ++ (fed_over contents stoods p).rows) w → Keeps (Steady T n) (Before base) s0 w → AllStand c stoods w → Post w) where
      abbrev Done : LowState → Type 0
      Done w = Post w × (fed.codes ≡ [])

      -- it has been placed
      module _ (t : LowState) (h : Placed d front sink so_far s t) where
        abbrev k : ℕ
        k = h.part

        abbrev o : ℕ
        o = h.offset

        same_t : Same t
        same_t = Keeps-then (Steady T n) (Before base) s0 s t keeps
            (Keeps-less (Steady T n) (Before base) (But d (From 3)) (Before front) s t
            (λ i old. ⊎_elim (λ z. (inl z, λ e. omega (arith, z, e, d_high))) (λ g'. (inr (omega (arith, g'.0)), λ e. omega (arith, g'.0, e, d_low))) old)
            (λ at wide' low'. omega (arith, low', front_behind)) h.keeps)

        stand_t : AllStand c stoods t
        stand_t = all_keep T n columns literals contents c base u most fuel N many types s0 grounds IsRefusal stoods d (Before front) front s t fronts (λ at wide' low'. low') d_high
            (Keeps-less (Below d) (Before front) (But d (From 3)) (Before front) s t (λ i old. ⊎_elim (λ z. (inl z, λ e. omega (arith, z, e, d_high))) (λ g'. (inr (omega (arith, g'.0)), λ e. omega (arith, g'.1, e))) old) (λ at wide' low'. low') h.keeps)
            stand

        seen_before : SeenBefore c k o
        seen_before j a w x is' = let seen_low = (grounds.own_seen j a w x is').0.1 in omega (arith, seen_low, front_behind, h.behind)

        tables_before : TablesBefore stoods k o
        tables_before i st there = let old = fronts i st there in omega (arith, old.1, h.behind)

        -- the scan begins
        module _ (v : LowState) (opened : Opened T (length (scanned_rows contents p)) start (over p.entry) t v) where
          stand_v : AllStand c stoods v
          stand_v = all_keep T n columns literals contents c base u most fuel N many types s0 grounds IsRefusal stoods (rows_left T) (λ at wide'. Unit {0}) front t v fronts (λ at wide' low'. tt) (omega (arith, room_T))
              (Keeps-kept (Below (rows_left T)) (λ at wide'. Unit {0}) (rows_left T) t v (λ i old. below-under (rows_left T) (rows_left T) i (omega arith) (omega arith) old) opened.kept) stand_t

          literals_same : (i : ℕ) → 8 + T ≤ i → i < start → slice_get v.locals i ≡ slice_get s0.locals i
          literals_same i from to = opened.later i (omega (arith, from)) to ∙ (same_t).locals i (inr (from, to))

          cells_same : v.cells ≡ t.cells
          cells_same = ap (λ (x : LowState). x.cells) opened.kept.others

          columns_same : v.columns ≡ s0.columns
          columns_same = ap (λ (x : LowState). x.columns) opened.kept.others ∙ (same_t).columns

          mapped_same : (j a b : ℕ) → v.cells (Column j) a b ≡ s0.cells (Column j) a b
          mapped_same j a b = ap (λ (x : Cells). x (Column j) a b) cells_same ∙ (same_t).mapped j a b

          scanned : ScannedTo End values turn c stoods literals (over p.entry) (rows_left T) (rows_left T) (rows_end T) low next many fuel types contents p course.row own v
          scanned = record {
            is_row = is.row;
            can = subst (λ (snk : physical.Sink). CanCarry (literals ++ map known_of (over p.entry)) p.operators snk) is_select finds.can;
            apart = finds.apart;
            served = finds.served;
            laid = laid T n columns literals contents c base u most fuel N many types s0 grounds p.entry next behind;
            room = room;
            declared = declared_over T n columns literals contents c base u most fuel N many types s0 grounds p.entry;
            own_types = own_types;
            less = subst (λ (x : Cells). IsLess c x) (sym cells_same) (less_known T n columns literals contents c base u most fuel N many types s0 grounds t (same_t));
            held = λ row. grounds.held v literals_same (ap (λ (x : LowState). slice_get x.own 0) opened.kept.others ∙ (same_t).own 0 page grounds.first_page) row;
            fit = grounds.fit;
            stays = record {
              mapped = λ j a b. grounds.columns_seen j a b ∙ sym (mapped_same j a b);
              bases = opened.bases;
              rows_stand = λ i row there. standing_at T n columns literals contents c base u most fuel N many types s0 grounds i row (over p.entry) v mapped_same columns_same (source.stand i row there);
            };
            nulls = finds.nulls;
            stand = stand_v;
            left_is = opened.left;
            end_is = opened.end;
            few = omega (arith, source.few);
            long = let long = grounds.long in omega (arith, long, opened.kept.many, (same_t).many);
            enough = let turns = grounds.turns in omega (arith, cost, turns);
          }

          fed_so : (w : LowState) → FedTo (sink k o) (But (rows_left T) (Below low)) Any fed so_far v w → Done w
          fed_so w done = (
            taken k o (omega (arith, front_behind, h.behind)) (λ i st there. ((fronts i st there).0, tables_before i st there)) w done.has (Keeps-then (Steady T n) (Before base) s0 v w
                (Keeps-then (Steady T n) (Before base) s0 t v same_t (opened_keeps T n columns literals contents c base u most fuel N many types s0 grounds (length (scanned_rows contents p)) (over p.entry) t v opened))
                (Keeps-less (Steady T n) (Before base) (But (rows_left T) (Below low)) (sink k o).Spared v w (steady_below T n columns literals contents c base u most fuel N many types s0 grounds)
                (λ at wide' low'. spared k o at wide' (omega (arith, low', front_behind, h.behind))) done.keeps))
                (λ i st there. stood_keeps c i st (But (rows_left T) (Below low)) (sink k o).Spared v w (let inside = slice_get_within stoods i st there in (inr (omega arith, omega (arith, inside, room_T)), λ e. omega (arith, e, inside, room_T)))
                (λ at wide' low' high'. spared k o at wide' (let before = tables_before i st there in omega (arith, high', before))) done.keeps (stand_v i st there)),
            done.none,
          )

          loop_ends : Ends (size (rows_block (rows_left T) course.row) * N) Done Never (Tells fed.codes) (meaning most fuel (rows_block (rows_left T) course.row) v)
          loop_ends =
              let spent : ℕ = 1 + pipeline_cost_to values turn contents (built_of stoods) p in
              let block : Statement = rows_block (rows_left T) course.row in
              let by = feeds k o seen_before tables_before in
              Ends-weaker (size block * spent) (size block * N) (FedTo (sink k o) (But (rows_left T) (Below low)) Any fed so_far v) Done Never Never (Tells fed.codes) (Tells fed.codes) (meaning most fuel block v)
              (mul-le (size block) spent (size block) N (omega arith) cost) fed_so (λ w x. x) (λ code x. x)
              (pipeline_to_feeds c stoods (rows_left T) (sink k o) by.0 most fuel many types contents p End values turn by.1 literals (over p.entry) (rows_left T) (rows_end T) low next course.row own v scanned is_select
              so_far (by.0.kept (rows_left T) so_far t v (omega arith) opened.kept h.has) (may k o))

        -- behind pipelines that have fed it, or behind what places it
        pub course_ends : Ends (9 + (size course.begins + size (rows_block (rows_left T) course.row) * N)) Done Never (Tells fed.codes) (meaning most fuel (course_block T course) t)
        course_ends =
            course_opens T n columns literals contents c base u most fuel N many types s0 grounds p course is.first is.first_is is.index_is is.begins source (rows_block (rows_left T) course.row) (size (rows_block (rows_left T) course.row) * N) Done (Tells fed.codes) t same_t
            (λ v opened. loop_ends v opened)

      pub into_ends : (begins : Statement) (spent : ℕ) → spent ≤ size begins → Ends spent (Placed d front sink so_far s) Never IsRefusal (meaning most fuel begins s) → Ends (size (seq begins (course_block T course)) * N) Done Never (Tells fed.codes) (meaning most fuel (seq begins (course_block T course)) s)
      into_ends begins spent less placed =
          let loop : ℕ = size (rows_block (rows_left T) course.row) in
          let all : ℕ = size begins + (9 + size course.begins) in
          Ends-more Done Never (Tells fed.codes) (size begins + (9 + (size course.begins + loop * N))) (size (seq begins (course_block T course)) * N) (meaning most fuel (seq begins (course_block T course)) s)
          (omega (arith, add-mul all loop N, at_least all N grounds.some))
          (Ends-then Done Never (Tells fed.codes) (size begins) (9 + (size course.begins + loop * N)) (Placed d front sink so_far s) (meaning most fuel begins s) (meaning most fuel (course_block T course))
          (Ends-weaker spent (size begins) (Placed d front sink so_far s) (Placed d front sink so_far s) Never Never IsRefusal (Tells fed.codes) (meaning most fuel begins s) less (λ t x. x) (λ t x. x) (λ code x. inl x) placed)
          course_ends)
