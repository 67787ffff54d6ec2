-- What a pipeline's scan feeds, whatever the block of a row is, and whatever is innermost in it.
use Rattle.std.proofs.Common.{◌≡◌, ℕ, zero, suc, ◌+◌, ◌-◌, ◌*◌, ◌^◌, ◌<◌, ◌≤◌, inr, Option, Some, None, List, [], ◌∷◌, ◌++◌, length, map, slice_get, refl, sym, ap, ◌∙◌, subst, arith}
use Rattle.std.proofs.Math.Path.{fun_ext}
use Rattle.std.proofs.lemmas.List.{append-nil}
use Rattle.std.proofs.lemmas.Option.{same_Some, slice_get_within}
use Rattle.std.specs.List.{AllByRecursion}
use Rattle.qw_types.specs.Kind.{IsOfKind, type_kind}
use Rattle.qw_types.specs.Value.{IsSized}
use Rattle.qw_types.proofs.KindLemmas.{stored_of_kind}
use Rattle.qw_types.specs.declared.value.Val.{Val}
use Rattle.qw_module.specs.declared.instruction.ValType.{ValType}
use Rattle.qw_map.proofs.AreaLemmas.{all-append}
use Rattle.qw_meaning.specs.From.{entry_flow}
use Rattle.qw_scalar.specs.Evaluation.{cell_of}
use Rattle.qw_scalar.specs.Expression.{Expression}
use Rattle.qw_low.specs.Syntax.{Statement}
use Rattle.qw_low.specs.State.{Column, Value, Number, Cells, LowState}
use Rattle.qw_low.proofs.LessKnown.{IsLess, seen}
use Rattle.qw_expr.specs.Computes.{Known, AreHeld, AreDeclared}
use Rattle.qw_read.specs.Reading.{AreBases, AreCellsIn, HasBases, IsThere, StandsAt, known_of}
use Rattle.qw_read.specs.declared.reader.Reader.{Reader}
use Rattle.qw_read.proofs.Elsewhere.{stands_same}
use Rattle.qw_feed.specs.Cells.{Uses, UsesNull}
use Rattle.qw_feed.specs.Feeds.{Any, Sink as FlowSink, FeedsTo, flow_over, spend}
use Rattle.qw_feed.specs.Frames.{Below, But, Keeps}
use Rattle.qw_feed.specs.Scans.{rows_block}
use Rattle.qw_feed.specs.Stages.{Among}
use Rattle.qw_feed.proofs.ScanFeeds.{scan_feeds}
use Rattle.qw_physical.specs.Courses.{fed, pipeline_cost, pipeline_fed, sink_values}
use Rattle.qw_physical.specs.Physical.{Pipeline, Sink, select}
use Rattle.qw_operator.specs.Carries.{IsRow, IsSunk}
use Rattle.qw_operator.specs.Costs.{cost_to, pipeline_cost_to}
use Rattle.qw_operator.specs.Takes.{CanCarry}
use Rattle.qw_operator.proofs.ColumnReads.{cells_ahead}
use Rattle.qw_operator.proofs.Filters.{Runs, Here, base_high}
use Rattle.qw_leaves.specs.Leaves.{HasLeaves}
use Rattle.qw_leaves.proofs.Agreement.{value_at}
use Rattle.qw_scalar.specs.Typing.{IsUtf8Value}
use Rattle.qw_operator.proofs.KnownLeaves.{AreFit, Fits}
use Rattle.qw_operator.proofs.PairRows.{AreApart, IsNullAt, stored_utf8}
use Rattle.qw_operator.proofs.Fronts.{all_more}
use Rattle.qw_leaves.proofs.LeafLists.{all_pairs}
use Rattle.qw_operator.proofs.Promised.{AreOwn}
use Rattle.qw_operator.proofs.OperatorsFeed.{FeedsEnd, same_cost, sink_turn}
use Rattle.qw_operator.proofs.GuardedFeeds.{row_feeds}
use Rattle.qw_operator.proofs.Seen.{AreWithin, held_later, less_keeps, longer_keeps}
use Rattle.qw_operator.proofs.Served.{AreServed}
use Rattle.qw_operator.proofs.Stood.{Stood, AllStand, built_of, stood_keeps}

-- ---- locals
-- those between two
abbrev pub Between : (from below i : ℕ) → Type 0
Between from below i = (from < i) × (i < below)

-- A scan's locals: how many rows are left and how many there are; behind them the addresses of columns' parts, the literals' locals and those of
-- the columns' values.
pub record Laid (literals : List Known) (readers : List Reader) (base left end low next : ℕ) : Type 0 where
  pub counters : (base ≤ left) × (left < end) × (end < low)
  pub counted : AllByRecursion (λ (r : Reader). (r.left ≡ left) × (r.end ≡ end)) readers
  pub bases : AllByRecursion (AreBases (end + 1) low) readers
  pub cells : AreCellsIn low next readers
  pub within : AllByRecursion (λ (k : Known). Uses (Between end low) k.operand.cell) literals
  pub readers_within : AreWithin next (map known_of readers)

-- ---- columns that stand before the scan
abbrev pub StandsRow : Cells → List ℕ → (i : ℕ) → List Val → Reader → Type 0
StandsRow cells columns i row r = (v : Val) × (slice_get row r.column ≡ Some v) × StandsAt cells columns r.index r.ty r.not_null i v × IsSized r.ty

pub record Stays (c : Cells) (readers : List Reader) (rows : List (List Val)) (s : LowState) : Type 0 where
  pub mapped : (k a b : ℕ) → c (Column k) a b ≡ s.cells (Column k) a b
  pub bases : AllByRecursion (λ (r : Reader). HasBases (length rows) r s) readers
  pub rows_stand : (i : ℕ) (row : List Val) → slice_get rows i ≡ Some row → AllByRecursion (StandsRow s.cells s.columns i row) readers

-- ---- all that a pipeline's block begins with
pub record ScannedBy (Row : Statement → List ValType → Type 0) (snk : Sink) (units : ℕ) (c : Cells) (stoods : List Stood) (literals : List Known) (readers : List Reader) (base left end low next many fuel : ℕ) (types : List ValType) (tables : List (List (List Val))) (p : Pipeline) (row : Statement) (own : List ValType) (s : LowState) : Type 0 where
  pub is_row : Row row own
  pub can : CanCarry (literals ++ map known_of readers) p.operators snk
  pub apart : AreApart (literals ++ map known_of readers) p.operators
  pub served : AreServed stoods p.operators
  pub laid : Laid literals readers base left end low next
  pub room : next + length own ≤ many
  pub declared : AreDeclared types (literals ++ map known_of readers)
  pub own_types : AreOwn types next own
  pub less : IsLess c s.cells
  pub held : (r : List Val) → AreHeld literals r (seen c s)
  pub fit : (r : List Val) → AreFit r literals
  pub stays : Stays c readers (entry_flow tables p.entry p.table).rows s
  pub nulls : (i : ℕ) (r : List Val) → slice_get (entry_flow tables p.entry p.table).rows i ≡ Some r → IsNullAt r p.operators
  pub stand : AllStand c stoods s
  pub left_is : slice_get s.locals left ≡ Some (Number (4 * length (entry_flow tables p.entry p.table).rows))
  pub end_is : slice_get s.locals end ≡ Some (Number (4 * length (entry_flow tables p.entry p.table).rows))
  pub few : length (entry_flow tables p.entry p.table).rows < 2 ^ 30
  pub long : many ≤ length s.locals
  pub enough : 1 + units ≤ fuel

abbrev pub Scanned : (c : Cells) → (stoods : List Stood) → (literals : List Known) → (readers : List Reader) → (base left end low next many fuel : ℕ) → (types : List ValType) → (tables : List (List (List Val))) → (p : Pipeline) → (row : Statement) → (own : List ValType) → (s : LowState) → Type 0
Scanned c stoods literals readers base left end low next many fuel types tables p row own s =
    ScannedBy (IsRow (IsSunk p.sink) literals readers next p.operators) p.sink (pipeline_cost tables (built_of stoods) p) c stoods literals readers base left end low next many fuel types tables p row own s

-- ---- lists
one_spent : (u : List Val → ℕ) (rows : List (List Val)) (i : ℕ) (row : List Val) → slice_get rows i ≡ Some row → 1 + u row ≤ spend u rows
one_spent u [] i row there = absurd cc
one_spent u (r ∷ rows) zero row there = let same : u r ≡ u row = ap u (same_Some r row there) in omega (arith, same)
one_spent u (r ∷ rows) (suc i) row there = let rest = one_spent u rows i row there in omega (arith, rest)

rows_spent : (u : List Val → ℕ) (rows : List (List Val)) → length rows ≤ spend u rows
rows_spent u [] = omega arith
rows_spent u (r ∷ rows) = let rest = rows_spent u rows in omega (arith, rest)

null_more : (P Q : ℕ → Type 0) (null : Option ℕ) → ((i : ℕ) → P i → Q i) → UsesNull P null → UsesNull Q null
null_more P Q None more uses = tt
null_more P Q (Some x) more uses = more x uses

pub uses_more : (P Q : ℕ → Type 0) (known : List Known) → ((i : ℕ) → P i → Q i) → AllByRecursion (λ (k : Known). Uses P k.operand.cell) known → AllByRecursion (λ (k : Known). Uses Q k.operand.cell) known
uses_more P Q known more uses =
    all_more (λ (k : Known). Uses P k.operand.cell) (λ (k : Known). Uses Q k.operand.cell) known (λ k one. (more k.operand.cell.value one.0, more k.operand.cell.length one.1, null_more P Q k.operand.cell.null more one.2)) uses

-- a row fits the columns that stand at it
read_fit : (cells : Cells) (columns : List ℕ) (i : ℕ) (row : List Val) (readers : List Reader) → AllByRecursion (StandsRow cells columns i row) readers → AreFit row (map known_of readers)
read_fit cells columns i row [] stand = tt
read_fit cells columns i row (r ∷ readers) stand =
    let v : Val = stand.0.0 in
    let is : value_at row r.column ≡ v = ap cell_of stand.0.1 in (
      (subst (IsOfKind (type_kind r.ty)) (sym is) (stored_of_kind r.ty r.not_null v stand.0.3 stand.0.2.typed), subst IsUtf8Value (sym is) (stored_utf8 r.ty r.not_null v stand.0.2.typed)),
      read_fit cells columns i row readers stand.1,
    )

-- where a scan's locals are
module _ (literals : List Known) (readers : List Reader) (base left end low next : ℕ) (laid : Laid literals readers base left end low next) where
  pub laid_low : base ≤ low
  laid_low = let order = laid.counters in omega (arith, order.0, order.1, order.2)

  pub laid_within : 5 ≤ base → AreWithin low literals
  laid_within five = let order = laid.counters in uses_more (Between end low) (Among low) literals (λ i between. (omega (arith, between.0, order.0, order.1, five), between.1)) laid.within

-- the block of a row feeds what the operators make of it, within so many units
module _ (c : Cells) (stoods : List Stood) (base : ℕ) (sink : FlowSink) (runs : Runs c stoods base sink) (most fuel many : ℕ) (types : List ValType) (tables : List (List (List Val))) (p : Pipeline) (Row : Statement → List ValType → Type 0) (snk : Sink) (units : List Val → ℕ)
    (literals : List Known) (readers : List Reader) (left end low next : ℕ) (row : Statement) (own : List ValType) (s0 : LowState)
    (h : ScannedBy Row snk (spend units (entry_flow tables p.entry p.table).rows) c stoods literals readers base left end low next many fuel types tables p row own s0)
    (each : (r : List Val) (s : LowState) → AreFit r (literals ++ map known_of readers) → IsNullAt r p.operators → Here c stoods many (literals ++ []) r s → AllByRecursion (IsThere low (length (entry_flow tables p.entry p.table).rows) r s) readers →
    AllByRecursion (IsThere low (length (entry_flow tables p.entry p.table).rows) r (seen c s)) readers → 1 + units r ≤ fuel → FeedsTo sink most fuel (1 + units r) (Below low) Any (fed (built_of stoods) p.operators snk r) row s) where
  abbrev rows : List (List Val)
  rows = (entry_flow tables p.entry p.table).rows

  abbrev Old : ℕ → Type 0
  Old = But left (Below low)

  spent : 1 + spend units rows ≤ fuel
  spent = h.enough

  -- a local behind the counters is old
  behind_old : (i : ℕ) → Between end low i → Old i
  behind_old i between =
      let order = h.laid.counters in
      let five = base_high c stoods base sink runs in
      (inr (omega (arith, between.0, order.0, order.1, five), between.1), λ e. omega (arith, e, between.0, order.1))

  module _ (i : ℕ) (r : List Val) (s : LowState) (there : slice_get rows i ≡ Some r) (keeps : Keeps Old sink.Spared s0 s) (left_now : slice_get s.locals left ≡ Some (Number (4 * (length rows - i)))) where
    stand_now : AllStand c stoods s
    stand_now k st at =
        let order = h.laid.counters in
        let high = runs.high in
        let inside = slice_get_within stoods k st at in
        stood_keeps c k st Old sink.Spared s0 s (inr (omega arith, omega (arith, inside, high, order.0, order.1, order.2)), λ e. omega (arith, e, inside, high, order.0)) (runs.tables_spared k st at) keeps (h.stand k st at)

    held_now : AreHeld literals r (seen c s)
    held_now = held_later c (Between end low) s0 s (longer_keeps Old sink.Spared s0 s keeps) (λ j between. keeps.locals j (behind_old j between)) literals r h.laid.within (h.held r)

    end_now : slice_get s.locals end ≡ Some (Number (4 * length rows))
    end_now =
        let order = h.laid.counters in
        let five = base_high c stoods base sink runs in
        keeps.locals end (inr (omega (arith, order.0, order.1, five), order.2), λ e. omega (arith, e, order.1)) ∙ h.end_is

    -- a reader stands where it stood
    module _ (d : Cells) (q : LowState) (same : (k a b : ℕ) → q.cells (Column k) a b ≡ s0.cells (Column k) a b) (columns : q.columns ≡ s0.columns) (locals : q.locals ≡ s.locals) where
      reader_there : (x : Reader) → ((x.left ≡ left) × (x.end ≡ end)) × (AreBases (end + 1) low x × (HasBases (length rows) x s0 × StandsRow s0.cells s0.columns i r x)) → IsThere low (length rows) r q x
      reader_there x all =
          let order = h.laid.counters in
          let lows = all.1.0 in
          let bases = all.1.1.0 in
          let stands = all.1.1.1 in
          let at : (j : ℕ) → Between end low j → slice_get q.locals j ≡ slice_get s0.locals j = λ j between. ap (λ (l : List Value). slice_get l j) locals ∙ keeps.locals j (behind_old j between) in
          record {
            row = i;
            v = stands.0;
            value_is = stands.1;
            stands = subst (λ (l : List ℕ). StandsAt q.cells l x.index x.ty x.not_null i stands.0) (sym columns) (stands_same s0.cells q.cells same x.index i s0.columns x.ty x.not_null stands.0 stands.2);
            sized = stands.3;
            bases = record {
              values = let one = lows.values in at x.values (omega (arith, one.0), one.1) ∙ bases.values;
              octets = λ is. let one = lows.octets is in at x.octets (omega (arith, one.0), one.1) ∙ bases.octets is;
              nulls = λ is. let one = lows.nulls is in at x.nulls (omega (arith, one.0), one.1) ∙ bases.nulls is;
            };
            at_row = record {
              within = slice_get_within rows i r there;
              end = (omega (arith, all.0.1, order.2), ap (λ (j : ℕ). slice_get q.locals j) all.0.1 ∙ (ap (λ (l : List Value). slice_get l end) locals ∙ end_now));
              left = (omega (arith, all.0.0, order.1, order.2), ap (λ (j : ℕ). slice_get q.locals j) all.0.0 ∙ (ap (λ (l : List Value). slice_get l left) locals ∙ left_now));
            };
            bases_below = record {
              values = let one = lows.values in (omega arith, one.1);
              octets = λ is. let one = lows.octets is in (omega arith, one.1, one.2);
              nulls = λ is. let one = lows.nulls is in (omega arith, one.1, one.2, one.3);
            };
          }

      all_there : AllByRecursion (IsThere low (length rows) r q) readers
      all_there =
          all_more (λ x. ((x.left ≡ left) × (x.end ≡ end)) × (AreBases (end + 1) low x × (HasBases (length rows) x s0 × StandsRow s0.cells s0.columns i r x))) (IsThere low (length rows) r q) readers reader_there
          (all_pairs (λ (x : Reader). (x.left ≡ left) × (x.end ≡ end)) (λ x. AreBases (end + 1) low x × (HasBases (length rows) x s0 × StandsRow s0.cells s0.columns i r x)) readers h.laid.counted
          (all_pairs (AreBases (end + 1) low) (λ x. HasBases (length rows) x s0 × StandsRow s0.cells s0.columns i r x) readers h.laid.bases
          (all_pairs (λ (x : Reader). HasBases (length rows) x s0) (StandsRow s0.cells s0.columns i r) readers h.stays.bases (h.stays.rows_stand i r there))))

    fit_now : AreFit r (literals ++ map known_of readers)
    fit_now = all-append (λ (k : Known). HasLeaves (Fits r) k.expression) literals (map known_of readers) (h.fit r) (read_fit s0.cells s0.columns i r readers (h.stays.rows_stand i r there))

    row_fed : FeedsTo sink most fuel (1 + units r) (Below low) Any (fed (built_of stoods) p.operators snk r) row s
    row_fed =
        let one = one_spent units rows i r there in
        each r s fit_now (h.nulls i r there)
        (record {
          less = less_keeps c Old sink.Spared s0 s runs.seen_spared keeps h.less;
          held = subst (λ (ks : List Known). AreHeld ks r (seen c s)) (sym (append-nil literals)) held_now;
          stand = stand_now;
          long = let same = keeps.many in let long = h.long in omega (arith, same, long);
        })
        (all_there s.cells s keeps.mapped keeps.columns refl) (all_there c (seen c s) h.stays.mapped keeps.columns refl) (omega (arith, one, spent))

  pub scan_fed : FeedsTo sink most fuel (1 + spend units rows) (But left (Below low)) Any (flow_over (fed (built_of stoods) p.operators snk) rows) (rows_block left row) s0
  scan_fed =
      let order = h.laid.counters in
      let five = base_high c stoods base sink runs in
      let all = rows_spent units rows in
      let long = h.long in
      let room = h.room in
      let ahead = cells_ahead low next readers h.laid.cells in
      scan_feeds sink most fuel left (Below low) (inr (omega (arith, order.0, five), omega (arith, order.1, order.2))) (λ taken t u kept. runs.kept left taken t u order.0 kept) rows h.few (fed (built_of stoods) p.operators snk) units row s0
      (λ i r s there keeps left_now. row_fed i r s there keeps left_now)
      (omega (arith, all, spent)) h.left_is (omega (arith, order.1, order.2, ahead, room, long))

-- ---- a pipeline whose rows are taken by what is innermost, where so much is spent on the values that are evaluated there
module _ (c : Cells) (stoods : List Stood) (base : ℕ) (sink : FlowSink) (runs : Runs c stoods base sink) (most fuel many : ℕ) (types : List ValType) (tables : List (List (List Val))) (p : Pipeline) (End : List Known → (next : ℕ) → Statement → List ValType → Type 0) (snk : Sink) (turn : List Val → ℕ)
    (ends : FeedsEnd c stoods base sink most fuel many types End snk turn) (literals : List Known) (readers : List Reader) (left end low next : ℕ) (row : Statement) (own : List ValType) (s0 : LowState)
    (h : ScannedBy (IsRow End literals readers next p.operators) snk (pipeline_cost_to (sink_values snk) turn tables (built_of stoods) p) c stoods literals readers base left end low next many fuel types tables p row own s0) where
  taken : FeedsTo sink most fuel (1 + pipeline_cost_to (sink_values snk) turn tables (built_of stoods) p) (But left (Below low)) Any (flow_over (fed (built_of stoods) p.operators snk) (entry_flow tables p.entry p.table).rows) (rows_block left row) s0
  taken =
      let low_base = laid_low literals readers base left end low next h.laid in
      let within = laid_within literals readers base left end low next h.laid (base_high c stoods base sink runs) in
      scan_fed c stoods base sink runs most fuel many types tables p (IsRow End literals readers next p.operators) snk (cost_to (sink_values snk) turn (built_of stoods) p.operators) literals readers left end low next row own s0 h
      (λ r s fit nulls here whole seen_so enough.
      row_feeds c stoods base sink runs most fuel many types End snk turn ends (length (entry_flow tables p.entry p.table).rows) literals readers low next p.operators row own h.is_row low_base h.room h.laid.cells within h.laid.readers_within h.declared h.own_types h.can h.apart h.served r fit nulls s
      (record { here = here; there = record { whole = whole; seen_so = seen_so } }) enough)

-- ---- its sink
pub pipeline_feeds : (c : Cells) (stoods : List Stood) (base : ℕ) (sink : FlowSink) (runs : Runs c stoods base sink) (most fuel many : ℕ) (types : List ValType) (tables : List (List (List Val))) (p : Pipeline) → FeedsEnd c stoods base sink most fuel many types (IsSunk p.sink) p.sink (sink_turn p.sink) →
    (literals : List Known) (readers : List Reader) (left end low next : ℕ) (row : Statement) (own : List ValType) (s0 : LowState) → Scanned c stoods literals readers base left end low next many fuel types tables p row own s0 →
    FeedsTo sink most fuel (1 + pipeline_cost tables (built_of stoods) p) (But left (Below low)) Any (pipeline_fed tables (built_of stoods) p) (rows_block left row) s0
pipeline_feeds c stoods base sink runs most fuel many types tables p sunk literals readers left end low next row own s0 h =
    let same : pipeline_cost_to (sink_values p.sink) (sink_turn p.sink) tables (built_of stoods) p ≡ pipeline_cost tables (built_of stoods) p =
    ap (λ (units : List Val → ℕ). spend units (entry_flow tables p.entry p.table).rows) (fun_ext (same_cost (built_of stoods) p.operators p.sink)) in
    subst (λ (n : ℕ). FeedsTo sink most fuel (1 + n) (But left (Below low)) Any (pipeline_fed tables (built_of stoods) p) (rows_block left row) s0) same
    (taken c stoods base sink runs most fuel many types tables p (IsSunk p.sink) p.sink (sink_turn p.sink) sunk literals readers left end low next row own s0
    (subst (λ (n : ℕ). ScannedBy (IsRow (IsSunk p.sink) literals readers next p.operators) p.sink n c stoods literals readers base left end low next many fuel types tables p row own s0) (sym same) h))

-- ---- what takes the values of a result that isn't made
abbrev pub ScannedTo : (End : List Known → (next : ℕ) → Statement → List ValType → Type 0) → (values : List Expression) → (turn : List Val → ℕ) → (c : Cells) → (stoods : List Stood) → (literals : List Known) → (readers : List Reader) → (base left end low next many fuel : ℕ) → (types : List ValType) → (tables : List (List (List Val))) → (p : Pipeline) → (row : Statement) → (own : List ValType) → (s : LowState) → Type 0
ScannedTo End values turn c stoods literals readers base left end low next many fuel types tables p row own s =
    ScannedBy (IsRow End literals readers next p.operators) (select values) (pipeline_cost_to values turn tables (built_of stoods) p) c stoods literals readers base left end low next many fuel types tables p row own s

-- the rows of a pipeline that makes a result of these values
pub pipeline_to_feeds : (c : Cells) (stoods : List Stood) (base : ℕ) (sink : FlowSink) (runs : Runs c stoods base sink) (most fuel many : ℕ) (types : List ValType) (tables : List (List (List Val))) (p : Pipeline) (End : List Known → (next : ℕ) → Statement → List ValType → Type 0) (values : List Expression) (turn : List Val → ℕ) →
    FeedsEnd c stoods base sink most fuel many types End (select values) turn → (literals : List Known) (readers : List Reader) (left end low next : ℕ) (row : Statement) (own : List ValType) (s0 : LowState) →
    ScannedTo End values turn c stoods literals readers base left end low next many fuel types tables p row own s0 → p.sink ≡ select values →
    FeedsTo sink most fuel (1 + pipeline_cost_to values turn tables (built_of stoods) p) (But left (Below low)) Any (pipeline_fed tables (built_of stoods) p) (rows_block left row) s0
pipeline_to_feeds c stoods base sink runs most fuel many types tables p End values turn ends literals readers left end low next row own s0 h is =
    subst (λ (snk : Sink). FeedsTo sink most fuel (1 + pipeline_cost_to values turn tables (built_of stoods) p) (But left (Below low)) Any (flow_over (fed (built_of stoods) p.operators snk) (entry_flow tables p.entry p.table).rows) (rows_block left row) s0) (sym is)
    (taken c stoods base sink runs most fuel many types tables p End (select values) turn ends literals readers left end low next row own s0 h)
