-- The run of a query's pipelines, one after another: between them stand the tables that were built.
use Rattle.std.proofs.Common.{◌≡◌, ℕ, zero, suc, ◌+◌, ◌*◌, ◌<◌, ◌≤◌, ◌⊎◌, inl, inr, append_assoc, append-nil, Some, List, [], ◌∷◌, ◌++◌, length, length-append, map, slice_get, refl, sym, ap, ◌∙◌, subst, ⊎_elim, arith}
use Rattle.std.specs.List.{AllByRecursion}
use Rattle.std.specs.List.Sorted.{IsPermutation}
use Rattle.std.proofs.lemmas.List.{length-map}
use Rattle.std.proofs.lemmas.Nat.{mul-le}
use Rattle.std.proofs.lemmas.Option.{same_Some, slice_get_within}
use Rattle.std.proofs.Math.Nat.{add-mul}
use Rattle.qw_types.specs.Value.{IsSized}
use Rattle.qw_types.specs.declared.value.Val.{Val}
use Rattle.qw_linear.specs.Memory.{page}
use Rattle.qw_module.specs.declared.instruction.ValType.{ValType}
use Rattle.qw_map.specs.Columns.{values_size}
use Rattle.qw_map.specs.Layout.{entry_offset}
use Rattle.qw_map.specs.declared.layout.Used.{Used}
use Rattle.qw_map.proofs.AreaLemmas.{all-append}
use Rattle.qw_meaning.specs.Flow.{Flow}
use Rattle.qw_meaning.specs.From.{entry_flow}
use Rattle.qw_low.specs.Syntax.{Statement, seq}
use Rattle.qw_low.specs.State.{Own, Column, Value, Number, Address, Cells, LowState}
use Rattle.qw_low.specs.Begin.{KnowsEntry}
use Rattle.qw_low.specs.Meaning.{meaning}
use Rattle.qw_low.specs.Promise.{Ends}
use Rattle.qw_low.specs.Size.{size}
use Rattle.qw_low.proofs.LessKnown.{IsLess, seen}
use Rattle.qw_low.proofs.Promises.{Ends-more, Ends-then, Ends-weaker}
use Rattle.qw_low.proofs.Results.{at_least}
use Rattle.qw_feed.specs.Cells.{HasRow, Uses, kinds_of}
use Rattle.qw_feed.specs.Feeds.{Any, AtMost, FedTo, Sink, Tells}
use Rattle.qw_feed.specs.Frames.{pos, Before, Below, But, From, Keeps}
use Rattle.qw_feed.specs.Room.{HasRoom, Paid}
use Rattle.qw_feed.specs.Rows.{BesideRoot, HasRows, begin_block, rows_sink}
use Rattle.qw_feed.specs.Scans.{rows_block}
use Rattle.qw_feed.specs.Stages.{Among}
use Rattle.qw_feed.proofs.CellFills.{row-same}
use Rattle.qw_feed.proofs.PushFeeds.{rows_kept}
use Rattle.qw_feed.proofs.Frames.{Never, Keeps-kept, Keeps-less, Keeps-then, below-under}
use Rattle.qw_feed.proofs.RoomRuns.{IsRefusal}
use Rattle.qw_layout.specs.Row.{entry_size}
use Rattle.qw_expr.specs.Cells.{DeclaresValue}
use Rattle.qw_expr.specs.Computes.{Known, AreHeld, AreDeclared}
use Rattle.qw_read.specs.Reading.{known_of, AreBases, BeginsAll, HasEntryOf, HasOctets, StandsAt}
use Rattle.qw_read.proofs.Elsewhere.{stands_same}
use Rattle.qw_table.specs.Joins.{HasJoinEntry, keyed, sources_of}
use Rattle.qw_table.specs.Tables.{HasTable, directory_block}
use Rattle.qw_table.specs.declared.key.Field.{Field}
use Rattle.qw_table.proofs.Chains.{table_kept}
use Rattle.qw_read.specs.declared.reader.Reader.{Reader}
use Rattle.qw_physical.specs.Courses.{pipeline_cost, pipeline_fed, sink_values}
use Rattle.qw_scalar.specs.Expression.{Expression}
use Rattle.qw_scalar.specs.Typing.{kind_of}
use Rattle.qw_physical.specs.Physical.{Build, Pipeline, build, select}
use Rattle.qw_physical.specs.declared.pipeline.ReadColumn.{ReadColumn}
use Rattle.qw_operator.specs.Carries.{directory}
use Rattle.qw_operator.specs.Takes.{CanCarry}
use Rattle.qw_operator.proofs.KnownLeaves.{AreFit}
use Rattle.qw_operator.proofs.PairRows.{AreApart, IsNullAt}
use Rattle.qw_operator.proofs.PipelineFeeds.{Between as Inside, Laid, Scanned}
use Rattle.qw_operator.proofs.Promised.{AreOwn}
use Rattle.qw_operator.proofs.Seen.{LiesIn, StandsIn}
use Rattle.qw_operator.proofs.Served.{AreServed}
use Rattle.qw_operator.proofs.SinkFeeds.{fields_of}
use Rattle.qw_operator.proofs.Stood.{AllStand, StandsTable, Stood, all_entries, building_sink, built_of, stood_keeps}
use Rattle.qw_operator.proofs.TablePermuted.{table_permuted}
use Rattle.qw_operator.proofs.WholeFeeds.{built_feeds, selected_feeds}
use Rattle.qw_emit.proofs.QueryBegins.{RowsBegun, rows_begin_end, rows_keep}
use Rattle.qw_emit.proofs.QueryEnds.{BehindWords}
use Rattle.qw_compile.specs.QueryLocals.{base_start, cell_start, own_start, query_readers, readers_over, rows_end, rows_left}
use Rattle.qw_compile.specs.Statements.{AreCourses, Course, IsCourse, build_block, builds_block, count_block, course_block}
use Rattle.qw_compile.proofs.CourseBegins.{Opened, opened_then}
use Rattle.qw_leaves.proofs.LeafLists.{all_back, all_front}
use Rattle.qw_compile.proofs.LocalsDeclared.{first_own_types, rest_own_types}
use Rattle.qw_compile.proofs.TableBegins.{Begun, empty_table, table_begins}
use Rattle.qw_compile.proofs.LocalsPlaced.{all_over, bases_each, bases_over, cells_over, counted_each, known_over_all, read_within}

-- the locals of literals, and the first page's address, which stay from the first pipeline to the last
abbrev pub Steady : (tables literals i : ℕ) → Type 0
Steady t n i = (i ≡ 0) ⊎ ((8 + t ≤ i) × (i < base_start t n))

-- a column's entry in the descriptor, of so many rows
pub record Entered (rows : ℕ) (s : LowState) (r : Reader) : Type 0 where
  pub used : Used
  pub type_is : used.ty ≡ r.ty
  pub null_is : used.not_null ≡ r.not_null
  pub entry : KnowsEntry s.cells r.index used rows
  pub values : HasOctets s.columns (3 * r.index) (values_size r.ty rows)

abbrev pub IsStanding : (row : ℕ) → List Val → LowState → Reader → Type 0
IsStanding i values s r = (v : Val) × (slice_get values r.column ≡ Some v) × StandsAt s.cells s.columns r.index r.ty r.not_null i v × IsSized r.ty

abbrev pub readers_of : (tables literals : ℕ) → List ReadColumn → (entry : ℕ) → List Reader
readers_of T n columns entry = readers_over entry (query_readers T n columns)

abbrev pub scanned_rows : List (List (List Val)) → Pipeline → List (List Val)
scanned_rows contents p = (entry_flow contents p.entry p.table).rows

abbrev pub fed_over : List (List (List Val)) → List Stood → Pipeline → Flow (List Val)
fed_over contents stoods p = pipeline_fed contents (built_of stoods) p

-- what holds where literals are in their locals and nothing has been placed
pub record Grounds (T n : ℕ) (columns : List ReadColumn) (literals : List Known) (c : Cells) (base u fuel N many : ℕ) (types : List ValType) (s0 : LowState) : Type 0 where
  pub some : 1 ≤ N
  pub turns : N ≤ fuel
  pub small : base ≤ page
  pub entries_before : entry_offset (length columns) ≤ base
  pub u_low : u ≤ page
  pub descriptor : slice_get s0.locals 0 ≡ Some (Address (Own 0) 0)
  pub long : many ≤ length s0.locals
  pub first_own : own_start T n (length columns) ≤ many
  pub first_page : slice_get s0.own 0 ≡ Some page
  pub root : s0.cells (Own 0) 8 4 ≡ Some (Number 0)
  pub columns_seen : (k a b : ℕ) → c (Column k) a b ≡ s0.cells (Column k) a b
  pub own_seen : (k a b : ℕ) (v : Value) → c (Own k) a b ≡ Some v → ((12 ≤ pos k a) × (pos k a + b ≤ base)) × (s0.cells (Own k) a b ≡ Some v)
  pub held : (s : LowState) → ((i : ℕ) → 8 + T ≤ i → i < base_start T n → slice_get s.locals i ≡ slice_get s0.locals i) → slice_get s.own 0 ≡ Some page → (row : List Val) → AreHeld literals row (seen c s)
  pub fit : (row : List Val) → AreFit row literals
  pub within : AllByRecursion (λ (k : Known). Uses (Inside (rows_end T) (cell_start T n (length columns))) k.operand.cell) literals
  pub declared : AreDeclared types (literals ++ map known_of (query_readers T n columns))

-- what holds of the rows that a pipeline scans
pub record Source (T n : ℕ) (columns : List ReadColumn) (contents : List (List (List Val))) (s0 : LowState) (p : Pipeline) : Type 0 where
  pub few : length (scanned_rows contents p) ≤ 1000000
  pub entered : AllByRecursion (Entered (length (scanned_rows contents p)) s0) (readers_of T n columns p.entry)
  pub indices : AllByRecursion (λ (r : Reader). r.index < length columns) (readers_of T n columns p.entry)
  pub stand : (i : ℕ) (row : List Val) → slice_get (scanned_rows contents p) i ≡ Some row → AllByRecursion (IsStanding i row s0) (readers_of T n columns p.entry)

-- and of a pipeline over tables that stand
pub record Finds (T n : ℕ) (columns : List ReadColumn) (literals : List Known) (contents : List (List (List Val))) (N : ℕ) (stoods : List Stood) (p : Pipeline) : Type 0 where
  pub can : CanCarry (literals ++ map known_of (readers_of T n columns p.entry)) p.operators p.sink
  pub apart : AreApart (literals ++ map known_of (readers_of T n columns p.entry)) p.operators
  pub served : AreServed stoods p.operators
  pub nulls : (i : ℕ) (row : List Val) → slice_get (scanned_rows contents p) i ≡ Some row → IsNullAt row p.operators
  pub cost : 1 + pipeline_cost contents (built_of stoods) p ≤ N

-- a table that a pipeline built: it has its cells, and its entries are the rows that were fed
pub record HasStood (contents : List (List (List Val))) (stoods : List Stood) (p : Pipeline) (st : Stood) : Type 0 where
  pub made : Build
  pub sink_is : p.sink ≡ build made
  pub fields_are : st.fields ≡ length made.key
  pub cells_are : st.cells ≡ fields_of (sink_values (build made))
  pub same : IsPermutation (fed_over contents stoods p).rows (all_entries st.chains)
  pub none : (fed_over contents stoods p).codes ≡ []

abbrev pub AreStood : (contents : List (List (List Val))) → (before : List Stood) → List Pipeline → List Stood → Type 0
AreStood contents before [] [] = Unit {0}
AreStood contents before (p ∷ ps) (st ∷ stoods) = HasStood contents before p st × AreStood contents (before ++ st ∷ []) ps stoods
AreStood contents before _ _ = ⊥

-- how many octets an entry has
abbrev pub entry_width : Build → ℕ
entry_width b = entry_size 0 (length (fields_of (sink_values (build b)))) 0

-- what holds of a pipeline where those before it have built their tables, and these octets are paid for
pub record IsReached (T n : ℕ) (columns : List ReadColumn) (literals : List Known) (contents : List (List (List Val))) (u most N : ℕ) (s0 : LowState) (stoods : List Stood) (p : Pipeline) (budget later : ℕ) : Type 0 where
  pub made : Build
  pub sink_is : p.sink ≡ build made
  pub number_is : made.table ≡ length stoods
  pub source : Source T n columns contents s0 p
  pub finds : Finds T n columns literals contents N stoods p
  pub fits : entry_width made + u ≤ page
  pub grows : budget + u + 4096 + length (fed_over contents stoods p).rows * entry_width made ≤ later
  pub enough : later + 2 * u < (most + 1) * u

-- between pipelines: these tables stand one behind another, and so many octets are paid for
pub record Between (T n : ℕ) (c : Cells) (base u : ℕ) (s0 : LowState) (stoods : List Stood) (budget : ℕ) (s : LowState) : Type 0 where
  pub part : ℕ
  pub offset : ℕ
  pub room : HasRoom part offset s
  pub paid : Paid u budget offset s.held
  pub behind : base ≤ pos part offset
  pub fronts : (t : ℕ) (st : Stood) → slice_get stoods t ≡ Some st → (base ≤ pos st.part st.offset) × (st.front ≤ pos part offset)
  pub stand : AllStand c stoods s
  pub keeps : Keeps (Steady T n) (Before base) s0 s

-- the result has the rows that the last pipeline fed
pub record IsResult (T n : ℕ) (contents : List (List (List Val))) (c : Cells) (base u budget : ℕ) (s0 : LowState) (last : Pipeline) (items : List Expression) (stoods : List Stood) (w : LowState) : Type 0 where
  pub rows_base : ℕ
  pub none : (fed_over contents stoods last).codes ≡ []
  pub keeps : Keeps (Steady T n) (BehindWords base) s0 w
  pub has : HasRows (HasRow (LiesIn c) (map kind_of items)) (8 + 16 * length items) rows_base u budget (fed_over contents stoods last).rows w

module _ (T n : ℕ) (columns : List ReadColumn) (literals : List Known) (contents : List (List (List Val))) (c : Cells) (base u most fuel N many : ℕ) (types : List ValType) (s0 : LowState) where
  abbrev start : ℕ
  start = base_start T n

  abbrev low : ℕ
  low = cell_start T n (length columns)

  abbrev own_first : ℕ
  own_first = own_start T n (length columns)

  abbrev over : (entry : ℕ) → List Reader
  over entry = readers_of T n columns entry

  abbrev rows_of : Pipeline → List (List Val)
  rows_of p = scanned_rows contents p

  abbrev fed_by : List Stood → Pipeline → Flow (List Val)
  fed_by stoods p = fed_over contents stoods p

  abbrev SourceOf : Pipeline → Type 0
  SourceOf p = Source T n columns contents s0 p

  abbrev FindsOf : List Stood → Pipeline → Type 0
  FindsOf stoods p = Finds T n columns literals contents N stoods p

  abbrev BetweenOf : List Stood → ℕ → LowState → Type 0
  BetweenOf stoods budget s = Between T n c base u s0 stoods budget s

  module _ (g : Grounds T n columns literals c base u fuel N many types s0) where
    -- ---- what is as it was
    abbrev Same : LowState → Type 0
    Same s = Keeps (Steady T n) (Before base) s0 s

    pub less_known : (s : LowState) → Same s → IsLess c s.cells
    less_known s keeps (Column k) a b v is = keeps.mapped k a b ∙ (sym (g.columns_seen k a b) ∙ is)
    less_known s keeps (Own k) a b v is = let own = g.own_seen k a b v is in keeps.cells k a b own.0.1 ∙ own.1

    -- all cells of the descriptor
    entry_same : (k : ℕ) (used : Used) (rows : ℕ) (s : LowState) → Same s → k < length columns → KnowsEntry s0.cells k used rows → KnowsEntry s.cells k used rows
    entry_same k used rows s keeps inside e =
        let before = g.entries_before in (
          keeps.cells 0 (entry_offset k) 4 (omega (arith, inside, before)) ∙ e.0,
          keeps.cells 0 (entry_offset k + 4) 4 (omega (arith, inside, before)) ∙ e.1,
          keeps.cells 0 (entry_offset k + 8) 4 (omega (arith, inside, before)) ∙ e.2,
          keeps.cells 0 (entry_offset k + 12) 4 (omega (arith, inside, before)) ∙ e.3,
        )

    entered_at : (k rows : ℕ) (readers : List Reader) (s v : LowState) → Same s → v.cells ≡ s.cells → v.columns ≡ s.columns → rows_end T < k → slice_get v.locals (rows_end T) ≡ Some (Number (4 * rows)) →
        AllByRecursion (Entered rows s0) readers → AllByRecursion (λ (r : Reader). r.index < length columns) readers → AllByRecursion (λ (r : Reader). r.end ≡ rows_end T) readers → AllByRecursion (HasEntryOf k rows v) readers
    entered_at k rows [] s v keeps cells sizes high end all inside ends = tt
    entered_at k rows (r ∷ readers) s v keeps cells sizes high end all inside ends = (
      record {
        used = all.0.used;
        type_is = all.0.type_is;
        null_is = all.0.null_is;
        entry = subst (λ (d : Cells). KnowsEntry d r.index all.0.used rows) (sym cells) (entry_same r.index all.0.used rows s keeps inside.0 all.0.entry);
        values = subst (λ (l : List ℕ). HasOctets l (3 * r.index) (values_size r.ty rows)) (sym (sizes ∙ keeps.columns)) all.0.values;
        end = (omega (arith, high, ends.0), ap (λ (i : ℕ). slice_get v.locals i) ends.0 ∙ end);
      },
      entered_at k rows readers s v keeps cells sizes high end all.1 inside.1 ends.1,
    )

    pub standing_at : (i : ℕ) (row : List Val) (readers : List Reader) (s : LowState) → ((k a b : ℕ) → s.cells (Column k) a b ≡ s0.cells (Column k) a b) → s.columns ≡ s0.columns → AllByRecursion (IsStanding i row s0) readers →
        AllByRecursion (IsStanding i row s) readers
    standing_at i row [] s mapped sizes all = tt
    standing_at i row (r ∷ readers) s mapped sizes all = (
      (
        all.0.0,
        all.0.1,
        subst (λ (l : List ℕ). StandsAt s.cells l r.index r.ty r.not_null i all.0.0) (sym sizes) (stands_same s0.cells s.cells mapped r.index i s0.columns r.ty r.not_null all.0.0 all.0.2),
        all.0.3,
      ),
      standing_at i row readers s mapped sizes all.1,
    )

    ends_all : (readers : List Reader) → AllByRecursion (λ (r : Reader). (r.left ≡ rows_left T) × (r.end ≡ rows_end T)) readers → AllByRecursion (λ (r : Reader). r.end ≡ rows_end T) readers
    ends_all [] all = tt
    ends_all (r ∷ readers) all = (all.0.1, ends_all readers all.1)

    counted_over : (entry : ℕ) → AllByRecursion (λ (r : Reader). (r.left ≡ rows_left T) × (r.end ≡ rows_end T)) (over entry)
    counted_over entry = all_over (λ (r : Reader). (r.left ≡ rows_left T) × (r.end ≡ rows_end T)) entry (query_readers T n columns) (counted_each T start low 0 columns)

    pub declared_over : (entry : ℕ) → AreDeclared types (literals ++ map known_of (over entry))
    declared_over entry =
        let P : Known → Type 0 = λ (k : Known). DeclaresValue types k.operand in
        all-append P literals (map known_of (over entry)) (all_front P literals (map known_of (query_readers T n columns)) g.declared)
        (known_over_all P entry (query_readers T n columns) (all_back P literals (map known_of (query_readers T n columns)) g.declared))

    pub laid : (entry next : ℕ) → own_first ≤ next → Laid literals (over entry) (rows_left T) (rows_left T) (rows_end T) low next
    laid entry next behind = record {
      counters = (omega arith, omega arith, omega arith);
      counted = counted_over entry;
      bases = all_over (AreBases (rows_end T + 1) low) entry (query_readers T n columns) (bases_each T (rows_end T + 1) low start low 0 columns (omega arith) (omega arith));
      cells = cells_over entry T low start low 0 next columns (omega arith) (omega (arith, behind));
      within = g.within;
      readers_within = known_over_all (λ (k : Known). Uses (Among next) k.operand.cell) entry (query_readers T n columns) (read_within T start low 0 next columns (omega arith) (omega (arith, behind)));
    }

    -- ---- the blocks before a pipeline's scan, whatever is done at its rows
    module _ (p : Pipeline) (course : Course) (first : Reader) (first_is : slice_get (over p.entry) 0 ≡ Some first) (index_is : course.index ≡ first.index) (begins : BeginsAll (over p.entry) course.begins) (source : SourceOf p) where
      abbrev rows : List (List Val)
      rows = rows_of p

      -- the first column tells how many rows there are
      first_entered : (readers : List Reader) (r : Reader) → slice_get readers 0 ≡ Some r → AllByRecursion (Entered (length rows) s0) readers → AllByRecursion (λ (q : Reader). q.index < length columns) readers →
          (s0.cells (Own 0) (entry_offset r.index + 12) 4 ≡ Some (Number (length rows))) × (r.index < length columns)
      first_entered [] r there all inside = absurd cc
      first_entered (q ∷ readers) r there all inside =
          let same : q ≡ r = same_Some q r there in
          (subst (λ (x : Reader). s0.cells (Own 0) (entry_offset x.index + 12) 4 ≡ Some (Number (length rows))) same all.0.entry.3, subst (λ (x : Reader). x.index < length columns) same inside.0)

      counted_rows : (s : LowState) → Same s → s.cells (Own 0) (entry_offset course.index + 12) 4 ≡ Some (Number (length rows))
      counted_rows s keeps =
          let known = first_entered (over p.entry) first first_is source.entered source.indices in
          let before = g.entries_before in
          subst (λ (k : ℕ). s.cells (Own 0) (entry_offset k + 12) 4 ≡ Some (Number (length rows))) (sym index_is) (keeps.cells 0 (entry_offset first.index + 12) 4 (omega (arith, before, known.1)) ∙ known.0)

      -- what is done behind them
      pub course_opens : (row : Statement) (m : ℕ) (P : LowState → Type 0) (R : ℕ → Type 0) (s : LowState) → Same s → ((v : LowState) → Opened T (length rows) start (over p.entry) s v → Ends m P Never R (meaning most fuel row v)) →
          Ends (9 + (size course.begins + m)) P Never R (meaning most fuel (seq (count_block T course.index) (seq course.begins row)) s)
      course_opens row m P R s keeps onward =
          opened_then T most fuel (length rows) course.index source.few s (omega (arith, g.long, g.first_own, keeps.many)) (keeps.locals 0 (inl refl) ∙ g.descriptor) (counted_rows s keeps) start (over p.entry) course.begins (omega arith) begins
          (bases_over p.entry T start start low 0 (length s.locals) columns (omega arith) (omega (arith, g.long, g.first_own, keeps.many)))
          (λ v counted. entered_at start (length rows) (over p.entry) s v keeps (ap (λ (x : LowState). x.cells) counted.kept.others) (ap (λ (x : LowState). x.columns) counted.kept.others) (omega arith) counted.end source.entered source.indices
          (ends_all (over p.entry) (counted_over p.entry)))
          R m P row onward

    -- ---- a pipeline's scan, where it begins
    module _ (stoods : List Stood) (p : Pipeline) (course : Course) (next : ℕ) (own : List ValType) (behind : own_first ≤ next) (room : next + length own ≤ many) (is : IsCourse literals (query_readers T n columns) next p course own)
        (own_types : AreOwn types next own) (source : SourceOf p) (finds : FindsOf stoods p) where
      module _ (s v : LowState) (keeps : Same s) (sized : slice_get s.own 0 ≡ Some page) (stand : AllStand c stoods v) (opened : Opened T (length (rows_of p)) start (over p.entry) s v) where
        literals_same : (i : ℕ) → 8 + T ≤ i → i < start → slice_get v.locals i ≡ slice_get s0.locals i
        literals_same i from to = opened.later i (omega (arith, from)) to ∙ keeps.locals i (inr (from, to))

        cells_same : v.cells ≡ s.cells
        cells_same = ap (λ (x : LowState). x.cells) opened.kept.others

        columns_same : v.columns ≡ s0.columns
        columns_same = ap (λ (x : LowState). x.columns) opened.kept.others ∙ keeps.columns

        mapped_same : (k a b : ℕ) → v.cells (Column k) a b ≡ s0.cells (Column k) a b
        mapped_same k a b = ap (λ (d : Cells). d (Column k) a b) cells_same ∙ keeps.mapped k a b

        pub scanned : Scanned c stoods literals (over p.entry) (rows_left T) (rows_left T) (rows_end T) low next many fuel types contents p course.row own v
        scanned = record {
          is_row = is.row;
          can = finds.can;
          apart = finds.apart;
          served = finds.served;
          laid = laid p.entry next behind;
          room = room;
          declared = declared_over p.entry;
          own_types = own_types;
          less = subst (λ (d : Cells). IsLess c d) (sym cells_same) (less_known s keeps);
          held = λ row. g.held v literals_same (ap (λ (x : LowState). slice_get x.own 0) opened.kept.others ∙ sized) row;
          fit = g.fit;
          stays = record {
            mapped = λ k a b. g.columns_seen k a b ∙ sym (mapped_same k a b);
            bases = opened.bases;
            rows_stand = λ i row there. standing_at i row (over p.entry) v mapped_same columns_same (source.stand i row there);
          };
          nulls = finds.nulls;
          stand = stand;
          left_is = opened.left;
          end_is = opened.end;
          few = omega (arith, source.few);
          long = omega (arith, g.long, opened.kept.many, keeps.many);
          enough = omega (arith, finds.cost, g.turns);
        }

      -- what is done behind its beginning
      pub course_then : (m : ℕ) (P : LowState → Type 0) (R : ℕ → Type 0) (s : LowState) → Same s → ((v : LowState) → Opened T (length (rows_of p)) start (over p.entry) s v → Ends m P Never R (meaning most fuel (rows_block (rows_left T) course.row) v)) →
          Ends (9 + (size course.begins + m)) P Never R (meaning most fuel (course_block T course) s)
      course_then m P R s keeps onward = course_opens p course is.first is.first_is is.index_is is.begins source (rows_block (rows_left T) course.row) m P R s keeps onward

    -- one more of them
    last_or : (stoods : List Stood) (new : Stood) (t : ℕ) (st : Stood) → slice_get (stoods ++ new ∷ []) t ≡ Some st → (slice_get stoods t ≡ Some st) ⊎ ((t ≡ length stoods) × (new ≡ st))
    last_or [] new zero st there = inr (refl, same_Some new st there)
    last_or [] new (suc t) st there = absurd cc
    last_or (one ∷ stoods) new zero st there = inl there
    last_or (one ∷ stoods) new (suc t) st there = ⊎_elim (λ before. inl before) (λ last. inr (ap suc last.0, last.1)) (last_or stoods new t st there)

    -- what opening a scan leaves as it was
    pub opened_keeps : (rows : ℕ) (readers : List Reader) (s v : LowState) → Opened T rows start readers s v → Keeps (Steady T n) (Before base) s v
    opened_keeps rows readers s v o = record {
      many = o.kept.many;
      locals = λ i old. ⊎_elim (λ z. o.kept.below i (omega (arith, z))) (λ g'. o.later i (omega (arith, g'.0)) g'.1) old;
      own = λ k size' is. ap (λ (x : LowState). slice_get x.own k) o.kept.others ∙ is;
      columns = ap (λ (x : LowState). x.columns) o.kept.others;
      limit = ap (λ (x : LowState). x.limit) o.kept.others;
      refused = ap (λ (x : LowState). x.refused) o.kept.others;
      mapped = λ k a b. ap (λ (x : LowState). x.cells (Column k) a b) o.kept.others;
      cells = λ k a b spared. ap (λ (x : LowState). x.cells (Own k) a b) o.kept.others;
    }

    -- an old local is one that a scan keeps
    pub steady_below : (i : ℕ) → Steady T n i → But (rows_left T) (Below low) i
    steady_below i old = ⊎_elim (λ z. (inl z, λ e. omega (arith, z, e))) (λ g'. (inr (omega (arith, g'.0), omega (arith, g'.1)), λ e. omega (arith, g'.0, e))) old

    -- ---- what the blocks of pipelines feed
    abbrev ScannedBy : List Stood → Pipeline → (readers : List Reader) → (next : ℕ) → Statement → List ValType → LowState → Type 0
    ScannedBy stoods p readers next row own v = Scanned c stoods literals readers (rows_left T) (rows_left T) (rows_end T) low next many fuel types contents p row own v

    module _ (Told : ℕ → Type 0) where
      -- tables still stand where what is before free space was kept
      pub all_keep : (stoods : List Stood) (m : ℕ) (Spared : ℕ → ℕ → Type 0) (front : ℕ) (s s' : LowState) → ((t : ℕ) (st : Stood) → slice_get stoods t ≡ Some st → (base ≤ pos st.part st.offset) × (st.front ≤ front)) → ((at width : ℕ) → at + width ≤ front → Spared at width) →
          5 + length stoods ≤ m → Keeps (Below m) Spared s s' → AllStand c stoods s → AllStand c stoods s'
      all_keep stoods m Spared front s s' fronts spared high keeps stand t st there =
          let within = slice_get_within stoods t st there in
          let before = (fronts t st there).1 in
          stood_keeps c t st (Below m) Spared s s' (inr (omega arith, omega (arith, within, high))) (λ at width from to. spared at width (omega (arith, to, before))) keeps (stand t st there)

      module _ (stoods : List Stood) (p : Pipeline) (b : Build) (sink_is : p.sink ≡ build b) (number_is : b.table ≡ length stoods) (room_T : length stoods < T) (course : Course) (next : ℕ) (own : List ValType) (behind : own_first ≤ next)
          (room : next + length own ≤ many) (is : IsCourse literals (query_readers T n columns) next p course own) (own_types : AreOwn types next own) (source : SourceOf p) (finds : FindsOf stoods p) (budget : ℕ) where
        abbrev pub cells : List Field
        cells = fields_of (sink_values (build b))

        abbrev pub width : ℕ
        width = entry_size 0 (length cells) 0

        abbrev fed : Flow (List Val)
        fed = fed_by stoods p

        abbrev pub after : ℕ
        after = budget + u + 4096 + length fed.rows * width

        -- a table more stands
        pub record IsBuilt (t : LowState) : Type 0 where
          pub stood : Stood
          pub of : HasStood contents stoods p stood
          pub between : BetweenOf (stoods ++ stood ∷ []) after t

        module _ (fits : width + u ≤ page) (enough : after + 2 * u < (most + 1) * u) (s : LowState) (between : BetweenOf stoods budget s) where
          abbrev front : ℕ
          front = pos between.part between.offset

          abbrev d : ℕ
          d = directory b.table

          abbrev fewer : (rows more : List (List Val)) → AtMost (length fed.rows) (rows ++ more) → AtMost (length fed.rows) rows
          fewer rows more le = let all = length-append rows more in omega (arith, le, all)

          -- the directory has been placed
          module _ (t : LowState) (begun : Begun d u budget front s t) where
            same_t : Same t
            same_t = Keeps-then (Steady T n) (Before base) s0 s t between.keeps
                (Keeps-less (Steady T n) (Before base) (But d (From 3)) (Before front) s t
                (λ i old. ⊎_elim (λ z. (inl z, λ e. omega (arith, z, e))) (λ g'. (inr (omega (arith, g'.0)), λ e. omega (arith, g'.0, e, number_is, room_T))) old)
                (λ at wide low'. omega (arith, low', between.behind)) begun.keeps)

            stand_t : AllStand c stoods t
            stand_t = all_keep stoods d (Before front) front s t between.fronts (λ at wide low'. low') (omega (arith, number_is))
                (Keeps-less (Below d) (Before front) (But d (From 3)) (Before front) s t (λ i old. ⊎_elim (λ z. (inl z, λ e. omega (arith, z, e))) (λ g'. (inr (omega (arith, g'.0)), λ e. omega (arith, g'.1, e))) old) (λ at wide low'. low') begun.keeps)
                between.stand

            abbrev k : ℕ
            k = begun.k

            abbrev o : ℕ
            o = begun.o

            fronts_t : (i : ℕ) (st : Stood) → slice_get stoods i ≡ Some st → (base ≤ pos st.part st.offset) × (st.front ≤ pos k o)
            fronts_t i st there = let before = between.fronts i st there in (before.0, omega (arith, before.1, begun.behind))

            -- the scan begins
            module _ (v : LowState) (opened : Opened T (length (rows_of p)) start (over p.entry) t v) where
              stand_v : AllStand c stoods v
              stand_v = all_keep stoods (rows_left T) (λ at wide. Unit {0}) front t v between.fronts (λ at wide low'. tt) (omega (arith, room_T))
                  (Keeps-kept (Below (rows_left T)) (λ at wide. Unit {0}) (rows_left T) t v (λ i old. below-under (rows_left T) (rows_left T) i (omega arith) (omega arith) old) opened.kept) stand_t

              scanned_v : ScannedBy stoods p (over p.entry) next course.row own v
              scanned_v = scanned stoods p course next own behind room is own_types source finds t v same_t (begun.room.pages 0 (omega arith)) stand_v opened

              abbrev Has : Cells → ℕ → ℕ → List Val → Type 0
              Has = HasJoinEntry (StandsIn c v) (kinds_of (sources_of cells)) (length b.key)

              has_v : HasTable Has (keyed (length b.key)) width k o d u (budget + u + 4096) [] v
              has_v = table_kept Has (keyed (length b.key)) width k o d u (budget + u + 4096) (rows_left T) [] t v (omega arith) (omega (arith, number_is, room_T)) opened.kept
                  (empty_table Has (keyed (length b.key)) width d u budget front s t begun)

              abbrev sink : Sink
              sink = building_sink c cells (length b.key) k o d u (budget + u + 4096) (AtMost (length fed.rows)) fewer

              built : (w : LowState) → FedTo sink (But (rows_left T) (Below low)) Any fed [] v w → IsBuilt w
              built w done =
                  let has = done.has in
                  let new : Stood = record { cells = cells; fields = length b.key; part = k; offset = o; front = pos has.part has.offset; chains = has.chains; entries = fed.rows } in
                  let over_front : pos k (o + 4096) ≤ pos has.part has.offset = has.table.directory.behind in
                  let keeps_v : Keeps (Steady T n) (Before base) v w =
                  Keeps-less (Steady T n) (Before base) (But (rows_left T) (Below low)) (Before (pos k o)) v w steady_below (λ at wide low'. omega (arith, low', between.behind, begun.behind)) done.keeps in
                  let stand_w : AllStand c stoods w =
                  all_keep stoods (rows_left T) (Before (pos k o)) (pos k o) v w fronts_t (λ at wide low'. low') (omega (arith, room_T))
                  (Keeps-less (Below (rows_left T)) (Before (pos k o)) (But (rows_left T) (Below low)) (Before (pos k o)) v w
                  (λ i old. ⊎_elim (λ z. (inl z, λ e. omega (arith, z, e))) (λ g'. (inr (g'.0, omega (arith, g'.1)), λ e. omega (arith, g'.1, e))) old) (λ at wide low'. low') done.keeps) stand_v in
                  record {
                    stood = new;
                    of = record {
                      made = b;
                      sink_is = sink_is;
                      fields_are = refl;
                      cells_are = refl;
                      same = table_permuted (HasJoinEntry (StandsIn c w) (kinds_of (sources_of cells)) (length b.key)) (length b.key) width k o (pos has.part has.offset) has.chains fed.rows w.cells w.own has.table;
                      none = done.none;
                    };
                    between = record {
                      part = has.part;
                      offset = has.offset;
                      room = has.room;
                      paid = has.paid;
                      behind = omega (arith, between.behind, begun.behind, over_front);
                      fronts = λ i st there. ⊎_elim (λ before. let low' = fronts_t i st before in (low'.0, omega (arith, low'.1, over_front)))
                          (λ last. subst (λ (x : Stood). (base ≤ pos x.part x.offset) × (x.front ≤ pos has.part has.offset)) last.1 (omega (arith, between.behind, begun.behind), omega arith)) (last_or stoods new i st there);
                      stand = λ i st there. ⊎_elim (λ before. stand_w i st before)
                          (λ last. subst (λ (x : Stood). StandsTable c i x w) last.1 (subst (λ (j : ℕ). StandsTable c j new w) (number_is ∙ sym last.0) (record { at = has.at; table = has.table }))) (last_or stoods new i st there);
                      keeps = Keeps-then (Steady T n) (Before base) s0 v w (Keeps-then (Steady T n) (Before base) s0 t v same_t (opened_keeps (length (rows_of p)) (over p.entry) t v opened)) keeps_v;
                    };
                  }

              loop_ends : Ends (size (rows_block (rows_left T) course.row) * N) IsBuilt Never (Tells fed.codes) (meaning most fuel (rows_block (rows_left T) course.row) v)
              unfolding scanned_v scanned
              loop_ends =
                  let cost : ℕ = 1 + pipeline_cost contents (built_of stoods) p in
                  let block : Statement = rows_block (rows_left T) course.row in
                  Ends-weaker (size block * cost) (size block * N) (FedTo sink (But (rows_left T) (Below low)) Any fed [] v) IsBuilt Never Never (Tells fed.codes) (Tells fed.codes) (meaning most fuel block v)
                  (mul-le (size block) cost (size block) N (omega arith) finds.cost) built (λ w x. x) (λ code x. x)
                  (built_feeds c stoods (rows_left T) (omega (arith, room_T)) most fuel many types u (budget + u + 4096) (AtMost (length fed.rows)) fewer contents p literals (over p.entry) (rows_left T) (rows_end T) low next course.row own v scanned_v
                  b k o (omega (arith, number_is, room_T)) fits (λ entries few. let less = mul-le (length entries) width (length fed.rows) width few (omega arith) in omega (arith, less, enough))
                  (λ j a w x is'. let seen_low = (g.own_seen j a w x is').0.1 in omega (arith, seen_low, between.behind, begun.behind)) (λ i st there. (fronts_t i st there).1) sink_is
                  [] has_v (omega arith))

          pub build_ends : Ends (size (build_block T b.table course) * N) IsBuilt Never (Tells fed.codes) (meaning most fuel (build_block T b.table course) s)
          build_ends =
              let loop : ℕ = size (rows_block (rows_left T) course.row) in
              let all : ℕ = 26 + (9 + size course.begins) in
              Ends-more IsBuilt Never (Tells fed.codes) (26 + (9 + (size course.begins + loop * N))) (size (build_block T b.table course) * N) (meaning most fuel (build_block T b.table course) s)
              (omega (arith, add-mul all loop N, at_least all N g.some))
              (Ends-then IsBuilt Never (Tells fed.codes) 26 (9 + (size course.begins + loop * N)) (Begun d u budget front s) (meaning most fuel (directory_block d) s) (meaning most fuel (course_block T course))
              (Ends-weaker 26 26 (Begun d u budget front s) (Begun d u budget front s) Never Never IsRefusal (Tells fed.codes) (meaning most fuel (directory_block d) s) (omega arith) (λ t x. x) (λ t x. x) (λ code x. inl x)
              (table_begins d u budget most fuel (omega arith) g.u_low s (omega (arith, number_is, room_T, g.long, g.first_own, between.keeps.many)) between.part between.offset between.room between.paid (omega (arith, enough))))
              (λ t begun. course_then stoods p course next own behind room is own_types source finds (loop * N) IsBuilt (Tells fed.codes) t (same_t t begun) (λ v opened. loop_ends t begun v opened)))

      -- ---- several pipelines that build tables
      stood_end : (before : List Stood) (ps : List Pipeline) (stoods : List Stood) (p : Pipeline) (st : Stood) → AreStood contents before ps stoods → HasStood contents (before ++ stoods) p st → AreStood contents before (ps ++ p ∷ []) (stoods ++ st ∷ [])
      stood_end before [] [] p st are has = (subst (λ (l : List Stood). HasStood contents l p st) (append-nil before) has, tt)
      stood_end before [] (one ∷ stoods) p st are has = absurd are
      stood_end before (q ∷ ps) [] p st are has = absurd are
      stood_end before (q ∷ ps) (one ∷ stoods) p st are has = (are.0, stood_end (before ++ one ∷ []) ps stoods p st are.1 (subst (λ (l : List Stood). HasStood contents l p st) (sym (append_assoc before (one ∷ []) stoods)) has))

      pub stood_many : (before : List Stood) (ps : List Pipeline) (stoods : List Stood) → AreStood contents before ps stoods → length stoods ≡ length ps
      stood_many before [] [] are = refl
      stood_many before [] (one ∷ stoods) are = absurd are
      stood_many before (q ∷ ps) [] are = absurd are
      stood_many before (q ∷ ps) (one ∷ stoods) are = ap suc (stood_many (before ++ one ∷ []) ps stoods are.1)

      pub more_paid : (stoods : List Stood) (budget later : ℕ) (s : LowState) → budget ≤ later → BetweenOf stoods budget s → BetweenOf stoods later s
      more_paid stoods budget later s le h = record {
        part = h.part;
        offset = h.offset;
        room = h.room;
        paid = ⊎_elim inl (λ so. inr (omega (arith, so, le))) h.paid;
        behind = h.behind;
        fronts = h.fronts;
        stand = h.stand;
        keeps = h.keeps;
      }

      module _ (building : List Pipeline) (budget : ℕ → ℕ)
          (reached : (front : List Pipeline) (p : Pipeline) (back : List Pipeline) (stoods : List Stood) → building ≡ front ++ p ∷ back → AreStood contents [] front stoods →
          IsReached T n columns literals contents u most N s0 stoods p (budget (length front)) (budget (suc (length front))))
          (told : (front : List Pipeline) (p : Pipeline) (back : List Pipeline) (stoods : List Stood) → building ≡ front ++ p ∷ back → AreStood contents [] front stoods → (raised : ℕ) → Tells (fed_by stoods p).codes raised → Told raised)
          (all_built : length building ≤ T) where
        -- all tables up to these stand
        pub record AllBuilt (front : List Pipeline) (paid_for : ℕ) (t : LowState) : Type 0 where
          pub stoods : List Stood
          pub are : AreStood contents [] front stoods
          pub between : BetweenOf stoods paid_for t

        one_ends : (front : List Pipeline) (p : Pipeline) (back : List Pipeline) (stoods : List Stood) (number : ℕ) → building ≡ front ++ p ∷ back → AreStood contents [] front stoods → number ≡ length front → (course : Course) (next : ℕ) (own : List ValType) → own_first ≤ next →
            next + length own ≤ many → AreOwn types next own → IsCourse literals (query_readers T n columns) next p course own → (s : LowState) → BetweenOf stoods (budget (length front)) s →
            Ends (size (build_block T number course) * N) (AllBuilt (front ++ p ∷ []) (budget (suc (length front)))) Never Told (meaning most fuel (build_block T number course) s)
        one_ends front p back stoods number parts are number_is course next own behind room own_types is s between =
            let r = reached front p back stoods parts are in
            let many_stood : length stoods ≡ length front = stood_many [] front stoods are in
            let all : length building ≡ length front + suc (length back) = ap (λ (l : List Pipeline). length l) parts ∙ length-append front (p ∷ back) in
            let low_T : length stoods < T = omega (arith, many_stood, all, all_built) in
            let here : r.made.table ≡ number = r.number_is ∙ (many_stood ∙ sym number_is) in
            subst (λ (k : ℕ). Ends (size (build_block T k course) * N) (AllBuilt (front ++ p ∷ []) (budget (suc (length front)))) Never Told (meaning most fuel (build_block T k course) s)) here
            (Ends-weaker (size (build_block T r.made.table course) * N) (size (build_block T r.made.table course) * N) (IsBuilt stoods p r.made r.sink_is r.number_is low_T course next own behind room is own_types r.source r.finds (budget (length front)))
            (AllBuilt (front ++ p ∷ []) (budget (suc (length front)))) Never Never (Tells (fed_by stoods p).codes) Told (meaning most fuel (build_block T r.made.table course) s) (omega arith)
            (λ t h. record {
              stoods = stoods ++ h.stood ∷ [];
              are = stood_end [] front stoods p h.stood are h.of;
              between = more_paid (stoods ++ h.stood ∷ []) (budget (length front) + u + 4096 + length (fed_by stoods p).rows * entry_width r.made) (budget (suc (length front))) t r.grows h.between;
            })
            (λ t x. x) (λ code x. told front p back stoods parts are code x)
            (build_ends stoods p r.made r.sink_is r.number_is low_T course next own behind room is own_types r.source r.finds (budget (length front)) r.fits (omega (arith, r.grows, r.enough)) s between))

        pub builds_end : (front back : List Pipeline) (stoods : List Stood) (number : ℕ) → building ≡ front ++ back → AreStood contents [] front stoods → number ≡ length front → (courses : List Course) (next : ℕ) (own : List ValType) → own_first ≤ next → next + length own ≤ many →
            AreOwn types next own → AreCourses literals (query_readers T n columns) next back courses own → (s : LowState) → BetweenOf stoods (budget (length front)) s →
            Ends (size (builds_block T number courses) * N) (AllBuilt building (budget (length building))) Never Told (meaning most fuel (builds_block T number courses) s)
        builds_end front [] stoods number parts are number_is [] next own behind room own_types courses_are s between =
            let whole : building ≡ front = parts ∙ append-nil front in
            let last : length front ≡ length building = sym (ap (λ (l : List Pipeline). length l) whole) in
            (omega arith, record { stoods = stoods; are = subst (λ (l : List Pipeline). AreStood contents [] l stoods) (sym whole) are; between = subst (λ (k : ℕ). BetweenOf stoods (budget k) s) last between })
        builds_end front [] stoods number parts are number_is (c' ∷ courses) next own behind room own_types courses_are s between = absurd courses_are
        builds_end front (p ∷ back) stoods number parts are number_is [] next own behind room own_types courses_are s between = absurd courses_are
        builds_end front (p ∷ back) stoods number parts are number_is (course ∷ courses) next own behind room own_types courses_are s between =
            let all : length own ≡ length courses_are.0 + length courses_are.1 = ap (λ (l : List ValType). length l) courses_are.2 ∙ length-append courses_are.0 courses_are.1 in
            let first : Statement = build_block T number course in
            let rest : Statement = builds_block T (number + 1) courses in
            let further : length (front ++ p ∷ []) ≡ suc (length front) = let two = length-append front (p ∷ []) in omega (arith, two) in
            Ends-more (AllBuilt building (budget (length building))) Never Told (size first * N + size rest * N) (size (builds_block T number (course ∷ courses)) * N) (meaning most fuel (builds_block T number (course ∷ courses)) s) (omega (arith, add-mul (size first) (size rest) N))
            (Ends-then (AllBuilt building (budget (length building))) Never Told (size first * N) (size rest * N) (AllBuilt (front ++ p ∷ []) (budget (suc (length front)))) (meaning most fuel first s) (meaning most fuel rest)
            (one_ends front p back stoods number parts are number_is course next courses_are.0 behind (omega (arith, room, all)) (first_own_types types next own courses_are.0 courses_are.1 courses_are.2 own_types) courses_are.3 s between)
            (λ t h. builds_end (front ++ p ∷ []) back h.stoods (number + 1) (parts ∙ sym (append_assoc front (p ∷ []) back)) h.are (omega (arith, further, number_is)) courses (next + length courses_are.0) courses_are.1 (omega (arith, behind)) (omega (arith, room, all))
            (rest_own_types types next own courses_are.0 courses_are.1 courses_are.2 own_types) courses_are.4 t (subst (λ (k : ℕ). BetweenOf h.stoods (budget k) t) (sym further) h.between)))

        -- ---- the one whose rows are the result
        module _ (last : Pipeline) (items : List Expression) (last_is : last.sink ≡ select items) where
          abbrev row_width : ℕ
          row_width = 8 + 16 * length items

          abbrev RowHas : Cells → ℕ → ℕ → List Val → Type 0
          RowHas = HasRow (LiesIn c) (map kind_of items)

          abbrev Resulted : List Stood → LowState → Type 0
          Resulted stoods w = IsResult T n contents c base u (budget (length building)) s0 last items stoods w

          module _ (stoods : List Stood) (are : AreStood contents [] building stoods) (source : SourceOf last) (finds : FindsOf stoods last) (fits : row_width + u ≤ page) (enough : budget (length building) + length (fed_by stoods last).rows * row_width + 2 * u < (most + 1) * u)
              (course : Course) (next : ℕ) (own : List ValType) (behind : own_first ≤ next) (room : next + length own ≤ many) (is : IsCourse literals (query_readers T n columns) next last course own) (own_types : AreOwn types next own)
              (told_last : (raised : ℕ) → Tells (fed_by stoods last).codes raised → Told raised) (s : LowState) (between : BetweenOf stoods (budget (length building)) s) where
            abbrev rows_base : ℕ
            rows_base = pos between.part between.offset

            abbrev fed_last : Flow (List Val)
            fed_last = fed_by stoods last

            stood_T : length stoods ≤ T
            stood_T = let one = stood_many [] building stoods are in omega (arith, one, all_built)

            abbrev fewer_last : (rows more : List (List Val)) → AtMost (length fed_last.rows) (rows ++ more) → AtMost (length fed_last.rows) rows
            fewer_last rows more le = let all = length-append rows more in omega (arith, le, all)

            -- the result begins behind the tables
            module _ (t : LowState) (begun : RowsBegun RowHas row_width u (budget (length building)) between.part between.offset s t) where
              same_last : Same t
              same_last = Keeps-then (Steady T n) (Before base) s0 s t between.keeps
                  (Keeps-less (Steady T n) (Before base) (From 5) (Before base) s t (λ i old. ⊎_elim inl (λ g'. inr (omega (arith, g'.0))) old) (λ at wide low'. low') (rows_keep (Before base) RowHas row_width u (budget (length building)) between.part between.offset s t begun))

              stand_begun : AllStand c stoods t
              stand_begun = all_keep stoods (rows_left T) (λ at wide. Unit {0}) rows_base s t between.fronts (λ at wide low'. tt) (omega (arith, stood_T))
                  (Keeps-less (Below (rows_left T)) (λ at wide. Unit {0}) (From 5) (λ at wide. Unit {0}) s t (λ i old. ⊎_elim inl (λ g'. inr g'.0) old) (λ at wide x. x) (rows_keep (λ at wide. Unit {0}) RowHas row_width u (budget (length building)) between.part between.offset s t begun))
                  between.stand

              module _ (v : LowState) (opened : Opened T (length (rows_of last)) start (over last.entry) t v) where
                stand_open : AllStand c stoods v
                stand_open = all_keep stoods (rows_left T) (λ at wide. Unit {0}) rows_base t v between.fronts (λ at wide low'. tt) (omega (arith, stood_T))
                    (Keeps-kept (Below (rows_left T)) (λ at wide. Unit {0}) (rows_left T) t v (λ i old. below-under (rows_left T) (rows_left T) i (omega arith) (omega arith) old) opened.kept) stand_begun

                scanned_last : ScannedBy stoods last (over last.entry) next course.row own v
                scanned_last = scanned stoods last course next own behind room is own_types source finds t v same_last (begun.has.room.pages 0 (omega arith)) stand_open opened

                has_begun : HasRows RowHas row_width rows_base u (budget (length building)) [] v
                has_begun = rows_kept RowHas row_width (omega arith) (λ c1 c2 k o values same has. row-same (LiesIn c) (map kind_of items) c1 c2 k o values (λ a b from to. let many_kinds = length-map items kind_of in same a b from (omega (arith, to, many_kinds))) has)
                    rows_base u (budget (length building)) fits most fuel (rows_left T) (omega arith) [] t v opened.kept begun.has

                abbrev sink_last : Sink
                sink_last = rows_sink RowHas row_width rows_base u (budget (length building)) (AtMost (length fed_last.rows)) fewer_last

                resulted : (w : LowState) → FedTo sink_last (But (rows_left T) (Below low)) Any fed_last [] v w → Resulted stoods w
                resulted w done = record {
                  rows_base = rows_base;
                  none = done.none;
                  keeps = Keeps-then (Steady T n) (BehindWords base) s0 v w
                      (Keeps-less (Steady T n) (BehindWords base) (Steady T n) (Before base) s0 v (λ i old. old) (λ at wide low'. low'.1)
                      (Keeps-then (Steady T n) (Before base) s0 t v same_last (opened_keeps (length (rows_of last)) (over last.entry) t v opened)))
                      (Keeps-less (Steady T n) (BehindWords base) (But (rows_left T) (Below low)) (BesideRoot rows_base) v w steady_below (λ at wide low'. inr (omega (arith, low'.0), omega (arith, low'.1, between.behind))) done.keeps);
                  has = done.has;
                }

                loop_last : Ends (size (rows_block (rows_left T) course.row) * N) (Resulted stoods) Never Told (meaning most fuel (rows_block (rows_left T) course.row) v)
                unfolding scanned_last scanned
                loop_last =
                    let cost : ℕ = 1 + pipeline_cost contents (built_of stoods) last in
                    let block : Statement = rows_block (rows_left T) course.row in
                    Ends-weaker (size block * cost) (size block * N) (FedTo sink_last (But (rows_left T) (Below low)) Any fed_last [] v) (Resulted stoods) Never Never (Tells fed_last.codes) Told (meaning most fuel block v)
                    (mul-le (size block) cost (size block) N (omega arith) finds.cost) resulted (λ w x. x) told_last
                    (selected_feeds c stoods (rows_left T) (omega (arith, stood_T)) most fuel many types u (budget (length building)) (AtMost (length fed_last.rows)) fewer_last contents last literals (over last.entry) (rows_left T) (rows_end T) low next course.row own v scanned_last
                    items rows_base fits (λ rows few. let less = mul-le (length rows) row_width (length fed_last.rows) row_width few (omega arith) in omega (arith, less, enough))
                    (λ j a w x is'. let seen_low = (g.own_seen j a w x is').0 in inr (seen_low.0, omega (arith, seen_low.1, between.behind))) (λ i st there. let before = between.fronts i st there in let start_low = g.entries_before in (omega (arith, before.0, start_low), before.1))
                    last_is [] has_begun (omega arith))

            pub result_then : (m : ℕ) (P : LowState → Type 0) (finish : Statement) → ((w : LowState) → Resulted stoods w → Ends m P Never Told (meaning most fuel finish w)) →
                Ends (6 + (size (course_block T course) * N + m)) P Never Told (meaning most fuel (seq begin_block (seq (course_block T course) finish)) s)
            result_then m P finish onward =
                let loop : ℕ = size (rows_block (rows_left T) course.row) in
                let all : ℕ = 9 + size course.begins in
                let before = g.entries_before in
                Ends-then P Never Told 6 (size (course_block T course) * N + m) (RowsBegun RowHas row_width u (budget (length building)) between.part between.offset s) (meaning most fuel begin_block s) (meaning most fuel (seq (course_block T course) finish))
                (rows_begin_end Told most fuel s RowHas row_width u (budget (length building)) between.part between.offset (omega (arith, between.behind, before)) between.room (omega (arith, g.long, g.first_own, between.keeps.many))
                (between.keeps.locals 0 (inl refl) ∙ g.descriptor) (between.keeps.cells 0 8 4 (omega (arith, before)) ∙ g.root) between.paid)
                (λ t begun. Ends-then P Never Told (size (course_block T course) * N) m (Resulted stoods) (meaning most fuel (course_block T course) t) (meaning most fuel finish)
                (Ends-more (Resulted stoods) Never Told (9 + (size course.begins + loop * N)) (size (course_block T course) * N) (meaning most fuel (course_block T course) t) (omega (arith, add-mul all loop N, at_least all N g.some))
                (course_then stoods last course next own behind room is own_types source finds (loop * N) (Resulted stoods) Told t (same_last t begun) (λ v opened. loop_last t begun v opened)))
                onward)
