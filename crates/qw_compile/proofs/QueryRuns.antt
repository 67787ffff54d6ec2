-- The run of a query's module, from the memory that it begins with to the rows that are found.
use Rattle.std.proofs.Common.{◌≡◌, ℕ, zero, suc, ◌+◌, ◌*◌, ◌<◌, ◌≤◌, inl, nat_le, ◌&&◌, if◌then◌else◌, Bool, true, false, IsUtf8, Ok, Option, Some, None, List, [], ◌∷◌, ◌++◌, length, map, replicate, slice_get, refl, sym, ap, ◌∙◌, subst, arith}
use Rattle.std.specs.List.{AllByRecursion, concat}
use Rattle.std.proofs.lemmas.List.{length-map, length-replicate}
use Rattle.std.proofs.lemmas.Option.{same_Some, slice_get_within}
use Rattle.std.proofs.Math.Nat.{add-mul}
use Rattle.qw_types.specs.Contents.{rows_of}
use Rattle.qw_types.specs.Value.{IsSized}
use Rattle.qw_types.specs.declared.kind.Kind.{Kind}
use Rattle.qw_types.specs.declared.value.Ty.{Ty}
use Rattle.qw_types.specs.declared.value.Val.{Val}
use Rattle.qw_types.specs.declared.value.Val.TheVariants as val
use Rattle.qw_linear.specs.Memory.{page}
use Rattle.qw_module.specs.declared.instruction.ValType.{ValType}
use Rattle.qw_scalar.specs.Evaluation.{at_row, value_of}
use Rattle.qw_scalar.specs.Expression.{Expression}
use Rattle.qw_scalar.specs.Typing.{kind_of}
use Rattle.qw_map.specs.Columns.{values_size}
use Rattle.qw_map.specs.Layout.{Layout, HasColumn, IsReady, IsReadyColumn, descriptor_size, entry_offset}
use Rattle.qw_map.specs.declared.layout.Placed.{Placed}
use Rattle.qw_map.specs.declared.layout.Used.{Used}
use Rattle.qw_map.proofs.AreaLemmas.{all-append}
use Rattle.qw_map.proofs.TurnFacts.{found-in}
use Rattle.qw_meaning.specs.From.{at_places}
use Rattle.qw_low.specs.Syntax.{Statement, seq}
use Rattle.qw_low.specs.State.{Own, Column, Value, Number, Cells, LowState}
use Rattle.qw_low.specs.Begin.{KnowsEntry, first_state, cells_of}
use Rattle.qw_low.specs.Meaning.{meaning}
use Rattle.qw_low.specs.Promise.{Ends}
use Rattle.qw_low.specs.Raising.{Kept}
use Rattle.qw_low.specs.Size.{size}
use Rattle.qw_low.proofs.BeginLemmas.{entries-known, head-known}
use Rattle.qw_low.proofs.LessKnown.{seen}
use Rattle.qw_low.proofs.Promises.{Ends-more, Ends-then, Ends-weaker}
use Rattle.qw_low.proofs.Results.{Kept-then, at_least}
use Rattle.qw_feed.specs.Feeds.{Tells}
use Rattle.qw_feed.specs.Frames.{pos, Before, Keeps}
use Rattle.qw_feed.specs.Room.{space_block, HasRoom}
use Rattle.qw_feed.specs.Rows.{HasRows, finish_block, in_order}
use Rattle.qw_feed.specs.Cells.{HasRow}
use Rattle.qw_feed.proofs.Frames.{Never, Keeps-less, Keeps-same, Keeps-then, Keeps-kept}
use Rattle.qw_feed.proofs.RoomRuns.{room-kept}
use Rattle.qw_expr.specs.Computes.{Known, AreHeld}
use Rattle.qw_expr.specs.Cells.{Holds}
use Rattle.qw_read.specs.Constants.{IsSet, IsSmall, SetsAll, known_constant, literal_of}
use Rattle.qw_read.specs.Reading.{HasOctets, StandsAt}
use Rattle.qw_read.specs.Texts.{HasPlace, LeadsToAll, LieThere, known_texts}
use Rattle.qw_read.specs.declared.constant.Constant.{Constant}
use Rattle.qw_read.specs.declared.constant.Word.{Word}
use Rattle.qw_read.specs.declared.constant.Word.TheVariants as word
use Rattle.qw_read.specs.declared.literal.Literal.{Literal}
use Rattle.qw_read.specs.declared.reader.Reader.{Reader}
use Rattle.qw_read.proofs.ConstantRuns.{constants_held, sets_same}
use Rattle.qw_read.proofs.ReadyColumns.{ready_long, ready_stands_at}
use Rattle.qw_read.proofs.TextPlaces.{lie_there_kept, lie_there_within, places_same, ready_texts, texts_held}
use Rattle.qw_algebra.specs.Columns.{owner}
use Rattle.qw_physical.specs.Physical.{Build, Pipeline, build, select}
use Rattle.qw_physical.specs.declared.pipeline.ReadColumn.{ReadColumn}
use Rattle.qw_leaves.specs.Leaves.{HasLeaves}
use Rattle.qw_operator.proofs.KnownLeaves.{AreFit, Fits}
use Rattle.qw_operator.proofs.PipelineFeeds.{Between as Inside}
use Rattle.qw_operator.proofs.Promised.{AreOwn}
use Rattle.qw_operator.proofs.Seen.{LiesIn}
use Rattle.qw_operator.proofs.Stood.{Stood}
use Rattle.qw_emit.specs.RunsOf.{first_locals}
use Rattle.qw_emit.proofs.ModuleCompiled.{AreReady, Settled}
use Rattle.qw_emit.proofs.QueryBegins.{SpaceBegun, query_space}
use Rattle.qw_emit.proofs.QueryEnds.{BehindWords, rows_left}
use Rattle.qw_emit.proofs.SeenTexts.{shown}
use Rattle.qw_compile.specs.Literals.{constants_from}
use Rattle.qw_compile.specs.QueryLocals.{base_start, rows_end, cell_start, own_start, query_locals, query_readers, read_by, text_start, word_start}
use Rattle.qw_compile.specs.Statements.{AreCourses, Course, IsCourse, builds_block, course_block, result_block}
use Rattle.qw_compile.proofs.RowsRead.{column_at, inside_from, inside_of}
use Rattle.qw_compile.proofs.LocalsPlaced.{at_each_over, each_over, literal_count, literals_known, literals_within, texts_placed, words_placed}
use Rattle.qw_compile.proofs.PipelineRuns.{AllBuilt, AreStood, Between, Entered, Finds, Grounds, IsReached, IsStanding, Source, Steady, builds_end, entry_width, fed_over, readers_of, result_then, scanned_rows, stood_many}
use Rattle.qw_compile.proofs.QueryTyped.{known_typed, query_locals_long, types as query_types}
use Rattle.qw_compile.proofs.LiteralLemmas.{texts_from, texts_in_locals, texts_up, words_in_locals, words_small, words_up}

-- ---- columns of the layout are those that are read
-- of an entry of FROM, whose table `table_of` says
pub record IsLaid (table_of : ℕ → ℕ) (used : Used) (column : ReadColumn) : Type 0 where
  pub type_is : used.ty ≡ column.ty
  pub null_is : used.not_null ≡ column.not_null
  pub number_is : column.number ≡ 64 * owner column.number + used.column
  pub table_is : used.table ≡ table_of (owner column.number)
  pub sized : IsSized column.ty

pub record AreLaid (table_of : ℕ → ℕ) (used : List Used) (columns : List ReadColumn) : Type 0 where
  pub many : length used ≡ length columns
  pub each : (k : ℕ) (column : ReadColumn) → slice_get columns k ≡ Some column → (one : Used) × (slice_get used k ≡ Some one) × IsLaid table_of one column

-- an entry has a column among them
abbrev pub HasColumnOf : List ReadColumn → (entry : ℕ) → Type 0
HasColumnOf columns entry = (k : ℕ) × (column : ReadColumn) × (slice_get columns k ≡ Some column) × (owner column.number ≡ entry)

-- what holds of a pipeline that builds a table, where those before it have built theirs, and these octets are paid for
pub record Reach (T n : ℕ) (columns : List ReadColumn) (literals : List Known) (tables : List (List (List Val))) (u most N : ℕ) (table_of : ℕ → ℕ) (stoods : List Stood) (p : Pipeline) (budget later : ℕ) : Type 0 where
  pub made : Build
  pub sink_is : p.sink ≡ build made
  pub number_is : made.table ≡ length stoods
  pub table_is : p.table ≡ table_of p.entry
  pub has_column : HasColumnOf columns p.entry
  pub finds : Finds T n columns literals tables N stoods p
  pub fits : entry_width made + u ≤ page
  pub grows : budget + u + 4096 + length (fed_over tables stoods p).rows * entry_width made ≤ later
  pub enough : later + 2 * u < (most + 1) * u

-- and of the one whose rows are the result
pub record LastReach (T n : ℕ) (columns : List ReadColumn) (literals : List Known) (tables : List (List (List Val))) (u most N : ℕ) (table_of : ℕ → ℕ) (stoods : List Stood) (p : Pipeline) (cells budget : ℕ) : Type 0 where
  pub table_is : p.table ≡ table_of p.entry
  pub has_column : HasColumnOf columns p.entry
  pub finds : Finds T n columns literals tables N stoods p
  pub fits : 8 + 16 * cells + u ≤ page
  pub enough : budget + length (fed_over tables stoods p).rows * (8 + 16 * cells) + 2 * u < (most + 1) * u

-- The rows of the result are those that the last pipeline feeds over the tables that the others built.
pub record IsAnswered (layout : Layout) (tables : List (List (List Val))) (building : List Pipeline) (last : Pipeline) (t : LowState) : Type 0 where
  pub stoods : List Stood
  pub are : AreStood tables [] building stoods
  pub none : (fed_over tables stoods last).codes ≡ []
  pub settled : Settled layout tables t
  pub rows : in_order settled.found ≡ (fed_over tables stoods last).rows

-- a value at a row's own places
places_get : (n : ℕ) (row : List Val) (i : ℕ) → slice_get (replicate n val.Null ++ row) (n + i) ≡ slice_get row i
places_get zero row i = let none : 0 + i ≡ i = omega arith in ap (λ (k : ℕ). slice_get row k) none
places_get (suc n) row i = let more : suc n + i ≡ suc (n + i) = omega arith in ap (λ (k : ℕ). slice_get (val.Null ∷ (replicate n val.Null ++ row)) k) more ∙ places_get n row i

mapped_get : {X Y : Type 0} (f : X → Y) (xs : List X) (i : ℕ) (y : Y) → slice_get (map f xs) i ≡ Some y → (x : X) × (slice_get xs i ≡ Some x) × (f x ≡ y)
mapped_get f [] i y there = absurd cc
mapped_get f (x ∷ xs) zero y there = (x, refl, same_Some (f x) y there)
mapped_get f (x ∷ xs) (suc i) y there = mapped_get f xs i y there

one_of_rows : {X : Type 0} (P : X → Type 0) (xs : List X) (k : ℕ) (x : X) → AllByRecursion P xs → slice_get xs k ≡ Some x → P x
one_of_rows P [] k x all found = absurd cc
one_of_rows P (y ∷ xs) zero x all found = subst P (same_Some y x found) all.0
one_of_rows P (y ∷ xs) (suc k) x all found = one_of_rows P xs k x all.1 found

fit_texts : (row : List Val) (literals : List Literal) (texts : List (List ℕ)) → AllByRecursion IsUtf8 texts → AreFit row (known_texts literals texts)
fit_texts row [] texts utf8 = tt
fit_texts row (l ∷ literals) [] utf8 = tt
fit_texts row (l ∷ literals) (t ∷ texts) utf8 = (utf8.0, fit_texts row literals texts utf8.1)

fit_words : (row : List Val) (x : ℕ) (words : List Word) → AreFit row (map known_constant (constants_from x words))
fit_words row x [] = tt
fit_words row x (w ∷ words) = (one w, fit_words row (x + 1) words)
  where
    one : (v : Word) → HasLeaves (Fits row) (literal_of v)
    one (word.Number n s) = tt
    one (word.Date d) = tt

-- A query's module over tables that are ready: `own` are the types of the locals that its pipelines have of their own, `most` bounds the pages, `u` the octets of a
-- request, and each part of the statement takes no more than N times its size.
pub record Setting : Type 0 where
  pub layout : Layout
  pub tables : List (List (List Val))
  pub limit : ℕ
  pub are_ready : AreReady layout tables limit
  pub small : descriptor_size layout ≤ page
  pub T : ℕ
  pub columns : List ReadColumn
  pub texts : List (List ℕ)
  pub words : List Word
  pub table_of : ℕ → ℕ
  pub laid : AreLaid table_of layout.columns columns
  pub texts_are : layout.literals ≡ concat texts
  pub utf8 : AllByRecursion IsUtf8 texts
  pub small_words : AllByRecursion IsSmall words
  pub leads : Statement
  pub sets : Statement
  pub leads_all : LeadsToAll (texts_placed T (entry_offset (length layout.columns)) texts) leads
  pub sets_all : SetsAll (words_placed T (length texts) words) sets
  pub most : ℕ
  pub N : ℕ
  pub u : ℕ
  pub some : 1 ≤ N
  pub u_low : u ≤ page
  pub own : List ValType

-- where each of two takes no more than so many times its size, both do
pub both_end : (most fuel N : ℕ) (P M : LowState → Type 0) (R : ℕ → Type 0) (a b : Statement) (s : LowState) → Ends (size a * N) M Never R (meaning most fuel a s) → ((t : LowState) → M t → Ends (size b * N) P Never R (meaning most fuel b t)) →
    Ends (size (seq a b) * N) P Never R (meaning most fuel (seq a b) s)
both_end most fuel N P M R a b s front onward =
    Ends-more P Never R (size a * N + size b * N) (size (seq a b) * N) (meaning most fuel (seq a b) s) (omega (arith, add-mul (size a) (size b) N))
    (Ends-then P Never R (size a * N) (size b * N) M (meaning most fuel a s) (meaning most fuel b) front onward)

module _ (S : Setting) where
  open S use {layout, tables, limit, are_ready, small, T, columns, texts, words, table_of, laid, texts_are, utf8, small_words, leads, sets, leads_all, sets_all, most, N, u, some, u_low, own}

  abbrev pub n : ℕ
  n = literal_count texts words

  abbrev pub at : ℕ
  at = entry_offset (length layout.columns)

  abbrev pub literals : List Known
  literals = literals_known T at texts words

  abbrev pub base : ℕ
  base = descriptor_size layout

  abbrev pub others : ℕ
  others = length (query_locals T (length texts) (length words) columns own)

  abbrev pub first : LowState
  first = first_state layout tables limit (first_locals others)

  abbrev pub c : Cells
  c = shown base (cells_of layout tables)

  abbrev pub many : ℕ
  many = suc others

  abbrev pub own_first : ℕ
  own_first = own_start T n (length columns)

  abbrev pub types : List ValType
  types = query_types T at columns texts words own

  abbrev pub GroundsAt : LowState → Type 0
  GroundsAt s0 = Grounds T n columns literals c base u N N many types s0

  -- ---- the rows of an entry
  ready : IsReady layout are_ready.placed tables are_ready.descriptor limit are_ready.memory
  ready = are_ready.ready

  ready_column : (k : ℕ) (used : Used) → slice_get layout.columns k ≡ Some used → (one : Placed) × IsReadyColumn (rows_of tables used.table) are_ready.descriptor are_ready.memory used one
  ready_column k used found =
      let one = found-in are_ready.placed k (let inside = slice_get_within layout.columns k used found in omega (arith, inside, ready.many)) in
      (one.0, ready.columns k used one.0 found one.1)

  module _ (p : Pipeline) (table_is : p.table ≡ table_of p.entry) (has_column : HasColumnOf columns p.entry) where
    abbrev rows : List (List Val)
    rows = scanned_rows tables p

    rows_many : length rows ≡ length (rows_of tables p.table)
    rows_many = length-map (rows_of tables p.table) (at_places p.entry)

    -- a column of the entry is of its table
    of_table : (used : Used) (column : ReadColumn) → IsLaid table_of used column → owner column.number ≡ p.entry → used.table ≡ p.table
    of_table used column is owned = is.table_is ∙ (ap table_of owned ∙ sym table_is)

    few : length rows ≤ 1000000
    few =
        let one = laid.each has_column.0 has_column.1 has_column.2 in
        let table = of_table one.0 has_column.1 one.2 has_column.3 in
        let count = subst (λ (t : ℕ). length (rows_of tables t) ≤ 1000000) table (ready_column has_column.0 one.0 one.1).1.few in
        omega (arith, count, rows_many)

    entered_one : (k : ℕ) (column : ReadColumn) → slice_get columns k ≡ Some column → owner column.number ≡ p.entry → (b c' : ℕ) → Entered (length rows) first (read_by T b c' k column)
    entered_one k column there owned b c' =
        let one = laid.each k column there in
        let count : length (rows_of tables one.0.table) ≡ length rows = ap (λ (t : ℕ). length (rows_of tables t)) (of_table one.0 column one.2 owned) ∙ sym rows_many in
        record {
          used = one.0;
          type_is = one.2.type_is;
          null_is = one.2.null_is;
          entry = subst (λ (m : ℕ). KnowsEntry first.cells k one.0 m) count (entries-known layout are_ready.placed tables are_ready.descriptor limit are_ready.memory ready k one.0 one.1);
          values = subst (λ (m : ℕ). HasOctets first.columns (3 * k) (values_size column.ty m)) count
              (subst (λ (t : Ty). HasOctets first.columns (3 * k) (values_size t (length (rows_of tables one.0.table)))) one.2.type_is
              (ready_long layout are_ready.placed tables are_ready.descriptor limit are_ready.memory ready small k one.0 one.1));
        }

    standing_one : (i : ℕ) (row : List Val) → slice_get rows i ≡ Some row → (k : ℕ) (column : ReadColumn) → slice_get columns k ≡ Some column → owner column.number ≡ p.entry → (b c' : ℕ) → IsStanding i row first (read_by T b c' k column)
    standing_one i row there k column found owned b c' =
        let one = laid.each k column found in
        let used = one.0 in
        let of_row = mapped_get (at_places p.entry) (rows_of tables p.table) i row there in
        let table = of_table used column one.2 owned in
        let in_used : slice_get (rows_of tables used.table) i ≡ Some of_row.0 = ap (λ (t : ℕ). slice_get (rows_of tables t) i) table ∙ of_row.1 in
        let has = one_of_rows (HasColumn used) (rows_of tables used.table) i of_row.0 (ready_column k used one.1).1.typed in_used in
        let number : column.number ≡ 64 * p.entry + used.column = one.2.number_is ∙ ap (λ (e : ℕ). 64 * e + used.column) owned in
        let value_is : slice_get row column.number ≡ Some has.0 =
        ap (λ (r : List Val). slice_get r column.number) (sym of_row.2) ∙ (ap (λ (j : ℕ). slice_get (at_places p.entry of_row.0) j) number ∙ (places_get (64 * p.entry) of_row.0 used.column ∙ has.1)) in (
          has.0,
          value_is,
          subst (λ (t : Ty). StandsAt first.cells first.columns k t column.not_null i has.0) one.2.type_is
              (subst (λ (b' : Bool). StandsAt first.cells first.columns k used.ty b' i has.0) one.2.null_is
              (ready_stands_at layout are_ready.placed tables are_ready.descriptor limit are_ready.memory ready small k i used has.0 one.1 (column_at (rows_of tables used.table) i used.column of_row.0 has.0 in_used has.1))),
          one.2.sized,
        )

    module _ (s0 : LowState) (cells : s0.cells ≡ first.cells) (sizes : s0.columns ≡ first.columns) where
      entered_all : AllByRecursion (Entered (length rows) s0) (readers_of T n columns p.entry)
      entered_all = each_over p.entry T (λ k column. (b c' : ℕ) → Entered (length rows) s0 (read_by T b c' k column)) (Entered (length rows) s0) (λ b c' k column h. h b c') (base_start T n) (cell_start T n (length columns)) 0 columns
          (at_each_over p.entry (λ k column. (b c' : ℕ) → Entered (length rows) s0 (read_by T b c' k column)) 0 columns (λ i column there owned b c'.
          let place : i ≡ 0 + i = omega arith in
          let e = subst (λ (k : ℕ). Entered (length rows) first (read_by T b c' k column)) place (entered_one i column there owned b c') in
          record {
            used = e.used;
            type_is = e.type_is;
            null_is = e.null_is;
            entry = subst (λ (d : Cells). KnowsEntry d (0 + i) e.used (length rows)) (sym cells) e.entry;
            values = subst (λ (l : List ℕ). HasOctets l (3 * (0 + i)) (values_size column.ty (length rows))) (sym sizes) e.values;
          }))

      indices_all : AllByRecursion (λ (r : Reader). r.index < length columns) (readers_of T n columns p.entry)
      indices_all = each_over p.entry T (λ k column. k < length columns) (λ (r : Reader). r.index < length columns) (λ b c' k column h. h) (base_start T n) (cell_start T n (length columns)) 0 columns
          (at_each_over p.entry (λ k column. k < length columns) 0 columns (λ i column there owned. let inside = slice_get_within columns i column there in omega (arith, inside)))

      source : Source T n columns tables s0 p
      source = record {
        few = few;
        entered = entered_all;
        indices = indices_all;
        stand = λ i row there.
            each_over p.entry T (λ k column. (b c' : ℕ) → IsStanding i row s0 (read_by T b c' k column)) (IsStanding i row s0) (λ b c' k column h. h b c') (base_start T n) (cell_start T n (length columns)) 0 columns
            (at_each_over p.entry (λ k column. (b c' : ℕ) → IsStanding i row s0 (read_by T b c' k column)) 0 columns (λ j column found owned b c'.
            let place : j ≡ 0 + j = omega arith in
            let h = subst (λ (k : ℕ). IsStanding i row first (read_by T b c' k column)) place (standing_one i row there j column found owned b c') in
            (h.0, h.1, subst (λ (d : Cells). StandsAt d s0.columns (0 + j) column.ty column.not_null i h.0) (sym cells) (subst (λ (l : List ℕ). StandsAt first.cells l (0 + j) column.ty column.not_null i h.0) (sym sizes) h.2), h.3)));
      }

  -- ---- where literals are in their locals
  abbrev text_literals : List Literal
  text_literals = texts_placed T at texts

  abbrev constants : List Constant
  constants = words_placed T (length texts) words

  -- nothing has been placed, and the literals are in their locals
  pub record IsBegun (s : LowState) : Type 0 where
    pub kept : Kept 1 first s
    pub room : HasRoom 0 base s
    pub places : AllByRecursion (HasPlace s) text_literals
    pub set : AllByRecursion (IsSet s) constants

  texts_there : LieThere first text_literals texts
  texts_there = ready_texts layout are_ready.placed tables are_ready.descriptor limit are_ready.memory (first_locals others) ready small text_literals texts texts_are (texts_from (text_start T) at texts)

  own_low : own_first ≤ many
  own_low = let long = query_locals_long T (length texts) (length words) columns own in omega (arith, long)

  sets_end : (t u' : LowState) → SpaceBegun base others first t → Kept (text_start T) t u' → AllByRecursion (HasPlace u') text_literals → (R : ℕ → Type 0) → Ends (size sets) IsBegun Never R (meaning most N sets u')
  sets_end t u' begun kept places R =
      let long = begun.many in
      Ends-weaker (size sets) (size sets) (λ v. Kept (word_start T (length texts)) u' v × AllByRecursion (IsSet v) constants × ((row : List Val) → AreHeld (map known_constant constants) row v)) IsBegun Never Never (λ code. ⊥) R (meaning most N sets u') (omega arith)
      (λ v set. record {
        kept = Kept-then 1 (text_start T) first t v (omega arith) begun.kept (Kept-then (text_start T) (word_start T (length texts)) t u' v (omega arith) kept set.0);
        room = room-kept 0 base (text_start T) t v (omega arith) (Kept-then (text_start T) (word_start T (length texts)) t u' v (omega arith) kept set.0) begun.room;
        places = places_same u' v 0 (word_start T (length texts)) (λ j low high. set.0.below j high) (text_start T) text_literals (omega arith) (texts_in_locals (text_start T) at texts) places;
        set = set.1;
      }) (λ v x. x) (λ code x. absurd x)
      (sets_all.runs most N (word_start T (length texts)) u' (words_small IsSmall (word_start T (length texts)) words small_words)
      (words_up (word_start T (length texts)) (word_start T (length texts) + length words) (length u'.locals) constants (omega (arith, kept.many, long, own_low)) (words_in_locals (word_start T (length texts)) words)))

  -- then what follows is done
  leads_then : (t : LowState) → SpaceBegun base others first t → (R : ℕ → Type 0) (m : ℕ) (P : LowState → Type 0) (rest : Statement) → ((s : LowState) → IsBegun s → Ends m P Never R (meaning most N rest s)) →
      Ends (size leads + (size sets + m)) P Never R (meaning most N (seq leads (seq sets rest)) t)
  leads_then t begun R m P rest onward =
      let long = begun.many in
      Ends-then P Never R (size leads) (size sets + m) (λ u'. Kept (text_start T) t u' × AllByRecursion (HasPlace u') text_literals × ((row : List Val) → AreHeld (known_texts text_literals texts) row u')) (meaning most N leads t) (meaning most N (seq sets rest))
      (Ends-weaker (size leads) (size leads) (λ u'. Kept (text_start T) t u' × AllByRecursion (HasPlace u') text_literals × ((row : List Val) → AreHeld (known_texts text_literals texts) row u'))
      (λ u'. Kept (text_start T) t u' × AllByRecursion (HasPlace u') text_literals × ((row : List Val) → AreHeld (known_texts text_literals texts) row u')) Never Never (λ code. ⊥) R (meaning most N leads t) (omega arith) (λ v x. x) (λ v x. x) (λ code x. absurd x)
      (leads_all.runs most N (text_start T) texts t (lie_there_kept 1 first t text_literals texts begun.kept texts_there) begun.descriptor (omega arith)
      (texts_up (text_start T) (text_start T + 2 * length texts) (length t.locals) text_literals (omega (arith, long, own_low)) (texts_in_locals (text_start T) at texts))))
      (λ u' led. Ends-then P Never R (size sets) m IsBegun (meaning most N sets u') (meaning most N rest) (sets_end t u' begun led.0 led.1 R) onward)

  module _ (s0 : LowState) (begun : IsBegun s0) where
    cells_first : s0.cells ≡ first.cells
    cells_first = ap (λ (x : LowState). x.cells) begun.kept.others

    sizes_first : s0.columns ≡ first.columns
    sizes_first = ap (λ (x : LowState). x.columns) begun.kept.others

    long_first : length s0.locals ≡ many
    long_first = begun.kept.many ∙ ap suc (length-replicate {A = Value} others (Number 0))

    own_seen : (k a b : ℕ) (v : Value) → c (Own k) a b ≡ Some v → ((12 ≤ pos k a) × (pos k a + b ≤ base)) × (s0.cells (Own k) a b ≡ Some v)
    own_seen (suc k) a b v is = absurd cc
    own_seen zero a b v is = by_test (nat_le 24 a && nat_le (a + b) base) refl is
      where
        by_test : (inside : Bool) → (nat_le 24 a && nat_le (a + b) base) ≡ inside → (if inside then first.cells (Own 0) a b else None) ≡ Some v → ((12 ≤ pos 0 a) × (pos 0 a + b ≤ base)) × (s0.cells (Own 0) a b ≡ Some v)
        by_test false tested found = absurd cc
        by_test true tested found = let tests = inside_of base a b tested in ((omega (arith, tests.0), omega (arith, tests.1)), ap (λ (d : Cells). d (Own 0) a b) (ap (λ (x : LowState). x.cells) begun.kept.others) ∙ found)

    held : (s : LowState) → ((i : ℕ) → 8 + T ≤ i → i < base_start T n → slice_get s.locals i ≡ slice_get s0.locals i) → slice_get s.own 0 ≡ Some page → (row : List Val) → AreHeld literals row (seen c s)
    held s same first_page row =
        let IsHeld : Known → Type 0 = λ (k : Known). (v : Val) × (value_of k.expression (at_row row) ≡ Ok v) × Holds k.operand v (seen c s) in
        let places : AllByRecursion (HasPlace s) text_literals =
        places_same s0 s (8 + T) (base_start T n) same (text_start T) text_literals (omega arith) (texts_up (text_start T) (text_start T + 2 * length texts) (base_start T n) text_literals (omega arith) (texts_in_locals (text_start T) at texts)) begun.places in
        let set : AllByRecursion (IsSet (seen c s)) constants =
        sets_same s0 (seen c s) (word_start T (length texts)) (word_start T (length texts) + length words) (λ j down up. same j (omega (arith, down)) (omega (arith, up))) constants (words_in_locals (word_start T (length texts)) words) begun.set in
        let there : LieThere (seen c s) text_literals texts =
        lie_there_within first (seen c s) first_page 24 base at text_literals texts
        (λ a b low high. let inside : (nat_le 24 a && nat_le (a + b) base) ≡ true = inside_from base a b low high in rw inside refl)
        (texts_from (text_start T) at texts) (omega arith) (let octets = ap (λ (l : List ℕ). length l) texts_are in omega (arith, octets)) texts_there in
        all-append IsHeld (known_texts text_literals texts) (map known_constant constants) (texts_held (seen c s) row text_literals texts places there) (constants_held row (seen c s) constants set)

    pub grounds : GroundsAt s0
    grounds = record {
      some = some;
      turns = omega arith;
      small = small;
      entries_before = let count = laid.many in omega (arith, count);
      u_low = u_low;
      descriptor = begun.kept.below 0 (omega arith) ∙ refl;
      long = omega (arith, long_first);
      first_own = own_low;
      first_page = ap (λ (x : LowState). slice_get x.own 0) begun.kept.others;
      root = ap (λ (d : Cells). d (Own 0) 8 4) cells_first ∙ (head-known layout are_ready.placed tables are_ready.descriptor limit are_ready.memory ready).2;
      columns_seen = λ k a b. sym (ap (λ (d : Cells). d (Column k) a b) cells_first);
      own_seen = own_seen;
      held = held;
      fit = λ row. all-append (λ (k : Known). HasLeaves (Fits row) k.expression) (known_texts text_literals texts) (map known_constant constants) (fit_texts row text_literals texts utf8) (fit_words row (word_start T (length texts)) words);
      within = literals_within (Inside (rows_end T) (cell_start T n (length columns))) T at texts words (λ i low high. (omega (arith, low), omega (arith, high)));
      declared = known_typed T at columns texts words own;
    }

    between_none : (budget : ℕ) → Between T n c base u s0 [] budget s0
    between_none budget = record {
      part = 0;
      offset = base;
      room = begun.room;
      paid = inl (ap (λ (x : LowState). x.held) begun.kept.others);
      behind = omega arith;
      fronts = λ t st there. absurd cc;
      stand = λ t st there. absurd cc;
      keeps = Keeps-same (Steady T n) (Before base) s0;
    }

    pub source_of : (p : Pipeline) → p.table ≡ table_of p.entry → HasColumnOf columns p.entry → Source T n columns tables s0 p
    source_of p table_is has_column = source p table_is has_column s0 cells_first sizes_first

  -- ---- the tables of joins
  -- Those that build them: their blocks have their own locals first, they stay within bounds, and what they raise is told.
  pub record Joins (Told : ℕ → Type 0) : Type 0 where
    pub building : List Pipeline
    pub builds : List Course
    pub builds_own : List ValType
    pub built : AreCourses literals (query_readers T n columns) own_first building builds builds_own
    pub no_more : length building ≤ T
    pub own_room : own_first + length builds_own ≤ many
    pub own_types : AreOwn types own_first builds_own
    pub budget : ℕ → ℕ
    pub reached : (front : List Pipeline) (p : Pipeline) (back : List Pipeline) (stoods : List Stood) → building ≡ front ++ p ∷ back → AreStood tables [] front stoods →
        Reach T n columns literals tables u most N table_of stoods p (budget (length front)) (budget (suc (length front)))
    pub told : (front : List Pipeline) (p : Pipeline) (back : List Pipeline) (stoods : List Stood) → building ≡ front ++ p ∷ back → AreStood tables [] front stoods → (raised : ℕ) → Tells (fed_over tables stoods p).codes raised → Told raised

  -- what holds where they have been built
  pub record Joined (Told : ℕ → Type 0) (j : Joins Told) (t : LowState) : Type 0 where
    pub s0 : LowState
    pub begun : IsBegun s0
    pub stoods : List Stood
    pub are : AreStood tables [] j.building stoods
    pub stood_is : length stoods ≡ length j.building
    pub between : Between T n c base u s0 stoods (j.budget (length j.building)) t

  module _ (Told : ℕ → Type 0) (j : Joins Told) where
    -- the whole, whatever follows
    abbrev pub around : Statement → Statement
    around rest = seq (space_block base) (seq leads (seq sets (seq (builds_block T 0 j.builds) rest)))

    module _ (s0 : LowState) (begun : IsBegun s0) where
      reached_at : (front : List Pipeline) (p : Pipeline) (back : List Pipeline) (stoods : List Stood) → j.building ≡ front ++ p ∷ back → AreStood tables [] front stoods →
          IsReached T n columns literals tables u most N s0 stoods p (j.budget (length front)) (j.budget (suc (length front)))
      reached_at front p back stoods parts are =
          let r = j.reached front p back stoods parts are in
          record {
            made = r.made;
            sink_is = r.sink_is;
            number_is = r.number_is;
            source = source_of s0 begun p r.table_is r.has_column;
            finds = r.finds;
            fits = r.fits;
            grows = r.grows;
            enough = r.enough;
          }

      joined : Ends (size (builds_block T 0 j.builds) * N) (Joined Told j) Never Told (meaning most N (builds_block T 0 j.builds) s0)
      joined =
          Ends-weaker (size (builds_block T 0 j.builds) * N) (size (builds_block T 0 j.builds) * N)
          (AllBuilt T n columns literals tables c base u most N N many types s0 (grounds s0 begun) Told j.building j.budget reached_at j.told j.no_more j.building (j.budget (length j.building))) (Joined Told j)
          Never Never Told Told (meaning most N (builds_block T 0 j.builds) s0) (omega arith)
          (λ t h. record {
            s0 = s0;
            begun = begun;
            stoods = h.stoods;
            are = h.are;
            stood_is = stood_many T n columns literals tables c base u most N N many types s0 (grounds s0 begun) Told [] j.building h.stoods h.are;
            between = h.between;
          }) (λ t x. x) (λ code x. x)
          (builds_end T n columns literals tables c base u most N N many types s0 (grounds s0 begun) Told j.building j.budget reached_at j.told j.no_more [] j.building [] 0 refl tt refl j.builds own_first j.builds_own (omega arith) j.own_room j.own_types j.built s0
          (between_none s0 begun (j.budget 0)))

    pub joins_then : (m : ℕ) (P : LowState → Type 0) (rest : Statement) → m ≤ size rest * N → ((t : LowState) → Joined Told j t → Ends m P Never Told (meaning most N rest t)) → Ends (size (around rest) * N) P Never Told (meaning most N (around rest) first)
    joins_then m P rest fits onward =
        let B : ℕ = size (builds_block T 0 j.builds) in
        let a : ℕ = 7 + (size leads + size sets) in
        Ends-more P Never Told (7 + (size leads + (size sets + (B * N + m)))) (size (around rest) * N) (meaning most N (around rest) first)
        (omega (arith, add-mul a (B + size rest) N, add-mul B (size rest) N, at_least a N some, fits))
        (Ends-then P Never Told 7 (size leads + (size sets + (B * N + m))) (SpaceBegun base others first) (meaning most N (space_block base) first) (meaning most N (seq leads (seq sets (seq (builds_block T 0 j.builds) rest))))
        (query_space layout tables limit others are_ready small (omega (arith, own_low)) Told most N)
        (λ t begun. leads_then t begun Told (B * N + m) P (seq (builds_block T 0 j.builds) rest) (λ s0 start.
        Ends-then P Never Told (B * N) m (Joined Told j) (meaning most N (builds_block T 0 j.builds) s0) (meaning most N rest) (joined s0 start) onward)))

    -- ---- the rows of the result
    -- what holds of those that a last part left, where they are of the items' kinds, and these octets are paid for
    pub settled_ends : (s0 : LowState) → IsBegun s0 → (items : List Expression) → map kind_of items ≡ map (λ (k : Kind). Some k) layout.cells → 8 + 16 * length items + u ≤ page → (paid rows_base : ℕ) (found : List (List Val)) (w : LowState) → Keeps (Steady T n) (BehindWords base) s0 w →
        HasRows (HasRow (LiesIn c) (map kind_of items)) (8 + 16 * length items) rows_base u paid found w → Ends 12 (λ t. (settled : Settled layout tables t) × (in_order settled.found ≡ found)) Never Told (meaning most N finish_block w)
    settled_ends s0 begun items kinds_are fits paid rows_base found w kept has =
        let IsFirst : ℕ → Type 0 = λ (i : ℕ). i ≡ 0 in
        let items_many : length items ≡ length layout.cells = sym (length-map items kind_of) ∙ (ap (λ (ks : List (Option Kind)). length ks) kinds_are ∙ length-map layout.cells (λ (k : Kind). Some k)) in
        let keeps : Keeps IsFirst (BehindWords base) first w =
        Keeps-then IsFirst (BehindWords base) first s0 w (Keeps-kept IsFirst (BehindWords base) 1 first s0 (λ i z. omega (arith, z)) begun.kept)
        (Keeps-less IsFirst (BehindWords base) (Steady T n) (BehindWords base) s0 w (λ i z. inl z) (λ a wide b. b) kept) in
        let one : HasRows (HasRow (LiesIn c) (map kind_of items)) (8 + 16 * length layout.cells) rows_base u paid found w =
        subst (λ (m : ℕ). HasRows (HasRow (LiesIn c) (map kind_of items)) (8 + 16 * m) rows_base u paid found w) items_many has in
        let two : HasRows (HasRow (LiesIn c) (map (λ (k : Kind). Some k) layout.cells)) (8 + 16 * length layout.cells) rows_base u paid found w =
        subst (λ (ks : List (Option Kind)). HasRows (HasRow (LiesIn c) ks) (8 + 16 * length layout.cells) rows_base u paid found w) kinds_are one in
        rows_left layout tables limit others Told most N rows_base u paid IsFirst w found (omega (arith, fits, items_many)) keeps two

    module _ (last : Pipeline) (items : List Expression) (last_is : last.sink ≡ select items) (kinds_are : map kind_of items ≡ map (λ (k : Kind). Some k) layout.cells) (last_course : Course) (last_own : List ValType)
        (made : IsCourse literals (query_readers T n columns) (own_first + length j.builds_own) last last_course last_own) (last_room : own_first + length j.builds_own + length last_own ≤ many) (last_types : AreOwn types (own_first + length j.builds_own) last_own)
        (last_reached : (stoods : List Stood) → AreStood tables [] j.building stoods → LastReach T n columns literals tables u most N table_of stoods last (length items) (j.budget (length j.building)))
        (told_last : (stoods : List Stood) → AreStood tables [] j.building stoods → (raised : ℕ) → Tells (fed_over tables stoods last).codes raised → Told raised) where
      abbrev Answered : LowState → Type 0
      Answered = IsAnswered layout tables j.building last

      result_ends : (t : LowState) → Joined Told j t → Ends (6 + (size (course_block T last_course) * N + 12)) Answered Never Told (meaning most N (result_block T last_course) t)
      result_ends t h =
          let r = last_reached h.stoods h.are in
          let paid : ℕ = j.budget (length j.building) in
          result_then T n columns literals tables c base u most N N many types h.s0 (grounds h.s0 h.begun) Told j.building j.budget (reached_at h.s0 h.begun) j.told j.no_more last items last_is h.stoods h.are
          (source_of h.s0 h.begun last r.table_is r.has_column) r.finds r.fits r.enough last_course (own_first + length j.builds_own) last_own (omega arith)
          last_room made last_types (told_last h.stoods h.are) t h.between 12 Answered finish_block
          (λ w found. Ends-weaker 12 12 (λ v. (settled : Settled layout tables v) × (in_order settled.found ≡ (fed_over tables h.stoods last).rows)) Answered Never Never Told Told (meaning most N finish_block w) (omega arith)
          (λ v left. record { stoods = h.stoods; are = h.are; none = found.none; settled = left.0; rows = left.1 }) (λ v x. x) (λ code x. x)
          (settled_ends h.s0 h.begun items kinds_are r.fits paid found.rows_base (fed_over tables h.stoods last).rows w found.keeps found.has))

      pub whole_ends : Ends (size (around (result_block T last_course)) * N) Answered Never Told (meaning most N (around (result_block T last_course)) first)
      whole_ends =
          let C : ℕ = size (course_block T last_course) in
          joins_then (6 + (C * N + 12)) Answered (result_block T last_course) (omega (arith, add-mul 18 C N, at_least 18 N some)) result_ends
