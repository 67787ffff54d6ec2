-- The run of the walk over the groups (ISO/IEC 9075:1992, 7.7 to 7.9): the result begins behind their table, and has the rows that HAVING and the select list
-- make of them, in some order.
use Rattle.std.proofs.Common.{◌≡◌, ℕ, ◌+◌, ◌*◌, ◌^◌, ◌<◌, ◌≤◌, inl, inr, Some, List, [], ◌∷◌, ◌++◌, length, length-append, map, slice_get, refl, ap, ◌∙◌, ⊎_elim, arith}
use Rattle.std.proofs.lemmas.List.Sorted.{Contains-permutation, length_permutation}
use Rattle.std.proofs.lemmas.Nat.{mul-le}
use Rattle.std.specs.List.Sorted.{IsPermutation}
use Rattle.qw_linear.specs.Memory.{page}
use Rattle.qw_module.specs.declared.instruction.ValType.{ValType}
use Rattle.qw_types.specs.declared.code.Code.{Code}
use Rattle.qw_types.specs.declared.value.Val.{Val}
use Rattle.qw_scalar.specs.Typing.{kind_of}
use Rattle.qw_meaning.specs.Flow.{Flow}
use Rattle.qw_grouped.specs.Grouped.{Grouped}
use Rattle.qw_low.specs.Syntax.{Statement, seq}
use Rattle.qw_low.specs.State.{Own, Value, Cells, LowState}
use Rattle.qw_low.specs.Meaning.{meaning}
use Rattle.qw_low.specs.Promise.{Ends}
use Rattle.qw_low.specs.Size.{size}
use Rattle.qw_low.proofs.Promises.{Ends-then, Ends-weaker}
use Rattle.qw_feed.specs.Cells.{HasRow, kinds_of}
use Rattle.qw_feed.specs.Feeds.{Any, AtMost, FedTo, Sink, Tells}
use Rattle.qw_feed.specs.Frames.{pos, Before, Below, From, Keeps}
use Rattle.qw_feed.specs.Room.{HasRoom, Paid}
use Rattle.qw_feed.specs.Rows.{BesideRoot, HasRows, begin_block, rows_sink}
use Rattle.qw_feed.proofs.Frames.{Never, Keeps-less, Keeps-then}
use Rattle.qw_table.specs.Joins.{sources_of}
use Rattle.qw_table.specs.declared.key.Field.{Field}
use Rattle.qw_expr.specs.Computes.{Known}
use Rattle.qw_physical.specs.Courses.{cost}
use Rattle.qw_physical.specs.Physical.{filter, select, Operator}
use Rattle.qw_physical.specs.declared.pipeline.ReadColumn.{ReadColumn}
use Rattle.qw_physical.proofs.Orders.{Alike}
use Rattle.qw_operator.specs.Carries.{directory}
use Rattle.qw_operator.proofs.Promised.{AreOwn}
use Rattle.qw_operator.proofs.Seen.{LiesIn}
use Rattle.qw_operator.proofs.Stood.{Stood, built_of}
use Rattle.qw_operator.specs.Grouping.{Group}
use Rattle.qw_operator.proofs.Filters.{Runs}
use Rattle.qw_operator.proofs.WholeFeeds.{FeedsSink}
use Rattle.qw_group_pipeline.specs.Groups.{IsGroupPipeline, InSink, all_anywhere}
use Rattle.qw_group_pipeline.specs.declared.columns.ValueColumn.{ValueColumn}
use Rattle.qw_group_pipeline.proofs.RowFeeds.{sink_rest}
use Rattle.qw_group_pipeline.proofs.ResultSink.{result_runs, result_sunk}
use Rattle.qw_emit.proofs.QueryBegins.{RowsBegun, rows_begin_end, rows_keep}
use Rattle.qw_emit.proofs.QueryEnds.{BehindWords}
use Rattle.qw_compile.specs.QueryLocals.{own_start, rows_left}
use Rattle.qw_compile.proofs.PipelineRuns.{Grounds, Steady}
use Rattle.qw_compile_whole.proofs.Gathered.{AreGathered, gathered_groups, groups_behind, tables_behind, gathered_paid}
use Rattle.qw_compile_whole.proofs.GroupBounded.{GoTogether, WalkReach, groups_paid, walked_of}
use Rattle.qw_compile_whole.proofs.Widened.{lies_before, rows_elsewhere, widened}
use Rattle.qw_compile_whole.proofs.SeenBehind.{LocalsStay, StandBetween, around_where, same_later}
use Rattle.qw_compile_whole.proofs.WalkFed.{walk_fed}

-- what is raised in another order
pub tells_permuted : (xs ys : List Code) (raised : ℕ) → IsPermutation xs ys → Tells xs raised → Tells ys raised
tells_permuted xs ys raised h tells = ⊎_elim inl (λ it. inr (it.0, Contains-permutation xs ys it.0 h it.1, it.2)) tells

pub none_left : (xs ys : List Code) → IsPermutation xs ys → xs ≡ [] → ys ≡ []
none_left xs [] same none = refl
none_left xs (y ∷ ys) same none = let fewer = length_permutation xs (y ∷ ys) same in let no = ap (λ (l : List Code). length l) none in absurd (omega (arith, fewer, no))

-- ---- the rows of the result, where the walk is done
pub record IsWalked (T n : ℕ) (c : Cells) (base u : ℕ) (s0 : LowState) (query : Grouped) (budget : ℕ) (rows : List (List Val)) (w : LowState) : Type 0 where
  pub found : List (List Val)
  pub same : IsPermutation found (walked_of query rows).rows
  pub none : (walked_of query rows).codes ≡ []
  pub rows_base : ℕ
  pub has : HasRows (HasRow (LiesIn c) (map kind_of query.items)) (8 + 16 * length query.items) rows_base u budget found w
  pub keeps : Keeps (Steady T n) (BehindWords base) s0 w

-- no more rows than there are may come, and they are paid for
pub fewer_come : (total : ℕ) (xs ys : List (List Val)) → AtMost total (xs ++ ys) → AtMost total xs
fewer_come total xs ys le = let all = length-append xs ys in omega (arith, le, all)

pub come_few : (query : Grouped) (rows : List (List Val)) (flow : Flow (List Val)) → Alike flow (walked_of query rows) → AtMost (length (walked_of query rows).rows) flow.rows
come_few query rows flow alike = let count : length (walked_of query rows).rows ≡ length flow.rows = length_permutation flow.rows (walked_of query rows).rows alike.0 in omega (arith, count)

pub rows_pay : (total width paid_for most u : ℕ) → paid_for + total * width + 2 * u < (most + 1) * u → (xs : List (List Val)) → AtMost total xs → paid_for + length xs * width + 2 * u < (most + 1) * u
rows_pay total width paid_for most u all xs le = let less = mul-le (length xs) width total width le (omega arith) in omega (arith, less, all)

-- the locals that stay where it begins
pub begun_stays : (T n : ℕ) (stoods : List Stood) → LocalsStay T n stoods (From 5)
begun_stays T n stoods = record { steady = λ i old. ⊎_elim inl (λ g'. inr (omega (arith, g'.0))) old; tables = λ i inside. inr (omega arith) }

-- ---- the result begins behind something that stands between two places behind the tables of joins, and a block that reads it feeds the result
module _ (T n : ℕ) (columns : List ReadColumn) (literals : List Known) (contents : List (List (List Val))) (c : Cells) (base u most fuel N many : ℕ) (types : List ValType) (s0 : LowState) (grounds : Grounds T n columns literals c base u fuel N many types s0)
    (query : Grouped) (rows : List (List Val)) (paid_for : ℕ) (s : LowState) (keeps : Keeps (Steady T n) (Before base) s0 s) (part offset : ℕ) (room : HasRoom part offset s) (paid : Paid u paid_for offset s.held)
    (from to : ℕ) (from_behind : base ≤ from) (to_before : to ≤ pos part offset) (behind : base ≤ pos part offset) (stoods : List Stood) (few_tables : length stoods ≤ T) (fronts : StandBetween base (pos part offset) stoods)
    (small : 8 + 16 * length query.items + u ≤ page) (enough : paid_for + length (walked_of query rows).rows * (8 + 16 * length query.items) + 2 * u < (most + 1) * u) where
  abbrev front : ℕ
  front = pos part offset

  abbrev width : ℕ
  width = 8 + 16 * length query.items

  abbrev around : Cells
  around = widened from to s.cells c

  abbrev RowAt : Cells → ℕ → ℕ → List Val → Type 0
  RowAt = HasRow (LiesIn around) (map kind_of query.items)

  abbrev total : ℕ
  total = length (walked_of query rows).rows

  abbrev result : Sink
  result = rows_sink RowAt width front u paid_for (AtMost total) (fewer_come total)

  seen_beside : (k a b : ℕ) (v : Value) → around (Own k) a b ≡ Some v → BesideRoot front (pos k a) b
  seen_beside =
      let before = grounds.entries_before in
      around_where T n columns literals contents c base u most fuel N many types s0 grounds s keeps from to front to_before behind (BesideRoot front) (λ at wide low high. inr (omega (arith, low, from_behind, before), omega (arith, high, to_before)))
      (λ at wide low high. inr (low, omega (arith, high, behind)))

  tables_before : (i : ℕ) (st : Stood) → slice_get stoods i ≡ Some st → (12 ≤ pos st.part st.offset) × (st.front ≤ front)
  tables_before i st there = let before = grounds.entries_before in let old = fronts i st there in (omega (arith, before, old.0), old.1)

  into_runs : Runs around stoods (rows_left T) result
  into_runs = result_runs around stoods (rows_left T) (omega (arith, few_tables)) most fuel many types query.items front u paid_for (AtMost total) (fewer_come total) small (rows_pay total width paid_for most u enough) seen_beside tables_before

  into_sunk : FeedsSink around stoods (rows_left T) result most fuel many types (select query.items)
  into_sunk = result_sunk around stoods (rows_left T) (omega (arith, few_tables)) most fuel many types query.items front u paid_for (AtMost total) (fewer_come total) small (rows_pay total width paid_for most u enough) seen_beside tables_before

  -- what a block feeds it, as it takes rows, is the result, in some order, and then what follows is done
  pub result_then : (block : Statement) (next : ℕ) → own_start T n (length columns) ≤ next → (Told : ℕ → Type 0) → ((raised : ℕ) → Tells (walked_of query rows).codes raised → Told raised) →
      (Runs around stoods (rows_left T) result → FeedsSink around stoods (rows_left T) result most fuel many types (select query.items) → (t : LowState) → Keeps (From 5) (Before front) s t → result.Has [] t → (flow : Flow (List Val)) × Alike flow (walked_of query rows) × Ends (size block * N) (FedTo result (Below next) Any flow [] t) Never (Tells flow.codes) (meaning most fuel block t)) →
      (m : ℕ) (P : LowState → Type 0) (finish : Statement) → ((w : LowState) → IsWalked T n c base u s0 query paid_for rows w → Ends m P Never Told (meaning most fuel finish w)) →
      Ends (6 + (size block * N + m)) P Never Told (meaning most fuel (seq begin_block (seq block finish)) s)
  result_then block next low_next Told told feeds m P finish onward =
      let before = grounds.entries_before in
      let long = grounds.long in
      let own_known = grounds.first_own in
      let Walked : LowState → Type 0 = IsWalked T n c base u s0 query paid_for rows in
      Ends-then P Never Told 6 (size block * N + m) (RowsBegun RowAt width u paid_for part offset s) (meaning most fuel begin_block s) (meaning most fuel (seq block finish))
      (rows_begin_end Told most fuel s RowAt width u paid_for part offset (omega (arith, behind, before)) room (omega (arith, long, own_known, keeps.many))
      (keeps.locals 0 (inl refl) ∙ grounds.descriptor) (keeps.cells 0 8 4 (omega (arith, before)) ∙ grounds.root) paid)
      (λ t begun.
      let kept : Keeps (From 5) (Before front) s t = rows_keep (Before front) RowAt width u paid_for part offset s t begun in
      let fed = feeds into_runs into_sunk t kept begun.has in
      let flow : Flow (List Val) = fed.0 in
      Ends-then P Never Told (size block * N) m Walked (meaning most fuel block t) (meaning most fuel finish)
      (Ends-weaker (size block * N) (size block * N) (FedTo result (Below next) Any flow [] t) Walked Never Never (Tells flow.codes) Told (meaning most fuel block t) (omega arith)
      (λ w done. record {
        found = flow.rows;
        same = fed.1.0;
        none = none_left flow.codes (walked_of query rows).codes fed.1.1 done.none;
        rows_base = front;
        has = rows_elsewhere (LiesIn around) (LiesIn c) (λ p o octets. lies_before from to s.cells c p o octets) (map kind_of query.items) width front u paid_for flow.rows w done.has;
        keeps = Keeps-then (Steady T n) (BehindWords base) s0 t w
            (Keeps-less (Steady T n) (BehindWords base) (Steady T n) (Before base) s0 t (λ i old. old) (λ at wide' low'. low'.1) (same_later T n columns literals contents c base u most fuel N many types s0 grounds s keeps from to front to_before behind stoods (From 5) (begun_stays T n stoods) t kept))
            (Keeps-less (Steady T n) (BehindWords base) (Below next) (BesideRoot front) t w (λ i old. ⊎_elim (λ z. inl z) (λ g'. inr (omega (arith, g'.0), omega (arith, g'.1, low_next))) old)
            (λ at wide' low'. inr (omega (arith, low'.0), omega (arith, low'.1, behind))) done.keeps);
      }) (λ w x. x) (λ code x. told code (tells_permuted flow.codes (walked_of query rows).codes code fed.1.1 x)) fed.2) onward)

-- ---- the walk over groups
module _ (T n : ℕ) (columns : List ReadColumn) (literals : List Known) (contents : List (List (List Val))) (c : Cells) (base u most fuel N many : ℕ) (types : List ValType) (s0 : LowState) (grounds : Grounds T n columns literals c base u fuel N many types s0)
    (query : Grouped) (group : Group) (key : List ReadColumn) (values : List ValueColumn) (together : GoTogether query group key values literals) (fields : List Field) (field_kinds : kinds_of (sources_of fields) ≡ map kind_of group.values) (low_table : group.table < T)
    (walk : Statement) (next : ℕ) (own : List ValType) (is : IsGroupPipeline literals (directory group.table) next key values (filter query.having ∷ []) (select query.items) walk own) (behind : own_start T n (length columns) ≤ next) (room : next + length own ≤ many) (own_types : AreOwn types next own)
    (budget : ℕ) (rows : List (List Val)) (few : 1 ≤ length group.functions → length rows < 10 ^ 18) (r : WalkReach query group key values u most N rows (groups_paid u group budget rows)) (stoods : List Stood) (few_tables : length stoods ≤ T) (s : LowState) (h : AreGathered T n c base u s0 stoods group fields budget rows s) where
  abbrev from : ℕ
  from = pos h.part h.offset

  -- where the table ends
  abbrev to : ℕ
  to = pos h.has.part h.has.offset

  abbrev paid_for : ℕ
  paid_for = groups_paid u group budget rows

  abbrev operators : List Operator
  operators = filter query.having ∷ []

  abbrev units : List Val → ℕ
  units = cost (built_of stoods) operators (select query.items)

  -- then what follows is done
  pub walk_then : (Told : ℕ → Type 0) → ((raised : ℕ) → Tells (walked_of query rows).codes raised → Told raised) → (m : ℕ) (P : LowState → Type 0) (finish : Statement) →
      ((w : LowState) → IsWalked T n c base u s0 query paid_for rows w → Ends m P Never Told (meaning most fuel finish w)) →
      Ends (6 + (size walk * N + m)) P Never Told (meaning most fuel (seq begin_block (seq walk finish)) s)
  walk_then Told told m P finish onward =
      let before = grounds.entries_before in
      let more : Cells = widened from to s.cells c in
      let back : base ≤ to = groups_behind T n c base u s0 stoods group fields budget rows s h in
      let tables : StandBetween base to stoods = tables_behind T n c base u s0 stoods group fields budget rows s h in
      let paid = gathered_paid T n c base u s0 stoods group fields budget rows s together.can field_kinds h in
      let total : ℕ = length (walked_of query rows).rows in
      let into : Sink = rows_sink (HasRow (LiesIn more) (map kind_of query.items)) (8 + 16 * length query.items) to u paid_for (AtMost total) (fewer_come total) in
      result_then T n columns literals contents c base u most fuel N many types s0 grounds query rows paid_for s h.keeps h.has.part h.has.offset h.has.room paid from to h.behind (omega arith) back stoods few_tables tables r.fits r.enough walk next behind Told told
      (λ takes sunk t kept has.
      walk_fed T n columns literals contents c base u most fuel N many types s0 grounds query group key values together fields field_kinds low_table rows few s h.keeps h.part h.offset to h.behind (gathered_groups T n c base u s0 stoods group fields budget rows s h) to (omega arith) stoods tables h.stand units r.stored r.typed r.cost (InSink operators (select query.items)) walk next own is behind room own_types
      (From 5) (begun_stays T n stoods) (inr (omega arith)) t kept
      into (rows_left T) (omega (arith, behind)) takes (λ at wide low high. inr (omega (arith, low, h.behind, before), high))
      (sink_rest more stoods (rows_left T) into takes most fuel many types (all_anywhere key values ++ literals) operators tt tt (λ row. tt) (select query.items) sunk together.takes)
      [] has (come_few query rows))
      m P finish onward
