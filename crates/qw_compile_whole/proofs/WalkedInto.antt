-- The run of the walk over groups whose rows go into a second table of groups: that table is placed behind the first one, and then has the groups of the rows
-- that HAVING and the select list make (ISO/IEC 9075:1992, 7.8, 7.9), met in some order. The tables of joins stand where they stood.
use Rattle.std.proofs.Common.{◌≡◌, ℕ, append-nil, ◌+◌, ◌*◌, ◌^◌, ◌<◌, ◌≤◌, inl, inr, List, [], ◌∷◌, ◌++◌, length, map, sym, subst, ⊎_elim, arith}
use Rattle.std.specs.List.Sorted.{IsPermutation}
use Rattle.std.proofs.lemmas.Option.{slice_get_within}
use Rattle.qw_module.specs.declared.instruction.ValType.{ValType}
use Rattle.qw_types.specs.declared.value.Val.{Val}
use Rattle.qw_scalar.specs.Expression.{Expression}
use Rattle.qw_scalar.specs.Typing.{kind_of}
use Rattle.qw_meaning.specs.Flow.{Flow}
use Rattle.qw_grouped.specs.Grouped.{Grouped}
use Rattle.qw_low.specs.Syntax.{Statement, seq}
use Rattle.qw_low.specs.State.{Cells, LowState}
use Rattle.qw_low.specs.Meaning.{meaning}
use Rattle.qw_low.specs.Promise.{Ends}
use Rattle.qw_low.specs.Size.{size}
use Rattle.qw_low.proofs.Promises.{Ends-then, Ends-weaker}
use Rattle.qw_feed.specs.Cells.{kinds_of}
use Rattle.qw_feed.specs.Feeds.{Any, FedTo, Sink, Tells}
use Rattle.qw_feed.specs.Frames.{pos, Before, Below, But, From}
use Rattle.qw_feed.proofs.Frames.{Never, Keeps-less, Keeps-then}
use Rattle.qw_feed.proofs.RoomRuns.{IsRefusal}
use Rattle.qw_table.specs.Joins.{sources_of}
use Rattle.qw_table.specs.Tables.{directory_block}
use Rattle.qw_table.specs.declared.key.Field.{Field}
use Rattle.qw_expr.specs.Computes.{Known}
use Rattle.qw_physical.specs.Physical.{filter, select, Operator}
use Rattle.qw_physical.specs.declared.pipeline.ReadColumn.{ReadColumn}
use Rattle.qw_physical.specs.Courses.{fed}
use Rattle.qw_operator.specs.Carries.{directory}
use Rattle.qw_operator.specs.Takes.{CanCarry}
use Rattle.qw_operator.proofs.Promised.{AreOwn}
use Rattle.qw_operator.proofs.Seen.{StandsIn}
use Rattle.qw_operator.proofs.Stood.{Stood, built_of, stood_keeps}
use Rattle.qw_operator.specs.Costs.{cost_to}
use Rattle.qw_operator.specs.Grouping.{CanGroup, Group, aggregates_of, key_fields, turn_of}
use Rattle.qw_operator.proofs.Filters.{Runs}
use Rattle.qw_operator.proofs.OperatorsFeed.{FeedsEnd}
use Rattle.qw_group_pipeline.specs.Groups.{Grouping, InEnd, IsGroupPipelineTo, all_anywhere}
use Rattle.qw_group_pipeline.specs.declared.columns.ValueColumn.{ValueColumn}
use Rattle.qw_group_pipeline.proofs.RowFeeds.{FeedsRest, end_rest}
use Rattle.qw_compile.specs.QueryLocals.{own_start, rows_left}
use Rattle.qw_compile.proofs.PipelineRuns.{Grounds, Steady}
use Rattle.qw_compile_whole.proofs.Beginnings.{IsPart, part_few, part_first, part_keys, part_slot}
use Rattle.qw_compile_whole.proofs.EnterBounded.{EnterReach}
use Rattle.qw_compile_whole.proofs.Gathered.{AreGathered, gathered_groups, groups_behind, tables_behind, Suits, gathered_paid, suits, groups_placed, into_groups, groups_take}
use Rattle.qw_compile_whole.proofs.GroupBounded.{GoTogether, groups_paid, walked_of}
use Rattle.qw_compile_whole.proofs.Walked.{none_left, tells_permuted}
use Rattle.qw_compile_whole.proofs.Widened.{groups_elsewhere, stands_before, widened}
use Rattle.qw_compile_whole.proofs.RunsInto.{Placed, SeenBefore, TablesBefore}
use Rattle.qw_compile_whole.proofs.SeenBehind.{LocalsStay, StandBetween, around_before, same_later}
use Rattle.qw_compile_whole.proofs.WalkFed.{walk_fed}

-- the groups of the rows that were made stand behind the first table, and the tables that stood before it stand there still
pub record AreEntered (T n : ℕ) (c : Cells) (base u : ℕ) (s0 : LowState) (stoods : List Stood) (query : Grouped) (into : Group) (fields : List Field) (budget : ℕ) (rows : List (List Val)) (w : LowState) : Type 0 where
  pub made : List (List Val)
  pub same : IsPermutation made (walked_of query rows).rows
  pub none : (walked_of query rows).codes ≡ []
  pub gathered : AreGathered T n c base u s0 stoods into fields budget made w

module _ (T n : ℕ) (columns : List ReadColumn) (literals : List Known) (contents : List (List (List Val))) (c : Cells) (base u most fuel N many : ℕ) (types : List ValType) (s0 : LowState) (grounds : Grounds T n columns literals c base u fuel N many types s0)
    (query : Grouped) (group : Group) (key : List ReadColumn) (values : List ValueColumn) (together : GoTogether query group key values literals) (fields : List Field) (field_kinds : kinds_of (sources_of fields) ≡ map kind_of group.values)
    (into : Group) (can_into : CanGroup into) (into_fields : List Field) (into_kinds : kinds_of (sources_of into_fields) ≡ map kind_of into.values) (values_are : into.values ≡ query.items) (low_table : group.table < T) (low_into : into.table < T) (other : group.table ≡ into.table → ⊥)
    (enters : Statement) (next : ℕ) (own : List ValType) (is : IsGroupPipelineTo (InEnd (Grouping into_fields into) (filter query.having ∷ [])) literals (directory group.table) next key values enters own) (behind : own_start T n (length columns) ≤ next) (room : next + length own ≤ many) (own_types : AreOwn types next own)
    (budget : ℕ) (rows : List (List Val)) (few : 1 ≤ length group.functions → length rows < 10 ^ 18) (r : EnterReach query group key values into u most N rows (groups_paid u group budget rows))
    (stoods : List Stood) (few_tables : length stoods ≤ T) (first_tables : length stoods ≤ into.table) (s : LowState) (h : AreGathered T n c base u s0 stoods group fields budget rows s) where
  abbrev from : ℕ
  from = pos h.part h.offset

  -- where the first table ends
  abbrev front : ℕ
  front = pos h.has.part h.has.offset

  abbrev paid_for : ℕ
  paid_for = groups_paid u group budget rows

  abbrev before : ℕ
  before = paid_for + u + 4096

  abbrev d : ℕ
  d = directory into.table

  abbrev operators : List Operator
  operators = filter query.having ∷ []

  abbrev walked : Flow (List Val)
  walked = walked_of query rows

  abbrev turn : List Val → ℕ
  turn = turn_of into r.entries r.chosen

  abbrev units : List Val → ℕ
  units = cost_to into.values turn (built_of stoods) operators

  abbrev more : Cells
  more = widened from front s.cells c

  back : base ≤ front
  back = groups_behind T n c base u s0 stoods group fields budget rows s h

  tables : StandBetween base front stoods
  tables = tables_behind T n c base u s0 stoods group fields budget rows s h

  -- ---- what is needed of rows that come
  abbrev May : List (List Val) → Type 0
  May = IsPart walked.rows

  q : Suits into into_fields u most before r.entries r.chosen May
  q = suits into into_fields u most paid_for r.entries r.chosen walked.rows can_into into_kinds May (part_first walked.rows) (λ xs may some. (let fewer = part_few walked.rows xs may in let all = r.few some in omega (arith, fewer, all)))
      r.compared (part_keys into.columns walked.rows) (λ j xs may. part_slot j into.columns walked.rows xs may) r.met r.fits r.enough

  -- ---- the second table has been placed
  module _ (t : LowState) (placed : Placed (directory into.table) (pos h.has.part h.has.offset) (into_groups (widened (pos h.part h.offset) (pos h.has.part h.has.offset) s.cells c) into into_fields u (groups_paid u group budget rows + u + 4096) (IsPart (walked_of query rows).rows) q.first) [] s t) where
    abbrev k : ℕ
    k = placed.part

    abbrev o : ℕ
    o = placed.offset

    abbrev Old : ℕ → Type 0
    Old = But d (From 3)

    stays : LocalsStay T n stoods Old
    stays = record {
      steady = λ i old. ⊎_elim (λ z. (inl z, λ e. omega (arith, z, e))) (λ g'. (inr (omega (arith, g'.0)), λ e. omega (arith, g'.0, e, low_into))) old;
      tables = λ i inside. (inr (omega arith), λ e. omega (arith, e, inside, first_tables));
    }

    seen_before : SeenBefore more k o
    seen_before j a w v is' = let seen_front = around_before T n columns literals contents c base u most fuel N many types s0 grounds s h.keeps from front front (omega arith) back j a w v is' in omega (arith, seen_front, placed.behind)

    tables_before : TablesBefore stoods k o
    tables_before i st there = let old = tables i st there in omega (arith, old.1, placed.behind)

    abbrev sink : Sink
    sink = into_groups more into into_fields u before May q.first k o

    takes : Runs more stoods (rows_left T) sink × FeedsEnd more stoods (rows_left T) sink most fuel many types (Grouping into_fields into) (select into.values) turn
    takes = groups_take more T stoods few_tables most fuel many types into can_into low_into into_fields u before r.entries r.chosen May q k o seen_before tables_before

    feeds : FeedsRest more stoods (rows_left T) sink most fuel many types (all_anywhere key values ++ literals) (InEnd (Grouping into_fields into) operators) (λ row. Unit {0}) (fed (built_of stoods) operators (select query.items)) units
    feeds =
        subst (λ (es : List Expression). FeedsRest more stoods (rows_left T) sink most fuel many types (all_anywhere key values ++ literals) (InEnd (Grouping into_fields into) operators) (λ row. Unit {0}) (fed (built_of stoods) operators (select es)) units) values_are
        (end_rest more stoods (rows_left T) sink takes.0 most fuel many types (all_anywhere key values ++ literals) operators tt tt (λ row. tt) (Grouping into_fields into) into.values turn takes.1
        (subst (λ (es : List Expression). CanCarry (all_anywhere key values ++ literals) operators (select es)) (sym values_are) together.takes))

    entered : (Told : ℕ → Type 0) → ((raised : ℕ) → Tells walked.codes raised → Told raised) → Ends (size enters * N) (AreEntered T n c base u s0 stoods query into into_fields paid_for rows) Never Told (meaning most fuel enters t)
    entered Told told =
        let walk = walk_fed T n columns literals contents c base u most fuel N many types s0 grounds query group key values together fields field_kinds low_table rows few s h.keeps h.part h.offset front h.behind (gathered_groups T n c base u s0 stoods group fields budget rows s h) front (omega arith) stoods tables h.stand units r.stored r.typed r.cost (InEnd (Grouping into_fields into) operators) enters next own is behind room own_types
        Old stays (inr (omega arith), λ e. other (omega (arith, e))) t placed.keeps sink (rows_left T) (omega (arith, behind)) takes.0 (λ at wide low high. omega (arith, high, placed.behind)) feeds
        [] placed.has (λ flow alike. ([], subst (λ (l : List (List Val)). IsPermutation l walked.rows) (sym (append-nil flow.rows)) alike.0)) in
        let flow : Flow (List Val) = walk.0 in
        Ends-weaker (size enters * N) (size enters * N) (FedTo sink (Below next) Any flow [] t) (AreEntered T n c base u s0 stoods query into into_fields paid_for rows) Never Never (Tells flow.codes) Told (meaning most fuel enters t) (omega arith)
        (λ w done. record {
          made = flow.rows;
          same = walk.1.0;
          none = none_left flow.codes walked.codes walk.1.1 done.none;
          gathered = record {
            part = k;
            offset = o;
            behind = omega (arith, back, placed.behind);
            has = groups_elsewhere (StandsIn more w) (StandsIn c w) (λ p i octets. stands_before from front s.cells c w p i octets) (key_fields into into_fields) (aggregates_of into into_fields) k o d u before flow.rows w done.has;
            keeps = Keeps-then (Steady T n) (Before base) s0 t w (same_later T n columns literals contents c base u most fuel N many types s0 grounds s h.keeps from front front (omega arith) back stoods Old stays t placed.keeps)
                (Keeps-less (Steady T n) (Before base) (Below next) (Before (pos k o)) t w (λ i old. ⊎_elim (λ z. inl z) (λ g'. inr (omega (arith, g'.0), omega (arith, g'.1, behind))) old)
                (λ at wide low. omega (arith, low, back, placed.behind)) done.keeps);
            fronts = λ i st there. ((tables i st there).0, tables_before i st there);
            stand = λ i st there.
                let inside = slice_get_within stoods i st there in
                let old = tables_before i st there in
                stood_keeps c i st (Below next) (Before (pos k o)) t w (inr (omega arith, omega (arith, inside, few_tables, behind))) (λ at wide low high. omega (arith, high, old)) done.keeps
                (stood_keeps c i st Old (Before front) s t (stays.tables i inside) (λ at wide low high. (let first = (tables i st there).1 in omega (arith, high, first))) placed.keeps (h.stand i st there));
          };
        }) (λ w x. x) (λ code x. told code (tells_permuted flow.codes walked.codes code walk.1.1 x)) walk.2

  -- then what follows is done
  pub enter_then : (Told : ℕ → Type 0) → ((raised : ℕ) → Tells walked.codes raised → Told raised) → ((raised : ℕ) → IsRefusal raised → Told raised) → (m : ℕ) (P : LowState → Type 0) (rest : Statement) →
      ((w : LowState) → AreEntered T n c base u s0 stoods query into into_fields paid_for rows w → Ends m P Never Told (meaning most fuel rest w)) →
      Ends (26 + (size enters * N + m)) P Never Told (meaning most fuel (seq (directory_block d) (seq enters rest)) s)
  enter_then Told told refused m P rest onward =
      let long = grounds.long in
      let own_known = grounds.first_own in
      let all = r.enough in
      let Stands : LowState → Type 0 = Placed d front (into_groups more into into_fields u before May q.first) [] s in
      Ends-then P Never Told 26 (size enters * N + m) Stands (meaning most fuel (directory_block d) s) (meaning most fuel (seq enters rest))
      (Ends-weaker 26 26 Stands Stands Never Never IsRefusal Told (meaning most fuel (directory_block d) s) (omega arith) (λ t x. x) (λ t x. x) refused
      (groups_placed more u most fuel into into_fields May q.first paid_for s h.has.part h.has.offset h.has.room (gathered_paid T n c base u s0 stoods group fields budget rows s together.can field_kinds h) grounds.u_low (omega (arith, low_into, long, own_known, h.keeps.many)) (omega (arith, all))))
      (λ t placed. Ends-then P Never Told (size enters * N) m (AreEntered T n c base u s0 stoods query into into_fields paid_for rows) (meaning most fuel enters t) (meaning most fuel rest) (entered t placed Told told) onward)
