-- A table of groups as what takes the rows of a pipeline (ISO/IEC 9075:1992, 7.7): it is placed behind the tables of joins, and then has the groups of the rows.
use Rattle.std.proofs.Common.{◌≡◌, ℕ, ◌+◌, ◌*◌, ◌^◌, ◌<◌, ◌≤◌, drop, List, [], ◌++◌, length, map, sym, ◌∙◌, subst, arith}
use Rattle.std.proofs.lemmas.List.{length-take-le}
use Rattle.std.proofs.lemmas.Nat.{mul-le}
use Rattle.qw_linear.specs.Memory.{page}
use Rattle.qw_module.specs.declared.instruction.ValType.{ValType}
use Rattle.qw_types.specs.declared.value.Val.{Val}
use Rattle.qw_scalar.specs.Typing.{kind_of}
use Rattle.qw_grouped.specs.Groups.{key_of, keys}
use Rattle.qw_layout.specs.Hash.{slot}
use Rattle.qw_low.specs.State.{Cells, LowState}
use Rattle.qw_low.specs.Meaning.{meaning}
use Rattle.qw_low.specs.Promise.{Ends}
use Rattle.qw_low.proofs.Promises.{Ends-weaker}
use Rattle.qw_feed.specs.Cells.{kinds_of}
use Rattle.qw_feed.specs.Feeds.{Sink}
use Rattle.qw_feed.specs.Frames.{pos, Before, Keeps}
use Rattle.qw_feed.specs.Room.{HasRoom, Paid}
use Rattle.qw_feed.proofs.Frames.{Never}
use Rattle.qw_feed.proofs.RoomRuns.{IsRefusal}
use Rattle.qw_table.specs.Joins.{sources_of}
use Rattle.qw_table.specs.Tables.{directory_block, in_slot}
use Rattle.qw_table.specs.declared.key.Field.{Field}
use Rattle.qw_group.specs.Groups.{AreChosenWithin, HasGroup, HasGroups, group_size}
use Rattle.qw_group.specs.declared.group.Aggregate.{Aggregate}
use Rattle.qw_group.proofs.BegunGroups.{groups_begun}
use Rattle.qw_group.proofs.WalkRuns.{StandGroups, standing}
use Rattle.qw_physical.specs.Physical.{select}
use Rattle.qw_operator.specs.Carries.{directory}
use Rattle.qw_operator.proofs.Seen.{StandsIn}
use Rattle.qw_operator.proofs.Stood.{AllStand, Stood}
use Rattle.qw_operator.specs.Grouping.{CanGroup, Group, IsGrouped, aggregates_of, key_fields, turn_of}
use Rattle.qw_operator.proofs.GroupSunk.{HasRows, collecting_sink}
use Rattle.qw_operator.proofs.GroupedFeeds.{grouped_runs, row_grouped}
use Rattle.qw_operator.proofs.OperatorsFeed.{FeedsEnd}
use Rattle.qw_operator.proofs.Filters.{Runs}
use Rattle.qw_compile.specs.QueryLocals.{rows_left}
use Rattle.qw_compile.proofs.PipelineRuns.{Steady}
use Rattle.qw_compile.proofs.TableBegins.{Begun, empty_table, table_begins}
use Rattle.qw_compile_whole.proofs.FieldCounts.{dropped_many, fields_long, over_many}
use Rattle.qw_compile_whole.proofs.GroupBounded.{group_width, groups_paid}
use Rattle.qw_compile_whole.proofs.RunsInto.{Placed, SeenBefore, TablesBefore}
use Rattle.qw_compile_whole.proofs.SeenBehind.{StandBetween}

-- ---- where the fields of a table of groups are
pub key_long : (group : Group) (fields : List Field) → CanGroup group → kinds_of (sources_of fields) ≡ map kind_of group.values → length (key_fields group fields) ≡ group.columns
key_long group fields can kinds = let count = fields_long group fields kinds in let many = can.many in length-take-le group.columns fields (omega (arith, count, many))

pub aggregates_long : (group : Group) (fields : List Field) → CanGroup group → kinds_of (sources_of fields) ≡ map kind_of group.values → length (aggregates_of group fields) ≡ length group.functions
aggregates_long group fields can kinds = over_many group.functions (drop group.columns fields) (dropped_many group.columns fields (length group.functions) (fields_long group fields kinds ∙ can.many))

pub width_is : (group : Group) (fields : List Field) → CanGroup group → kinds_of (sources_of fields) ≡ map kind_of group.values → group_size (key_fields group fields) (aggregates_of group fields) ≡ group_width group
width_is group fields can kinds = let one = key_long group fields can kinds in let two = aggregates_long group fields can kinds in omega (arith, one, two)

-- ---- the groups of rows stand behind the tables of joins
pub record AreGathered (T n : ℕ) (c : Cells) (base u : ℕ) (s0 : LowState) (stoods : List Stood) (group : Group) (fields : List Field) (budget : ℕ) (rows : List (List Val)) (s : LowState) : Type 0 where
  pub part : ℕ
  pub offset : ℕ
  pub behind : base ≤ pos part offset
  pub has : HasGroups (length (key_fields group fields)) (HasGroup (StandsIn c s) (key_fields group fields) (aggregates_of group fields)) (group_size (key_fields group fields) (aggregates_of group fields)) part offset (directory group.table) u (budget + u + 4096) rows s
  pub keeps : Keeps (Steady T n) (Before base) s0 s
  pub fronts : StandBetween base (pos part offset) stoods
  pub stand : AllStand c stoods s

-- where the table is, and ends
module _ (T n : ℕ) (c : Cells) (base u : ℕ) (s0 : LowState) (stoods : List Stood) (group : Group) (fields : List Field) (budget : ℕ) (rows : List (List Val)) (s : LowState) (h : AreGathered T n c base u s0 stoods group fields budget rows s) where
  pub table_before : pos h.part h.offset + 4096 ≤ pos h.has.part h.has.offset
  table_before = let directory_before = h.has.directory.behind in omega (arith, directory_before)

  pub groups_behind : base ≤ pos h.has.part h.has.offset
  groups_behind = let before = table_before in omega (arith, before, h.behind)

  pub gathered_groups : StandGroups (length (key_fields group fields)) (HasGroup (StandsIn c s) (key_fields group fields) (aggregates_of group fields)) (group_size (key_fields group fields) (aggregates_of group fields)) h.part h.offset (directory group.table) (pos h.has.part h.has.offset) rows s
  gathered_groups =
      standing (length (key_fields group fields)) (HasGroup (StandsIn c s) (key_fields group fields) (aggregates_of group fields)) (group_size (key_fields group fields) (aggregates_of group fields)) h.part h.offset (directory group.table) u (budget + u + 4096) rows s h.has

  -- tables that stand before it
  pub tables_behind : StandBetween base (pos h.has.part h.has.offset) stoods
  tables_behind i st there = let old = h.fronts i st there in let before = table_before in (old.0, omega (arith, old.1, before))

-- what is paid for then
pub gathered_paid : (T n : ℕ) (c : Cells) (base u : ℕ) (s0 : LowState) (stoods : List Stood) (group : Group) (fields : List Field) (budget : ℕ) (rows : List (List Val)) (s : LowState) → CanGroup group → kinds_of (sources_of fields) ≡ map kind_of group.values →
    (h : AreGathered T n c base u s0 stoods group fields budget rows s) → Paid u (groups_paid u group budget rows) h.has.offset s.held
gathered_paid T n c base u s0 stoods group fields budget rows s can kinds h =
    subst (λ (m : ℕ). Paid u (budget + u + 4096 + length (keys m rows) * group_width group) h.has.offset s.held) (key_long group fields can kinds)
    (subst (λ (w : ℕ). Paid u (budget + u + 4096 + length (keys (length (key_fields group fields)) rows) * w) h.has.offset s.held) (width_is group fields can kinds) h.has.paid)

-- ---- what is needed of rows that come, where so many octets were paid for before
pub record Suits (group : Group) (fields : List Field) (u most before : ℕ) (entries chosen : List Val → ℕ) (May : List (List Val) → Type 0) : Type 0 where
  pub first : (rows more : List (List Val)) → May (rows ++ more) → May rows
  pub small : group_size (key_fields group fields) (aggregates_of group fields) + u ≤ page
  pub few_rows : (xs : List (List Val)) → May xs → 1 ≤ length group.functions → length xs ≤ 10 ^ 18
  pub chosen_within : (row : List Val) → AreChosenWithin group.columns group.functions row (chosen row)
  pub enough : (xs : List (List Val)) → May xs → before + length (keys (length (key_fields group fields)) xs) * group_size (key_fields group fields) (aggregates_of group fields) + 2 * u < (most + 1) * u
  pub met : (row : List Val) (xs : List (List Val)) → May xs → length (in_slot slot (slot (key_of (length (key_fields group fields)) row)) (keys (length (key_fields group fields)) xs)) ≤ entries row

-- by what is known of all of these rows, where those that come are some of them
pub suits : (group : Group) (fields : List Field) (u most budget : ℕ) (entries chosen : List Val → ℕ) (all : List (List Val)) → CanGroup group → kinds_of (sources_of fields) ≡ map kind_of group.values → (May : List (List Val) → Type 0) → ((rows more : List (List Val)) → May (rows ++ more) → May rows) →
    ((xs : List (List Val)) → May xs → 1 ≤ length group.functions → length xs ≤ 10 ^ 18) → ((row : List Val) → AreChosenWithin group.columns group.functions row (chosen row)) →
    ((xs : List (List Val)) → May xs → length (keys group.columns xs) ≤ length (keys group.columns all)) → ((j : ℕ) (xs : List (List Val)) → May xs → length (in_slot slot j (keys group.columns xs)) ≤ length (in_slot slot j (keys group.columns all))) →
    ((row : List Val) → length (in_slot slot (slot (key_of group.columns row)) (keys group.columns all)) ≤ entries row) → group_width group + u ≤ page → groups_paid u group budget all + 2 * u < (most + 1) * u →
    Suits group fields u most (budget + u + 4096) entries chosen May
suits group fields u most budget entries chosen all can field_kinds May first few_rows chosen_within fewer fewer_there met fits enough =
    let long = key_long group fields can field_kinds in
    let same = width_is group fields can field_kinds in
    record {
      first = first;
      small = omega (arith, fits, same);
      few_rows = few_rows;
      chosen_within = chosen_within;
      enough = λ xs may.
          (let less = mul-le (length (keys group.columns xs)) (group_width group) (length (keys group.columns all)) (group_width group) (fewer xs may) (omega arith) in
          subst (λ (m : ℕ). budget + u + 4096 + length (keys m xs) * group_size (key_fields group fields) (aggregates_of group fields) + 2 * u < (most + 1) * u) (sym long)
          (subst (λ (w : ℕ). budget + u + 4096 + length (keys group.columns xs) * w + 2 * u < (most + 1) * u) (sym same) (omega (arith, less, enough))));
      met = λ row xs may.
          (let less = fewer_there (slot (key_of group.columns row)) xs may in
          let all_met = met row in
          subst (λ (m : ℕ). length (in_slot slot (slot (key_of m row)) (keys m xs)) ≤ entries row) (sym long) (omega (arith, less, all_met)));
    }

-- ---- an empty table is placed
abbrev pub into_groups : Cells → (group : Group) → (fields : List Field) → (u before : ℕ) → (May : List (List Val) → Type 0) → ((rows more : List (List Val)) → May (rows ++ more) → May rows) → (part offset : ℕ) → Sink
into_groups c group fields u before May first k o = collecting_sink c (key_fields group fields) (aggregates_of group fields) k o (directory group.table) u before May first

none_begun : (c : Cells) (key : List Field) (aggregates : List Aggregate) (d u budget front : ℕ) (s t : LowState) (b : Begun d u budget front s t) → HasRows c key aggregates b.k b.o d u (budget + u + 4096) [] t t
none_begun c key aggregates d u budget front s t b =
    let none : Cells → ℕ → ℕ → List Val → Type 0 = λ x j a vs. Unit {0} in
    let wide : ℕ = group_size key aggregates in
    groups_begun none (λ vs. 0) wide (length key) (HasGroup (StandsIn c t) key aggregates) wide b.k b.o d u (budget + u + 4096) t (empty_table none (λ vs. 0) wide d u budget front s t b)

pub groups_placed : (c : Cells) (u most fuel : ℕ) (group : Group) (fields : List Field) (May : List (List Val) → Type 0) (first : (rows more : List (List Val)) → May (rows ++ more) → May rows) (budget : ℕ) (s : LowState) (part offset : ℕ) → HasRoom part offset s → Paid u budget offset s.held →
    u ≤ page → directory group.table < length s.locals → budget + u + 4096 + 2 * u < (most + 1) * u →
    Ends 26 (Placed (directory group.table) (pos part offset) (into_groups c group fields u (budget + u + 4096) May first) [] s) Never IsRefusal (meaning most fuel (directory_block (directory group.table)) s)
groups_placed c u most fuel group fields May first budget s part offset room paid u_low long enough =
    let d : ℕ = directory group.table in
    let front : ℕ = pos part offset in
    Ends-weaker 26 26 (Begun d u budget front s) (Placed d front (into_groups c group fields u (budget + u + 4096) May first) [] s) Never Never IsRefusal IsRefusal (meaning most fuel (directory_block d) s) (omega arith)
    (λ t begun. record {
      part = begun.k;
      offset = begun.o;
      behind = begun.behind;
      keeps = begun.keeps;
      has = none_begun c (key_fields group fields) (aggregates_of group fields) d u budget front s t begun;
    })
    (λ t x. x) (λ code x. x) (table_begins d u budget most fuel (omega arith) u_low s long part offset room paid enough)

-- behind what is seen and the tables it takes rows so
pub groups_take : (c : Cells) (T : ℕ) (stoods : List Stood) → length stoods ≤ T → (most fuel many : ℕ) (types : List ValType) (group : Group) → CanGroup group → group.table < T → (fields : List Field) (u before : ℕ) (entries chosen : List Val → ℕ) (May : List (List Val) → Type 0)
    (q : Suits group fields u most before entries chosen May) (k o : ℕ) → SeenBefore c k o → TablesBefore stoods k o →
    Runs c stoods (rows_left T) (into_groups c group fields u before May q.first k o)
    × FeedsEnd c stoods (rows_left T) (into_groups c group fields u before May q.first k o) most fuel many types (λ known at a more. IsGrouped fields known at group a more) (select group.values) (turn_of group entries chosen)
groups_take c T stoods few_tables most fuel many types group can low fields u before entries chosen May q k o seen tables = (
  grouped_runs c stoods (rows_left T) (omega (arith, few_tables)) most fuel many types group can fields k o u before entries chosen May q.first (omega (arith, low)) q.small q.few_rows q.chosen_within q.enough q.met seen tables,
  row_grouped c stoods (rows_left T) (omega (arith, few_tables)) most fuel many types group can fields k o u before entries chosen May q.first (omega (arith, low)) q.small q.few_rows q.chosen_within q.enough q.met seen tables,
)
