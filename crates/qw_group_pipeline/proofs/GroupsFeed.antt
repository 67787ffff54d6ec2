-- What a pipeline that begins at a table of groups feeds: what comes of the row of each group, each once in some order.
use Rattle.std.proofs.Common.{◌≡◌, ℕ, ◌+◌, ◌<◌, ◌≤◌, ◌^◌, ◌==◌, List, [], ◌∷◌, ◌++◌, length, length-append, map, Result, Ok, Some, slice_get, refl, sym, ap, ◌∙◌, subst, append_assoc, append-nil, arith}
use Rattle.std.specs.List.{AllByRecursion, flat_map}
use Rattle.std.specs.List.Sorted.{IsPermutation}
use Rattle.std.proofs.lemmas.List.Elements.{All-from_recursion, recursion_from_All}
use Rattle.std.proofs.lemmas.List.Sorted.{All-permutation, IsPermutation-sym, length_permutation}
use Rattle.qw_types.specs.declared.code.Code.{Code}
use Rattle.qw_types.specs.declared.value.Val.{Val}
use Rattle.qw_layout.specs.Hash.{slot}
use Rattle.qw_layout.specs.Row.{cell_offset}
use Rattle.qw_meaning.specs.Flow.{Flow}
use Rattle.qw_grouped.specs.Groups.{function_values, keys, members}
use Rattle.qw_grouped.proofs.Lists.{all_filter}
use Rattle.qw_grouped.proofs.TypedGroups.{filter_short}
use Rattle.qw_types.specs.ValueOrder.{is_same_row}
use Rattle.qw_grouped.specs.Groups as grouped
use Rattle.qw_module.specs.declared.instruction.ValType.{ValType}
use Rattle.qw_low.specs.Syntax.{Statement}
use Rattle.qw_low.specs.State.{Part, Own, Cells, LowState}
use Rattle.qw_low.proofs.LessKnown.{IsLess, seen}
use Rattle.qw_expr.specs.Computes.{Known, AreHeld, AreDeclared}
use Rattle.qw_feed.specs.Feeds.{Any, Sink as FlowSink, FeedsTo, flow_by, flow_over, spend}
use Rattle.qw_feed.specs.Frames.{pos, Below, Keeps}
use Rattle.qw_feed.specs.Rows.{Row, address}
use Rattle.qw_feed.proofs.FeedRules.{feeds_more}
use Rattle.qw_table.specs.Tables.{Linked, in_slot, values_of}
use Rattle.qw_table.specs.declared.key.Field.{Field}
use Rattle.qw_table.proofs.JoinFeeds.{slot-low}
use Rattle.qw_group.specs.Areas.{HasAggregate}
use Rattle.qw_group.specs.Groups.{HasAreas, HasGroup, group_size}
use Rattle.qw_group.specs.Walks.{AreMet, slots_down, groups_walk_block}
use Rattle.qw_group.specs.declared.group.Aggregate.{Aggregate}
use Rattle.qw_group.proofs.EntryAreas.{areas-map, areas-same}
use Rattle.qw_group.proofs.GroupFeeds.{group_same}
use Rattle.qw_group.proofs.GroupRuns.{values-many}
use Rattle.qw_group.proofs.WalkRuns.{StandGroups, walk_feeds, walk_once, flow-flat, spend-flat, values-flat, slots-many, slot-few}
use Rattle.qw_physical.specs.Courses.{cost}
use Rattle.qw_physical.specs.Physical.{Operator, Sink}
use Rattle.qw_physical.specs.declared.pipeline.ReadColumn.{ReadColumn}
use Rattle.qw_operator.specs.Takes.{AreSized}
use Rattle.qw_operator.proofs.Filters.{Runs, base_high, stand_keeps}
use Rattle.qw_operator.proofs.KnownLeaves.{AreFit}
use Rattle.qw_leaves.proofs.Agreement.{value_at}
use Rattle.qw_operator.proofs.PairRows.{AreAt, AreStored}
use Rattle.qw_operator.proofs.Promised.{AreOwn, rest_own_types}
use Rattle.qw_operator.proofs.Seen.{AreWithin, StandsIn, held_keeps, less_keeps, longer_keeps, stands_later, within_wider}
use Rattle.qw_operator.proofs.Stood.{AllStand, Stood, cells_map}
use Rattle.qw_group_pipeline.specs.Groups.{IsGroupPipelineTo, all_anywhere, most_read, walk_types}
use Rattle.qw_group_pipeline.specs.declared.columns.ValueColumn.{ValueColumn}
use Rattle.qw_group_pipeline.proofs.ValuesCome.{AreRead, aggregate_of, column_for, functions_of, read_many}
use Rattle.qw_group_pipeline.proofs.RowFeeds.{AreOfKinds, FeedsRest, by_result, group_feeds}

-- ---- columns are numbered in their order, from a number on
abbrev pub AreNumbered : ℕ → List ReadColumn → Type 0
AreNumbered n [] = Unit {0}
AreNumbered n (c ∷ columns) = (c.number ≡ n) × AreNumbered (n + 1) columns

value_here : (front : List Val) (v : Val) (rest : List Val) → value_at (front ++ v ∷ rest) (length front) ≡ v
value_here [] v rest = refl
value_here (w ∷ front) v rest = value_here front v rest

pub numbered_at : (columns : List ReadColumn) (front vs rest : List Val) → AreNumbered (length front) columns → length vs ≡ length columns → AreAt (front ++ (vs ++ rest)) columns vs
numbered_at [] front [] rest numbered same = tt
numbered_at [] front (v ∷ vs) rest numbered same = absurd (omega (arith, same))
numbered_at (c ∷ columns) front [] rest numbered same = absurd (omega (arith, same))
numbered_at (c ∷ columns) front (v ∷ vs) rest numbered same =
    let one : length (front ++ v ∷ []) ≡ length front + 1 = length-append front (v ∷ []) in (
      ap (λ (n : ℕ). value_at (front ++ v ∷ (vs ++ rest)) n) numbered.0 ∙ value_here front v (vs ++ rest),
      subst (λ (row : List Val). AreAt row columns vs) (append_assoc front (v ∷ []) (vs ++ rest)) (numbered_at columns (front ++ v ∷ []) vs rest (subst (λ (n : ℕ). AreNumbered n columns) (sym one) numbered.1) (omega (arith, same))),
    )

stored_many : (columns : List ReadColumn) (vs : List Val) → AreStored columns vs → length vs ≡ length columns
stored_many [] [] stored = refl
stored_many [] (v ∷ vs) stored = absurd stored
stored_many (c ∷ columns) [] stored = absurd stored
stored_many (c ∷ columns) (v ∷ vs) stored = let rest = stored_many columns vs stored.1 in omega (arith, rest)

-- ---- the set functions of a table of groups are those of the columns
abbrev pub AreTheir : List Aggregate → List ValueColumn → Type 0
AreTheir [] [] = Unit {0}
AreTheir (x ∷ aggregates) (v ∷ values) = (x.function ≡ v.function) × (x.argument.kind ≡ v.argument) × AreTheir aggregates values
AreTheir _ _ = ⊥

pub areas_their : (Text : Part → ℕ → List ℕ → Type 0) (place : ℕ) (aggregates : List Aggregate) (values : List ValueColumn) (rows : List (List Val)) (c : Cells) (k at : ℕ) → AreTheir aggregates values → HasAreas Text place aggregates rows c k at → HasAreas Text place (map aggregate_of values) rows c k at
areas_their Text place [] [] rows c k at theirs h = tt
areas_their Text place [] (v ∷ values) rows c k at theirs h = absurd theirs
areas_their Text place (x ∷ aggregates) [] rows c k at theirs h = absurd theirs
areas_their Text place (x ∷ aggregates) (v ∷ values) rows c k at theirs h = (
  subst (λ (kd : _). HasAggregate Text v.function kd (grouped.values_at place rows) c k at) theirs.1
      (subst (λ (f : _). HasAggregate Text f x.argument.kind (grouped.values_at place rows) c k at) theirs.0 h.0),
  areas_their Text (place + 1) aggregates values rows c k (at + 32) theirs.2 h.1,
)

-- ---- a group, of whose row so much is made, in so many units
module _ (key : List ReadColumn) (values : List ValueColumn) (work : List Val → Flow (List Val)) (units : List Val → ℕ) (columns : ℕ) (rows : List (List Val)) (key_values : List Val) where
  -- the values of its set functions over the rows that have its key
  abbrev pub group_come : Result (List Val) Code
  group_come = function_values (length key) (functions_of values) (members columns key_values rows)

  -- what its row of the grouped table feeds
  abbrev pub group_flow : Flow (List Val)
  group_flow = flow_by (function_values (length key) (functions_of values) (members columns key_values rows)) (λ vs. work (key_values ++ vs))

  -- and what that takes, beside one: that the values are read, and the units of what is made of its row
  abbrev pub units_within : ℕ
  units_within = most_read (functions_of values) + by_result (function_values (length key) (functions_of values) (members columns key_values rows)) (λ vs. units (key_values ++ vs))

-- operators and a sink
abbrev pub group_units : List ReadColumn → List ValueColumn → List Operator → Sink → (columns : ℕ) → (rows : List (List Val)) → (key_values : List Val) → ℕ
group_units key values operators snk columns rows key_values =
    most_read (functions_of values) + by_result (function_values (length key) (functions_of values) (members columns key_values rows)) (λ vs. cost [] operators snk (key_values ++ vs))

-- its key has values that the cells of its columns give back, the values of its set functions are of their kinds, as they are read, and its units few enough
pub record IsGoodTo (key : List ReadColumn) (values : List ValueColumn) (units : List Val → ℕ) (fuel columns : ℕ) (rows : List (List Val)) (key_values : List Val) : Type 0 where
  pub stored : AreStored key key_values
  pub typed : (vs : List Val) → function_values (length key) (functions_of values) (members columns key_values rows) ≡ Ok vs → AreRead values vs
  pub enough : 1 + (most_read (functions_of values) + by_result (function_values (length key) (functions_of values) (members columns key_values rows)) (λ vs. units (key_values ++ vs))) ≤ fuel

-- what holds of all keys holds of the entries of a slot
of_chain : (P : List Val → Type 0) (j : ℕ) (ks : List (List Val)) (chain : List Row) → AllByRecursion P ks → IsPermutation (values_of chain) (in_slot slot j ks) → AllByRecursion (λ (e : Row). P e.values) chain
of_chain P j ks chain all same =
    entries chain (recursion_from_All P (values_of chain)
    (All-permutation P (in_slot slot j ks) (values_of chain) (IsPermutation-sym (values_of chain) (in_slot slot j ks) same)
    (All-from_recursion P (in_slot slot j ks) (all_filter P (λ (values : List Val). slot values == j) ks all))))
  where
    entries : (es : List Row) → AllByRecursion P (values_of es) → AllByRecursion (λ (e : Row). P e.values) es
    entries [] h = tt
    entries (e ∷ es) h = (h.0, entries es h.1)

module _ (c : Cells) (stoods : List Stood) (base : ℕ) (sink : FlowSink) (runs : Runs c stoods base sink) (most fuel many : ℕ) (types : List ValType) (turns : 1024 < fuel) (Rest : List Known → (next : ℕ) → Statement → List ValType → Type 0) (Good : List Val → Type 0) (work : List Val → Flow (List Val)) (units : List Val → ℕ)
    (literals : List Known) (directory next : ℕ) (key : List ReadColumn) (values : List ValueColumn) (a : Statement) (own : List ValType) (h : IsGroupPipelineTo Rest literals directory next key values a own) (low : base ≤ next)
    (room : next + length own ≤ many) (within : AreWithin next literals) (declared : AreDeclared types literals) (own_types : AreOwn types next own) (feeds : FeedsRest c stoods base sink most fuel many types (all_anywhere key values ++ literals) Rest Good work units) (kinds : AreOfKinds values) (sized : AreSized key) (d_low : (5 ≤ directory) × (directory < next))
    (numbered : AreNumbered 0 key) (numbered_values : AreNumbered (length key) (map column_for values)) where
  own_many : length own ≡ 2 + length h.met_own
  own_many = ap (λ (o : List ValType). length o) h.own_is ∙ length-append walk_types h.met_own

  met_types : AreOwn types (next + 2) h.met_own
  met_types = rest_own_types types next own walk_types h.met_own h.own_is own_types

  five : 5 ≤ next
  five = let high = base_high c stoods base sink runs in omega (arith, high, low)

  module _ (Text : Part → ℕ → List ℕ → Type 0) (fields : List Field) (aggregates : List Aggregate) (theirs : AreTheir aggregates values) (same_many : length fields ≡ length key) (k o front : ℕ) (rows : List (List Val)) (s0 : LowState)
      (also : (p : Part) (i : ℕ) (octets : List ℕ) → Text p i octets → StandsIn c s0 p i octets) (groups : StandGroups (length fields) (HasGroup Text fields aggregates) (group_size fields aggregates) k o directory front rows s0)
      (stand : AllStand c stoods s0) (spared : (at width : ℕ) → pos k o ≤ at → at + width ≤ front → sink.Spared at width)
      (table_seen : (p at width : ℕ) → 2 ≤ width → pos k o ≤ pos p at → pos p at + width ≤ front → c (Own p) at width ≡ s0.cells (Own p) at width) (less : IsLess c s0.cells) (long : many ≤ length s0.locals) (few : 1 ≤ length values → length rows < 10 ^ 18)
      (keys_few : length (keys (length fields) rows) < fuel) (literals_held : (row : List Val) → AreHeld literals row (seen c s0)) (literals_fit : (row : List Val) → AreFit row literals)
      (good : AllByRecursion (IsGoodTo key values units fuel (length fields) rows) (keys (length fields) rows))
      (goods : (kvs vs : List Val) → AreStored key kvs → function_values (length key) (functions_of values) (members (length fields) kvs rows) ≡ Ok vs → Good (kvs ++ vs)) where
    abbrev columns : ℕ
    columns = length fields

    abbrev wide : ℕ
    wide = group_size fields aggregates

    -- an entry has its group, of which the areas are seen
    abbrev Has : List (List Val) → Cells → ℕ → ℕ → List Val → Type 0
    Has rs d p i kvs =
        HasGroup Text fields aggregates rs d p i kvs × (HasAreas Text (length fields) aggregates (members (length fields) kvs rows) c p (i + cell_offset (length fields)) × IsGoodTo key values units fuel (length fields) rows kvs)

    has_same : (rs : List (List Val)) (d d' : Cells) (p i : ℕ) (kvs : List Val) → ((x b : ℕ) → i + 8 ≤ x → x + b ≤ i + wide → d' (Own p) x b ≡ d (Own p) x b) → Has rs d p i kvs → Has rs d' p i kvs
    has_same rs d d' p i kvs same has = (group_same Text fields aggregates rs d d' p i kvs same has.0, has.1)

    linked_seen : (es : List Row) → AllByRecursion (λ (e : Row). IsGoodTo key values units fuel (length fields) rows e.values) es → Linked (HasGroup Text fields aggregates rows) wide s0.cells (pos k (o + 4096)) front es → Linked (Has rows) wide s0.cells (pos k (o + 4096)) front es
    linked_seen [] goods linked = tt
    linked_seen (e ∷ es) goods linked = (
      linked.0,
      linked.1,
      linked.2,
      linked.3,
      (
        linked.4,
        (
          areas-same Text columns aggregates (members columns e.values rows) s0.cells c e.part (e.offset + cell_offset columns)
              (λ x b two lower upper. table_seen e.part x b two (let at = linked.0 in omega (arith, at, lower)) (let at = linked.1 in omega (arith, at, upper))) linked.4.2,
          goods.0,
        ),
      ),
      linked_seen es goods.1 linked.5,
    )

    groups_seen : StandGroups columns Has wide k o directory front rows s0
    groups_seen = record {
      at = groups.at;
      chains = groups.chains;
      directory = groups.directory;
      linked = λ j j_low. linked_seen (groups.chains j) (of_chain (IsGoodTo key values units fuel (length fields) rows) j (keys (length fields) rows) (groups.chains j) good (groups.same j j_low)) (groups.linked j j_low);
      same = groups.same;
    }

    -- ---- at an entry
    module _ (e : Row) (t : LowState) (leads : slice_get t.locals (next + 1) ≡ Some (address e)) (keeps : Keeps (Below next) sink.Spared s0 t) (has : Has rows t.cells e.part e.offset e.values) where
      abbrev mine : List (List Val)
      mine = members (length fields) e.values rows

      stands : (p : Part) (i : ℕ) (octets : List ℕ) → Text p i octets → StandsIn c t p i octets
      stands p i octets there = stands_later c s0 t p i octets (longer_keeps (Below next) sink.Spared s0 t keeps) (also p i octets there)

      stand_t : AllStand c stoods t
      stand_t = stand_keeps c stoods base sink runs next s0 t low keeps stand

      is_good : IsGoodTo key values units fuel (length fields) rows e.values
      is_good = has.1.1

      areas : HasAreas (StandsIn c t) (length key) (map aggregate_of values) mine c e.part (e.offset + cell_offset (length key))
      areas = areas-map Text (StandsIn c t) stands c e.part (length key) (map aggregate_of values) mine (e.offset + cell_offset (length key))
          (areas_their Text (length key) aggregates values mine c e.part (e.offset + cell_offset (length key)) theirs
          (subst (λ (n : ℕ). HasAreas Text n aggregates mine c e.part (e.offset + cell_offset n)) same_many has.1.0))

      fewer : 1 ≤ length values → length mine < 10 ^ 18
      fewer some = let short = filter_short (λ (row : List Val). is_same_row e.values (grouped.key_of (length fields) row)) rows in let all = few some in omega (arith, short, all)

      values_there : (vs : List Val) → AreRead values vs → AreAt (e.values ++ vs) (map column_for values) vs
      values_there vs read =
          subst (λ (l : List Val). AreAt (e.values ++ l) (map column_for values) vs) (append-nil vs)
          (numbered_at (map column_for values) e.values vs [] (subst (λ (n : ℕ). AreNumbered n (map column_for values)) (sym (stored_many key e.values is_good.stored)) numbered_values) (read_many values vs read))

      met : FeedsTo sink most fuel (1 + units_within key values work units (length fields) rows e.values) (Below (next + 2)) Any (group_flow key values work units (length fields) rows e.values) h.met t
      met =
          let count = own_many in
          let N : ℕ = 1 + (most_read (functions_of values) + by_result (group_come key values work units (length fields) rows e.values) (λ vs. units (e.values ++ vs))) in
          feeds_more sink most fuel N (1 + units_within key values work units (length fields) rows e.values) (Below (next + 2)) Any (group_flow key values work units (length fields) rows e.values) h.met t (omega arith)
          (group_feeds c stoods base sink runs most fuel many types Rest Good work units literals (next + 1) (cell_offset (length key)) (next + 2) key values h.met h.met_own h.row (omega (arith, low)) (omega arith) (omega (arith, room, count))
          (within_wider next (next + 2) literals (omega arith) within) declared met_types feeds kinds sized e.part e.offset e.values mine t leads
          (cells_map Text (StandsIn c t) t.cells e.part (e.offset + 24) e.values stands has.0.1) areas stand_t is_good.stored fewer (less_keeps c (Below next) sink.Spared s0 t runs.seen_spared keeps less) (let same = keeps.many in omega (arith, same, long))
          (λ row. held_keeps c next sink.Spared s0 t literals row within keeps (literals_held row)) literals_fit is_good.typed (λ vs. goods e.values vs is_good.stored) (λ vs. numbered_at key [] e.values vs numbered (stored_many key e.values is_good.stored)) values_there is_good.enough)

    -- ---- all groups
    gathered : (chains : ℕ → List Row) (js : List ℕ) → length js ≡ 1024 → IsPermutation (flat_map (λ j. values_of (chains j)) js) (keys columns rows) →
        FeedsTo sink most fuel (1 + spend (λ j. spend (λ (e : Row). units_within key values work units (length fields) rows e.values) (chains j)) js) (Below next) Any (flow_over (λ j. flow_over (λ (e : Row). group_flow key values work units (length fields) rows e.values) (chains j)) js) (groups_walk_block directory next h.met) s0 →
        (entries : List Row) × AreMet columns rows entries × FeedsTo sink most fuel (1025 + spend (λ (e : Row). units_within key values work units (length fields) rows e.values) entries) (Below next) Any (flow_over (λ (e : Row). group_flow key values work units (length fields) rows e.values) entries) (groups_walk_block directory next h.met) s0
    gathered chains js many_js once fed_all =
        let entries : List Row = flat_map chains js in
        let each : Row → ℕ = λ e. units_within key values work units (length fields) rows e.values in
        let inner : Row → Flow (List Val) = λ e. group_flow key values work units (length fields) rows e.values in
        let count : 1 + spend (λ j. spend each (chains j)) js ≡ 1025 + spend each entries = omega (arith, spend-flat each chains js, many_js) in (
          entries,
          subst (λ (l : List (List Val)). IsPermutation l (keys columns rows)) (sym (values-flat chains js)) once,
          subst (λ (f : Flow (List Val)). FeedsTo sink most fuel (1025 + spend each entries) (Below next) Any f (groups_walk_block directory next h.met) s0) (flow-flat inner chains js)
              (subst (λ (n : ℕ). FeedsTo sink most fuel n (Below next) Any (flow_over (λ j. flow_over inner (chains j)) js) (groups_walk_block directory next h.met) s0) count fed_all),
        )

    pub groups_feed : (entries : List Row) × AreMet (length fields) rows entries × FeedsTo sink most fuel (1025 + spend (λ (e : Row). units_within key values work units (length fields) rows e.values) entries) (Below next) Any (flow_over (λ (e : Row). group_flow key values work units (length fields) rows e.values) entries) a s0
    unfolding groups_seen
    groups_feed =
        let count = own_many in
        let shorter : (j : ℕ) → j < 1024 → length (groups.chains j) < fuel = λ j j_low. (let same = length_permutation (values_of (groups.chains j)) (in_slot slot j (keys columns rows)) (groups.same j j_low) in let fewer = slot-few j (keys columns rows) in omega (arith, same, fewer, values-many (groups.chains j), keys_few)) in
        let all = gathered groups.chains (slots_down 1024) (slots-many 1024) (walk_once columns Has wide k o directory front rows s0 groups_seen slot-low)
        (walk_feeds sink most fuel next (next + 2) five (omega arith) (λ rs x y kept. runs.kept next rs x y low kept) h.met (λ kvs. group_flow key values work units (length fields) rows kvs) (λ kvs. units_within key values work units (length fields) rows kvs) columns Has wide (omega arith) has_same k o directory front rows s0 groups_seen d_low
        (omega (arith, room, count, long)) spared turns shorter (λ e t here. met e t here.x_is here.keeps here.has_group)) in (
          all.0,
          all.1,
          subst (λ (b : Statement). FeedsTo sink most fuel (1025 + spend (λ (e : Row). units_within key values work units (length fields) rows e.values) all.0) (Below next) Any (flow_over (λ (e : Row). group_flow key values work units (length fields) rows e.values) all.0) b s0) (sym h.is) all.2,
        )
