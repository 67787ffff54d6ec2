-- A row of a pipeline is put into its group: what the block of a table of groups feeds.
use Rattle.std.proofs.Common.{◌≡◌, ℕ, ◌+◌, ◌*◌, ◌^◌, ◌<◌, ◌≤◌, Option, Some, List, [], ◌∷◌, ◌++◌, drop, length, length-append, take, Ok, refl, sym, ap, ◌∙◌, subst, arith}
use Rattle.std.proofs.lemmas.List.{length-take-le}
use Rattle.std.proofs.lemmas.Nat.{mul-le}
use Rattle.std.specs.List.{AllByRecursion}
use Rattle.qw_linear.specs.Memory.{page}
use Rattle.qw_types.specs.declared.kind.Kind.{Kind}
use Rattle.qw_types.specs.declared.value.Val.{Val}
use Rattle.qw_module.specs.declared.instruction.ValType.{ValType}
use Rattle.qw_layout.specs.Hash.{slot}
use Rattle.qw_layout.specs.Row.{cell_offset}
use Rattle.qw_meaning.specs.Flow.{values_of}
use Rattle.qw_scalar.specs.Evaluation.{at_row}
use Rattle.qw_scalar.specs.Typing.{HasKind}
use Rattle.qw_grouped.specs.Groups.{key_of, keys, members}
use Rattle.qw_low.specs.Syntax.{Statement}
use Rattle.qw_low.specs.State.{Part, Own, Value, Cells, LowState}
use Rattle.qw_low.specs.Meaning.{meaning}
use Rattle.qw_low.specs.Size.{size}
use Rattle.qw_low.specs.Raising.{Kept}
use Rattle.qw_low.proofs.LessKnown.{IsLess}
use Rattle.qw_low.proofs.Promises.{Ends-weaker}
use Rattle.qw_expr.specs.Computes.{Known, AreDeclared}
use Rattle.qw_feed.specs.Cells.{Source, AllSupply, AllUse, kinds_of}
use Rattle.qw_feed.specs.Feeds.{Any, Sink as FlowSink, FedTo, FeedsTo, Tells, one_row}
use Rattle.qw_feed.specs.Frames.{pos, Before, Below}
use Rattle.qw_feed.specs.Stages.{Among, outs_of}
use Rattle.qw_feed.proofs.FeedRules.{feeds_less}
use Rattle.qw_feed.proofs.Frames.{Never, below-less}
use Rattle.qw_table.specs.Joins.{sources_of}
use Rattle.qw_table.specs.Keys.{text_octets}
use Rattle.qw_table.specs.Tables.{in_slot}
use Rattle.qw_table.specs.declared.key.Field.{Field}
use Rattle.qw_group.specs.Groups.{AreChosenWithin, Groups, HasGroup, HasGroups, functions_in, group_size, group_types, groups_sink}
use Rattle.qw_group.specs.declared.group.Aggregate.{Aggregate}
use Rattle.qw_group.proofs.EntryAreas.{areas-map}
use Rattle.qw_group.proofs.GroupFeeds.{cells_map, groups_feed}
use Rattle.qw_group.proofs.GroupRuns.{groups_kept}
use Rattle.qw_group.proofs.PlaceRuns.{Linked-map}
use Rattle.qw_physical.specs.Courses.{fed, placed}
use Rattle.qw_physical.specs.Physical.{select}
use Rattle.qw_operator.specs.Carries.{all_moved, directory}
use Rattle.qw_operator.proofs.CarriedFeeds.{supply_map, values_feed}
use Rattle.qw_operator.proofs.Filters.{Runs, Here, base_high}
use Rattle.qw_operator.proofs.Promised.{AreHigh, AreOwn, IsItemAt, first_own_types, items_high, items_use}
use Rattle.qw_operator.proofs.Seen.{AreWithin, Longer, StandsIn, less_keeps, less_kept, longer_keeps, longer_kept, stands_later, stands_more}
use Rattle.qw_operator.proofs.Stood.{Stood}
use Rattle.qw_operator.specs.Grouping.{CanGroup, Group, IsGrouped, TakeKinds, aggregates_of, key_fields, turn_of}
use Rattle.qw_operator.proofs.GroupTyped.{fields_many, kinds_of_fields}
use Rattle.qw_operator.proofs.FieldParts.{arguments_use, chosen_over, given, kinds_dropped, over_few, supplied_dropped, supplied_taken, uses_dropped, uses_taken}

-- ---- a table of groups as a sink: its texts stand in the state that has it
abbrev pub HasRows : (c : Cells) → (key : List Field) → (aggregates : List Aggregate) → (k o d u before : ℕ) → (rows : List (List Val)) → (told s : LowState) → Type 0
HasRows c key aggregates k o d u before rows told s = HasGroups (length key) (HasGroup (StandsIn c told) key aggregates) (group_size key aggregates) k o d u before rows s

abbrev pub collecting_sink : (c : Cells) → (key : List Field) → (aggregates : List Aggregate) → (k o d u before : ℕ) → (May : List (List Val) → Type 0) → ((rows more : List (List Val)) → May (rows ++ more) → May rows) → FlowSink
collecting_sink c key aggregates k o d u before May beginnings = record {
  Spared = Before (pos k o);
  Has = λ rows s. HasRows c key aggregates k o d u before rows s s;
  May = May;
  beginnings = beginnings;
}

pub groups_later : (c : Cells) (s t : LowState) (key : List Field) (aggregates : List Aggregate) (k o d u before : ℕ) (rows : List (List Val)) → Longer s t → HasRows c key aggregates k o d u before rows s t → HasRows c key aggregates k o d u before rows t t
groups_later c s t key aggregates k o d u before rows longer h = record {
  part = h.part;
  offset = h.offset;
  room = h.room;
  at = h.at;
  chains = h.chains;
  directory = h.directory;
  linked = λ j low. Linked-map (Entry s) (Entry t) (group_size key aggregates) t.cells t.cells (pos k (o + 4096)) (pos h.part h.offset) (h.chains j) (λ e there. (refl, λ has. later e.part e.offset e.values has)) (h.linked j low);
  home = h.home;
  apart = h.apart;
  all = h.all;
  some = h.some;
  same = h.same;
  paid = h.paid;
}
  where
    Entry : LowState → Cells → ℕ → ℕ → List Val → Type 0
    Entry q = HasGroup (StandsIn c q) key aggregates rows

    also : (p : Part) (at : ℕ) (octets : List ℕ) → StandsIn c s p at octets → StandsIn c t p at octets
    also p at octets text = stands_later c s t p at octets longer text

    later : (p at : ℕ) (values : List Val) → HasGroup (StandsIn c s) key aggregates rows t.cells p at values → HasGroup (StandsIn c t) key aggregates rows t.cells p at values
    later p at values has = (
      has.0,
      cells_map (StandsIn c s) (StandsIn c t) t.cells p (at + 24) values also has.1,
      areas-map (StandsIn c s) (StandsIn c t) also t.cells p (length key) aggregates (members (length key) values rows) (at + cell_offset (length key)) has.2,
    )

-- ---- a row
module _ (c : Cells) (stoods : List Stood) (base most fuel many : ℕ) (types : List ValType) (g : Group) (can : CanGroup g) (fields : List Field) (k o u before : ℕ) (entries chosen : List Val → ℕ) (May : List (List Val) → Type 0) (beginnings : (rows more : List (List Val)) → May (rows ++ more) → May rows)
    (low_d : directory g.table < base) (small : group_size (key_fields g fields) (aggregates_of g fields) + u ≤ page)
    (few_rows : (xs : List (List Val)) → May xs → 1 ≤ length g.functions → length xs ≤ 10 ^ 18)
    (chosen_within : (row : List Val) → AreChosenWithin g.columns g.functions row (chosen row))
    (enough : (xs : List (List Val)) → May xs → before + length (keys (length (key_fields g fields)) xs) * group_size (key_fields g fields) (aggregates_of g fields) + 2 * u < (most + 1) * u)
    (met : (row : List Val) (xs : List (List Val)) → May xs → length (in_slot slot (slot (key_of (length (key_fields g fields)) row)) (keys (length (key_fields g fields)) xs)) ≤ entries row) where
  abbrev key : List Field
  key = key_fields g fields

  abbrev aggregates : List Aggregate
  aggregates = aggregates_of g fields

  abbrev pub grouping_sink : FlowSink
  grouping_sink = collecting_sink c key aggregates k o (directory g.table) u before May beginnings

  pub grouping_kept : (n : ℕ) (rows : List (List Val)) (s t : LowState) → base ≤ n → Kept n s t → grouping_sink.Has rows s → grouping_sink.Has rows t
  grouping_kept n rows s t low kept has =
      groups_later c s t key aggregates k o (directory g.table) u before rows (longer_kept n s t kept)
      (groups_kept (length key) (HasGroup (StandsIn c s) key aggregates) (group_size key aggregates) k o (directory g.table) u before rows n s t (omega (arith, low_d, low)) (omega (arith, low_d, low)) kept has)

  module _ (seen_spared : (j a b : ℕ) (v : Value) → c (Own j) a b ≡ Some v → pos j a + b ≤ pos k o) (a : Statement) (free : ℕ) (groups : Groups (directory g.table) key aggregates free a) (behind : base ≤ free) (long_key : length key ≡ g.columns) where
    collected : (N : ℕ) (vs : List Val) (t : LowState) → 1 + turn_of g entries chosen vs ≤ N → N ≤ fuel → IsLess c t.cells → AllUse (Among free) (sources_of fields) → TakeKinds g.functions (drop g.columns (kinds_of (sources_of fields))) → AllSupply (StandsIn c t) t.locals (sources_of fields) vs → free + 24 ≤ length t.locals →
        FeedsTo grouping_sink most fuel N (Below free) Any (one_row vs) a t
    collected N vs t units turns less uses takes supplied room so_far has may =
        let fixed : FlowSink = groups_sink (length key) (HasGroup (StandsIn c t) key aggregates) (group_size key aggregates) k o (directory g.table) u before May beginnings in
        let whole : 1 + text_octets (key_of (length key) vs) + entries vs * (1 + text_octets (key_of (length key) vs)) + chosen vs ≤ N =
        subst (λ (n : ℕ). 1 + text_octets (take n vs) + entries vs * (1 + text_octets (take n vs)) + chosen vs ≤ N) (sym long_key) (omega (arith, units)) in
        let few : 1 ≤ length aggregates → 1 ≤ length g.functions = λ some. (let fewer = over_few g.functions (drop g.columns fields) in omega (arith, some, fewer)) in
        let met_few : entries vs < N = (let each : entries vs * 1 ≤ entries vs * (1 + text_octets (key_of (length key) vs)) = mul-le (entries vs) 1 (entries vs) (1 + text_octets (key_of (length key) vs)) (omega arith) (omega arith) in omega (arith, each, whole)) in
        Ends-weaker (size a * N) (size a * N) (FedTo fixed (Below free) Any (one_row vs) so_far t) (FedTo grouping_sink (Below free) Any (one_row vs) so_far t) Never Never (Tells (one_row vs).codes) (Tells (one_row vs).codes)
        (meaning most fuel a t) (omega arith)
        (λ w fed. record {
          none = fed.none;
          keeps = fed.keeps;
          has = groups_later c t w key aggregates k o (directory g.table) u before (so_far ++ vs ∷ []) (longer_keeps (Below free) (Before (pos k o)) t w fed.keeps) fed.has;
          after = fed.after;
        })
        (λ w x. x) (λ code x. x)
        (groups_feed (StandsIn c t) key aggregates (directory g.table) free a groups k o u before most fuel (entries vs) (chosen vs) May beginnings vs t
        (omega arith, omega (arith, low_d, behind)) small
        (λ w keeps p at octets text. stands_more c w p at octets (less_keeps c (Below free) (Before (pos k o)) t w seen_spared keeps less) (stands_later c t w p at octets (longer_keeps (Below free) (Before (pos k o)) t w keeps) text))
        (uses_taken (Among free) g.columns fields uses)
        (subst (λ (n : ℕ). AllSupply (StandsIn c t) t.locals (sources_of key) (take n vs)) (sym long_key) (supplied_taken (StandsIn c t) t.locals g.columns fields vs supplied))
        (arguments_use free g.functions (drop g.columns fields) (uses_dropped (Among free) g.columns fields uses))
        (given (StandsIn c t) t.locals vs g.functions (drop g.columns fields) (length key) (drop g.columns vs) (ap (λ (n : ℕ). drop n vs) long_key)
        (subst (TakeKinds g.functions) (sym (kinds_dropped g.columns fields)) takes)
        (supplied_dropped (StandsIn c t) t.locals g.columns fields vs supplied))
        (λ xs may' some. few_rows xs may' (few some))
        (subst (λ (n : ℕ). AreChosenWithin n (functions_in aggregates) vs (chosen vs)) (sym long_key) (chosen_over vs (chosen vs) g.columns g.functions (drop g.columns fields) (chosen_within vs)))
        (omega (arith, whole, turns)) (omega (arith, whole, turns)) room
        N (omega (arith, met_few, turns)) whole enough (met vs) so_far has may)

  module _ (runs : Runs c stoods base grouping_sink) (built : List (List (List Val))) where
    -- where its values are in locals
    pub row_entered : (N next : ℕ) (known : List Known) (row : List Val) (a : Statement) (own : List ValType) (s : LowState) → N ≤ fuel → base ≤ next → next + length own ≤ many → AreWithin next known → AreDeclared types known → AreOwn types next own → (is : IsGrouped fields known next g a own) →
        AllByRecursion HasKind g.values → ((vs : List Val) → values_of g.values (at_row row) ≡ Ok vs → 1 + turn_of g entries chosen vs ≤ N) → Here c stoods many known row s →
        (vs : List Val) (t : LowState) → values_of g.values (at_row row) ≡ Ok vs → Kept next s t → AllSupply (StandsIn c s) t.locals (outs_of (all_moved is.items)) vs → FeedsTo grouping_sink most fuel N (Below next) Any (one_row vs) is.enter t
    row_entered N next known row a own s fueled low room within declared own_types is kinds units here vs t come kept supplied =
        let five = base_high c stoods base grouping_sink runs in
        let long = here.long in
        let own_many : length own ≡ length is.items_own + 24 = ap (λ (l : List ValType). length l) is.own_is ∙ length-append is.items_own group_types in
        let free : ℕ = next + length is.items_own in
        let item_types : AreOwn types next is.items_own = first_own_types types next own is.items_own group_types is.own_is own_types in
        let high : AreHigh is.items = items_high known types next g.values is.items is.items_own (omega (arith, five, low)) within is.computed kinds declared item_types in
        let there = kinds_of_fields fields known next g a own is in
        let count = fields_many fields known next g a own is in
        let many_values = can.many in
        let long_key : length key ≡ g.columns = length-take-le g.columns fields (omega (arith, count, many_values)) in
        let five_kept = kept.many in
        feeds_less grouping_sink most fuel N (Below free) (Below next) Any (one_row vs) is.enter t (λ i old. below-less next free i (omega arith) old)
        (collected runs.seen_spared is.enter free is.groups (omega (arith, low)) long_key N vs t (units vs come) fueled (less_kept c next s t kept here.less)
        (subst (AllUse (Among free)) is.fields_are (items_use known next free g.values is.items is.items_own (omega arith) is.computed high))
        (subst (λ (ks : List (Option Kind)). TakeKinds g.functions (drop g.columns ks)) (sym there) can.arguments)
        (subst (λ (os : List Source). AllSupply (StandsIn c t) t.locals os vs) is.fields_are (supply_map (StandsIn c s) (StandsIn c t) t.locals (outs_of (all_moved is.items)) vs (λ q at' octets. stands_later c s t q at' octets (longer_kept next s t kept)) supplied))
        (omega (arith, five_kept, long, room, own_many)))

    pub group_sunk : (N next : ℕ) (known : List Known) (row : List Val) (a : Statement) (own : List ValType) (s : LowState) → 1 ≤ N → N ≤ fuel → base ≤ next → next + length own ≤ many → AreWithin next known → AreDeclared types known → AreOwn types next own → IsGrouped fields known next g a own →
        AllByRecursion (IsItemAt N row) g.values → AllByRecursion HasKind g.values → ((vs : List Val) → values_of g.values (at_row row) ≡ Ok vs → 1 + turn_of g entries chosen vs ≤ N) → Here c stoods many known row s →
        FeedsTo grouping_sink most fuel N (Below next) Any (fed built [] (select g.values) row) a s
    group_sunk N next known row a own s some fueled low room within declared own_types is at kinds units here =
        let own_many : length own ≡ length is.items_own + 24 = ap (λ (l : List ValType). length l) is.own_is ∙ length-append is.items_own group_types in
        let item_types : AreOwn types next is.items_own = first_own_types types next own is.items_own group_types is.own_is own_types in
        subst (λ (b : Statement). FeedsTo grouping_sink most fuel N (Below next) Any (fed built [] (select g.values) row) b s) (sym is.is)
        (values_feed c stoods base grouping_sink runs most fuel many types N next known row g.values is.items is.items_own (placed (select g.values)) is.enter s some fueled low (omega (arith, room, own_many)) within declared item_types is.computed at kinds here
        (λ vs t come kept supplied. row_entered N next known row a own s fueled low room within declared own_types is kinds units here vs t come kept supplied))
