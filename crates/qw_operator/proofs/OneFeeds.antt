-- What a pipeline feeds the areas of set functions where all its rows are one group: exactly its rows.
use Rattle.std.proofs.Common.{◌≡◌, ℕ, ◌+◌, ◌*◌, ◌^◌, ◌<◌, ◌≤◌, Some, List, [], ◌∷◌, ◌++◌, length, length-append, map, drop, Ok, slice_get, refl, sym, ap, ◌∙◌, subst, arith}
use Rattle.qw_types.specs.declared.value.Val.{Val}
use Rattle.qw_module.specs.declared.instruction.ValType.{ValType}
use Rattle.std.specs.List.{AllByRecursion}
use Rattle.qw_meaning.specs.Flow.{values_of}
use Rattle.qw_scalar.specs.Evaluation.{at_row}
use Rattle.qw_scalar.specs.Typing.{HasKind, kind_of}
use Rattle.qw_low.specs.Syntax.{Statement}
use Rattle.qw_low.specs.State.{Part, Own, Value, Cells, LowState}
use Rattle.qw_low.specs.Meaning.{meaning}
use Rattle.qw_low.specs.Size.{size}
use Rattle.qw_low.specs.Raising.{Kept}
use Rattle.qw_low.proofs.LessKnown.{IsLess}
use Rattle.qw_low.proofs.Promises.{Ends-weaker}
use Rattle.qw_expr.specs.Computes.{Known, AreDeclared}
use Rattle.qw_feed.specs.Cells.{Source, AllSupply, AllUse, kinds_of}
use Rattle.qw_feed.specs.Feeds.{Any, Sink as FlowSink, FedTo, FeedsTo, Tells, one_row}
use Rattle.qw_feed.specs.Frames.{pos, Before, Below}
use Rattle.qw_feed.specs.Room.{Paid}
use Rattle.qw_feed.specs.Stages.{Among, outs_of}
use Rattle.qw_feed.proofs.FeedRules.{feeds_less}
use Rattle.qw_feed.proofs.Frames.{Never, below-less}
use Rattle.qw_feed.proofs.RoomRuns.{room-kept}
use Rattle.qw_table.specs.Joins.{sources_of}
use Rattle.qw_table.specs.declared.key.Field.{Field}
use Rattle.qw_group.specs.Areas.{area_types}
use Rattle.qw_group.specs.Groups.{AreChosenWithin, HasAreas, UpdatesAreas}
use Rattle.qw_group.specs.Single.{HasSingle, single_sink}
use Rattle.qw_group.specs.declared.group.Aggregate.{Aggregate}
use Rattle.qw_group.proofs.EntryAreas.{areas-map}
use Rattle.qw_group.proofs.SingleRuns.{single_feeds}
use Rattle.qw_physical.specs.Courses.{fed, placed}
use Rattle.qw_physical.specs.Physical.{select}
use Rattle.qw_operator.specs.Carries.{all_moved, directory}
use Rattle.qw_operator.proofs.CarriedFeeds.{supply_map, values_feed}
use Rattle.qw_operator.proofs.Filters.{Runs, Here, base_high}
use Rattle.qw_operator.proofs.Promised.{AreHigh, AreOwn, first_own_types, items_high, items_kinds, items_use, kinds_moved}
use Rattle.qw_operator.proofs.Seen.{AreWithin, Longer, StandsIn, less_keeps, less_kept, longer_keeps, longer_kept, stands_later, stands_more}
use Rattle.qw_operator.proofs.Stood.{Stood, built_of}
use Rattle.qw_operator.specs.Grouping.{CanGroup, Group, TakeKinds, over_fields}
use Rattle.qw_operator.specs.OneGroup.{IsOneGroup}
use Rattle.qw_operator.proofs.OperatorsFeed.{FeedsEnd}
use Rattle.qw_operator.proofs.FieldParts.{arguments_use, chosen_over, given, over_few}

-- ---- areas as a sink: its texts stand in the state that has them
abbrev pub HasOne : (c : Cells) → (aggregates : List Aggregate) → (k o e u budget : ℕ) → (rows : List (List Val)) → (told s : LowState) → Type 0
HasOne c aggregates k o e u budget rows told s = HasSingle (StandsIn c told) aggregates k o e u budget rows s

abbrev pub one_sink : (c : Cells) → (aggregates : List Aggregate) → (k o e u budget : ℕ) → (May : List (List Val) → Type 0) → ((rows more : List (List Val)) → May (rows ++ more) → May rows) → FlowSink
one_sink c aggregates k o e u budget May beginnings = record {
  Spared = Before (pos k o);
  Has = λ rows s. HasOne c aggregates k o e u budget rows s s;
  May = May;
  beginnings = beginnings;
}

pub one_later : (c : Cells) (s t : LowState) (aggregates : List Aggregate) (k o e u budget : ℕ) (rows : List (List Val)) → Longer s t → HasOne c aggregates k o e u budget rows s t → HasOne c aggregates k o e u budget rows t t
one_later c s t aggregates k o e u budget rows longer h = record {
  part = h.part;
  offset = h.offset;
  room = h.room;
  at = h.at;
  sized = h.sized;
  inside = h.inside;
  behind = h.behind;
  areas = areas-map (StandsIn c s) (StandsIn c t) (λ p at octets text. stands_later c s t p at octets longer text) t.cells k 0 aggregates rows o h.areas;
  paid = h.paid;
}

one_moved : (Text : Part → ℕ → List ℕ → Type 0) (aggregates : List Aggregate) (k o e u budget : ℕ) (rows : List (List Val)) (n : ℕ) (s t : LowState) → 3 ≤ n → e < n → Kept n s t → HasSingle Text aggregates k o e u budget rows s → HasSingle Text aggregates k o e u budget rows t
one_moved Text aggregates k o e u budget rows n s t high low kept h = record {
  part = h.part;
  offset = h.offset;
  room = room-kept h.part h.offset n s t high kept h.room;
  at = kept.below e low ∙ h.at;
  sized = ap (λ (q : LowState). slice_get q.own k) kept.others ∙ h.sized;
  inside = h.inside;
  behind = h.behind;
  areas = subst (λ (cells : Cells). HasAreas Text 0 aggregates rows cells k o) (sym (ap (λ (q : LowState). q.cells) kept.others)) h.areas;
  paid = subst (λ (held : ℕ). Paid u budget h.offset held) (sym (ap (λ (q : LowState). q.held) kept.others)) h.paid;
}

-- The areas stand behind what is seen and the tables. Of the rows that there may be MIN and MAX compare so many octets at a row; where there are set
-- functions there are at most 10^18 rows.
module _ (c : Cells) (stoods : List Stood) (base : ℕ) (high : 5 + length stoods ≤ base) (most fuel many : ℕ) (types : List ValType) (g : Group) (can : CanGroup g) (none : g.columns ≡ 0) (fields : List Field) (k o u budget : ℕ) (chosen : List Val → ℕ) (May : List (List Val) → Type 0)
    (beginnings : (rows more : List (List Val)) → May (rows ++ more) → May rows) (low_e : directory g.table < base) (few_rows : (xs : List (List Val)) → May xs → 1 ≤ length g.functions → length xs ≤ 10 ^ 18)
    (chosen_within : (row : List Val) → AreChosenWithin 0 g.functions row (chosen row))
    (seen_before : (j a w : ℕ) (v : Value) → c (Own j) a w ≡ Some v → pos j a + w ≤ pos k o) (tables_before : (t : ℕ) (st : Stood) → slice_get stoods t ≡ Some st → st.front ≤ pos k o) where
  abbrev aggregates : List Aggregate
  aggregates = over_fields g.functions fields

  abbrev e : ℕ
  e = directory g.table

  abbrev pub taken : FlowSink
  taken = one_sink c aggregates k o e u budget May beginnings

  pub taken_runs : Runs c stoods base taken
  taken_runs = record {
    high = high;
    kept = λ n rows s t le kept has. one_later c s t aggregates k o e u budget rows (longer_kept n s t kept) (one_moved (StandsIn c s) aggregates k o e u budget rows n s t (omega (arith, high, le)) (omega (arith, low_e, le)) kept has);
    seen_spared = seen_before;
    tables_spared = λ t st there at width from to. (let order = tables_before t st there in omega (arith, order, to));
  }

  abbrev pub End : List Known → (next : ℕ) → Statement → List ValType → Type 0
  End known next a own = IsOneGroup fields known next g a own

  module _ (a : Statement) (free : ℕ) (updates : UpdatesAreas e 0 free aggregates a) (behind : base ≤ free) where
    collected : (N : ℕ) (vs : List Val) (t : LowState) → 1 + chosen vs ≤ N → N ≤ fuel → IsLess c t.cells → AllUse (Among free) (sources_of fields) → TakeKinds g.functions (kinds_of (sources_of fields)) → AllSupply (StandsIn c t) t.locals (sources_of fields) vs → free + 9 ≤ length t.locals →
        FeedsTo taken most fuel N (Below free) Any (one_row vs) a t
    collected N vs t units turns less uses takes supplied room so_far has may =
        let fixed : FlowSink = single_sink (StandsIn c t) aggregates k o e u budget May beginnings in
        let few : 1 ≤ length aggregates → 1 ≤ length g.functions = λ some. (let fewer = over_few g.functions fields in omega (arith, some, fewer)) in
        Ends-weaker (size a * N) (size a * N) (FedTo fixed (Below free) Any (one_row vs) so_far t) (FedTo taken (Below free) Any (one_row vs) so_far t) Never Never (Tells (one_row vs).codes) (Tells (one_row vs).codes)
        (meaning most fuel a t) (omega arith)
        (λ w fed. record { none = fed.none; keeps = fed.keeps; has = one_later c t w aggregates k o e u budget (so_far ++ vs ∷ []) (longer_keeps (Below free) (Before (pos k o)) t w fed.keeps) fed.has; after = fed.after })
        (λ w x. x) (λ code x. x)
        (single_feeds (StandsIn c t) aggregates e free a updates (omega arith, omega (arith, low_e, behind)) (arguments_use free g.functions fields uses) k o u budget most fuel (chosen vs) N May beginnings vs t
        (λ w keeps p at octets text. stands_more c w p at octets (less_keeps c (Below free) (Before (pos k o)) t w seen_before keeps less) (stands_later c t w p at octets (longer_keeps (Below free) (Before (pos k o)) t w keeps) text))
        (given (StandsIn c t) t.locals vs g.functions fields 0 vs refl takes supplied)
        (λ xs may' some. few_rows xs may' (few some)) (chosen_over vs (chosen vs) 0 g.functions fields (chosen_within vs)) units turns room so_far has may)

  -- where its values are in locals
  pub one_entered : (N next : ℕ) (known : List Known) (row : List Val) (a : Statement) (own : List ValType) (s : LowState) → N ≤ fuel → base ≤ next → next + length own ≤ many → AreWithin next known → AreDeclared types known → AreOwn types next own → (is : IsOneGroup fields known next g a own) →
      AllByRecursion HasKind g.values → ((vs : List Val) → values_of g.values (at_row row) ≡ Ok vs → 1 + chosen vs ≤ N) → Here c stoods many known row s →
      (vs : List Val) (t : LowState) → values_of g.values (at_row row) ≡ Ok vs → Kept next s t → AllSupply (StandsIn c s) t.locals (outs_of (all_moved is.items)) vs → FeedsTo taken most fuel N (Below next) Any (one_row vs) is.enter t
  one_entered N next known row a own s fueled low room within declared own_types is kinds units here vs t come kept supplied =
      let five = base_high c stoods base taken taken_runs in
      let long = here.long in
      let own_many : length own ≡ length is.items_own + 9 = ap (λ (l : List ValType). length l) is.own_is ∙ length-append is.items_own area_types in
      let free : ℕ = next + length is.items_own in
      let item_types : AreOwn types next is.items_own = first_own_types types next own is.items_own area_types is.own_is own_types in
      let high_items : AreHigh is.items = items_high known types next g.values is.items is.items_own (omega (arith, five, low)) within is.computed kinds declared item_types in
      let there : kinds_of (sources_of fields) ≡ map kind_of g.values = ap kinds_of (sym is.fields_are) ∙ (kinds_moved is.items ∙ items_kinds known next g.values is.items is.items_own is.computed) in
      let five_kept = kept.many in
      feeds_less taken most fuel N (Below free) (Below next) Any (one_row vs) is.enter t (λ i old. below-less next free i (omega arith) old)
      (collected is.enter free is.updates (omega (arith, low)) N vs t (units vs come) fueled (less_kept c next s t kept here.less)
      (subst (AllUse (Among free)) is.fields_are (items_use known next free g.values is.items is.items_own (omega arith) is.computed high_items))
      (subst (TakeKinds g.functions) (sym there) (subst (λ (n : ℕ). TakeKinds g.functions (drop n (map kind_of g.values))) none can.arguments))
      (subst (λ (os : List Source). AllSupply (StandsIn c t) t.locals os vs) is.fields_are (supply_map (StandsIn c s) (StandsIn c t) t.locals (outs_of (all_moved is.items)) vs (λ q at' octets. stands_later c s t q at' octets (longer_kept next s t kept)) supplied))
      (omega (arith, five_kept, long, room, own_many)))

  -- what the block of one row feeds
  pub row_taken : FeedsEnd c stoods base taken most fuel many types End (select g.values) chosen
  row_taken N next known row a own s some fueled low room within declared own_types is at kinds few units here =
      let own_many : length own ≡ length is.items_own + 9 = ap (λ (l : List ValType). length l) is.own_is ∙ length-append is.items_own area_types in
      let item_types : AreOwn types next is.items_own = first_own_types types next own is.items_own area_types is.own_is own_types in
      subst (λ (b : Statement). FeedsTo taken most fuel N (Below next) Any (fed (built_of stoods) [] (select g.values) row) b s) (sym is.is)
      (values_feed c stoods base taken taken_runs most fuel many types N next known row g.values is.items is.items_own (placed (select g.values)) is.enter s some fueled low (omega (arith, room, own_many)) within declared item_types is.computed at kinds here
      (λ vs t come kept supplied. one_entered N next known row a own s fueled low room within declared own_types is kinds units here vs t come kept supplied))
