-- What a pipeline feeds the one group of all rows that takes no more of them than a local counts down from: all of them, of which the first are taken.
use Rattle.std.proofs.Common.{◌≡◌, ℕ, ◌+◌, ◌^◌, ◌<◌, ◌≤◌, inl, inr, Some, List, [], ◌++◌, length, length-append, slice_get, slice_set, refl, sym, ap, ◌∙◌, subst, arith}
use Rattle.qw_types.specs.declared.value.Val.{Val}
use Rattle.qw_map.proofs.TurnFacts.{slice_get-set_other}
use Rattle.qw_module.specs.declared.instruction.ValType.{ValType}
use Rattle.qw_module.specs.declared.instruction.ValType.TheVariants.{I32, I64}
use Rattle.qw_low.specs.Syntax.{Statement}
use Rattle.qw_low.specs.State.{Own, Value, Cells, LowState}
use Rattle.qw_limit.specs.Counting.{guarded_block}
use Rattle.qw_limit.proofs.LimitedFeeds.{guarded_feeds, limit_of, limited_kept}
use Rattle.qw_expr.specs.Computes.{Known}
use Rattle.qw_feed.specs.Feeds.{Any, Sink as FlowSink, FeedsTo}
use Rattle.qw_feed.specs.Frames.{pos, Below}
use Rattle.qw_table.specs.declared.key.Field.{Field}
use Rattle.qw_group.specs.Areas.{area_types}
use Rattle.qw_group.specs.Groups.{AreChosenWithin}
use Rattle.qw_group.specs.declared.group.Aggregate.{Aggregate}
use Rattle.qw_physical.specs.Courses.{fed, placed}
use Rattle.qw_physical.specs.Physical.{select}
use Rattle.qw_operator.specs.Carries.{directory}
use Rattle.qw_operator.proofs.CarriedFeeds.{values_feed}
use Rattle.qw_operator.proofs.Filters.{Runs, base_high}
use Rattle.qw_operator.proofs.Promised.{AreOwn, first_own_types}
use Rattle.qw_operator.proofs.Stood.{Stood, built_of}
use Rattle.qw_operator.specs.Grouping.{CanGroup, Group, over_fields}
use Rattle.qw_operator.specs.Puts.{IsOneGroupWithin}
use Rattle.qw_operator.proofs.OperatorsFeed.{FeedsEnd}
use Rattle.qw_operator.proofs.LimitedFeeds.{room_put}
use Rattle.qw_operator.proofs.OneFeeds.{HasOne, one_entered, one_later, taken, taken_runs}
use Rattle.qw_operator.proofs.RowCounted.{one_enter_spared}

-- the areas know nothing of a local that is neither free space's nor leads to them
one_put : (c : Cells) (s : LowState) (aggregates : List Aggregate) (k o e u budget z : ℕ) (v : Value) (rows : List (List Val)) → 3 ≤ z → z < e → HasOne c aggregates k o e u budget rows s s →
    HasOne c aggregates k o e u budget rows (record s { locals = slice_set s.locals z v }) (record s { locals = slice_set s.locals z v })
one_put c s aggregates k o e u budget z v rows high low h =
    one_later c s (record s { locals = slice_set s.locals z v }) aggregates k o e u budget rows (record { columns = refl; own = λ j size is. is }) (record {
      part = h.part;
      offset = h.offset;
      room = room_put h.part h.offset z v s high h.room;
      at = slice_get-set_other s.locals z e v (λ i. omega (arith, i, low)) ∙ h.at;
      sized = h.sized;
      inside = h.inside;
      behind = h.behind;
      areas = h.areas;
      paid = h.paid;
    })

-- As where all rows are taken; of those that are taken there may be these. The local is one of two that pipelines leave alone, and an i64; it counts from
-- the most rows that are taken.
module _ (c : Cells) (stoods : List Stood) (base : ℕ) (high : 5 + length stoods ≤ base) (most fuel many : ℕ) (types : List ValType) (g : Group) (can : CanGroup g) (none : g.columns ≡ 0) (fields : List Field) (k o u budget : ℕ) (chosen : List Val → ℕ) (May : List (List Val) → Type 0)
    (beginnings : (rows more : List (List Val)) → May (rows ++ more) → May rows) (low_e : directory g.table < base) (few_rows : (xs : List (List Val)) → May xs → 1 ≤ length g.functions → length xs ≤ 10 ^ 18)
    (chosen_within : (row : List Val) → AreChosenWithin 0 g.functions row (chosen row))
    (seen_before : (j a w : ℕ) (v : Value) → c (Own j) a w ≡ Some v → pos j a + w ≤ pos k o) (tables_before : (t : ℕ) (st : Stood) → slice_get stoods t ≡ Some st → st.front ≤ pos k o)
    (limit z : ℕ) (counted : limit < 2 ^ 64) (place : (3 ≤ z) × (z ≤ 4)) (free_is : slice_get types 1 ≡ Some I32) (left_is : slice_get types 2 ≡ Some I32) (z_is : slice_get types z ≡ Some I64) (directory_is : slice_get types (directory g.table) ≡ Some I32) where
  abbrev all : FlowSink
  all = taken c stoods base high most fuel many types g can none fields k o u budget chosen May beginnings low_e few_rows chosen_within seen_before tables_before

  all_runs : Runs c stoods base all
  all_runs = taken_runs c stoods base high most fuel many types g can none fields k o u budget chosen May beginnings low_e few_rows chosen_within seen_before tables_before

  abbrev pub first_taken : FlowSink
  first_taken = limit_of limit z (taken c stoods base high most fuel many types g can none fields k o u budget chosen May beginnings low_e few_rows chosen_within seen_before tables_before)

  pub first_taken_runs : Runs c stoods base first_taken
  first_taken_runs = record {
    high = high;
    kept = λ n rows s t le kept has. limited_kept limit z all n rows s t (omega (arith, place.1, high, le)) kept (λ xs before. all_runs.kept n xs s t le kept before) has;
    seen_spared = all_runs.seen_spared;
    tables_spared = all_runs.tables_spared;
  }

  abbrev pub GuardedEnd : List Known → (next : ℕ) → Statement → List ValType → Type 0
  GuardedEnd known next a own = IsOneGroupWithin (Some z) fields known next g a own

  -- what the block of one row feeds
  pub row_first_taken : FeedsEnd c stoods base first_taken most fuel many types GuardedEnd (select g.values) chosen
  row_first_taken N next known row a own s some fueled low room within declared own_types h at kinds few units here =
      let is = h.grouped in
      let five = base_high c stoods base all all_runs in
      let own_many : length own ≡ length is.items_own + 9 = ap (λ (l : List ValType). length l) is.own_is ∙ length-append is.items_own area_types in
      let item_types : AreOwn types next is.items_own = first_own_types types next own is.items_own area_types is.own_is own_types in
      let spares = one_enter_spared types free_is left_is z place z_is fields g can directory_is none known next own h.plain is (omega (arith, five, low)) within declared own_types in
      subst (λ (b : Statement). FeedsTo first_taken most fuel N (Below next) Any (fed (built_of stoods) [] (select g.values) row) b s) (sym h.is)
      (values_feed c stoods base first_taken first_taken_runs most fuel many types N next known row g.values is.items is.items_own (placed (select g.values)) (guarded_block z is.enter) s some fueled low (omega (arith, room, own_many)) within declared item_types is.computed at kinds here
      (λ vs t come kept supplied.
      guarded_feeds limit z counted all (λ rows v w has. one_put c w (over_fields g.functions fields) k o (directory g.table) u budget z v rows place.0 (omega (arith, place.1)) has)
      most fuel N some (Below next) not_old vs is.enter spares t
      (one_entered c stoods base high most fuel many types g can none fields k o u budget chosen May beginnings low_e few_rows chosen_within seen_before tables_before N next known row h.plain own s fueled low room within declared own_types is kinds units here vs t come kept supplied)))
    where
      not_old : (i : ℕ) → Below next i → i ≡ z → ⊥
      not_old i (inl first) e = omega (arith, first, e, place.0)
      not_old i (inr later) e = omega (arith, later.0, e, place.1)
