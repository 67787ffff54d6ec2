-- What a pipeline feeds a table of groups that takes no more of its rows than a local counts down from: all of them, of which the first are taken.
use Rattle.std.proofs.Common.{◌≡◌, ℕ, ◌+◌, ◌*◌, ◌^◌, ◌<◌, ◌≤◌, inl, inr, Some, List, [], ◌++◌, length, length-append, slice_get, slice_set, refl, sym, ap, ◌∙◌, subst, arith}
use Rattle.qw_linear.specs.Memory.{page}
use Rattle.qw_types.specs.declared.value.Val.{Val}
use Rattle.qw_map.proofs.TurnFacts.{slice_get-set_other}
use Rattle.qw_module.specs.declared.instruction.ValType.{ValType}
use Rattle.qw_module.specs.declared.instruction.ValType.TheVariants.{I32, I64}
use Rattle.qw_layout.specs.Hash.{slot}
use Rattle.qw_grouped.specs.Groups.{key_of, keys}
use Rattle.qw_low.specs.Syntax.{Statement}
use Rattle.qw_low.specs.State.{Own, Value, Cells, LowState}
use Rattle.qw_limit.specs.Counting.{guarded_block}
use Rattle.qw_limit.proofs.LimitedFeeds.{guarded_feeds, limit_of, limited_kept}
use Rattle.qw_expr.specs.Computes.{Known}
use Rattle.qw_feed.specs.Feeds.{Any, Sink as FlowSink, FeedsTo}
use Rattle.qw_feed.specs.Frames.{pos, Below}
use Rattle.qw_feed.specs.Room.{HasRoom}
use Rattle.qw_table.specs.Tables.{in_slot}
use Rattle.qw_table.specs.declared.key.Field.{Field}
use Rattle.qw_group.specs.Groups.{AreChosenWithin, group_size, group_types}
use Rattle.qw_group.specs.declared.group.Aggregate.{Aggregate}
use Rattle.qw_physical.specs.Courses.{fed, placed}
use Rattle.qw_physical.specs.Physical.{select}
use Rattle.qw_operator.specs.Carries.{directory}
use Rattle.qw_operator.proofs.CarriedFeeds.{values_feed}
use Rattle.qw_operator.proofs.Filters.{Runs, base_high}
use Rattle.qw_operator.proofs.Promised.{AreOwn, first_own_types}
use Rattle.qw_operator.proofs.Stood.{Stood, built_of}
use Rattle.qw_operator.specs.Grouping.{CanGroup, Group, aggregates_of, key_fields, turn_of}
use Rattle.qw_operator.specs.Puts.{IsGroupedWithin}
use Rattle.qw_operator.proofs.OperatorsFeed.{FeedsEnd}
use Rattle.qw_operator.proofs.GroupedFeeds.{grouped, grouped_runs}
use Rattle.qw_operator.proofs.GroupSunk.{HasRows, groups_later, row_entered}
use Rattle.qw_operator.proofs.RowCounted.{enter_spared}

-- room knows nothing of a local behind its own
pub room_put : (part offset z : ℕ) (v : Value) (s : LowState) → 3 ≤ z → HasRoom part offset s → HasRoom part offset (record s { locals = slice_set s.locals z v })
room_put part offset z v s high h = record {
  last = h.last;
  pages = h.pages;
  within = h.within;
  free = slice_get-set_other s.locals z 1 v (λ e. omega (arith, e, high)) ∙ h.free;
  left = slice_get-set_other s.locals z 2 v (λ e. omega (arith, e, high)) ∙ h.left;
  zeros = h.zeros;
  owned = h.owned;
  limited = h.limited;
  few = h.few;
}

-- a table of groups knows nothing of a local that is neither free space's nor leads to it
groups_put : (c : Cells) (s : LowState) (key : List Field) (aggregates : List Aggregate) (k o d u before z : ℕ) (v : Value) (rows : List (List Val)) → 3 ≤ z → z < d → HasRows c key aggregates k o d u before rows s s →
    HasRows c key aggregates k o d u before rows (record s { locals = slice_set s.locals z v }) (record s { locals = slice_set s.locals z v })
groups_put c s key aggregates k o d u before z v rows high low h =
    groups_later c s (record s { locals = slice_set s.locals z v }) key aggregates k o d u before rows (record { columns = refl; own = λ j size is. is }) (record {
      part = h.part;
      offset = h.offset;
      room = room_put h.part h.offset z v s high h.room;
      at = slice_get-set_other s.locals z d v (λ e. omega (arith, e, low)) ∙ h.at;
      chains = h.chains;
      directory = h.directory;
      linked = h.linked;
      home = h.home;
      apart = h.apart;
      all = h.all;
      some = h.some;
      same = h.same;
      paid = h.paid;
    })

-- As where all rows are taken; of those that are taken there may be these. The local is one of two that pipelines leave alone, and an i64; it counts from
-- the most rows that are taken.
module _ (c : Cells) (stoods : List Stood) (base : ℕ) (high : 5 + length stoods ≤ base) (most fuel many : ℕ) (types : List ValType) (g : Group) (can : CanGroup g) (fields : List Field) (k o u before : ℕ) (entries chosen : List Val → ℕ) (May : List (List Val) → Type 0) (beginnings : (rows more : List (List Val)) → May (rows ++ more) → May rows)
    (low_d : directory g.table < base) (small : group_size (key_fields g fields) (aggregates_of g fields) + u ≤ page)
    (few_rows : (xs : List (List Val)) → May xs → 1 ≤ length g.functions → length xs ≤ 10 ^ 18)
    (chosen_within : (row : List Val) → AreChosenWithin g.columns g.functions row (chosen row))
    (enough : (xs : List (List Val)) → May xs → before + length (keys (length (key_fields g fields)) xs) * group_size (key_fields g fields) (aggregates_of g fields) + 2 * u < (most + 1) * u)
    (met : (row : List Val) (xs : List (List Val)) → May xs → length (in_slot slot (slot (key_of (length (key_fields g fields)) row)) (keys (length (key_fields g fields)) xs)) ≤ entries row)
    (seen_before : (j a w : ℕ) (v : Value) → c (Own j) a w ≡ Some v → pos j a + w ≤ pos k o) (tables_before : (t : ℕ) (st : Stood) → slice_get stoods t ≡ Some st → st.front ≤ pos k o)
    (limit z : ℕ) (counted : limit < 2 ^ 64) (place : (3 ≤ z) × (z ≤ 4)) (free_is : slice_get types 1 ≡ Some I32) (left_is : slice_get types 2 ≡ Some I32) (z_is : slice_get types z ≡ Some I64) (directory_is : slice_get types (directory g.table) ≡ Some I32) where
  abbrev all : FlowSink
  all = grouped c stoods base high most fuel many types g can fields k o u before entries chosen May beginnings low_d small few_rows chosen_within enough met seen_before tables_before

  all_runs : Runs c stoods base all
  all_runs = grouped_runs c stoods base high most fuel many types g can fields k o u before entries chosen May beginnings low_d small few_rows chosen_within enough met seen_before tables_before

  abbrev pub first_grouped : FlowSink
  first_grouped = limit_of limit z (grouped c stoods base high most fuel many types g can fields k o u before entries chosen May beginnings low_d small few_rows chosen_within enough met seen_before tables_before)

  pub first_grouped_runs : Runs c stoods base first_grouped
  first_grouped_runs = record {
    high = high;
    kept = λ n rows s t le kept has. limited_kept limit z all n rows s t (omega (arith, place.1, high, le)) kept (λ xs taken. all_runs.kept n xs s t le kept taken) has;
    seen_spared = all_runs.seen_spared;
    tables_spared = all_runs.tables_spared;
  }

  abbrev pub GuardedEnd : List Known → (next : ℕ) → Statement → List ValType → Type 0
  GuardedEnd known next a own = IsGroupedWithin (Some z) fields known next g a own

  abbrev pub guarded_turn : List Val → ℕ
  guarded_turn = turn_of g entries chosen

  -- what the block of one row feeds
  pub row_guarded : FeedsEnd c stoods base first_grouped most fuel many types GuardedEnd (select g.values) guarded_turn
  row_guarded N next known row a own s some fueled low room within declared own_types h at kinds few units here =
      let is = h.grouped in
      let five = base_high c stoods base all all_runs in
      let own_many : length own ≡ length is.items_own + 24 = ap (λ (l : List ValType). length l) is.own_is ∙ length-append is.items_own group_types in
      let item_types : AreOwn types next is.items_own = first_own_types types next own is.items_own group_types is.own_is own_types in
      let spares = enter_spared types free_is left_is z place z_is fields g can directory_is known next own h.plain is (omega (arith, five, low)) within declared own_types in
      subst (λ (b : Statement). FeedsTo first_grouped most fuel N (Below next) Any (fed (built_of stoods) [] (select g.values) row) b s) (sym h.is)
      (values_feed c stoods base first_grouped first_grouped_runs most fuel many types N next known row g.values is.items is.items_own (placed (select g.values)) (guarded_block z is.enter) s some fueled low (omega (arith, room, own_many)) within declared item_types is.computed at kinds here
      (λ vs t come kept supplied.
      guarded_feeds limit z counted all (λ rows v w has. groups_put c w (key_fields g fields) (aggregates_of g fields) k o (directory g.table) u before z v rows place.0 (omega (arith, place.1)) has)
      most fuel N some (Below next) not_old vs is.enter spares t
      (row_entered c stoods base most fuel many types g can fields k o u before entries chosen May beginnings low_d small few_rows chosen_within enough met all_runs (built_of stoods) N next known row h.plain own s fueled low room within declared own_types is kinds units here vs t come kept supplied)))
    where
      not_old : (i : ℕ) → Below next i → i ≡ z → ⊥
      not_old i (inl first) e = omega (arith, first, e, place.0)
      not_old i (inr later) e = omega (arith, later.0, e, place.1)
