-- What a pipeline feeds a table of groups: exactly its rows.
use Rattle.std.proofs.Common.{◌≡◌, ℕ, ◌+◌, ◌*◌, ◌^◌, ◌<◌, ◌≤◌, Some, List, ◌++◌, length, slice_get, arith}
use Rattle.qw_linear.specs.Memory.{page}
use Rattle.qw_types.specs.declared.value.Val.{Val}
use Rattle.qw_module.specs.declared.instruction.ValType.{ValType}
use Rattle.qw_layout.specs.Hash.{slot}
use Rattle.qw_grouped.specs.Groups.{key_of, keys}
use Rattle.qw_low.specs.Syntax.{Statement}
use Rattle.qw_low.specs.State.{Own, Value, Cells}
use Rattle.qw_expr.specs.Computes.{Known}
use Rattle.qw_feed.specs.Feeds.{Sink as FlowSink}
use Rattle.qw_feed.specs.Frames.{pos}
use Rattle.qw_table.specs.Tables.{in_slot}
use Rattle.qw_table.specs.declared.key.Field.{Field}
use Rattle.qw_group.specs.Groups.{AreChosenWithin, group_size}
use Rattle.qw_physical.specs.Physical.{select}
use Rattle.qw_operator.specs.Carries.{directory}
use Rattle.qw_operator.proofs.Filters.{Runs}
use Rattle.qw_operator.proofs.Stood.{Stood, built_of}
use Rattle.qw_operator.specs.Grouping.{CanGroup, Group, IsGrouped, aggregates_of, key_fields, turn_of}
use Rattle.qw_operator.proofs.OperatorsFeed.{FeedsEnd}
use Rattle.qw_operator.proofs.GroupSunk.{group_sunk, grouping_kept, grouping_sink}

-- The table's directory stands behind what is seen and the other tables. Of the rows that there may be the slot of a row has so many entries, and MIN and
-- MAX compare so many octets at it; where there are set functions there are at most 10^18 rows.
module _ (c : Cells) (stoods : List Stood) (base : ℕ) (high : 5 + length stoods ≤ base) (most fuel many : ℕ) (types : List ValType) (g : Group) (can : CanGroup g) (fields : List Field) (k o u before : ℕ) (entries chosen : List Val → ℕ) (May : List (List Val) → Type 0) (beginnings : (rows more : List (List Val)) → May (rows ++ more) → May rows)
    (low_d : directory g.table < base) (small : group_size (key_fields g fields) (aggregates_of g fields) + u ≤ page)
    (few_rows : (xs : List (List Val)) → May xs → 1 ≤ length g.functions → length xs ≤ 10 ^ 18)
    (chosen_within : (row : List Val) → AreChosenWithin g.columns g.functions row (chosen row))
    (enough : (xs : List (List Val)) → May xs → before + length (keys (length (key_fields g fields)) xs) * group_size (key_fields g fields) (aggregates_of g fields) + 2 * u < (most + 1) * u)
    (met : (row : List Val) (xs : List (List Val)) → May xs → length (in_slot slot (slot (key_of (length (key_fields g fields)) row)) (keys (length (key_fields g fields)) xs)) ≤ entries row)
    (seen_before : (j a w : ℕ) (v : Value) → c (Own j) a w ≡ Some v → pos j a + w ≤ pos k o) (tables_before : (t : ℕ) (st : Stood) → slice_get stoods t ≡ Some st → st.front ≤ pos k o) where
  abbrev pub grouped : FlowSink
  grouped = grouping_sink c stoods base most fuel many types g can fields k o u before entries chosen May beginnings low_d small few_rows chosen_within enough met

  pub grouped_runs : Runs c stoods base grouped
  grouped_runs = record {
    high = high;
    kept = λ n rows s t le kept has. grouping_kept c stoods base most fuel many types g can fields k o u before entries chosen May beginnings low_d small few_rows chosen_within enough met n rows s t le kept has;
    seen_spared = seen_before;
    tables_spared = λ t st there at width from to. (let order = tables_before t st there in omega (arith, order, to));
  }

  abbrev pub End : List Known → (next : ℕ) → Statement → List ValType → Type 0
  End known next a own = IsGrouped fields known next g a own

  abbrev pub turn : List Val → ℕ
  turn = turn_of g entries chosen

  -- what the block of one row feeds
  pub row_grouped : FeedsEnd c stoods base grouped most fuel many types End (select g.values) turn
  row_grouped N next known row a own s some fueled low room within declared own_types is at kinds few units here =
      group_sunk c stoods base most fuel many types g can fields k o u before entries chosen May beginnings low_d small few_rows chosen_within enough met grouped_runs (built_of stoods) N next known row a own s some fueled low room within declared own_types is at kinds units here
