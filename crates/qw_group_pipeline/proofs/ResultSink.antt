-- The result as what takes the rows of a walk, or of all rows as one group, with tables standing: its rows stand behind them, and behind what is seen.
use Rattle.std.proofs.Common.{◌≡◌, ℕ, ◌+◌, ◌*◌, ◌<◌, ◌≤◌, inr, List, ◌++◌, length, Some, slice_get, arith}
use Rattle.qw_linear.specs.Memory.{page}
use Rattle.qw_types.specs.declared.value.Val.{Val}
use Rattle.qw_module.specs.declared.instruction.ValType.{ValType}
use Rattle.qw_scalar.specs.Expression.{Expression}
use Rattle.qw_low.specs.State.{Own, Value, Cells}
use Rattle.qw_feed.specs.Frames.{pos}
use Rattle.qw_feed.specs.Rows.{BesideRoot}
use Rattle.qw_feed.specs.Feeds.{Sink as FlowSink}
use Rattle.qw_physical.specs.Physical.{select}
use Rattle.qw_operator.proofs.Filters.{Runs}
use Rattle.qw_operator.proofs.SinkFeeds.{select_sunk, selecting_kept, selecting_sink}
use Rattle.qw_operator.proofs.Stood.{Stood, built_of}
use Rattle.qw_operator.proofs.WholeFeeds.{FeedsSink}

module _ (c : Cells) (stoods : List Stood) (base : ℕ) (high : 5 + length stoods ≤ base) (most fuel many : ℕ) (types : List ValType) (items : List Expression) (rows_base u before : ℕ) (May : List (List Val) → Type 0) (beginnings : (rows more : List (List Val)) → May (rows ++ more) → May rows)
    (small : 8 + 16 * length items + u ≤ page) (enough : (rows : List (List Val)) → May rows → before + length rows * (8 + 16 * length items) + 2 * u < (most + 1) * u)
    (seen_beside : (k a b : ℕ) (v : Value) → c (Own k) a b ≡ Some v → BesideRoot rows_base (pos k a) b) (tables_before : (t : ℕ) (st : Stood) → slice_get stoods t ≡ Some st → (12 ≤ pos st.part st.offset) × (st.front ≤ rows_base)) where
  abbrev pub result : FlowSink
  result = selecting_sink c stoods base most fuel many types items rows_base u before May beginnings small enough

  pub result_runs : Runs c stoods base (selecting_sink c stoods base most fuel many types items rows_base u before May beginnings small enough)
  result_runs = record {
    high = high;
    kept = λ n rows s t le kept has. selecting_kept c stoods base most fuel many types items rows_base u before May beginnings small enough n rows s t (omega (arith, high, le)) kept has;
    seen_spared = seen_beside;
    tables_spared = λ t st there at width from to. (let order = tables_before t st there in inr (omega (arith, order.0, from), omega (arith, order.1, to)));
  }

  pub result_sunk : FeedsSink c stoods base (selecting_sink c stoods base most fuel many types items rows_base u before May beginnings small enough) most fuel many types (select items)
  result_sunk N next known r a own s some fueled low room within declared own_types so at kinds can units here =
      select_sunk c stoods base most fuel many types items rows_base u before May beginnings small enough result_runs (built_of stoods) N next known r a own s some fueled low room within declared own_types so at kinds here
