-- What a pipeline feeds the result, and what one feeds the table that it builds.
use Rattle.std.proofs.Common.{◌≡◌, ℕ, ◌+◌, ◌*◌, ◌<◌, ◌≤◌, inr, Some, List, ◌++◌, length, slice_get, sym, subst, arith}
use Rattle.qw_linear.specs.Memory.{page}
use Rattle.qw_types.specs.declared.value.Val.{Val}
use Rattle.qw_module.specs.declared.instruction.ValType.{ValType}
use Rattle.qw_layout.specs.Row.{entry_size}
use Rattle.qw_scalar.specs.Expression.{Expression}
use Rattle.qw_low.specs.Syntax.{Statement}
use Rattle.qw_low.specs.State.{Own, Value, Cells, LowState}
use Rattle.qw_expr.specs.Computes.{Known}
use Rattle.qw_read.specs.declared.reader.Reader.{Reader}
use Rattle.qw_feed.specs.Feeds.{Any, Sink as FlowSink, FeedsTo}
use Rattle.qw_feed.specs.Frames.{pos, Below, But}
use Rattle.qw_feed.specs.Rows.{BesideRoot}
use Rattle.qw_feed.specs.Scans.{rows_block}
use Rattle.qw_physical.specs.Courses.{pipeline_cost, pipeline_fed, sink_values}
use Rattle.qw_physical.specs.Physical.{Build, Pipeline, Sink, build, select}
use Rattle.qw_operator.specs.Carries.{IsSunk, directory}
use Rattle.qw_operator.proofs.Filters.{Runs}
use Rattle.qw_operator.proofs.PipelineFeeds.{Scanned, pipeline_feeds}
use Rattle.qw_operator.proofs.OperatorsFeed.{FeedsEnd, sink_turn}
use Rattle.qw_operator.proofs.SinkFeeds.{build_sunk, entering_kept, entering_sink, fields_of, select_sunk, selecting_kept, selecting_sink}
use Rattle.qw_operator.proofs.Stood.{Stood, built_of}

-- what the block of a sink feeds
abbrev pub FeedsSink : (c : Cells) → (stoods : List Stood) → (base : ℕ) → (sink : FlowSink) → (most fuel many : ℕ) → (types : List ValType) → Sink → Type 0
FeedsSink c stoods base sink most fuel many types snk = FeedsEnd c stoods base sink most fuel many types (IsSunk snk) snk (sink_turn snk)

module _ (c : Cells) (stoods : List Stood) (base : ℕ) (high : 5 + length stoods ≤ base) (most fuel many : ℕ) (types : List ValType) (u before : ℕ) (May : List (List Val) → Type 0) (beginnings : (rows more : List (List Val)) → May (rows ++ more) → May rows)
    (tables : List (List (List Val))) (p : Pipeline) (literals : List Known) (readers : List Reader) (left end low next : ℕ) (row : Statement) (own : List ValType) (s0 : LowState) (h : Scanned c stoods literals readers base left end low next many fuel types tables p row own s0) where
  -- ---- the result, whose rows stand behind what is seen and the tables
  module _ (items : List Expression) (rows_base : ℕ) (small : 8 + 16 * length items + u ≤ page) (enough : (rows : List (List Val)) → May rows → before + length rows * (8 + 16 * length items) + 2 * u < (most + 1) * u)
      (seen_beside : (k a b : ℕ) (v : Value) → c (Own k) a b ≡ Some v → BesideRoot rows_base (pos k a) b) (tables_before : (t : ℕ) (st : Stood) → slice_get stoods t ≡ Some st → (12 ≤ pos st.part st.offset) × (st.front ≤ rows_base)) where
    abbrev pub result : FlowSink
    result = selecting_sink c stoods base most fuel many types items rows_base u before May beginnings small enough

    pub result_runs : Runs c stoods base result
    result_runs = record {
      high = high;
      kept = λ n rows s t le kept has. selecting_kept c stoods base most fuel many types items rows_base u before May beginnings small enough n rows s t (omega (arith, high, le)) kept has;
      seen_spared = seen_beside;
      tables_spared = λ t st there at width from to. (let order = tables_before t st there in inr (omega (arith, order.0, from), omega (arith, order.1, to)));
    }

    pub selected_feeds : p.sink ≡ select items → FeedsTo result most fuel (1 + pipeline_cost tables (built_of stoods) p) (But left (Below low)) Any (pipeline_fed tables (built_of stoods) p) (rows_block left row) s0
    selected_feeds is =
        let sunk : FeedsSink c stoods base result most fuel many types (select items) =
        λ N next' known r a own' s some fueled low' room within declared own_types so at kinds can units here.
        select_sunk c stoods base most fuel many types items rows_base u before May beginnings small enough result_runs (built_of stoods) N next' known r a own' s some fueled low' room within declared own_types so at kinds here in
        pipeline_feeds c stoods base result result_runs most fuel many types tables p (subst (FeedsSink c stoods base result most fuel many types) (sym is) sunk) literals readers left end low next row own s0 h

  -- ---- a table, whose directory stands behind what is seen and the other tables
  module _ (b : Build) (k o : ℕ) (low_d : directory b.table < base) (small : entry_size 0 (length (fields_of (sink_values (build b)))) 0 + u ≤ page)
      (enough : (entries : List (List Val)) → May entries → before + length entries * entry_size 0 (length (fields_of (sink_values (build b)))) 0 + 2 * u < (most + 1) * u)
      (seen_before : (j a w : ℕ) (v : Value) → c (Own j) a w ≡ Some v → pos j a + w ≤ pos k o) (tables_before : (t : ℕ) (st : Stood) → slice_get stoods t ≡ Some st → st.front ≤ pos k o) where
    abbrev pub entered : FlowSink
    entered = entering_sink c stoods base most fuel many types b k o u before May beginnings low_d small enough

    pub entered_runs : Runs c stoods base entered
    entered_runs = record {
      high = high;
      kept = λ n rows s t le kept has. entering_kept c stoods base most fuel many types b k o u before May beginnings low_d small enough n rows s t le kept has;
      seen_spared = seen_before;
      tables_spared = λ t st there at width from to. (let order = tables_before t st there in omega (arith, order, to));
    }

    pub built_feeds : p.sink ≡ build b → FeedsTo entered most fuel (1 + pipeline_cost tables (built_of stoods) p) (But left (Below low)) Any (pipeline_fed tables (built_of stoods) p) (rows_block left row) s0
    built_feeds is =
        let sunk : FeedsSink c stoods base entered most fuel many types (build b) =
        λ N next' known r a own' s some fueled low' room within declared own_types so at kinds can units here.
        build_sunk c stoods base most fuel many types b k o u before May beginnings low_d small enough entered_runs (built_of stoods) N next' known r a own' s some fueled low' room within declared own_types so at kinds units here in
        pipeline_feeds c stoods base entered entered_runs most fuel many types tables p (subst (FeedsSink c stoods base entered most fuel many types) (sym is) sunk) literals readers left end low next row own s0 h
