-- How the run of a query ends: the descriptor's words are stored, and lead to the rows of the result.
use Rattle.std.proofs.Common.{◌≡◌, ℕ, ◌+◌, ◌≤◌, List, length, map, Some, sym, subst, arith}
use Rattle.std.proofs.lemmas.List.{length-map}
use Rattle.qw_types.specs.declared.kind.Kind.{Kind}
use Rattle.qw_types.specs.declared.value.Val.{Val}
use Rattle.qw_linear.specs.Memory.{page}
use Rattle.qw_meaning.specs.Outcome as meant
use Rattle.qw_map.specs.Layout.{Layout, descriptor_size, row_size}
use Rattle.qw_low.specs.Begin.{first_state}
use Rattle.qw_low.specs.State.{Own, Cells, LowState}
use Rattle.qw_low.specs.Meaning.{meaning}
use Rattle.qw_low.specs.Promise.{Ends}
use Rattle.qw_low.proofs.Promises.{Ends-weaker}
use Rattle.qw_feed.specs.Frames.{Keeps}
use Rattle.qw_feed.proofs.CellFills.{row-same}
use Rattle.qw_feed.proofs.FinishRuns.{finish_ends}
use Rattle.qw_promise.specs.Promise.{Promise}
use Rattle.qw_feed.specs.Rows.{HasAnswer, HasRows, finish_block, in_order}
use Rattle.qw_feed.specs.Cells.{HasRow}
use Rattle.qw_emit.specs.RunsOf.{first_locals}
use Rattle.qw_emit.proofs.ModuleCompiled.{Ending, Settled, Text}
use Rattle.qw_feed.proofs.Frames.{Never}

-- the places of the first page behind the words of the result, up to the descriptor's end
abbrev pub BehindWords : (descriptor_size at width : ℕ) → Type 0
BehindWords descriptor_size at width = (24 ≤ at) × (at + width ≤ descriptor_size)

module _ (layout : Layout) (tables : List (List (List Val))) (limit others : ℕ) where
  abbrev Has : Cells → ℕ → ℕ → List Val → Type 0
  Has = HasRow (Text layout tables) (map Some layout.cells)

  abbrev width : ℕ
  width = row_size (length layout.cells)

  -- a row is where its octets are
  has_same : (c c' : Cells) (k o : ℕ) (values : List Val) → ((a b : ℕ) → o + 8 ≤ a → a + b ≤ o + width → c' (Own k) a b ≡ c (Own k) a b) → Has c k o values → Has c' k o values
  has_same c c' k o values same has =
      let many : length (map (λ (k : Kind). Some k) layout.cells) ≡ length layout.cells = length-map layout.cells (λ (k : Kind). Some k) in
      row-same (Text layout tables) (map Some layout.cells) c c' k o values (λ a b from to. same a b from (omega (arith, to, many))) has

  -- From the result's rows: then these are found, in this order.
  pub rows_left : (R : ℕ → Type 0) (most fuel base u before : ℕ) (IsOld : ℕ → Type 0) (s : LowState) (rows : List (List Val)) → width + u ≤ page →
      Keeps IsOld (BehindWords (descriptor_size layout)) (first_state layout tables limit (first_locals others)) s →
      HasRows Has width base u before rows s →
      Ends 12 (λ t. (settled : Settled layout tables t) × (in_order settled.found ≡ rows)) Never R (meaning most fuel finish_block s)
  rows_left R most fuel base u before IsOld s rows small keeps has =
      Ends-weaker 12 12 (HasAnswer Has width base has.found s) (λ t. (settled : Settled layout tables t) × (in_order settled.found ≡ rows)) Never Never R R (meaning most fuel finish_block s) (omega arith)
      (λ t answer. (
        record {
          s = s;
          unrefused = keeps.refused;
          mapped = keeps.mapped;
          head = λ a b low high. keeps.cells 0 a b (omega (arith, low), omega (arith, high));
          found = has.found;
          base = base;
          answer = answer;
        },
        has.values_are,
      ))
      (λ t never. never) (λ code told. told)
      (finish_ends Has width base u before (omega arith) small has_same R most fuel s rows has)

  -- so there are some
  pub rows_settle : (R : ℕ → Type 0) (most fuel base u before : ℕ) (IsOld : ℕ → Type 0) (s : LowState) (rows : List (List Val)) → width + u ≤ page →
      Keeps IsOld (BehindWords (descriptor_size layout)) (first_state layout tables limit (first_locals others)) s →
      HasRows Has width base u before rows s →
      Ends 12 (Settled layout tables) Never R (meaning most fuel finish_block s)
  rows_settle R most fuel base u before IsOld s rows small keeps has =
      Ends-weaker 12 12 (λ t. (settled : Settled layout tables t) × (in_order settled.found ≡ rows)) (Settled layout tables) Never Never R R (meaning most fuel finish_block s) (omega arith)
      (λ t left. left.0) (λ t never. never) (λ code told. told)
      (rows_left R most fuel base u before IsOld s rows small keeps has)

-- and where the rows are those of the outcome, these are
module _ (promise : Promise) (layout : Layout) (tables : List (List (List Val))) (limit others : ℕ) where
  pub rows_finish : (R : ℕ → Type 0) (most fuel base u before : ℕ) (IsOld : ℕ → Type 0) (s : LowState) (rows : List (List Val)) → row_size (length layout.cells) + u ≤ page →
      Keeps IsOld (BehindWords (descriptor_size layout)) (first_state layout tables limit (first_locals others)) s →
      HasRows (HasRow (Text layout tables) (map Some layout.cells)) (row_size (length layout.cells)) base u before rows s → meant.IsSameOutcome (promise.outcome tables) (meant.Rows rows) →
      Ends 12 (Ending promise layout tables) Never R (meaning most fuel finish_block s)
  rows_finish R most fuel base u before IsOld s rows small keeps has same =
      Ends-weaker 12 12 (λ t. (settled : Settled layout tables t) × (in_order settled.found ≡ rows)) (Ending promise layout tables) Never Never R R (meaning most fuel finish_block s) (omega arith)
      (λ t left. record {
        settled = left.0;
        same = subst (λ (bag : List (List Val)). meant.IsSameOutcome (promise.outcome tables) (meant.Rows bag)) (sym left.1) same;
      })
      (λ t never. never) (λ code told. told)
      (rows_left layout tables limit others R most fuel base u before IsOld s rows small keeps has)
