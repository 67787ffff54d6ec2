-- The descriptor's words at the end.
use Rattle.std.proofs.Common.{◌≡◌, ℕ, suc, ◌+◌, ◌^◌, ◌%◌, ◌<◌, ◌≤◌, ◌⊎◌, inl, inr, List, [], ◌∷◌, length, Some, slice_get, refl, ap, ◌∙◌, ⊎_elim, arith}
use Rattle.std.proofs.lemmas.Bool.{ne_eqb}
use Rattle.qw_types.specs.declared.value.Val.{Val}
use Rattle.qw_linear.specs.Memory.{page}
use Rattle.qw_module.specs.declared.instruction.ValType.TheVariants.{I32, I64}
use Rattle.qw_module.specs.declared.instruction.Store.TheVariants as stores
use Rattle.qw_low.specs.Syntax.{local, is_zero, skip, seq, store, conditional}
use Rattle.qw_low.specs.State.{Own, Number, Address, Cells, LowState, with_cell}
use Rattle.qw_low.specs.Meaning.{meaning}
use Rattle.qw_low.specs.Promise.{Ends}
use Rattle.qw_low.proofs.Promises.{Ends-then, conditional_ends}
use Rattle.qw_low.proofs.BlockSteps.{store_then}
use Rattle.qw_feed.specs.Frames.{pos, Stored}
use Rattle.qw_feed.specs.Rows.{finish_block, Row, address, tail_part, tail_offset, HasRows, HasAnswer}
use Rattle.qw_feed.proofs.Frames.{Never, with_cell-same, Stored-none, Stored-cell}
use Rattle.qw_feed.proofs.PushFeeds.{counts}
use Rattle.qw_feed.proofs.RowChains.{AreRows-same}

module _ (Has : Cells → ℕ → ℕ → List Val → Type 0) (size base u before : ℕ) (wide : 8 ≤ size) (small : size + u ≤ page)
    (has_same : (c c' : Cells) (k o : ℕ) (values : List Val) → ((a b : ℕ) → o + 8 ≤ a → a + b ≤ o + size → c' (Own k) a b ≡ c (Own k) a b) → Has c k o values → Has c' k o values)
    (R : ℕ → Type 0) (most fuel : ℕ) (s : LowState) where
  Words : ℕ → ℕ → Type 0
  Words at width = ((at ≡ 8) × (width ≡ 4)) ⊎ (24 ≤ at)

  stores-last : (found : List Row) (t : LowState) → slice_get t.locals 4 ≡ Some (Number (length found)) → slice_get t.locals 0 ≡ Some (Address (Own 0) 0) → slice_get t.own 0 ≡ Some page →
      slice_get t.locals 3 ≡ Some (Address (Own (tail_part found)) (tail_offset found)) → Stored Words s t →
      Ends 6 (λ w. Stored Words s w × (w ≡ record t { cells = w.cells })) Never R (meaning most fuel (conditional (is_zero I64 (local 4)) skip (store (stores.Full I32) 12 (local 0) (local 3))) t)
  unfolding Words
  stores-last [] t count at sized link stored = conditional_ends (λ w. Stored Words s w × (w ≡ record t { cells = w.cells })) Never R most fuel 3 (is_zero I64 (local 4)) skip (store (stores.Full I32) 12 (local 0) (local 3)) t
      (inl (inl (0, rw count refl), (omega arith, (stored, refl))))
  stores-last (r ∷ found) t count at sized link stored = conditional_ends (λ w. Stored Words s w × (w ≡ record t { cells = w.cells })) Never R most fuel 3 (is_zero I64 (local 4)) skip (store (stores.Full I32) 12 (local 0) (local 3)) t
      (inr (
        rw (count, ne_eqb (suc (length found)) 0 (λ e. omega (arith, e))) refl,
        rw (at, link, sized) (
          omega arith,
          (
            Stored-cell Words s t 0 12 4 (address r) (omega arith)
                (λ a width words. ⊎_elim (λ root. inl (omega (arith, root.0, root.1))) (λ high. inr (omega (arith, high))) words) stored,
            refl,
          ),
        ),
      ))

  pub finish_ends : (rows : List (List Val)) (h : HasRows Has size base u before rows s) → Ends 12 (HasAnswer Has size base h.found s) Never R (meaning most fuel finish_block s)
  unfolding Words
  finish_ends rows h =
      let t1 : LowState = record s { cells = with_cell s.cells (Own 0) 0 4 (Address (Own h.part) h.offset) } in
      let sized : slice_get s.own 0 ≡ Some page = h.room.pages 0 (omega arith) in
      let one : Stored Words s t1 = Stored-cell Words s s 0 0 4 (Address (Own h.part) h.offset) (omega arith)
      (λ a width words. ⊎_elim (λ root. inr (omega (arith, root.0))) (λ high. inr (omega (arith, high))) words) (Stored-none Words s) in
      store_then (HasAnswer Has size base h.found s) Never R most fuel s 9 (seq (conditional (is_zero I64 (local 4)) skip (store (stores.Full I32) 12 (local 0) (local 3))) (store (stores.Full I64) 16 (local 0) (local 4)))
      (stores.Full I32) 0 (local 0) (local 1) 0 0 page 0 (Address (Own h.part) h.offset) (Address (Own h.part) h.offset) h.descriptor refl h.room.free refl sized (omega arith)
      (Ends-then (HasAnswer Has size base h.found s) Never R 6 3 (λ w. Stored Words s w × (w ≡ record t1 { cells = w.cells })) (meaning most fuel (conditional (is_zero I64 (local 4)) skip (store (stores.Full I32) 12 (local 0) (local 3))) t1) (meaning most fuel (store (stores.Full I64) 16 (local 0) (local 4)))
      (stores-last h.found t1 h.count h.descriptor sized h.link one)
      (λ w done. last w done.0))
    where
      few : length h.found < 2 ^ 64
      few = omega (arith, counts Has size wide has_same base u before small most fuel rows s h)

      count_small : length h.found % 2 ^ 64 ≡ length h.found
      count_small = omega (arith, few)

      answered : (w : LowState) → Stored Words s w → HasAnswer Has size base h.found s (record w { cells = with_cell w.cells (Own 0) 16 8 (Number (length h.found)) })
      answered w stored =
          let all : Stored Words s (record w { cells = with_cell w.cells (Own 0) 16 8 (Number (length h.found)) }) =
          Stored-cell Words s w 0 16 8 (Number (length h.found)) (omega arith) (λ a width words. ⊎_elim (λ root. inl (omega (arith, root.0, root.1))) (λ high. inr (omega (arith, high))) words) stored in
          record {
            others = all.others;
            mapped = all.mapped;
            head = λ a b high. all.cells 0 a b (inr (omega (arith, high)));
            part = h.part;
            last = ap (λ (r : LowState). length r.own) all.others ∙ h.room.last;
            pages = λ k low. ap (λ (r : LowState). slice_get r.own k) all.others ∙ h.room.pages k low;
            front = pos h.part h.offset;
            high = omega (arith, h.room.within);
            count = with_cell-same w.cells 0 16 8 (Number (length h.found));
            rows = AreRows-same Has size wide has_same s.cells (with_cell w.cells (Own 0) 16 8 (Number (length h.found))) base (pos h.part h.offset) (Number 0) h.found (all.cells 0 8 4 (inl (refl, refl)))
                (λ k a b from to. all.cells k a b (inr (omega (arith, from, h.behind)))) h.chain;
          }

      last : (w : LowState) → Stored Words s w → Ends 3 (HasAnswer Has size base h.found s) Never R (meaning most fuel (store (stores.Full I64) 16 (local 0) (local 4)) w)
      last w stored =
          let locals : w.locals ≡ s.locals = ap (λ (r : LowState). r.locals) stored.others in
          let at : slice_get w.locals 0 ≡ Some (Address (Own 0) 0) = rw locals h.descriptor in
          let count : slice_get w.locals 4 ≡ Some (Number (length h.found)) = rw locals h.count in
          let sized : slice_get w.own 0 ≡ Some page = ap (λ (r : LowState). slice_get r.own 0) stored.others ∙ h.room.pages 0 (omega arith) in
          rw (at, count, sized, count_small) (omega arith, answered w stored)
