-- A number is added to the two words of an area.
use Rattle.std.proofs.Common.{◌≡◌, ℕ, ◌+◌, ◌^◌, ◌%◌, ◌<◌, ◌≤◌, inl, inr, ℤ, ◌+ℤ◌, unsigned_abs, FitsSigned, List, length, length-set, Some, slice_get, slice_set, refl, sym, ap, ◌∙◌, subst, ⊎_elim, arith, w64}
use Rattle.qw_linear.specs.Memory.{page}
use Rattle.qw_map.proofs.TurnFacts.{slice_get-set_same, slice_get-set_other}
use Rattle.qw_module.specs.declared.instruction.ValType.TheVariants.{I64}
use Rattle.qw_module.specs.declared.instruction.Load.TheVariants as loads
use Rattle.qw_module.specs.declared.instruction.Store.TheVariants as stores
use Rattle.qw_low.specs.Syntax.{local, Statement, seq, load, store}
use Rattle.qw_low.specs.State.{Own, Value, Number, Address, LowState, with_cell}
use Rattle.qw_low.specs.Meaning.{meaning}
use Rattle.qw_low.specs.Promise.{Ends}
use Rattle.qw_low.specs.Raising.{Kept}
use Rattle.qw_low.proofs.Promises.{Ends-then}
use Rattle.qw_low.proofs.BlockSteps.{load_then, store_then}
use Rattle.qw_feed.proofs.CellRuns.{store_ends}
use Rattle.qw_feed.proofs.Frames.{Never, with_cell-same, with_cell-apart}
use Rattle.qw_wide.proofs.Words as words
use Rattle.qw_group.specs.Areas.{InPlace, sum_more}
use Rattle.qw_group.specs.Wides.{IsWide, HoldsWide, add_128_block}
use Rattle.qw_group.proofs.WideRuns.{none, set_other, add_128_ends}

module _ (most fuel p off e at g : ℕ) (e_low : e < g) where
  abbrev from : ℕ
  from = off + at

  module _ (q : LowState) (e_q : slice_get q.locals e ≡ Some (Address (Own p) off)) (sized_q : slice_get q.own p ≡ Some page) (inside : off + at + 32 ≤ page) (room_q : g + 9 ≤ length q.locals) (low high : ℕ) (low_is : q.cells (Own p) from 8 ≡ Some (Number low)) (high_is : q.cells (Own p) (from + 8) 8 ≡ Some (Number high))
      (y v : ℤ) (wide : IsWide low high y) (z : ℕ) (z_low : z < g) (z_is : slice_get q.locals z ≡ Some (Number (words.word v))) (fit : FitsSigned w64 v) (sum_fit : unsigned_abs (y +ℤ v) < 2 ^ 127) where
    abbrev pub Summed : LowState → Type 0
    Summed u = InPlace p from (from + 16) g q u × (lo : ℕ) × (hi : ℕ) × (u.cells (Own p) from 8 ≡ Some (Number lo)) × (u.cells (Own p) (from + 8) 8 ≡ Some (Number hi)) × IsWide lo hi (y +ℤ v)

    abbrev q1 : LowState
    q1 = record q { locals = slice_set q.locals g (Number low) }

    abbrev q2 : LowState
    q2 = record q1 { locals = slice_set q1.locals (g + 1) (Number high) }

    many2 : length q2.locals ≡ length q.locals
    many2 = length-set q1.locals (g + 1) (Number high) ∙ length-set q.locals g (Number low)

    under2 : (i : ℕ) → i < g → slice_get q2.locals i ≡ slice_get q.locals i
    under2 i less = slice_get-set_other q1.locals (g + 1) i (Number high) (λ is. omega (arith, is, less)) ∙ slice_get-set_other q.locals g i (Number low) (λ is. omega (arith, is, less))

    abbrev storing : Statement
    storing = seq (store (stores.Full I64) at (local e) (local g)) (store (stores.Full I64) (at + 8) (local e) (local (g + 1)))

    module _ (us : List Value) (many_u : length us ≡ length q.locals) (below_u : (i : ℕ) → i < g → slice_get us i ≡ slice_get q.locals i) (wide_u : HoldsWide (record q2 { locals = us }) g (y +ℤ v)) where
      abbrev q5 : LowState
      q5 = record q2 { locals = us }

      abbrev q6 : LowState
      q6 = record q5 { cells = with_cell q5.cells (Own p) from 8 (Number wide_u.low) }

      abbrev q7 : LowState
      q7 = record q6 { cells = with_cell q6.cells (Own p) (from + 8) 8 (Number wide_u.high) }

      summed : Summed q7
      summed = (
        record {
          others = refl;
          many = many_u;
          below = below_u;
          mapped = λ k a b. refl;
          cells = λ k a b apart. with_cell-apart q6.cells p (from + 8) 8 (Number wide_u.high) k a b (omega arith) (⊎_elim (λ l. inl (omega (arith, l))) (λ m. inr (omega (arith, m))) apart)
              ∙ with_cell-apart q5.cells p from 8 (Number wide_u.low) k a b (omega arith) (⊎_elim (λ l. inl (omega (arith, l))) (λ m. inr (omega (arith, m))) apart);
        },
        wide_u.low,
        wide_u.high,
        with_cell-apart q6.cells p (from + 8) 8 (Number wide_u.high) p from 8 (omega arith) (inl (omega arith)) ∙ with_cell-same q5.cells p from 8 (Number wide_u.low),
        with_cell-same q6.cells p (from + 8) 8 (Number wide_u.high),
        wide_u.is,
      )

      e5 : slice_get us e ≡ Some (Address (Own p) off)
      e5 = below_u e e_low ∙ e_q

      stores_end : Ends 6 Summed Never none (meaning most fuel storing q5)
      stores_end =
          let l_is : wide_u.low % 2 ^ 64 ≡ wide_u.low = omega (arith, wide_u.is.low_is) in
          let h_is : wide_u.high % 2 ^ 64 ≡ wide_u.high = omega (arith, wide_u.is.high_is) in
          store_then Summed Never none most fuel q5 3 (store (stores.Full I64) (at + 8) (local e) (local (g + 1))) (stores.Full I64) at (local e) (local g) p off page from (Number wide_u.low) (Number wide_u.low) e5 refl wide_u.low_at (ap (λ (m : ℕ). Some (Number m)) l_is) sized_q (omega (arith, inside))
          (store_ends Summed Never none most fuel q6 (stores.Full I64) (at + 8) (local e) (local (g + 1)) p off page (from + 8) (Number wide_u.high) (Number wide_u.high) e5 (omega arith) wide_u.high_at (ap (λ (m : ℕ). Some (Number m)) h_is) sized_q (omega (arith, inside)) summed)

    wide2 : HoldsWide q2 g y
    wide2 = record {
      low = low;
      high = high;
      low_at = set_other q1.locals (g + 1) g (Number high) (Number low) (λ is. omega (arith, is)) (slice_get-set_same q.locals g (Number low) (omega (arith, room_q)));
      high_at = slice_get-set_same q1.locals (g + 1) (Number high) (omega (arith, length-set q.locals g (Number low), room_q));
      is = wide;
    }

    pub sum_more_ends : Ends 29 Summed Never none (meaning most fuel (sum_more e at z g) q)
    sum_more_ends =
        let e1' : slice_get q1.locals e ≡ Some (Address (Own p) off) = set_other q.locals g e (Number low) (Address (Own p) off) (λ is. omega (arith, is, e_low)) e_q in
        load_then Summed Never none most fuel q 26 (seq (load (g + 1) (loads.Full I64) (at + 8) (local e)) (seq (add_128_block g z) storing)) g (loads.Full I64) at (local e) (Own p) off from (Number low) (Number low) e_q refl low_is refl (omega (arith, room_q))
        (load_then Summed Never none most fuel q1 23 (seq (add_128_block g z) storing) (g + 1) (loads.Full I64) (at + 8) (local e) (Own p) off (from + 8) (Number high) (Number high) e1' (omega arith) high_is refl (omega (arith, length-set q.locals g (Number low), room_q))
        (Ends-then Summed Never none 17 6 (λ w. Kept g q2 w × HoldsWide w g (y +ℤ v)) (meaning most fuel (add_128_block g z) q2) (meaning most fuel storing)
        (add_128_ends most fuel g z q2 y v z_low wide2 (under2 z z_low ∙ z_is) fit sum_fit (omega (arith, many2, room_q)))
        (λ w done. subst (λ (r : LowState). Ends 6 Summed Never none (meaning most fuel storing r)) (sym done.0.others)
        (stores_end w.locals (done.0.many ∙ many2) (λ i low'. done.0.below i low' ∙ under2 i low') (subst (λ (r : LowState). HoldsWide r g (y +ℤ v)) done.0.others done.1)))))
