-- What a local has counted down is no more than half of what was counted of instructions.
use Rattle.std.proofs.Common.{◌≡◌, ℕ, zero, suc, ◌+◌, ◌-◌, ◌*◌, ◌%◌, ◌^◌, ◌<◌, ◌≤◌, inl, inr, ◌==◌, false, length, Option, Some, None, slice_get, slice_set, refl, sym, subst, arith}
use Rattle.std.proofs.lemmas.Bool.{eqb-true, false_from_ne_true, lt-ltb}
use Rattle.std.proofs.lemmas.Option.{slice_get_within}
use Rattle.qw_map.proofs.TurnFacts.{slice_get-set_same}
use Rattle.qw_low.specs.Syntax.{Expression, Statement, skip, seq, assign, load, store, conditional, while, request, raise, exit}
use Rattle.qw_low.specs.State.{Value, Number, Address, LowState}
use Rattle.qw_low.specs.Meaning.{value, cost, Outcome, Completed, Exited, Stopped, Wrong, Unfinished, and_then, by_value, counting, meaning, turns, unless_zero}
use Rattle.qw_limit.specs.Counting.{CountsDown, Spares, guarded_block, less_block}
use Rattle.qw_limit.proofs.Spared.{Holds, spared}

-- the local held v; now it holds no more, and no less than v less half of the count
abbrev pub Lowers : (z v n : ℕ) → LowState → Type 0
Lowers z v n t = (w : ℕ) × (slice_get t.locals z ≡ Some (Number w)) × (w ≤ v) × (2 * v ≤ 2 * w + n)

abbrev pub HasLowered : (z v : ℕ) → Outcome → Type 0
HasLowered z v (Completed n t) = Lowers z v n t
HasLowered z v (Exited n t) = Lowers z v n t
HasLowered z v (Stopped code n t) = Lowers z v n t
HasLowered z v Wrong = Unit {0}
HasLowered z v Unfinished = Unit {0}

module _ (z : ℕ) where
  abbrev Is : ℕ → LowState → Type 0
  Is v t = slice_get t.locals z ≡ Some (Number v)

  -- where it holds what it held
  held : (v : ℕ) (out : Outcome) → Holds z (Some (Number v)) out → HasLowered z v out
  held v (Completed n t) is = (v, is, omega arith, omega arith)
  held v (Exited n t) is = (v, is, omega arith, omega arith)
  held v (Stopped code n t) is = (v, is, omega arith, omega arith)
  held v Wrong is = tt
  held v Unfinished is = tt

  held_so : (v : ℕ) (found : Option Value) (out : Outcome) → found ≡ Some (Number v) → Holds z found out → HasLowered z v out
  held_so v found out is h = held v out (subst (λ (f : Option Value). Holds z f out) is h)

  -- instructions before it, in which it was lowered from v to w
  lowered-counting : (v w n : ℕ) (out : Outcome) → w ≤ v → 2 * v ≤ 2 * w + n → HasLowered z w out → HasLowered z v (counting n out)
  lowered-counting v w n (Completed m t) le ge h = let low = h.2 in let high = h.3 in (h.0, h.1, omega (arith, le, low), omega (arith, ge, high))
  lowered-counting v w n (Exited m t) le ge h = let low = h.2 in let high = h.3 in (h.0, h.1, omega (arith, le, low), omega (arith, ge, high))
  lowered-counting v w n (Stopped code m t) le ge h = let low = h.2 in let high = h.3 in (h.0, h.1, omega (arith, le, low), omega (arith, ge, high))
  lowered-counting v w n Wrong le ge h = tt
  lowered-counting v w n Unfinished le ge h = tt

  lowered-after : (v n : ℕ) (out : Outcome) → HasLowered z v out → HasLowered z v (counting n out)
  lowered-after v n out h = lowered-counting v v n out (omega arith) (omega arith) h

  lowered-then : (v : ℕ) (out : Outcome) (f : LowState → Outcome) → HasLowered z v out → ((w : ℕ) (t : LowState) → w ≤ v → Is w t → HasLowered z w (f t)) → HasLowered z v (and_then out f)
  lowered-then v (Completed n t) f h g = lowered-counting v h.0 n (f t) h.2 h.3 (g h.0 t h.2 h.1)
  lowered-then v (Exited n t) f h g = h
  lowered-then v (Stopped code n t) f h g = h
  lowered-then v Wrong f h g = tt
  lowered-then v Unfinished f h g = tt

  lowered-by : (v : ℕ) (found : Option Value) (f : ℕ → Outcome) → ((n : ℕ) → HasLowered z v (f n)) → HasLowered z v (by_value found f)
  lowered-by v None f h = tt
  lowered-by v (Some (Number n)) f h = h n
  lowered-by v (Some (Address p o)) f h = h 1

  lowered-unless : (v n : ℕ) (a b : Outcome) → HasLowered z v a → HasLowered z v b → HasLowered z v (unless_zero n a b)
  lowered-unless v zero a b first second = second
  lowered-unless v (suc n) a b first second = first

  module _ (e : Expression) (means : LowState → Outcome) (less : (v : ℕ) (s : LowState) → v < 2 ^ 64 → Is v s → HasLowered z v (means s)) where
    lowered-turns : (fuel v : ℕ) (s : LowState) → v < 2 ^ 64 → Is v s → HasLowered z v (turns e means fuel s)
    lowered-turns zero v s small is = tt
    lowered-turns (suc fuel) v s small is = lowered-by v (value s e) _ (λ n. lowered-unless v n _ _
        (lowered-after v (cost e + 2) _ (lowered-then v (means s) (λ t. turns e means fuel t) (less v s small is) (λ w t le now. lowered-turns fuel w t (omega (arith, le, small)) now)))
        (v, is, omega arith, omega arith))

  -- ---- the guarded block
  module _ (most fuel : ℕ) where
    less_is : (v : ℕ) (t : LowState) → suc v < 2 ^ 64 → Is (suc v) t → meaning most fuel (less_block z) t ≡ Completed 4 (record t { locals = slice_set t.locals z (Number v) })
    less_is v t small is =
        let difference : (suc v + 2 ^ 64 - 1) % 2 ^ 64 ≡ v = omega (arith, small) in
        rw (is, difference, lt-ltb z (length t.locals) (slice_get_within t.locals z (Number (suc v)) is)) refl

    less_lowers : (v w : ℕ) (t : LowState) → w ≡ suc v → w < 2 ^ 64 → Is w t → HasLowered z w (meaning most fuel (less_block z) t)
    less_lowers v w t same small is =
        let now : Is (suc v) t = subst (λ (n : ℕ). Is n t) same is in
        subst (HasLowered z w) (sym (less_is v t (omega (arith, same, small)) now))
        (v, slice_get-set_same t.locals z (Number v) (slice_get_within t.locals z (Number (suc v)) now), omega (arith, same), omega (arith, same))

    guarded_lowers : (b : Statement) (v : ℕ) (s : LowState) → Spares z b → v < 2 ^ 64 → Is v s → HasLowered z v (meaning most fuel (guarded_block z b) s)
    guarded_lowers b zero s spares small is = rw is (zero, is, omega arith, omega arith)
    guarded_lowers b (suc v) s spares small is =
        let inner : HasLowered z (suc v) (meaning most fuel (seq b (less_block z)) s) = lowered-inner in
        let above : (suc v == 0) ≡ false = false_from_ne_true (suc v == 0) (λ e. (let zeroth = eqb-true (suc v) 0 e in omega (arith, zeroth))) in
        rw (is, above) (lowered-after (suc v) 3 (meaning most fuel (seq b (less_block z)) s) inner)
      where
        b_holds : Holds z (Some (Number (suc v))) (meaning most fuel b s)
        b_holds = subst (λ (f : Option Value). Holds z f (meaning most fuel b s)) is (spared z most fuel b s spares)

        by_outcome : (out : Outcome) → Holds z (Some (Number (suc v))) out → HasLowered z (suc v) (and_then out (meaning most fuel (less_block z)))
        by_outcome (Completed n t) now = lowered-after (suc v) n (meaning most fuel (less_block z) t) (less_lowers v (suc v) t refl small now)
        by_outcome (Exited n t) now = (suc v, now, omega arith, omega arith)
        by_outcome (Stopped code n t) now = (suc v, now, omega arith, omega arith)
        by_outcome Wrong now = tt
        by_outcome Unfinished now = tt

        lowered-inner : HasLowered z (suc v) (meaning most fuel (seq b (less_block z)) s)
        lowered-inner = by_outcome (meaning most fuel b s) b_holds

    -- ---- all statements
    kept_holds : (a : Statement) (v : ℕ) (s : LowState) → Spares z a → Is v s → HasLowered z v (meaning most fuel a s)
    kept_holds a v s spares is = held_so v (slice_get s.locals z) (meaning most fuel a s) is (spared z most fuel a s spares)

    pub lowered : (a : Statement) (v : ℕ) (s : LowState) → CountsDown z a → v < 2 ^ 64 → slice_get s.locals z ≡ Some (Number v) → HasLowered z v (meaning most fuel a s)
    lowered skip v s h small is = (v, is, omega arith, omega arith)
    lowered (seq a b) v s h small is = lowered-then v (meaning most fuel a s) (meaning most fuel b) (lowered a v s h.0 small is) (λ w t le now. lowered b w t h.1 (omega (arith, le, small)) now)
    lowered (assign x e) v s h small is = kept_holds (assign x e) v s h is
    lowered (load x l offset a) v s h small is = kept_holds (load x l offset a) v s h is
    lowered (store st offset a e) v s h small is = kept_holds (store st offset a e) v s tt is
    lowered (conditional e a b) v s (inl h) small is =
        lowered-by v (value s e) _ (λ n. lowered-after v (cost e + 1) _ (lowered-unless v n _ _ (lowered a v s h.0 small is) (lowered b v s h.1 small is)))
    lowered (conditional e a b) v s (inr h) small is = subst (λ (q : Statement). HasLowered z v (meaning most fuel q s)) (sym h.1) (guarded_lowers h.0 v s h.2 small is)
    lowered (while e a) v s h small is = lowered-turns e (meaning most fuel a) (λ w t small' now. lowered a w t h small' now) fuel v s small is
    lowered (request e x) v s h small is = kept_holds (request e x) v s h is
    lowered (raise code) v s h small is = kept_holds (raise code) v s tt is
    lowered exit v s h small is = (v, is, omega arith, omega arith)
