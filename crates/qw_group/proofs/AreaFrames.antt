-- Stores in one place alone: how what they keep composes.
use Rattle.std.proofs.Common.{ℕ, ◌+◌, ◌<◌, ◌≤◌, inl, inr, length-set, slice_set, refl, sym, ap, ◌∙◌, ⊎_elim, arith}
use Rattle.qw_map.proofs.TurnFacts.{slice_get-set_other}
use Rattle.qw_low.specs.State.{Column, Own, Value, Cells, LowState, with_cell}
use Rattle.qw_low.specs.Raising.{Kept}
use Rattle.qw_feed.proofs.Frames.{with_cell-apart}
use Rattle.qw_group.specs.Areas.{InPlace}

pub place-none : (p from to g : ℕ) (s : LowState) → InPlace p from to g s s
place-none p from to g s = record { others = refl; many = refl; below = λ i low. refl; mapped = λ k a b. refl; cells = λ k a b apart. refl }

pub place-then : (p from to g : ℕ) (s t u : LowState) → InPlace p from to g s t → InPlace p from to g t u → InPlace p from to g s u
place-then p from to g s t u first second = record {
  others = second.others ∙ ap (λ (q : LowState). let r : LowState = record q { locals = u.locals; cells = u.cells } in r) first.others;
  many = second.many ∙ first.many;
  below = λ i low. second.below i low ∙ first.below i low;
  mapped = λ k a b. second.mapped k a b ∙ first.mapped k a b;
  cells = λ k a b apart. second.cells k a b apart ∙ first.cells k a b apart;
}

pub place-wider : (p from to from' to' g : ℕ) (s t : LowState) → from' ≤ from → to ≤ to' → InPlace p from to g s t → InPlace p from' to' g s t
place-wider p from to from' to' g s t low high h = record {
  others = h.others;
  many = h.many;
  below = h.below;
  mapped = h.mapped;
  cells = λ k a b apart. h.cells k a b (⊎_elim (λ l. inl (omega (arith, l, low))) (λ m. inr (omega (arith, m, high))) apart);
}

pub place-set : (p from to g : ℕ) (s : LowState) (x : ℕ) (v : Value) → g ≤ x → InPlace p from to g s (record s { locals = slice_set s.locals x v })
place-set p from to g s x v high = record {
  others = refl;
  many = length-set s.locals x v;
  below = λ i low. slice_get-set_other s.locals x i v (λ is. omega (arith, is, low, high));
  mapped = λ k a b. refl;
  cells = λ k a b apart. refl;
}

pub place-store : (p from to g : ℕ) (s : LowState) (o w : ℕ) (v : Value) → 0 < w → from ≤ o → o + w ≤ to → InPlace p from to g s (record s { cells = with_cell s.cells (Own p) o w v })
place-store p from to g s o w v some low high = record {
  others = refl;
  many = refl;
  below = λ i less. refl;
  mapped = λ k a b. refl;
  cells = λ k a b apart. with_cell-apart s.cells p o w v k a b some (⊎_elim (λ l. inl (omega (arith, l, low))) (λ m. inr (omega (arith, m, high))) apart);
}

-- locals from one on alone are others
pub place-kept : (p from to g : ℕ) (s t : LowState) → Kept g s t → InPlace p from to g s t
place-kept p from to g s t kept = record {
  others = kept.others ∙ ap (λ (c : Cells). let r : LowState = record s { locals = t.locals; cells = c } in r) (sym (ap (λ (r : LowState). r.cells) kept.others));
  many = kept.many;
  below = kept.below;
  mapped = λ k a b. ap (λ (r : LowState). r.cells (Column k) a b) kept.others;
  cells = λ k a b apart. ap (λ (r : LowState). r.cells (Own k) a b) kept.others;
}
