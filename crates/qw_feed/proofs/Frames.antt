-- What a store leaves as it was, and how what blocks keep composes.
use Rattle.std.proofs.Common.{◌≡◌, ℕ, ◌+◌, ◌<◌, ◌≤◌, inl, inr, ◌==◌, ◌&&◌, ◌||◌, Bool, true, false, nat_le, if◌then◌else◌, length, Option, Some, None, slice_get, slice_set, length-set, refl, ap, ◌∙◌, ⊎_elim, arith}
use Rattle.std.proofs.lemmas.Bool.{eq-eqb, eqb-true, le-leb, and_parts, or_left, or_right, false_from_ne_true}
use Rattle.qw_map.proofs.TurnFacts.{slice_get-set_other}
use Rattle.qw_low.specs.State.{Column, Own, Value, Cells, LowState, with_cell}
use Rattle.qw_low.specs.Raising.{Kept}
use Rattle.qw_feed.specs.Frames.{pos, Outside, Below, Keeps, Stored}

-- no state: a block that doesn't end the run
abbrev pub Never : LowState → Type 0
Never s = ⊥

pub with_cell-same : (c : Cells) (k o w : ℕ) (v : Value) → with_cell c (Own k) o w v (Own k) o w ≡ Some v
with_cell-same c k o w v = rw (eq-eqb k k refl, eq-eqb o o refl, eq-eqb w w refl) refl

passes : (p q r : Bool) (v c : Option Value) → (p ≡ true → (q ≡ false) × (r ≡ true)) → (if p then (if q then v else (if r then c else None)) else c) ≡ c
passes true q r v c h = rw ((h refl).0, (h refl).1) refl
passes false q r v c h = refl

pub with_cell-apart : (c : Cells) (k o w : ℕ) (v : Value) (j a b : ℕ) → 0 < w → Outside (pos k o) (pos k o + w) (pos j a) b → with_cell c (Own k) o w v (Own j) a b ≡ c (Own j) a b
with_cell-apart c k o w v j a b some apart = passes (k == j) ((a == o) && (b == w)) (nat_le (a + b) o || nat_le (o + w) a) (Some v) (c (Own j) a b)
    (λ same.
    let e : k ≡ j = eqb-true k j same in (
      false_from_ne_true _ (λ both.
          let parts = and_parts (a == o) (b == w) both in
          let at : a ≡ o = eqb-true a o parts.0 in
          let wide : b ≡ w = eqb-true b w parts.1 in
          ⊎_elim (λ below. absurd (omega (arith, e, below))) (λ above. absurd (omega (arith, e, above))) apart),
      ⊎_elim
          (λ below. or_left _ _ (le-leb (a + b) o (omega (arith, e, below))))
          (λ above. or_right _ _ (le-leb (o + w) a (omega (arith, e, above))))
          apart,
    ))

-- ---- stores alone
module _ (Spared : ℕ → ℕ → Type 0) where
  pub Stored-none : (s : LowState) → Stored Spared s s
  Stored-none s = record { others = refl; mapped = λ k a b. refl; cells = λ k a b spared. refl }

  pub Stored-cell : (s t : LowState) (k o w : ℕ) (v : Value) → 0 < w → ((at width : ℕ) → Spared at width → Outside (pos k o) (pos k o + w) at width) → Stored Spared s t →
      Stored Spared s (record t { cells = with_cell t.cells (Own k) o w v })
  Stored-cell s t k o w v some apart h = record {
    others = ap (λ (u : LowState). let r : LowState = record u { cells = with_cell t.cells (Own k) o w v } in r) h.others;
    mapped = h.mapped;
    cells = λ j a b spared. with_cell-apart t.cells k o w v j a b some (apart (pos j a) b spared) ∙ h.cells j a b spared;
  }

  pub Stored-then : (Spared' : ℕ → ℕ → Type 0) (s t u : LowState) → ((at width : ℕ) → Spared at width → Spared' at width) → Stored Spared s t → Stored Spared' t u → Stored Spared s u
  Stored-then Spared' s t u also first second = record {
    others = second.others ∙ ap (λ (v : LowState). let r : LowState = record v { cells = u.cells } in r) first.others;
    mapped = λ k a b. second.mapped k a b ∙ first.mapped k a b;
    cells = λ k a b spared. second.cells k a b (also (pos k a) b spared) ∙ first.cells k a b spared;
  }

-- ---- what blocks keep
module _ (IsOld : ℕ → Type 0) (Spared : ℕ → ℕ → Type 0) where
  pub Keeps-same : (s : LowState) → Keeps IsOld Spared s s
  Keeps-same s = record {
    many = refl;
    locals = λ i old. refl;
    own = λ k size is. is;
    columns = refl;
    limit = refl;
    refused = refl;
    mapped = λ k a b. refl;
    cells = λ k a b spared. refl;
  }

  pub Keeps-then : (s t u : LowState) → Keeps IsOld Spared s t → Keeps IsOld Spared t u → Keeps IsOld Spared s u
  Keeps-then s t u one two = record {
    many = two.many ∙ one.many;
    locals = λ i old. two.locals i old ∙ one.locals i old;
    own = λ k size is. two.own k size (one.own k size is);
    columns = two.columns ∙ one.columns;
    limit = two.limit ∙ one.limit;
    refused = two.refused ∙ one.refused;
    mapped = λ k a b. two.mapped k a b ∙ one.mapped k a b;
    cells = λ k a b spared. two.cells k a b spared ∙ one.cells k a b spared;
  }

  -- a local that isn't old is set
  pub Keeps-set : (s t : LowState) (x : ℕ) (v : Value) → ((i : ℕ) → IsOld i → i ≡ x → ⊥) → Keeps IsOld Spared s t → Keeps IsOld Spared s (record t { locals = slice_set t.locals x v })
  Keeps-set s t x v other kept = record {
    many = length-set t.locals x v ∙ kept.many;
    locals = λ i old. slice_get-set_other t.locals x i v (λ e. other i old e) ∙ kept.locals i old;
    own = kept.own;
    columns = kept.columns;
    limit = kept.limit;
    refused = kept.refused;
    mapped = kept.mapped;
    cells = kept.cells;
  }

  -- cells are stored that aren't spared
  pub Keeps-stored : (Spared' : ℕ → ℕ → Type 0) (s t u : LowState) → ((at width : ℕ) → Spared at width → Spared' at width) → Keeps IsOld Spared s t → Stored Spared' t u → Keeps IsOld Spared s u
  Keeps-stored Spared' s t u also kept h = record {
    many = ap (λ (r : LowState). length r.locals) h.others ∙ kept.many;
    locals = λ i old. ap (λ (r : LowState). slice_get r.locals i) h.others ∙ kept.locals i old;
    own = λ k size is. ap (λ (r : LowState). slice_get r.own k) h.others ∙ kept.own k size is;
    columns = ap (λ (r : LowState). r.columns) h.others ∙ kept.columns;
    limit = ap (λ (r : LowState). r.limit) h.others ∙ kept.limit;
    refused = ap (λ (r : LowState). r.refused) h.others ∙ kept.refused;
    mapped = λ k a b. h.mapped k a b ∙ kept.mapped k a b;
    cells = λ k a b spared. h.cells k a b (also (pos k a) b spared) ∙ kept.cells k a b spared;
  }

  pub Keeps-less : (IsOld' : ℕ → Type 0) (Spared' : ℕ → ℕ → Type 0) (s t : LowState) → ((i : ℕ) → IsOld i → IsOld' i) → ((at width : ℕ) → Spared at width → Spared' at width) →
      Keeps IsOld' Spared' s t → Keeps IsOld Spared s t
  Keeps-less IsOld' Spared' s t old also h = record {
    many = h.many;
    locals = λ i is. h.locals i (old i is);
    own = h.own;
    columns = h.columns;
    limit = h.limit;
    refused = h.refused;
    mapped = h.mapped;
    cells = λ k a b spared. h.cells k a b (also (pos k a) b spared);
  }

  -- locals from one on alone have changed
  pub Keeps-kept : (n : ℕ) (s t : LowState) → ((i : ℕ) → IsOld i → i < n) → Kept n s t → Keeps IsOld Spared s t
  Keeps-kept n s t old h = record {
    many = h.many;
    locals = λ i is. h.below i (old i is);
    own = λ k size is. ap (λ (r : LowState). slice_get r.own k) h.others ∙ is;
    columns = ap (λ (r : LowState). r.columns) h.others;
    limit = ap (λ (r : LowState). r.limit) h.others;
    refused = ap (λ (r : LowState). r.refused) h.others;
    mapped = λ k a b. ap (λ (r : LowState). r.cells (Column k) a b) h.others;
    cells = λ k a b spared. ap (λ (r : LowState). r.cells (Own k) a b) h.others;
  }

-- ---- old locals
pub below-less : (n m i : ℕ) → n ≤ m → Below n i → Below m i
below-less n m i le (inl is) = inl is
below-less n m i le (inr it) = inr (it.0, omega (arith, it.1))

pub below-under : (n m i : ℕ) → n ≤ m → 1 ≤ m → Below n i → i < m
below-under n m i le some (inl is) = omega arith
below-under n m i le some (inr it) = omega (arith, it.1)

-- locals from one on alone have changed, so those from a lower one on
pub Kept-less : (m n : ℕ) (s t : LowState) → m ≤ n → Kept n s t → Kept m s t
Kept-less m n s t le h = record { others = h.others; many = h.many; below = λ i low. h.below i (omega arith) }
