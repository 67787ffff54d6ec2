-- The chain of result rows, and what keeps it.
use Rattle.std.proofs.Common.{◌≡◌, ℕ, ◌+◌, ◌≤◌, ◌⊎◌, inl, inr, List, [], ◌∷◌, Some, ◌∙◌, arith}
use Rattle.qw_linear.specs.Memory.{page}
use Rattle.qw_types.specs.declared.value.Val.{Val}
use Rattle.qw_low.specs.State.{Own, Value, Cells}
use Rattle.qw_feed.specs.Frames.{pos, Outside}
use Rattle.qw_feed.specs.Rows.{Row, address, start_of, AreRows, tail_part, tail_offset}

module _ (Has : Cells → ℕ → ℕ → List Val → Type 0) (size : ℕ) (wide : 8 ≤ size)
    (has_same : (c c' : Cells) (k o : ℕ) (values : List Val) → ((a b : ℕ) → o + 8 ≤ a → a + b ≤ o + size → c' (Own k) a b ≡ c (Own k) a b) → Has c k o values → Has c' k o values) where
  pub AreRows-le : (c : Cells) (base front : ℕ) (next : Value) (rs : List Row) → AreRows Has size c base front next rs → base ≤ front
  AreRows-le c base front next [] h = h.0
  AreRows-le c base front next (r ∷ rs) h = let below = AreRows-le c base (start_of r) (address r) rs h.4 in omega (arith, h.2)

  pub AreRows-same : (c c' : Cells) (base front : ℕ) (next : Value) (rs : List Row) → c' (Own 0) 8 4 ≡ c (Own 0) 8 4 →
      ((k a b : ℕ) → base ≤ pos k a → pos k a + b ≤ front → c' (Own k) a b ≡ c (Own k) a b) → AreRows Has size c base front next rs → AreRows Has size c' base front next rs
  AreRows-same c c' base front next [] root same h = (h.0, root ∙ h.1)
  AreRows-same c c' base front next (r ∷ rs) root same h =
      let below : base ≤ start_of r = AreRows-le c base (start_of r) (address r) rs h.4 in (
        same r.part r.offset 4 below (omega (arith, h.2)) ∙ h.0,
        has_same c c' r.part r.offset r.values (λ a b from to. same r.part a b (omega arith) (omega (arith, h.2))) h.1,
        h.2,
        h.3,
        AreRows-same c c' base (start_of r) (address r) rs root (λ k a b from to. same k a b from (omega (arith, h.2))) h.4,
      )

  -- the newest row's link is set
  pub relinked : (c c' : Cells) (base front front' : ℕ) (next next' : Value) (rs : List Row) → 24 ≤ base → front ≤ front' → c' (Own (tail_part rs)) (tail_offset rs) 4 ≡ Some next' →
      ((k a b : ℕ) → (base ≤ pos k a) ⊎ (pos k a + b ≤ 12) → pos k a + b ≤ front → Outside (pos (tail_part rs) (tail_offset rs)) (pos (tail_part rs) (tail_offset rs) + 4) (pos k a) b → c' (Own k) a b ≡ c (Own k) a b) →
      AreRows Has size c base front next rs → AreRows Has size c' base front' next' rs
  relinked c c' base front front' next next' [] head le link same h = (omega (arith, h.0), link)
  relinked c c' base front front' next next' (r ∷ rs) head le link same h =
      let below : base ≤ start_of r = AreRows-le c base (start_of r) (address r) rs h.4 in (
        link,
        has_same c c' r.part r.offset r.values (λ a b from to. same r.part a b (inl (omega arith)) (omega (arith, h.2)) (inr (omega arith))) h.1,
        omega (arith, h.2),
        h.3,
        AreRows-same c c' base (start_of r) (address r) rs (same 0 8 4 (inr (omega arith)) (omega (arith, h.2)) (inl (omega arith))) (λ k a b from to. same k a b (inl from) (omega (arith, h.2)) (inl to)) h.4,
      )

  -- where the newest row's link lies
  pub tail_before : (c : Cells) (base front : ℕ) (next : Value) (rs : List Row) → 24 ≤ base → AreRows Has size c base front next rs →
      (pos (tail_part rs) (tail_offset rs) + 8 ≤ front) × ((pos (tail_part rs) (tail_offset rs) ≡ 8) ⊎ (base ≤ pos (tail_part rs) (tail_offset rs))) × (tail_offset rs + 8 ≤ page)
  tail_before c base front next [] head h = (omega (arith, h.0), inl (omega arith), omega arith)
  tail_before c base front next (r ∷ rs) head h = (omega (arith, h.2), inr (AreRows-le c base (start_of r) (address r) rs h.4), omega (arith, h.3))
