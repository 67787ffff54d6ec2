-- The locals that a block calls its own, as a list of what they hold.
use Rattle.std.proofs.Common.{◌≡◌, ℕ, zero, suc, ◌+◌, ◌<◌, ◌≤◌, List, [], ◌∷◌, length, Some, slice_get, slice_set, sym, ◌∙◌, subst, ⊎_elim, arith}
use Rattle.std.proofs.lemmas.Bool.{cases_eq}
use Rattle.std.proofs.lemmas.Option.{none-some}
use Rattle.qw_map.proofs.TurnFacts.{slice_get-set_same, slice_get-set_other, found-in}
use Rattle.qw_low.specs.State.{Value, LowState}
use Rattle.qw_low.specs.Raising.{Kept}
use Rattle.qw_low.proofs.Results.{Kept-set}
use Rattle.qw_text.proofs.OwnLocals.{put}

-- From one state to another nothing has changed but locals from `n` on, which hold these values.
pub record OwnsAll (n : ℕ) (s t : LowState) (held : List Value) : Type 0 where
  pub kept : Kept n s t
  pub each : (k : ℕ) (v : Value) → slice_get held k ≡ Some v → slice_get t.locals (n + k) ≡ Some v

pub owns_room : (n : ℕ) (s t : LowState) (held : List Value) (k : ℕ) → OwnsAll n s t held → n + length held ≤ length s.locals → k < length held → n + k < length t.locals
owns_room n s t held k owns room less = omega (arith, room, owns.kept.many, less)

pub owns_set : (n : ℕ) (s t : LowState) (held : List Value) (k : ℕ) (v : Value) → OwnsAll n s t held → n + length held ≤ length s.locals → k < length held →
    OwnsAll n s (put t (n + k) v) (slice_set held k v)
owns_set n s t held k v owns room less = record {
  kept = Kept-set n s t (n + k) v owns.kept (omega arith);
  each = λ i u found. ⊎_elim
      (λ (here : i ≡ k).
      let is_v : Some v ≡ Some u = sym (slice_get-set_same held k v less) ∙ subst (λ z. slice_get (slice_set held k v) z ≡ Some u) here found in
      subst (λ z. slice_get (slice_set t.locals (n + k) v) (n + z) ≡ Some u) (sym here) (slice_get-set_same t.locals (n + k) v (owns_room n s t held k owns room less) ∙ is_v))
      (λ other. slice_get-set_other t.locals (n + k) (n + i) v (λ e. other (omega (arith, e))) ∙ owns.each i u (sym (slice_get-set_other held k i v other) ∙ found))
      (cases_eq i k);
}

first_place : (n : ℕ) → n + 0 ≡ n
first_place n = omega arith

-- the first of them
pub owns_first : (n : ℕ) (s t : LowState) (held : List Value) (v : Value) → OwnsAll n s t held → slice_get held 0 ≡ Some v → slice_get t.locals n ≡ Some v
owns_first n s t held v owns found = subst (λ z. slice_get t.locals z ≡ Some v) (first_place n) (owns.each 0 v found)

pub owns_set_first : (n : ℕ) (s t : LowState) (held : List Value) (v : Value) → OwnsAll n s t held → n + length held ≤ length s.locals → 0 < length held →
    OwnsAll n s (put t n v) (slice_set held 0 v)
owns_set_first n s t held v owns room less = subst (λ z. OwnsAll n s (put t z v) (slice_set held 0 v)) (first_place n) (owns_set n s t held 0 v owns room less)

-- whatever eight of them hold
pub record OwnsEight (n : ℕ) (s t : LowState) : Type 0 where
  pub a : Value
  pub b : Value
  pub c : Value
  pub d : Value
  pub e : Value
  pub f : Value
  pub g : Value
  pub h : Value
  pub owns : OwnsAll n s t (a ∷ b ∷ c ∷ d ∷ e ∷ f ∷ g ∷ h ∷ [])

eight : (l : List Value) (n : ℕ) (a b c d e f g h : Value) → slice_get l (n + 0) ≡ Some a → slice_get l (n + 1) ≡ Some b → slice_get l (n + 2) ≡ Some c → slice_get l (n + 3) ≡ Some d → slice_get l (n + 4) ≡ Some e → slice_get l (n + 5) ≡ Some f → slice_get l (n + 6) ≡ Some g → slice_get l (n + 7) ≡ Some h → (k : ℕ) (v : Value) → slice_get (a ∷ b ∷ c ∷ d ∷ e ∷ f ∷ g ∷ h ∷ []) k ≡ Some v → slice_get l (n + k) ≡ Some v
eight l n a b c d e f g h ha hb hc hd he hf hg hh zero v q = ha ∙ q
eight l n a b c d e f g h ha hb hc hd he hf hg hh (suc zero) v q = hb ∙ q
eight l n a b c d e f g h ha hb hc hd he hf hg hh (suc (suc zero)) v q = hc ∙ q
eight l n a b c d e f g h ha hb hc hd he hf hg hh (suc (suc (suc zero))) v q = hd ∙ q
eight l n a b c d e f g h ha hb hc hd he hf hg hh (suc (suc (suc (suc zero)))) v q = he ∙ q
eight l n a b c d e f g h ha hb hc hd he hf hg hh (suc (suc (suc (suc (suc zero))))) v q = hf ∙ q
eight l n a b c d e f g h ha hb hc hd he hf hg hh (suc (suc (suc (suc (suc (suc zero)))))) v q = hg ∙ q
eight l n a b c d e f g h ha hb hc hd he hf hg hh (suc (suc (suc (suc (suc (suc (suc zero))))))) v q = hh ∙ q
eight l n a b c d e f g h ha hb hc hd he hf hg hh (suc (suc (suc (suc (suc (suc (suc (suc k)))))))) v q = absurd (none-some v q)

pub owns_eight : (n : ℕ) (s t : LowState) → Kept n s t → n + 8 ≤ length s.locals → OwnsEight n s t
owns_eight n s t kept room =
    let many = kept.many in
    let a = found-in t.locals (n + 0) (omega (arith, room, many)) in
    let b = found-in t.locals (n + 1) (omega (arith, room, many)) in
    let c = found-in t.locals (n + 2) (omega (arith, room, many)) in
    let d = found-in t.locals (n + 3) (omega (arith, room, many)) in
    let e = found-in t.locals (n + 4) (omega (arith, room, many)) in
    let f = found-in t.locals (n + 5) (omega (arith, room, many)) in
    let g = found-in t.locals (n + 6) (omega (arith, room, many)) in
    let h = found-in t.locals (n + 7) (omega (arith, room, many)) in
    record {
      a = a.0;
      b = b.0;
      c = c.0;
      d = d.0;
      e = e.0;
      f = f.0;
      g = g.0;
      h = h.0;
      owns = record { kept = kept; each = eight t.locals n a.0 b.0 c.0 d.0 e.0 f.0 g.0 h.0 a.1 b.1 c.1 d.1 e.1 f.1 g.1 h.1 };
    }
