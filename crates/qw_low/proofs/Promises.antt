-- Promises of blocks from those of their parts.
use Rattle.std.proofs.Common.{◌≡◌, ℕ, zero, suc, ◌+◌, ◌*◌, ◌<◌, ◌≤◌, ◌⊎◌, inl, inr, suc-mul, length, Option, Some, slice_set, ⊎_elim, arith}
use Rattle.std.proofs.lemmas.Bool.{lt-ltb}
use Rattle.std.proofs.lemmas.Nat.{mul-le}
use Rattle.qw_low.specs.Syntax.{Expression, Statement, assign, conditional}
use Rattle.qw_low.specs.State.{Value, Number, LowState}
use Rattle.qw_low.specs.Meaning.{value, cost, Outcome, Completed, Exited, Stopped, Wrong, Unfinished, counting, and_then, by_value, unless_zero, turns, meaning}
use Rattle.qw_low.specs.Promise.{Ends, IsSet}

-- more instructions, and less that holds
pub Ends-weaker : (m n : ℕ) (P P' X X' : LowState → Type 0) (R R' : ℕ → Type 0) (out : Outcome) → m ≤ n → ((s : LowState) → P s → P' s) → ((s : LowState) → X s → X' s) → ((code : ℕ) → R code → R' code) →
    Ends m P X R out → Ends n P' X' R' out
Ends-weaker m n P P' X X' R R' (Completed k s) le post exits raises h = (omega (arith, h.0), post s h.1)
Ends-weaker m n P P' X X' R R' (Exited k s) le post exits raises h = (omega (arith, h.0), exits s h.1)
Ends-weaker m n P P' X X' R R' (Stopped code k s) le post exits raises h = (omega (arith, h.0), raises code h.1)
Ends-weaker m n P P' X X' R R' Wrong le post exits raises h = h
Ends-weaker m n P P' X X' R R' Unfinished le post exits raises h = h

module _ (P X : LowState → Type 0) (R : ℕ → Type 0) where
  pub Ends-more : (m n : ℕ) (out : Outcome) → m ≤ n → Ends m P X R out → Ends n P X R out
  Ends-more m n out le h = Ends-weaker m n P P X X R R out le (λ s p. p) (λ s x. x) (λ code r. r) h

  -- instructions before it
  pub Ends-counting : (k l m : ℕ) (out : Outcome) → k ≤ l → Ends m P X R out → Ends (l + m) P X R (counting k out)
  Ends-counting k l m (Completed n s) le h = (omega (arith, h.0), h.1)
  Ends-counting k l m (Exited n s) le h = (omega (arith, h.0), h.1)
  Ends-counting k l m (Stopped code n s) le h = (omega (arith, h.0), h.1)
  Ends-counting k l m Wrong le h = h
  Ends-counting k l m Unfinished le h = h

  -- one after another
  pub Ends-then : (m n : ℕ) (M : LowState → Type 0) (out : Outcome) (f : LowState → Outcome) → Ends m M X R out → ((t : LowState) → M t → Ends n P X R (f t)) →
      Ends (m + n) P X R (and_then out f)
  Ends-then m n M (Completed k s) f first second = Ends-counting k m n (f s) first.0 (second s first.1)
  Ends-then m n M (Exited k s) f first second = (omega (arith, first.0), first.1)
  Ends-then m n M (Stopped code k s) f first second = (omega (arith, first.0), first.1)
  Ends-then m n M Wrong f first second = first
  Ends-then m n M Unfinished f first second = first

  pub assign_ends : (most fuel x : ℕ) (e : Expression) (v : Value) (s : LowState) → value s e ≡ Some v → x < length s.locals →
      P (record s { locals = slice_set s.locals x v }) → Ends (cost e + 1) P X R (meaning most fuel (assign x e) s)
  assign_ends most fuel x e v s is room post = rw (is, lt-ltb x (length s.locals) room) (omega arith, post)

  -- a choice leads one way or the other
  pub set_leads : (found : Option Value) (m : ℕ) (other zeroth : Outcome) (more : Outcome → Outcome) → IsSet found → Ends m P X R (more other) → Ends m P X R (by_value found (λ n. more (unless_zero n other zeroth)))
  set_leads found m other zeroth more (inl number) h = rw (number.1) h
  set_leads found m other zeroth more (inr address) h = rw (address.2) h

  pub conditional_ends : (most fuel m : ℕ) (e : Expression) (a b : Statement) (s : LowState) →
      (IsSet (value s e) × Ends m P X R (meaning most fuel a s)) ⊎ ((value s e ≡ Some (Number 0)) × Ends m P X R (meaning most fuel b s)) → Ends (cost e + 1 + m) P X R (meaning most fuel (conditional e a b) s)
  conditional_ends most fuel m e a b s (inl leads) =
      set_leads (value s e) (cost e + 1 + m) (meaning most fuel a s) (meaning most fuel b s) (counting (cost e + 1)) leads.0 (Ends-counting (cost e + 1) (cost e + 1) m (meaning most fuel a s) (omega arith) leads.1)
  conditional_ends most fuel m e a b s (inr leads) = rw (leads.0) (Ends-counting (cost e + 1) (cost e + 1) m (meaning most fuel b s) (omega arith) leads.1)

-- A loop over units: each turn leaves fewer, until the condition is 0. Its tests and branches are two instructions more a turn than the
-- condition and the body.
module _ (each : ℕ) (I : ℕ → LowState → Type 0) (P X : LowState → Type 0) (R : ℕ → Type 0) (e : Expression) (body : LowState → Outcome)
    (turn : (k : ℕ) (s : LowState) → I k s → ((value s e ≡ Some (Number 0)) × P s) ⊎ (IsSet (value s e) × (j : ℕ) × (j < k) × Ends each (I j) X R (body s))) where
  abbrev bound : ℕ → ℕ
  bound k = k * (each + cost e + 2) + (cost e + 1)

  -- fewer units, and a turn
  fewer : (j k : ℕ) → j < k → cost e + 2 + (each + bound j) ≤ bound k
  fewer j k less =
      let product : suc j * (each + cost e + 2) ≤ k * (each + cost e + 2) = mul-le (suc j) (each + cost e + 2) k (each + cost e + 2) less (omega arith) in
      omega (arith, product, suc-mul j (each + cost e + 2))

  pub turns_end : (fuel k : ℕ) (s : LowState) → k < fuel → I k s → Ends (bound k) P X R (turns e body fuel s)
  turns_end zero k s more now = absurd (omega arith)
  turns_end (suc fuel) k s more now = ⊎_elim
      (λ last. rw (last.0) (omega arith, last.1))
      (λ one. set_leads P X R (value s e) (bound k) (counting (cost e + 2) (and_then (body s) (λ t. turns e body fuel t))) (Completed (cost e + 1) s) (λ out. out) one.0
      (Ends-more P X R (cost e + 2 + (each + bound one.1)) (bound k) _ (fewer one.1 k one.2)
      (Ends-counting P X R (cost e + 2) (cost e + 2) (each + bound one.1) (and_then (body s) (λ t. turns e body fuel t)) (omega arith)
      (Ends-then P X R each (bound one.1) (I one.1) (body s) (λ t. turns e body fuel t) one.3
      (λ t it. turns_end fuel one.1 t (omega (arith, one.2)) it)))))
      (turn k s now)
