-- A countdown by the rules for blocks: how emitters prove what theirs promise.
use Rattle.std.proofs.Common.{◌≡◌, ℕ, zero, suc, ◌+◌, ◌-◌, ◌*◌, ◌%◌, ◌^◌, ◌<◌, ◌⊎◌, inl, inr, length, length-set, Some, slice_get, refl, sym, subst, arith}
use Rattle.qw_module.specs.declared.instruction.ValType.TheVariants.{I32}
use Rattle.qw_module.specs.declared.instruction.Binary.TheVariants.{Sub}
use Rattle.qw_map.proofs.TurnFacts.{slice_get-set_same}
use Rattle.qw_low.specs.Syntax.{Expression, local, binop, Statement, skip, seq, assign, conditional, while, raise}
use Rattle.qw_low.specs.State.{Number, LowState}
use Rattle.qw_low.specs.Meaning.{value, meaning}
use Rattle.qw_low.specs.Promise.{Ends, IsSet}
use Rattle.qw_low.specs.Worked.{i32}
use Rattle.qw_low.proofs.Promises.{Ends-then, assign_ends, conditional_ends, turns_end}

module _ (most fuel x : ℕ) where
  abbrev pub one_less : Expression
  one_less = binop I32 Sub (local x) (i32 1)

  abbrev pub body : Statement
  body = seq (conditional (local x) skip (raise 1)) (assign x one_less)

  abbrev pub Left : ℕ → LowState → Type 0
  Left k s = (slice_get s.locals x ≡ Some (Number k)) × (x < length s.locals) × (k < 2 ^ 32)

  abbrev pub Never : LowState → Type 0
  Never s = ⊥

  abbrev pub NoCode : ℕ → Type 0
  NoCode code = ⊥

  one_less-is : (n : ℕ) (s : LowState) → Left (suc n) s → value s one_less ≡ Some (Number n)
  one_less-is n s now =
      let difference : (suc n + 2 ^ 32 - 1) % 2 ^ 32 ≡ n = omega (arith, now.2) in
      rw (now.0, difference) refl

  assigned : (n : ℕ) (s : LowState) → Left (suc n) s → Ends 4 (Left n) Never NoCode (meaning most fuel (assign x one_less) s)
  assigned n s now = assign_ends (Left n) Never NoCode most fuel x one_less (Number n) s (one_less-is n s now) now.1
      (slice_get-set_same s.locals x (Number n) now.1, subst (λ (k : ℕ). x < k) (sym (length-set s.locals x (Number n))) now.1, omega (arith, now.2))

  body_ends : (n : ℕ) (s : LowState) → Left (suc n) s → Ends 6 (Left n) Never NoCode (meaning most fuel body s)
  body_ends n s now = Ends-then (Left n) Never NoCode 2 4 (λ (t : LowState). t ≡ s) (meaning most fuel (conditional (local x) skip (raise 1)) s) (meaning most fuel (assign x one_less))
      (conditional_ends (λ (t : LowState). t ≡ s) Never NoCode most fuel 0 (local x) skip (raise 1) s (inl (inl (n, now.0), (omega arith, refl))))
      (λ t same. assigned n t (subst (λ (u : LowState). Left (suc n) u) (sym same) now))

  turn : (k : ℕ) (s : LowState) → Left k s → ((value s (local x) ≡ Some (Number 0)) × (slice_get s.locals x ≡ Some (Number 0))) ⊎ (IsSet (value s (local x)) × (j : ℕ) × (j < k) × Ends 6 (Left j) Never NoCode (meaning most fuel body s))
  turn zero s now = inl (now.0, now.0)
  turn (suc n) s now = inr (inl (n, now.0), n, omega arith, body_ends n s now)

  pub countdown_ends : (n : ℕ) (s : LowState) → slice_get s.locals x ≡ Some (Number n) → x < length s.locals → n < 2 ^ 32 → n < fuel →
      Ends (n * 9 + 2) (λ (t : LowState). slice_get t.locals x ≡ Some (Number 0)) Never NoCode (meaning most fuel (while (local x) body) s)
  countdown_ends n s is room small more = turns_end 6 Left (λ (t : LowState). slice_get t.locals x ≡ Some (Number 0)) Never NoCode (local x) (meaning most fuel body) turn fuel n s more (is, room, small)
