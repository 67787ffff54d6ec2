-- A statement that sets a local nowhere leaves it as it was.
use Rattle.std.proofs.Common.{◌≡◌, ◌≢◌, ℕ, zero, suc, ◌+◌, ◌⊎◌, inl, inr, ◌&&◌, nat_le, nat_lt, if◌then◌else◌, Bool, true, false, length, Option, Some, None, option_and_then, slice_get, slice_set, refl, sym, ◌∙◌, subst}
use Rattle.std.proofs.lemmas.Bool.{cases_eq}
use Rattle.std.proofs.lemmas.Option.{slice_get_within}
use Rattle.qw_map.proofs.TurnFacts.{slice_get-set_other, slice_get-set_same}
use Rattle.qw_module.specs.Numbers.{store_width}
use Rattle.qw_low.specs.Syntax.{Expression, local, Statement, skip, seq, assign, load, store, conditional, while, request, raise, exit}
use Rattle.qw_low.specs.State.{Value, Number, Address, Own, Column, LowState, is_within, stored_as}
use Rattle.qw_low.specs.Meaning.{value, cost, Outcome, Completed, Exited, Stopped, Wrong, Unfinished, and_then, by_value, counting, found_at, meaning, put_at, raised, requested, turns, unless_zero, with_local}
use Rattle.qw_limit.specs.Counting.{Spares}

-- in the state that an outcome has the local holds this
abbrev pub Holds : (z : ℕ) → Option Value → Outcome → Type 0
Holds z found (Completed n t) = slice_get t.locals z ≡ found
Holds z found (Exited n t) = slice_get t.locals z ≡ found
Holds z found (Stopped code n t) = slice_get t.locals z ≡ found
Holds z found Wrong = Unit {0}
Holds z found Unfinished = Unit {0}

module _ (z : ℕ) where
  holds-counting : (found : Option Value) (n : ℕ) (out : Outcome) → Holds z found out → Holds z found (counting n out)
  holds-counting found n (Completed m t) h = h
  holds-counting found n (Exited m t) h = h
  holds-counting found n (Stopped code m t) h = h
  holds-counting found n Wrong h = tt
  holds-counting found n Unfinished h = tt

  holds-same : (found was : Option Value) (out : Outcome) → was ≡ found → Holds z was out → Holds z found out
  holds-same found was (Completed n t) same h = h ∙ same
  holds-same found was (Exited n t) same h = h ∙ same
  holds-same found was (Stopped code n t) same h = h ∙ same
  holds-same found was Wrong same h = tt
  holds-same found was Unfinished same h = tt

  abbrev at : LowState → Option Value
  at t = slice_get t.locals z

  holds-then : (found : Option Value) (out : Outcome) (f : LowState → Outcome) → Holds z found out → ((t : LowState) → Holds z (at t) (f t)) → Holds z found (and_then out f)
  holds-then found (Completed n t) f h g = holds-counting found n (f t) (holds-same found (at t) (f t) h (g t))
  holds-then found (Exited n t) f h g = h
  holds-then found (Stopped code n t) f h g = h
  holds-then found Wrong f h g = tt
  holds-then found Unfinished f h g = tt

  holds-by : (found : Option Value) (v : Option Value) (f : ℕ → Outcome) → ((n : ℕ) → Holds z found (f n)) → Holds z found (by_value v f)
  holds-by found None f h = tt
  holds-by found (Some (Number n)) f h = h n
  holds-by found (Some (Address p o)) f h = h 1

  holds-unless : (found : Option Value) (n : ℕ) (a b : Outcome) → Holds z found a → Holds z found b → Holds z found (unless_zero n a b)
  holds-unless found zero a b first second = second
  holds-unless found (suc n) a b first second = first

  holds-local : (n : ℕ) (s : LowState) (x : ℕ) (v : Option Value) → x ≢ z → Holds z (at s) (with_local n s x v)
  holds-local n s x None other = tt
  holds-local n s x (Some v) other = by_test (nat_lt x (length s.locals))
    where
      by_test : (b : Bool) → Holds z (at s) (if b then Completed n (record s { locals = slice_set s.locals x v }) else Wrong)
      by_test true = slice_get-set_other s.locals x z v (λ e. other (sym e))
      by_test false = tt

  -- it is set to what it holds
  holds-itself : (n : ℕ) (s : LowState) (found : Option Value) → at s ≡ found → Holds z (at s) (with_local n s z found)
  holds-itself n s None is = tt
  holds-itself n s (Some v) is = by_test (nat_lt z (length s.locals))
    where
      by_test : (b : Bool) → Holds z (at s) (if b then Completed n (record s { locals = slice_set s.locals z v }) else Wrong)
      by_test true = slice_get-set_same s.locals z v (slice_get_within s.locals z v is) ∙ sym is
      by_test false = tt

  holds-assign : (n : ℕ) (s : LowState) (x : ℕ) (e : Expression) → (x ≢ z) ⊎ (e ≡ local z) → Holds z (at s) (with_local n s x (value s e))
  holds-assign n s x e (inl other) = holds-local n s x (value s e) other
  holds-assign n s x e (inr itself) = by_place (cases_eq x z)
    where
      by_place : (x ≡ z) ⊎ (x ≡ z → ⊥) → Holds z (at s) (with_local n s x (value s e))
      by_place (inl here) = subst (λ (y : ℕ). Holds z (at s) (with_local n s y (value s e))) (sym here) (subst (λ (d : Expression). Holds z (at s) (with_local n s z (value s d))) (sym itself) (holds-itself n s (at s) refl))
      by_place (inr elsewhere) = holds-local n s x (value s e) elsewhere

  holds-put : (n : ℕ) (s : LowState) (offset width : ℕ) (a v : Option Value) → Holds z (at s) (put_at n s offset width a v)
  holds-put n s offset width None v = tt
  holds-put n s offset width (Some (Number x)) v = tt
  holds-put n s offset width (Some (Address (Column k) o)) v = tt
  holds-put n s offset width (Some (Address (Own k) o)) None = tt
  holds-put n s offset width (Some (Address (Own k) o)) (Some v) = by_test (is_within (slice_get s.own k) (o + offset + width)) _ refl
    where
      by_test : (b : Bool) (t : LowState) → at t ≡ at s → Holds z (at s) (if b then Completed n t else Wrong)
      by_test true t same = same
      by_test false t same = tt

  holds-raise : (code : ℕ) (s : LowState) → Holds z (at s) (raised code s)
  holds-raise zero s = tt
  holds-raise (suc zero) s = refl
  holds-raise (suc (suc zero)) s = refl
  holds-raise (suc (suc (suc code))) s = tt

  holds-asked : (most n : ℕ) (s : LowState) (x : ℕ) (v : Option Value) → x ≢ z → Holds z (at s) (requested most n s x v)
  holds-asked most n s x None other = tt
  holds-asked most n s x (Some (Address p o)) other = tt
  holds-asked most n s x (Some (Number asked)) other =
      by_tests (nat_lt x (length s.locals) && (nat_le 1 asked && nat_le (s.held + asked) most)) (nat_le (s.held + asked) s.limit) _ _ (slice_get-set_other s.locals x z _ (λ e. other (sym e))) refl
    where
      by_tests : (may grants : Bool) (t u : LowState) → at t ≡ at s → at u ≡ at s → Holds z (at s) (if may then (if grants then Completed (n + 9) t else Stopped 3 (n + 7) u) else Wrong)
      by_tests true true t u set refused = set
      by_tests true false t u set refused = refused
      by_tests false grants t u set refused = tt

  module _ (e : Expression) (means : LowState → Outcome) (same : (s : LowState) → Holds z (at s) (means s)) where
    holds-turns : (fuel : ℕ) (s : LowState) → Holds z (at s) (turns e means fuel s)
    holds-turns zero s = tt
    holds-turns (suc fuel) s = holds-by (at s) (value s e) _ (λ n. holds-unless (at s) n _ _
        (holds-counting (at s) (cost e + 2) _ (holds-then (at s) (means s) (λ t. turns e means fuel t) (same s) (λ t. holds-turns fuel t))) refl)

  pub spared : (most fuel : ℕ) (a : Statement) (s : LowState) → Spares z a → Holds z (slice_get s.locals z) (meaning most fuel a s)
  spared most fuel skip s h = refl
  spared most fuel (seq a b) s h = holds-then (at s) (meaning most fuel a s) (meaning most fuel b) (spared most fuel a s h.0) (λ t. spared most fuel b t h.1)
  spared most fuel (assign x e) s h = holds-assign (cost e + 1) s x e h
  spared most fuel (load x l offset a) s h = holds-local (cost a + 2) s x (found_at s l offset (value s a)) h
  spared most fuel (store st offset a e) s h = holds-put (cost a + cost e + 1) s offset (store_width st) (value s a) (option_and_then (stored_as st) (value s e))
  spared most fuel (conditional e a b) s h = holds-by (at s) (value s e) _ (λ n. holds-counting (at s) (cost e + 1) _ (holds-unless (at s) n _ _ (spared most fuel a s h.0) (spared most fuel b s h.1)))
  spared most fuel (while e a) s h = holds-turns e (meaning most fuel a) (λ t. spared most fuel a t h) fuel s
  spared most fuel (request e x) s h = holds-asked most (cost e) s x (value s e) h
  spared most fuel (raise code) s h = holds-raise code s
  spared most fuel exit s h = refl
