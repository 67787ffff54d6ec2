-- Only what stops with 3 has had a request refused: a statement that is completed, exits, or raises another code leaves the last refused one as it was.
use Rattle.std.proofs.Common.{◌≡◌, ℕ, zero, suc, ◌+◌, ◌⊎◌, inl, inr, nat_le, nat_lt, ◌&&◌, if◌then◌else◌, Bool, true, false, length, Option, Some, None, option_and_then, slice_get, slice_set, refl, ◌∙◌}
use Rattle.qw_module.specs.Numbers.{store_width}
use Rattle.qw_low.specs.Syntax.{Expression, Statement, skip, seq, assign, load, store, conditional, while, request, raise, exit}
use Rattle.qw_low.specs.State.{Value, Number, Address, Own, Column, LowState, is_within, stored_as}
use Rattle.qw_low.specs.Meaning.{value, cost, Outcome, Completed, Exited, Stopped, Wrong, Unfinished, and_then, by_value, counting, found_at, meaning, put_at, raised, requested, turns, unless_zero, with_local}

-- an outcome from a state with this last refused request
abbrev pub Refuses : Option ℕ → Outcome → Type 0
Refuses r (Completed n t) = t.refused ≡ r
Refuses r (Exited n t) = t.refused ≡ r
Refuses r (Stopped code n t) = (code ≡ 3) ⊎ (t.refused ≡ r)
Refuses r Wrong = Unit {0}
Refuses r Unfinished = Unit {0}

refuses-counting : (r : Option ℕ) (n : ℕ) (out : Outcome) → Refuses r out → Refuses r (counting n out)
refuses-counting r n (Completed m t) h = h
refuses-counting r n (Exited m t) h = h
refuses-counting r n (Stopped code m t) h = h
refuses-counting r n Wrong h = tt
refuses-counting r n Unfinished h = tt

refuses-same : (r q : Option ℕ) (out : Outcome) → q ≡ r → Refuses q out → Refuses r out
refuses-same r q (Completed n t) same h = h ∙ same
refuses-same r q (Exited n t) same h = h ∙ same
refuses-same r q (Stopped code n t) same (inl is) = inl is
refuses-same r q (Stopped code n t) same (inr h) = inr (h ∙ same)
refuses-same r q Wrong same h = tt
refuses-same r q Unfinished same h = tt

refuses-then : (r : Option ℕ) (out : Outcome) (f : LowState → Outcome) → Refuses r out → ((t : LowState) → Refuses t.refused (f t)) → Refuses r (and_then out f)
refuses-then r (Completed n t) f h g = refuses-counting r n (f t) (refuses-same r t.refused (f t) h (g t))
refuses-then r (Exited n t) f h g = h
refuses-then r (Stopped code n t) f h g = h
refuses-then r Wrong f h g = tt
refuses-then r Unfinished f h g = tt

refuses-by : (r : Option ℕ) (found : Option Value) (f : ℕ → Outcome) → ((n : ℕ) → Refuses r (f n)) → Refuses r (by_value found f)
refuses-by r None f h = tt
refuses-by r (Some (Number n)) f h = h n
refuses-by r (Some (Address p o)) f h = h 1

refuses-unless : (r : Option ℕ) (n : ℕ) (a b : Outcome) → Refuses r a → Refuses r b → Refuses r (unless_zero n a b)
refuses-unless r zero a b first second = second
refuses-unless r (suc n) a b first second = first

refuses-local : (n : ℕ) (s : LowState) (x : ℕ) (found : Option Value) → Refuses s.refused (with_local n s x found)
refuses-local n s x None = tt
refuses-local n s x (Some v) = by_test (nat_lt x (length s.locals))
  where
    by_test : (b : Bool) → Refuses s.refused (if b then Completed n (record s { locals = slice_set s.locals x v }) else Wrong)
    by_test true = refl
    by_test false = tt

refuses-put : (n : ℕ) (s : LowState) (offset width : ℕ) (a v : Option Value) → Refuses s.refused (put_at n s offset width a v)
refuses-put n s offset width None v = tt
refuses-put n s offset width (Some (Number x)) v = tt
refuses-put n s offset width (Some (Address (Column k) o)) v = tt
refuses-put n s offset width (Some (Address (Own k) o)) None = tt
refuses-put n s offset width (Some (Address (Own k) o)) (Some v) = by_test (is_within (slice_get s.own k) (o + offset + width)) _ refl
  where
    by_test : (b : Bool) (t : LowState) → t.refused ≡ s.refused → Refuses s.refused (if b then Completed n t else Wrong)
    by_test true t same = same
    by_test false t same = tt

refuses-raise : (code : ℕ) (s : LowState) → Refuses s.refused (raised code s)
refuses-raise zero s = tt
refuses-raise (suc zero) s = inr refl
refuses-raise (suc (suc zero)) s = inr refl
refuses-raise (suc (suc (suc code))) s = tt

refuses-asked : (most n : ℕ) (s : LowState) (x : ℕ) (found : Option Value) → Refuses s.refused (requested most n s x found)
refuses-asked most n s x None = tt
refuses-asked most n s x (Some (Address p o)) = tt
refuses-asked most n s x (Some (Number asked)) =
    by_tests (nat_lt x (length s.locals) && (nat_le 1 asked && nat_le (s.held + asked) most)) (nat_le (s.held + asked) s.limit) _ _ refl
  where
    by_tests : (may grants : Bool) (t u : LowState) → t.refused ≡ s.refused → Refuses s.refused (if may then (if grants then Completed (n + 9) t else Stopped 3 (n + 7) u) else Wrong)
    by_tests true true t u same = same
    by_tests true false t u same = inl refl
    by_tests false grants t u same = tt

module _ (e : Expression) (means : LowState → Outcome) (same : (s : LowState) → Refuses s.refused (means s)) where
  refuses-turns : (fuel : ℕ) (s : LowState) → Refuses s.refused (turns e means fuel s)
  refuses-turns zero s = tt
  refuses-turns (suc fuel) s = refuses-by s.refused (value s e) _ (λ n. refuses-unless s.refused n _ _
      (refuses-counting s.refused (cost e + 2) _ (refuses-then s.refused (means s) (λ t. turns e means fuel t) (same s) (λ t. refuses-turns fuel t))) refl)

pub refuses : (most fuel : ℕ) (a : Statement) (s : LowState) → Refuses s.refused (meaning most fuel a s)
refuses most fuel skip s = refl
refuses most fuel (seq a b) s = refuses-then s.refused (meaning most fuel a s) (meaning most fuel b) (refuses most fuel a s) (refuses most fuel b)
refuses most fuel (assign x e) s = refuses-local (cost e + 1) s x (value s e)
refuses most fuel (load x l offset a) s = refuses-local (cost a + 2) s x (found_at s l offset (value s a))
refuses most fuel (store st offset a e) s = refuses-put (cost a + cost e + 1) s offset (store_width st) (value s a) (option_and_then (stored_as st) (value s e))
refuses most fuel (conditional e a b) s = refuses-by s.refused (value s e) _ (λ n. refuses-counting s.refused (cost e + 1) _ (refuses-unless s.refused n _ _ (refuses most fuel a s) (refuses most fuel b s)))
refuses most fuel (while e a) s = refuses-turns e (meaning most fuel a) (refuses most fuel a) fuel s
refuses most fuel (request e x) s = refuses-asked most (cost e) s x (value s e)
refuses most fuel (raise code) s = refuses-raise code s
refuses most fuel exit s = refl
