-- A run that was stopped by a refusal says what was asked for.
use Rattle.std.proofs.Common.{◌≡◌, ℕ, zero, suc, ◌+◌, ◌<◌, ◌≤◌, ◌⊎◌, inl, inr, Bool, true, false, nat_le, nat_lt, ◌&&◌, if◌then◌else◌, length, Option, Some, None, slice_get, slice_set, refl}
use Rattle.std.specs.Option.{option_and_then}
use Rattle.std.proofs.lemmas.Bool.{and_parts, leb-true, leb-false}
use Rattle.qw_module.specs.Numbers.{store_width}
use Rattle.qw_low.specs.Syntax.{Expression, Statement, skip, seq, assign, load, store, conditional, while, request, raise, exit}
use Rattle.qw_low.specs.State.{Value, Number, Address, Own, Column, LowState, is_within, stored_as, with_cell}
use Rattle.qw_low.specs.Meaning.{value, cost, Outcome, Completed, Exited, Stopped, Wrong, Unfinished, counting, and_then, with_local, found_at, put_at, by_value, unless_zero, turns, raised, requested, meaning}

-- the last request was refused, and it was past the limit, within the most pages stated
abbrev pub WasRefused : (most : ℕ) → LowState → Type 0
WasRefused most t = (asked : ℕ) × (t.refused ≡ Some asked) × (t.limit < t.held + asked) × (t.held + asked ≤ most)

-- a code that is raised is an exception's, or that of a refusal
abbrev pub Tells : (most : ℕ) → Outcome → Type 0
Tells most (Completed n t) = Unit {0}
Tells most (Exited n t) = Unit {0}
Tells most (Stopped code n t) = (code ≡ 1) ⊎ ((code ≡ 2) ⊎ ((code ≡ 3) × WasRefused most t))
Tells most Wrong = Unit {0}
Tells most Unfinished = Unit {0}

module _ (most : ℕ) where
  counted : (n : ℕ) (out : Outcome) → Tells most out → Tells most (counting n out)
  counted n (Completed m t) h = h
  counted n (Exited m t) h = h
  counted n (Stopped code m t) h = h
  counted n Wrong h = h
  counted n Unfinished h = h

  followed : (out : Outcome) (f : LowState → Outcome) → Tells most out → ((t : LowState) → Tells most (f t)) → Tells most (and_then out f)
  followed (Completed n t) f h next = counted n (f t) (next t)
  followed (Exited n t) f h next = h
  followed (Stopped code n t) f h next = h
  followed Wrong f h next = h
  followed Unfinished f h next = h

  either : (b : Bool) (one other : Outcome) → Tells most one → Tells most other → Tells most (if b then one else other)
  either true one other h g = h
  either false one other h g = g

  set-tells : (n : ℕ) (s : LowState) (x : ℕ) (found : Option Value) → Tells most (with_local n s x found)
  set-tells n s x None = tt
  set-tells n s x (Some v) = either (nat_lt x (length s.locals)) (Completed n (record s { locals = slice_set s.locals x v })) Wrong tt tt

  put-tells : (n : ℕ) (s : LowState) (offset width : ℕ) (at it : Option Value) → Tells most (put_at n s offset width at it)
  put-tells n s offset width None it = tt
  put-tells n s offset width (Some (Number m)) it = tt
  put-tells n s offset width (Some (Address (Column k) o)) it = tt
  put-tells n s offset width (Some (Address (Own k) o)) None = tt
  put-tells n s offset width (Some (Address (Own k) o)) (Some v) =
      either (is_within (slice_get s.own k) (o + offset + width)) (Completed n (record s { cells = with_cell s.cells (Own k) (o + offset) width v })) Wrong tt tt

  chosen-tells : (found : Option Value) (f : ℕ → Outcome) → ((n : ℕ) → Tells most (f n)) → Tells most (by_value found f)
  chosen-tells None f h = tt
  chosen-tells (Some (Number n)) f h = h n
  chosen-tells (Some (Address p o)) f h = h 1

  zero-tells : (n : ℕ) (one other : Outcome) → Tells most one → Tells most other → Tells most (unless_zero n one other)
  zero-tells zero one other h g = g
  zero-tells (suc n) one other h g = h

  turns-tell : (e : Expression) (body : LowState → Outcome) → ((s : LowState) → Tells most (body s)) → (fuel : ℕ) (s : LowState) → Tells most (turns e body fuel s)
  turns-tell e body each zero s = tt
  turns-tell e body each (suc fuel) s = chosen-tells (value s e) _ (λ n. zero-tells n _ _
      (counted (cost e + 2) (and_then (body s) (λ t. turns e body fuel t)) (followed (body s) (λ t. turns e body fuel t) (each s) (λ t. turns-tell e body each fuel t))) tt)

  raise-tells : (code : ℕ) (s : LowState) → Tells most (raised code s)
  raise-tells zero s = tt
  raise-tells (suc zero) s = inl refl
  raise-tells (suc (suc zero)) s = inr (inl refl)
  raise-tells (suc (suc (suc code))) s = tt

  granted-tells : (g h : Bool) (s : LowState) (n m pages : ℕ) (t : LowState) → (g ≡ true → s.held + pages ≤ most) → (h ≡ false → s.limit < s.held + pages) →
      Tells most (if g then (if h then Completed n t else Stopped 3 m (record s { refused = Some pages })) else Wrong)
  granted-tells false h s n m pages t within past = tt
  granted-tells true true s n m pages t within past = tt
  granted-tells true false s n m pages t within past = inr (inr (refl, (pages, refl, past refl, within refl)))

  request-tells : (n : ℕ) (s : LowState) (x : ℕ) (found : Option Value) → Tells most (requested most n s x found)
  request-tells n s x None = tt
  request-tells n s x (Some (Address p o)) = tt
  request-tells n s x (Some (Number pages)) =
      granted-tells (nat_lt x (length s.locals) && (nat_le 1 pages && nat_le (s.held + pages) most)) (nat_le (s.held + pages) s.limit) s (n + 9) (n + 7) pages _
      (λ all. leb-true (s.held + pages) most (and_parts (nat_le 1 pages) (nat_le (s.held + pages) most) (and_parts (nat_lt x (length s.locals)) (nat_le 1 pages && nat_le (s.held + pages) most) all).1).1)
      (λ past. leb-false (s.held + pages) s.limit past)

  pub told : (fuel : ℕ) (a : Statement) (s : LowState) → Tells most (meaning most fuel a s)
  told fuel skip s = tt
  told fuel (seq a b) s = followed (meaning most fuel a s) (meaning most fuel b) (told fuel a s) (told fuel b)
  told fuel (assign x e) s = set-tells (cost e + 1) s x (value s e)
  told fuel (load x l offset a) s = set-tells (cost a + 2) s x (found_at s l offset (value s a))
  told fuel (store st offset a e) s = put-tells (cost a + cost e + 1) s offset (store_width st) (value s a) (option_and_then (stored_as st) (value s e))
  told fuel (conditional e a b) s = chosen-tells (value s e) (λ n. counting (cost e + 1) (unless_zero n (meaning most fuel a s) (meaning most fuel b s)))
      (λ n. counted (cost e + 1) (unless_zero n (meaning most fuel a s) (meaning most fuel b s)) (zero-tells n (meaning most fuel a s) (meaning most fuel b s) (told fuel a s) (told fuel b s)))
  told fuel (while e a) s = turns-tell e (meaning most fuel a) (told fuel a) fuel s
  told fuel (request e x) s = request-tells (cost e) s x (value s e)
  told fuel (raise code) s = raise-tells code s
  told fuel exit s = tt
