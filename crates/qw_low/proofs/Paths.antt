-- The requests that a statement makes before code that follows, and how many instructions lie between them: a function of the state, as its
-- count is. A set and the get behind it that are one `local.tee` are one instruction here, and two in the count.
use Rattle.std.proofs.Common.{◌≡◌, ℕ, zero, suc, ◌+◌, ◌*◌, ◌≤◌, nat_le, nat_lt, ◌&&◌, if◌then◌else◌, Bool, true, false, length, Option, Some, None, option_and_then, slice_get, slice_set, refl, ⊎_elim, arith}
use Rattle.std.proofs.lemmas.Bool.{cases_Bool}
use Rattle.std.specs.Prelude.{◌==◌}
use Rattle.qw_module.specs.declared.instruction.Op.TheVariants as o
use Rattle.qw_module.specs.Syntax.{Code, done, op, br_if}
use Rattle.qw_module.specs.Numbers.{store_width}
use Rattle.qw_low.specs.Syntax.{Expression, constant_of, Statement, skip, seq, assign, load, store, conditional, while, request, raise, exit}
use Rattle.qw_low.specs.State.{Value, Number, Address, Own, Column, LowState, is_within, stored_as}
use Rattle.qw_low.specs.Meaning.{value, cost, Outcome, Completed, Exited, Stopped, Wrong, Unfinished, and_then, by_value, counting, found_at, meaning, put_at, raised, requested, turns, unless_zero, with_local}
use Rattle.qw_low.specs.Translation.{expression_code, statement_code}
use Rattle.qw_low.specs.Inner.Exact.{Rest, end_of_run, asks, Path}

-- How many instructions of its own it takes to set a local before code that follows: none where that code begins by getting it, since one
-- `local.tee` does both.
abbrev pub set_steps : ℕ → Code → ℕ
set_steps x (op (o.LocalGet y) k) = if x == y then 0 else 1
set_steps x k = 1

-- the path of a statement before the path of what follows it
abbrev pub Steps : Type 0
Steps = ℕ → Rest → Path

abbrev pub quietly : ℕ → Steps
quietly n j r = record { quiet = n + j; rest = r }

abbrev pub delayed : ℕ → Steps → Steps
delayed n steps j r = record { quiet = n + (steps j r).quiet; rest = (steps j r).rest }

abbrev pub asking : (before asked : ℕ) → (granted : Bool) → (after : ℕ) → Steps
asking before asked granted after j r = record { quiet = before; rest = asks asked granted (after + j) r }

abbrev pub steps_then : Outcome → Steps → (LowState → Steps) → Steps
steps_then (Completed n t) first second j r = first (second t j r).quiet (second t j r).rest
steps_then (Exited n t) first second j r = first j r
steps_then (Stopped code n t) first second j r = first j r
steps_then Wrong first second j r = first j r
steps_then Unfinished first second j r = first j r

abbrev pub steps_by : Option Value → (ℕ → Steps) → Steps
steps_by (Some (Number n)) f = f n
steps_by (Some (Address p o)) f = f 1
steps_by None f = quietly 0

abbrev pub steps_unless : ℕ → (other zeroth : Steps) → Steps
steps_unless zero other zeroth = zeroth
steps_unless (suc n) other zeroth = other

abbrev pub steps_turns : Expression → (LowState → Outcome) → (LowState → Steps) → (fuel : ℕ) → LowState → Steps
steps_turns e means body zero s = quietly 0
steps_turns e means body (suc fuel) s = steps_by (value s e) (λ n. steps_unless n
    (delayed (cost e + 2) (steps_then (means s) (body s) (λ t. steps_turns e means body fuel t))) (quietly (cost e + 1)))

abbrev pub steps_asked : (before after : ℕ) → LowState → Option Value → Steps
steps_asked n after s (Some (Number asked)) = if nat_le (s.held + asked) s.limit then asking n asked true after else asking n asked false 6
steps_asked n after s (Some (Address p o)) = quietly 0
steps_asked n after s None = quietly 0

abbrev pub steps : (most fuel : ℕ) → Statement → (following : Code) → LowState → Steps
steps most fuel skip k s = quietly 0
steps most fuel (seq a b) k s = steps_then (meaning most fuel a s) (steps most fuel a (statement_code b k) s) (steps most fuel b k)
steps most fuel (assign x e) k s = quietly (cost e + set_steps x k)
steps most fuel (load x l offset a) k s = quietly (cost a + 1 + set_steps x k)
steps most fuel (store st offset a e) k s = quietly (cost a + cost e + 1)
steps most fuel (conditional e a b) k s = steps_by (value s e) (λ n. delayed (cost e + 1) (steps_unless n (steps most fuel a done s) (steps most fuel b done s)))
steps most fuel (while e a) k s = steps_turns e (meaning most fuel a) (steps most fuel a (expression_code e (br_if 0 done))) fuel s
steps most fuel (request e x) k s = steps_asked (cost e) (7 + set_steps x k) s (value s e)
steps most fuel (raise code) k s = quietly 2
steps most fuel exit k s = quietly 1

-- ---- how many instructions a path has
abbrev pub length_of : Rest → ℕ
length_of end_of_run = 0
length_of (asks asked granted n r) = suc (n + length_of r)

abbrev pub total : Path → ℕ
total p = p.quiet + length_of p.rest

-- A path has no more than n instructions, and at least half as many, before those that follow.
abbrev pub AreCounted : ℕ → Steps → Type 0
AreCounted n τ = (j : ℕ) (r : Rest) → (total (τ j r) ≤ n + (j + length_of r)) × (n + 2 * (j + length_of r) ≤ 2 * total (τ j r))

-- so many as the outcome counts, in which a set and a get that are one `local.tee` are two
abbrev pub Counts : Outcome → Steps → Type 0
Counts (Completed n t) τ = AreCounted n τ
Counts (Exited n t) τ = AreCounted n τ
Counts (Stopped code n t) τ = AreCounted n τ
Counts Wrong τ = Unit {0}
Counts Unfinished τ = Unit {0}

-- the count of an outcome, if it is over
abbrev pub CountIs : ℕ → Outcome → Type 0
CountIs n (Completed m t) = m ≡ n
CountIs n (Exited m t) = m ≡ n
CountIs n (Stopped code m t) = m ≡ n
CountIs n Wrong = Unit {0}
CountIs n Unfinished = Unit {0}

counts_quietly : (m n : ℕ) (out : Outcome) → CountIs n out → m ≤ n → n ≤ 2 * m → Counts out (quietly m)
counts_quietly m n (Completed k t) is most least = λ j r. (omega (arith, is, most), omega (arith, is, least))
counts_quietly m n (Exited k t) is most least = λ j r. (omega (arith, is, most), omega (arith, is, least))
counts_quietly m n (Stopped code k t) is most least = λ j r. (omega (arith, is, most), omega (arith, is, least))
counts_quietly m n Wrong is most least = tt
counts_quietly m n Unfinished is most least = tt

counts_delayed : (n : ℕ) (out : Outcome) (τ : Steps) → Counts out τ → Counts (counting n out) (delayed n τ)
counts_delayed n (Completed m t) τ h = λ j r. let one = h j r in (omega (arith, one.0), omega (arith, one.1))
counts_delayed n (Exited m t) τ h = λ j r. let one = h j r in (omega (arith, one.0), omega (arith, one.1))
counts_delayed n (Stopped code m t) τ h = λ j r. let one = h j r in (omega (arith, one.0), omega (arith, one.1))
counts_delayed n Wrong τ h = tt
counts_delayed n Unfinished τ h = tt

-- one path before another
both_counted : (n m : ℕ) (first second : Steps) → AreCounted n first → AreCounted m second → AreCounted (n + m) (λ j r. first (second j r).quiet (second j r).rest)
both_counted n m first second h g = λ j r.
    let one = h (second j r).quiet (second j r).rest in
    let two = g j r in
    (omega (arith, one.0, two.0), omega (arith, one.1, two.1))

counts_onward : (n : ℕ) (t : LowState) (out : Outcome) (first second : Steps) → Counts (Completed n t) first → Counts out second →
    Counts (counting n out) (λ j r. first (second j r).quiet (second j r).rest)
counts_onward n t (Completed m u) first second h g = both_counted n m first second h g
counts_onward n t (Exited m u) first second h g = both_counted n m first second h g
counts_onward n t (Stopped code m u) first second h g = both_counted n m first second h g
counts_onward n t Wrong first second h g = tt
counts_onward n t Unfinished first second h g = tt

counts_then : (out : Outcome) (f : LowState → Outcome) (first : Steps) (second : LowState → Steps) → Counts out first → ((t : LowState) → Counts (f t) (second t)) →
    Counts (and_then out f) (steps_then out first second)
counts_then (Completed n t) f first second h g = counts_onward n t (f t) first (second t) h (g t)
counts_then (Exited n t) f first second h g = h
counts_then (Stopped code n t) f first second h g = h
counts_then Wrong f first second h g = tt
counts_then Unfinished f first second h g = tt

counts_by : (found : Option Value) (f : ℕ → Outcome) (τ : ℕ → Steps) → ((n : ℕ) → Counts (f n) (τ n)) → Counts (by_value found f) (steps_by found τ)
counts_by None f τ h = tt
counts_by (Some (Number n)) f τ h = h n
counts_by (Some (Address p o)) f τ h = h 1

counts_unless : (n : ℕ) (a b : Outcome) (σ τ : Steps) → Counts a σ → Counts b τ → Counts (unless_zero n a b) (steps_unless n σ τ)
counts_unless zero a b σ τ first second = second
counts_unless (suc n) a b σ τ first second = first

count_local : (n : ℕ) (s : LowState) (x : ℕ) (found : Option Value) → CountIs n (with_local n s x found)
count_local n s x None = tt
count_local n s x (Some v) = by_test (nat_lt x (length s.locals))
  where
    by_test : (b : Bool) → CountIs n (if b then Completed n (record s { locals = slice_set s.locals x v }) else Wrong)
    by_test true = refl
    by_test false = tt

count_put : (n : ℕ) (s : LowState) (offset width : ℕ) (a v : Option Value) → CountIs n (put_at n s offset width a v)
count_put n s offset width None v = tt
count_put n s offset width (Some (Number x)) v = tt
count_put n s offset width (Some (Address (Column k) o)) v = tt
count_put n s offset width (Some (Address (Own k) o)) None = tt
count_put n s offset width (Some (Address (Own k) o)) (Some v) = by_test (is_within (slice_get s.own k) (o + offset + width)) _
  where
    by_test : (b : Bool) (t : LowState) → CountIs n (if b then Completed n t else Wrong)
    by_test true t = refl
    by_test false t = tt

count_raise : (code : ℕ) (s : LowState) → CountIs 2 (raised code s)
count_raise zero s = tt
count_raise (suc zero) s = refl
count_raise (suc (suc zero)) s = refl
count_raise (suc (suc (suc code))) s = tt

counts_asked : (most n after : ℕ) (s : LowState) (x : ℕ) (found : Option Value) → after ≤ 8 → 7 ≤ after → Counts (requested most n s x found) (steps_asked n after s found)
counts_asked most n after s x None le ge = tt
counts_asked most n after s x (Some (Address p o)) le ge = tt
counts_asked most n after s x (Some (Number asked)) le ge =
    by_tests (nat_lt x (length s.locals) && (nat_le 1 asked && nat_le (s.held + asked) most)) (nat_le (s.held + asked) s.limit) _ _
  where
    by_tests : (may grants : Bool) (t u : LowState) → Counts (if may then (if grants then Completed (n + 9) t else Stopped 3 (n + 7) u) else Wrong)
        (if grants then asking n asked true after else asking n asked false 6)
    by_tests true true t u = λ j r. (omega (arith, le), omega (arith, ge))
    by_tests true false t u = λ j r. (omega arith, omega arith)
    by_tests false grants t u = tt

-- an expression has at least one instruction
some_cost : (e : Expression) → 1 ≤ cost e
some_cost (constant_of c) = omega arith
some_cost _ = omega arith

at_most_one : (x : ℕ) (k : Code) → set_steps x k ≤ 1
at_most_one x (op (o.LocalGet y) k) = ⊎_elim (λ same. rw same (omega arith)) (λ other. rw other (omega arith)) (cases_Bool (x == y))
at_most_one x _ = omega arith

module _ (e : Expression) (means : LowState → Outcome) (body : LowState → Steps) (same : (s : LowState) → Counts (means s) (body s)) where
  counts_turns : (fuel : ℕ) (s : LowState) → Counts (turns e means fuel s) (steps_turns e means body fuel s)
  counts_turns zero s = tt
  counts_turns (suc fuel) s = counts_by (value s e) _ _ (λ n. counts_unless n _ _ _ _
      (counts_delayed (cost e + 2) _ _ (counts_then (means s) (λ t. turns e means fuel t) (body s) (λ t. steps_turns e means body fuel t) (same s) (λ t. counts_turns fuel t)))
      (counts_quietly (cost e + 1) (cost e + 1) (Completed (cost e + 1) s) refl (omega arith) (omega arith)))

pub counts : (most fuel : ℕ) (a : Statement) (k : Code) (s : LowState) → Counts (meaning most fuel a s) (steps most fuel a k s)
counts most fuel skip k s = counts_quietly 0 0 (Completed 0 s) refl (omega arith) (omega arith)
counts most fuel (seq a b) k s = counts_then (meaning most fuel a s) (meaning most fuel b) (steps most fuel a (statement_code b k) s) (steps most fuel b k)
    (counts most fuel a (statement_code b k) s) (counts most fuel b k)
counts most fuel (assign x e) k s =
    let own = at_most_one x k in
    let some = some_cost e in
    counts_quietly (cost e + set_steps x k) (cost e + 1) _ (count_local (cost e + 1) s x (value s e)) (omega (arith, own)) (omega (arith, some))
counts most fuel (load x l offset a) k s =
    let own = at_most_one x k in
    counts_quietly (cost a + 1 + set_steps x k) (cost a + 2) _ (count_local (cost a + 2) s x (found_at s l offset (value s a))) (omega (arith, own)) (omega arith)
counts most fuel (store st offset a e) k s = counts_quietly (cost a + cost e + 1) (cost a + cost e + 1) _
    (count_put (cost a + cost e + 1) s offset (store_width st) (value s a) (option_and_then (stored_as st) (value s e))) (omega arith) (omega arith)
counts most fuel (conditional e a b) k s = counts_by (value s e) _ _ (λ n. counts_delayed (cost e + 1) _ _
    (counts_unless n _ _ _ _ (counts most fuel a done s) (counts most fuel b done s)))
counts most fuel (while e a) k s =
    let again : Code = expression_code e (br_if 0 done) in
    counts_turns e (meaning most fuel a) (steps most fuel a again) (counts most fuel a again) fuel s
counts most fuel (request e x) k s = let own = at_most_one x k in counts_asked most (cost e) (7 + set_steps x k) s x (value s e) (omega (arith, own)) (omega arith)
counts most fuel (raise code) k s = counts_quietly 2 2 (raised code s) (count_raise code s) (omega arith) (omega arith)
counts most fuel exit k s = counts_quietly 1 1 (Exited 1 s) refl (omega arith) (omega arith)
