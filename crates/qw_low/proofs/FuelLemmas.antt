-- More fuel changes no outcome that is finished.
use Rattle.std.proofs.Common.{◌≡◌, ◌≢◌, ℕ, zero, suc, ◌+◌, Option, Some, None, refl, sym, ap, ◌∙◌, arith}
use Rattle.qw_low.specs.Syntax.{Expression, Statement, skip, seq, assign, load, store, conditional, while, request, raise, exit}
use Rattle.qw_low.specs.State.{Value, Number, Address, LowState}
use Rattle.qw_low.specs.Meaning.{value, cost, Outcome, Completed, Exited, Stopped, Wrong, Unfinished, counting, and_then, by_value, unless_zero, turns, meaning}

abbrev pub Finished : Outcome → Type 0
Finished (Completed n s) = Unit {0}
Finished (Exited n s) = Unit {0}
Finished (Stopped code n s) = Unit {0}
Finished Wrong = Unit {0}
Finished Unfinished = ⊥

finished-is : (out : Outcome) → out ≢ Unfinished → Finished out
finished-is (Completed n s) h = tt
finished-is (Exited n s) h = tt
finished-is (Stopped code n s) h = tt
finished-is Wrong h = tt
finished-is Unfinished h = h refl

finished-counting : (n : ℕ) (out : Outcome) → Finished (counting n out) → Finished out
finished-counting n (Completed m s) h = h
finished-counting n (Exited m s) h = h
finished-counting n (Stopped code m s) h = h
finished-counting n Wrong h = h
finished-counting n Unfinished h = h

finished-first : (out : Outcome) (f : LowState → Outcome) → Finished (and_then out f) → Finished out
finished-first (Completed n s) f h = tt
finished-first (Exited n s) f h = tt
finished-first (Stopped code n s) f h = tt
finished-first Wrong f h = tt
finished-first Unfinished f h = h

-- what follows is the same wherever it is finished
and_then-same : (out : Outcome) (f g : LowState → Outcome) → Finished (and_then out f) → ((t : LowState) → Finished (f t) → g t ≡ f t) → and_then out g ≡ and_then out f
and_then-same (Completed n s) f g h same = ap (counting n) (same s (finished-counting n (f s) h))
and_then-same (Exited n s) f g h same = refl
and_then-same (Stopped code n s) f g h same = refl
and_then-same Wrong f g h same = refl
and_then-same Unfinished f g h same = refl

by_value-same : (found : Option Value) (f g : ℕ → Outcome) → Finished (by_value found f) → ((n : ℕ) → Finished (f n) → g n ≡ f n) → by_value found g ≡ by_value found f
by_value-same None f g h same = refl
by_value-same (Some (Number n)) f g h same = same n h
by_value-same (Some (Address p offset)) f g h same = same 1 h

unless_zero-same : (n : ℕ) (a b a' b' : Outcome) → Finished (unless_zero n a b) → (Finished a → a' ≡ a) → (Finished b → b' ≡ b) → unless_zero n a' b' ≡ unless_zero n a b
unless_zero-same zero a b a' b' h first second = second h
unless_zero-same (suc n) a b a' b' h first second = first h

-- a loop whose body does the same, with a turn more
module _ (e : Expression) (body other : LowState → Outcome) (same : (t : LowState) → Finished (body t) → other t ≡ body t) where
  turns-more : (fuel : ℕ) (s : LowState) → Finished (turns e body fuel s) → turns e other (suc fuel) s ≡ turns e body fuel s
  turns-more zero s h = absurd h
  turns-more (suc fuel) s h = by_value-same (value s e)
      (λ n. unless_zero n (counting (cost e + 2) (and_then (body s) (λ t. turns e body fuel t))) (Completed (cost e + 1) s))
      (λ n. unless_zero n (counting (cost e + 2) (and_then (other s) (λ t. turns e other (suc fuel) t))) (Completed (cost e + 1) s)) h
      (λ n over. unless_zero-same n (counting (cost e + 2) (and_then (body s) (λ t. turns e body fuel t))) (Completed (cost e + 1) s)
      (counting (cost e + 2) (and_then (other s) (λ t. turns e other (suc fuel) t))) (Completed (cost e + 1) s) over
      (λ turned.
      let both : Finished (and_then (body s) (λ t. turns e body fuel t)) = finished-counting (cost e + 2) (and_then (body s) (λ t. turns e body fuel t)) turned in
      let first : other s ≡ body s = same s (finished-first (body s) (λ t. turns e body fuel t) both) in
      ap (λ (out : Outcome). counting (cost e + 2) (and_then out (λ t. turns e other (suc fuel) t))) first
      ∙ ap (counting (cost e + 2)) (and_then-same (body s) (λ t. turns e body fuel t) (λ t. turns e other (suc fuel) t) both
      (λ t last. turns-more fuel t last)))
      (λ last. refl))

one_more : (most fuel : ℕ) (a : Statement) (s : LowState) → Finished (meaning most fuel a s) → meaning most (suc fuel) a s ≡ meaning most fuel a s
one_more most fuel skip s h = refl
one_more most fuel (seq a b) s h =
    ap (λ (out : Outcome). and_then out (meaning most (suc fuel) b)) (one_more most fuel a s (finished-first (meaning most fuel a s) (meaning most fuel b) h))
    ∙ and_then-same (meaning most fuel a s) (meaning most fuel b) (meaning most (suc fuel) b) h (λ t over. one_more most fuel b t over)
one_more most fuel (assign x e) s h = refl
one_more most fuel (load x l offset e) s h = refl
one_more most fuel (store st offset e v) s h = refl
one_more most fuel (conditional e a b) s h = by_value-same (value s e)
    (λ n. counting (cost e + 1) (unless_zero n (meaning most fuel a s) (meaning most fuel b s)))
    (λ n. counting (cost e + 1) (unless_zero n (meaning most (suc fuel) a s) (meaning most (suc fuel) b s))) h
    (λ n over. ap (counting (cost e + 1)) (unless_zero-same n (meaning most fuel a s) (meaning most fuel b s) (meaning most (suc fuel) a s) (meaning most (suc fuel) b s)
    (finished-counting (cost e + 1) (unless_zero n (meaning most fuel a s) (meaning most fuel b s)) over) (one_more most fuel a s) (one_more most fuel b s)))
one_more most fuel (while e a) s h = turns-more e (meaning most fuel a) (meaning most (suc fuel) a) (one_more most fuel a) fuel s h
one_more most fuel (request e x) s h = refl
one_more most fuel (raise code) s h = refl
one_more most fuel exit s h = refl

pub more_fuel : (most fuel more : ℕ) (a : Statement) (s : LowState) → meaning most fuel a s ≢ Unfinished → meaning most (more + fuel) a s ≡ meaning most fuel a s
more_fuel most fuel zero a s h =
    let none : 0 + fuel ≡ fuel = omega arith in
    ap (λ (n : ℕ). meaning most n a s) none
more_fuel most fuel (suc more) a s h =
    let before : meaning most (more + fuel) a s ≡ meaning most fuel a s = more_fuel most fuel more a s h in
    let sum : suc more + fuel ≡ suc (more + fuel) = omega arith in
    ap (λ (n : ℕ). meaning most n a s) sum
    ∙ one_more most (more + fuel) a s (finished-is (meaning most (more + fuel) a s) (λ e. h (sym before ∙ e))) ∙ before
