-- Blocks that come to a result: within so many times their size they leave a value, or raise an exception.
use Rattle.std.proofs.Common.{◌≡◌, ℕ, zero, suc, ◌+◌, ◌*◌, ◌<◌, ◌≤◌, Bool, true, false, length, length-set, suc-mul, inl, inr, if◌then◌else◌, Some, Result, Ok, Err, slice_set, refl, sym, ap, ◌∙◌, subst, arith}
use Rattle.std.proofs.lemmas.Nat.{mul-le}
use Rattle.qw_types.specs.Arithmetic.{◌>>=◌}
use Rattle.qw_types.specs.declared.code.Code.{Code}
use Rattle.qw_types.specs.declared.code.Code.TheVariants.{DivZero, OutOfRange}
use Rattle.qw_map.proofs.TurnFacts.{slice_get-set_other}
use Rattle.qw_module.specs.Numbers.{truth}
use Rattle.qw_low.specs.Syntax.{Expression, Statement, skip, seq, assign, conditional, raise}
use Rattle.qw_low.specs.State.{Value, Number, LowState}
use Rattle.qw_low.specs.Meaning.{value, cost, meaning}
use Rattle.qw_low.specs.Size.{size}
use Rattle.qw_low.specs.Promise.{Ends}
use Rattle.qw_low.specs.Raising.{code_of, Leaves, Raises, Kept}
use Rattle.qw_low.proofs.Promises.{Ends-weaker, Ends-more, Ends-then, assign_ends, conditional_ends}

-- ---- what is kept
pub Kept-same : (free : ℕ) (s : LowState) → Kept free s s
Kept-same free s = record { others = refl; many = refl; below = λ i low. refl }

pub Kept-set : (free : ℕ) (s t : LowState) (x : ℕ) (v : Value) → Kept free s t → free ≤ x → Kept free s (record t { locals = slice_set t.locals x v })
Kept-set free s t x v kept le = record {
  others = ap (λ (u : LowState). let r : LowState = record u { locals = slice_set t.locals x v } in r) kept.others;
  many = length-set t.locals x v ∙ kept.many;
  below = λ i low. slice_get-set_other t.locals x i v (λ e. omega arith) ∙ kept.below i low;
}

pub Kept-then : (free more : ℕ) (s t u : LowState) → free ≤ more → Kept free s t → Kept more t u → Kept free s u
Kept-then free more s t u le first second = record {
  others = second.others ∙ ap (λ (r : LowState). let q : LowState = record r { locals = u.locals } in q) first.others;
  many = second.many ∙ first.many;
  below = λ i low. second.below i (omega arith) ∙ first.below i low;
}

pub Kept-one : (s : LowState) (x : ℕ) (v : Value) → Kept x s (record s { locals = slice_set s.locals x v })
Kept-one s x v = Kept-set x s s x v (Kept-same x s) (omega arith)

-- ---- weights
spread : (m n N : ℕ) → (m + n) * N ≡ m * N + n * N
spread zero n N =
    let none : 0 * N ≡ 0 = omega arith in
    omega (arith, none)
spread (suc m) n N = omega (arith, suc-mul (m + n) N, suc-mul m N, spread m n N)

pub at_least : (m N : ℕ) → 1 ≤ N → m ≤ m * N
at_least m N some =
    let more : m * 1 ≤ m * N = mul-le m 1 m N (omega arith) some in
    omega (arith, more)

module _ (most fuel N : ℕ) where
  -- a block comes to a result, within N times its size
  abbrev pub Comes : {A : Type 0} → (A → LowState → Type 0) → Result A Code → Statement → LowState → Type 0
  Comes post r a s = Ends (size a * N) (Leaves post r) (λ t. ⊥) (Raises r) (meaning most fuel a s)

  -- what is left of a value, weakened
  pub Leaves-weaker : {A : Type 0} (P Q : A → LowState → Type 0) (r : Result A Code) → ((v : A) (t : LowState) → r ≡ Ok v → P v t → Q v t) → (t : LowState) → Leaves P r t → Leaves Q r t
  Leaves-weaker P Q (Ok v) more t h = more v t refl h
  Leaves-weaker P Q (Err code) more t h = h

  pub comes_weaker : {A : Type 0} (P Q : A → LowState → Type 0) (r : Result A Code) (a : Statement) (s : LowState) → ((v : A) (t : LowState) → r ≡ Ok v → P v t → Q v t) → Comes P r a s → Comes Q r a s
  comes_weaker P Q r a s more h =
      Ends-weaker (size a * N) (size a * N) (Leaves P r) (Leaves Q r) (λ t. ⊥) (λ t. ⊥) (Raises r) (Raises r) (meaning most fuel a s) (omega arith) (Leaves-weaker P Q r more) (λ t x. x) (λ code x. x) h

  -- one block after another, with the first one's value
  pub comes_then : {A B : Type 0} (P : A → LowState → Type 0) (Q : B → LowState → Type 0) (r : Result A Code) (f : A → Result B Code) (a b : Statement) (s : LowState) → Comes P r a s →
      ((v : A) (t : LowState) → r ≡ Ok v → P v t → Comes Q (f v) b t) → Comes Q (r >>= f) (seq a b) s
  comes_then P Q (Ok v) f a b s first second =
      Ends-more (Leaves Q (f v)) (λ t. ⊥) (Raises (f v)) (size a * N + size b * N) ((size a + size b) * N) (meaning most fuel (seq a b) s) (omega (arith, spread (size a) (size b) N))
      (Ends-then (Leaves Q (f v)) (λ t. ⊥) (Raises (f v)) (size a * N) (size b * N) (P v) (meaning most fuel a s) (meaning most fuel b)
      (Ends-weaker (size a * N) (size a * N) (P v) (P v) (λ t. ⊥) (λ t. ⊥) (λ code. ⊥) (Raises (f v)) (meaning most fuel a s) (omega arith) (λ t x. x) (λ t x. x) (λ code x. absurd x) first)
      (λ t h. second v t refl h))
  comes_then P Q (Err code) f a b s first second =
      Ends-more (λ t. ⊥) (λ t. ⊥) (λ raised. raised ≡ code_of code) (size a * N + size b * N) ((size a + size b) * N) (meaning most fuel (seq a b) s) (omega (arith, spread (size a) (size b) N))
      (Ends-then (λ t. ⊥) (λ t. ⊥) (λ raised. raised ≡ code_of code) (size a * N) (size b * N) (λ t. ⊥) (meaning most fuel a s) (meaning most fuel b) first (λ t h. absurd h))

  module _ (some : 1 ≤ N) where
    pub comes_skip : {A : Type 0} (P : A → LowState → Type 0) (v : A) (s : LowState) → P v s → Comes P (Ok v) skip s
    comes_skip P v s h = (omega arith, h)

    pub comes_assign : {A : Type 0} (P : A → LowState → Type 0) (v : A) (x : ℕ) (e : Expression) (found : Value) (s : LowState) → value s e ≡ Some found → x < length s.locals →
        P v (record s { locals = slice_set s.locals x found }) → Comes P (Ok v) (assign x e) s
    comes_assign P v x e found s is room post =
        Ends-more (P v) (λ t. ⊥) (λ code. ⊥) (cost e + 1) ((cost e + 1) * N) (meaning most fuel (assign x e) s) (at_least (cost e + 1) N some)
        (assign_ends (P v) (λ t. ⊥) (λ code. ⊥) most fuel x e found s is room post)

    -- an assignment, and what follows at the state that it leaves
    pub comes_set : {B : Type 0} (Q : B → LowState → Type 0) (r : Result B Code) (x : ℕ) (e : Expression) (found : Value) (b : Statement) (s : LowState) → value s e ≡ Some found → x < length s.locals →
        Comes Q r b (record s { locals = slice_set s.locals x found }) → Comes Q r (seq (assign x e) b) s
    comes_set Q r x e found b s is room onward =
        let after : LowState = record s { locals = slice_set s.locals x found } in
        comes_then {A = ℕ} (λ n t. t ≡ after) Q (Ok 0) (λ n. r) (assign x e) b s (comes_assign {A = ℕ} (λ n t. t ≡ after) 0 x e found s is room refl)
        (λ n t same is_after. subst (λ (u : LowState). Comes Q r b u) (sym is_after) onward)

    pub comes_raise : {B : Type 0} (Q : B → LowState → Type 0) (code : Code) (s : LowState) → Comes Q (Err code) (raise (code_of code)) s
    comes_raise Q DivZero s = (at_least 2 N some, refl)
    comes_raise Q OutOfRange s = (at_least 2 N some, refl)

    weigh : (e : Expression) (a b : Statement) (m : ℕ) → m ≤ (size a + size b) * N → cost e + 1 + m ≤ (cost e + 1 + (size a + size b)) * N
    weigh e a b m less = omega (arith, spread (cost e + 1) (size a + size b) N, at_least (cost e + 1) N some)

    -- a choice by a test
    pub comes_choose : {B : Type 0} (Q : B → LowState → Type 0) (r : Result B Code) (e : Expression) (g : Bool) (a b : Statement) (s : LowState) → value s e ≡ Some (Number (truth g)) →
        (g ≡ true → Comes Q r a s) → (g ≡ false → Comes Q r b s) → Comes Q r (conditional e a b) s
    comes_choose Q r e true a b s is first second =
        Ends-more (Leaves Q r) (λ t. ⊥) (Raises r) (cost e + 1 + size a * N) ((cost e + 1 + (size a + size b)) * N) (meaning most fuel (conditional e a b) s) (weigh e a b (size a * N) (omega (arith, spread (size a) (size b) N)))
        (conditional_ends (Leaves Q r) (λ t. ⊥) (Raises r) most fuel (size a * N) e a b s (inl (inl (0, is), first refl)))
    comes_choose Q r e false a b s is first second =
        Ends-more (Leaves Q r) (λ t. ⊥) (Raises r) (cost e + 1 + size b * N) ((cost e + 1 + (size a + size b)) * N) (meaning most fuel (conditional e a b) s) (weigh e a b (size b * N) (omega (arith, spread (size a) (size b) N)))
        (conditional_ends (Leaves Q r) (λ t. ⊥) (Raises r) most fuel (size b * N) e a b s (inr (is, second refl)))

    -- an exception where a test holds, and else what follows
    pub comes_unless : {B : Type 0} (Q : B → LowState → Type 0) (r : Result B Code) (e : Expression) (g : Bool) (code : Code) (b : Statement) (s : LowState) → value s e ≡ Some (Number (truth g)) →
        (g ≡ false → Comes Q r b s) → Comes Q (if g then Err code else r) (seq (conditional e (raise (code_of code)) skip) b) s
    comes_unless Q r e true code b s is onward =
        comes_then {A = ℕ} (λ n t. t ≡ s) Q (Err code) (λ n. r) (conditional e (raise (code_of code)) skip) b s
        (comes_choose {B = ℕ} (λ n t. t ≡ s) (Err code) e true (raise (code_of code)) skip s is (λ set. comes_raise {B = ℕ} (λ n t. t ≡ s) code s) (λ unset. absurd cc)) (λ n t same is_same. absurd cc)
    comes_unless Q r e false code b s is onward =
        comes_then {A = ℕ} (λ n t. t ≡ s) Q (Ok 0) (λ n. r) (conditional e (raise (code_of code)) skip) b s
        (comes_choose {B = ℕ} (λ n t. t ≡ s) (Ok 0) e false (raise (code_of code)) skip s is (λ set. absurd cc) (λ unset. comes_skip {A = ℕ} (λ n t. t ≡ s) 0 s refl))
        (λ n t same is_same. subst (λ (u : LowState). Comes Q r b u) (sym is_same) (onward refl))
