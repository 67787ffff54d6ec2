-- An expression's code puts what stands for its value on the operands.
use Rattle.std.proofs.Common.{◌≡◌, ℕ, suc, ◌+◌, ◌-◌, ◌*◌, ◌≤◌, true, false, nat_le, List, ◌∷◌, length, Option, Some, None, option_and_then, refl, sym, ap, ◌∙◌, subst, ⊎_elim, arith}
use Rattle.std.proofs.lemmas.Bool.{cases_Bool, leb-true, false≢true}
use Rattle.std.proofs.lemmas.Option.{same_Some, none-some}
use Rattle.qw_linear.specs.Memory.{page, most_pages}
use Rattle.qw_module.specs.declared.instruction.Op.{Op}
use Rattle.qw_module.specs.declared.instruction.Op.TheVariants as o
use Rattle.qw_module.specs.declared.instruction.Binary.TheVariants.{Add, Sub}
use Rattle.qw_module.specs.Numbers.{constant, unary, binary, division, truth, relation, converted}
use Rattle.qw_module.specs.Syntax.{Code, op}
use Rattle.qw_module.specs.Execution.{Store, Context, Config, State, settled}
use Rattle.qw_module.specs.Step.{OpWant, Leaves, op_wants, then_wants}
use Rattle.qw_map.specs.Areas.{Area, World}
use Rattle.qw_map.specs.Runs.{Moment}
use Rattle.qw_module.proofs.Sound.{settled-unfinished}
use Rattle.std.specs.Prelude.{Ok, Err, Result, ◌==◌}
use Rattle.std.proofs.Common.{ne_eqb}
use Rattle.qw_module.specs.declared.trap.Trap.{Trap}
use Rattle.qw_module.specs.declared.instruction.ValType.{ValType}
use Rattle.qw_module.specs.declared.instruction.ValType.TheVariants.{I32, I64}
use Rattle.qw_low.specs.Syntax.{Expression, constant_of, local, unop, binop, divop, is_zero, relop, cvtop, advance, retreat}
use Rattle.qw_low.specs.State.{Part, Value, Number, Address, LowState, size_of, is_within}
use Rattle.qw_low.specs.Meaning.{of_number, of_numbers, if_defined, zero_test, advanced, retreated, value, cost}
use Rattle.qw_low.specs.Translation.{expression_code}
use Rattle.qw_low.specs.Places.{Means, AreMeant, StandsFor}
use Rattle.qw_low.proofs.ExactSteps.{Comes, counted, goes}
use Rattle.qw_low.proofs.Standing.{stable, area_of-sized, get-meant}

-- code that stands in contexts
abbrev pub standing : Store → Code → List ℕ → List ℕ → List Context → State
standing store code operands locals contexts = settled store contexts code operands locals

abbrev pub config : Store → Code → List ℕ → List ℕ → List Context → Config
config store code operands locals contexts = record { store = store; code = code; operands = operands; locals = locals; contexts = contexts }

module _ (Q : Moment → Type 0) (store : Store) (contexts : List Context) (w : World) (s : LowState) (xs : List ℕ) where
  abbrev pub Has : ℕ → State → Type 0
  Has n state = Comes Q w (StandsFor w s) n state

  -- an operator that leaves operands and locals
  pub op_goes : (operator : Op) (k : Code) (operands operands' locals' : List ℕ) (n : ℕ) → op_wants operator store.globals operands xs ≡ Leaves operands' locals' →
      Has n (standing store k operands' locals' contexts) → Has (suc n) (standing store (op operator k) operands xs contexts)
  op_goes operator k operands operands' locals' n wanted has =
      subst (λ (state : State). Has (suc n) state) (sym (settled-unfinished store contexts (op operator k) operands xs (λ e. cc)))
      (goes Q w (StandsFor w s) (stable w s) n (config store (op operator k) operands xs contexts) (standing store k operands' locals' contexts)
      (ap (λ (t : OpWant). then_wants t (config store (op operator k) operands xs contexts) k) wanted) has)

-- the operands of an operator on two numbers
pub numbers-are : (f : ℕ → ℕ → Option ℕ) (a b : Option Value) (v : Value) → of_numbers f a b ≡ Some v →
    (x y n : ℕ) × (a ≡ Some (Number x)) × (b ≡ Some (Number y)) × (f x y ≡ Some n) × (v ≡ Number n)
numbers-are f (Some (Number x)) (Some (Number y)) v is = made f x y v (f x y) refl is
  where
    made : (f : ℕ → ℕ → Option ℕ) (x y : ℕ) (v : Value) (n : Option ℕ) → f x y ≡ n → option_and_then (λ m. Some (Number m)) n ≡ Some v →
        (x' y' n' : ℕ) × (Some (Number x) ≡ Some (Number x')) × (Some (Number y) ≡ Some (Number y')) × (f x' y' ≡ Some n') × (v ≡ Number n')
    made f x y v None found is = absurd (none-some v is)
    made f x y v (Some n) found is = (x, y, n, refl, refl, found, sym (same_Some (Number n) v is))
numbers-are f (Some (Number x)) (Some (Address p o)) v is = absurd (none-some v is)
numbers-are f (Some (Number x)) None v is = absurd (none-some v is)
numbers-are f (Some (Address p o)) b v is = absurd (none-some v is)
numbers-are f None b v is = absurd (none-some v is)

-- the operand of an operator on a number
pub number-is : (f : ℕ → ℕ) (a : Option Value) (v : Value) → of_number f a ≡ Some v → (x : ℕ) × (a ≡ Some (Number x)) × (v ≡ Number (f x))
number-is f (Some (Number x)) v is = (x, refl, sym (same_Some (Number (f x)) v is))
number-is f (Some (Address p off)) v is = absurd (none-some v is)
number-is f None v is = absurd (none-some v is)

-- a division that has a value
pub defined-is : (result : Result ℕ Trap) (m : ℕ) → if_defined result ≡ Some m → result ≡ Ok m
defined-is (Ok n) m is = ap Ok (same_Some n m is)
defined-is (Err why) m is = absurd (none-some m is)

-- those of an advance
pub advanced-is : (s : LowState) (a b : Option Value) (v : Value) → advanced s a b ≡ Some v →
    (p : Part) × (off n : ℕ) × (a ≡ Some (Address p off)) × (b ≡ Some (Number n)) × (is_within (size_of s p) (off + n) ≡ true) × (v ≡ Address p (off + n))
advanced-is s (Some (Address p off)) (Some (Number n)) v is = ⊎_elim
    (λ within. (p, off, n, refl, refl, within, sym (same_Some (Address p (off + n)) v (rw within at is))))
    (λ outside. absurd (none-some v (rw outside at is)))
    (cases_Bool (is_within (size_of s p) (off + n)))
advanced-is s (Some (Address p off)) (Some (Address q m)) v is = absurd (none-some v is)
advanced-is s (Some (Address p off)) None v is = absurd (none-some v is)
advanced-is s (Some (Number n)) b v is = absurd (none-some v is)
advanced-is s None b v is = absurd (none-some v is)

-- and of a retreat
pub retreated-is : (a b : Option Value) (v : Value) → retreated a b ≡ Some v →
    (p : Part) × (off n : ℕ) × (a ≡ Some (Address p off)) × (b ≡ Some (Number n)) × (n ≤ off) × (v ≡ Address p (off - n))
retreated-is (Some (Address p off)) (Some (Number n)) v is = ⊎_elim
    (λ within. (p, off, n, refl, refl, leb-true n off within, sym (same_Some (Address p (off - n)) v (rw within at is))))
    (λ outside. absurd (none-some v (rw outside at is)))
    (cases_Bool (nat_le n off))
retreated-is (Some (Address p off)) (Some (Address q m)) v is = absurd (none-some v is)
retreated-is (Some (Address p off)) None v is = absurd (none-some v is)
retreated-is (Some (Number n)) b v is = absurd (none-some v is)
retreated-is None b v is = absurd (none-some v is)

pub within-is : (size : Option ℕ) (n : ℕ) → is_within size n ≡ true → (m : ℕ) × (size ≡ Some m) × (n ≤ m)
within-is None n is = absurd (false≢true is)
within-is (Some m) n is = (m, refl, leb-true n m is)

-- An address moved within its part. That its word doesn't wrap needs a memory for which the state stands: so it is said of one.
pub moved : (w : World) (s : LowState) (memory : List ℕ) → StandsFor w s memory → (p : Part) (off n : ℕ) → is_within (size_of s p) (off + n) ≡ true →
    (x : ℕ) → Means w (Address p off) x → Means w (Address p (off + n)) (binary I32 Add x n)
moved w s memory stands p off n within x means =
    let size = within-is (size_of s p) (off + n) within in
    let area = area_of-sized w s stands.fits p size.0 size.1 in
    let inside : area.0.start + area.0.size ≤ length memory = stands.inside p area.0 area.1 in
    let room : length memory ≤ most_pages * page = stands.room in
    let same : means.0 ≡ area.0 = same_Some means.0 area.0 (sym means.1 ∙ area.1) in
    let at : x ≡ area.0.start + off = means.3 ∙ ap (λ (a : Area). a.start + off) same in
    (area.0, area.1, omega (arith, size.2, area.2), omega (arith, size.2, area.2, at))

-- An address moved back. It stays behind its part's beginning, so its word doesn't wrap.
pub moved_back : (w : World) (s : LowState) (memory : List ℕ) → StandsFor w s memory → (p : Part) (off n : ℕ) → n ≤ off →
    (x : ℕ) → Means w (Address p off) x → Means w (Address p (off - n)) (binary I32 Sub x n)
moved_back w s memory stands p off n behind x means =
    let inside : means.0.start + means.0.size ≤ length memory = stands.inside p means.0 means.1 in
    let room : length memory ≤ most_pages * page = stands.room in
    (means.0, means.1, omega (arith, means.2), omega (arith, means.2, means.3, behind, inside, room))

-- what is tested for 0, and what its word tells: an address is not 0
pub tested-is : (w : World) (s : LowState) (memory : List ℕ) → StandsFor w s memory → (t : ValType) (found : Option Value) (v : Value) → zero_test t found ≡ Some v →
    (u : Value) × (found ≡ Some u) × ((x : ℕ) → Means w u x → Means w v (truth (x == 0)))
tested-is w s memory stands t (Some (Number n)) v is = (Number n, refl, λ x means. rw means (subst (λ (r : Value). Means w r (truth (n == 0))) (same_Some (Number (truth (n == 0))) v is) refl))
tested-is w s memory stands I32 (Some (Address p off)) v is = (
  Address p off,
  refl,
  λ x means.
      let some : 1 ≤ means.0.start = stands.fits.positive p means.0 means.1 in
      let other : (x == 0) ≡ false = ne_eqb x 0 (λ e. omega (arith, means.3)) in
      rw other (subst (λ (r : Value). Means w r 0) (same_Some (Number 0) v is) refl),
)
tested-is w s memory stands I64 (Some (Address p off)) v is = absurd (none-some v is)
tested-is w s memory stands I32 None v is = absurd (none-some v is)
tested-is w s memory stands I64 None v is = absurd (none-some v is)

module _ (Q : Moment → Type 0) (store : Store) (contexts : List Context) (w : World) (s : LowState) (xs : List ℕ)
    (memory : List ℕ) (stands : StandsFor w s memory) (are : AreMeant w s.locals xs) where
  abbrev Exact : ℕ → State → Type 0
  Exact n state = Comes Q w (StandsFor w s) n state

  -- the code after it, over a word that stands for a value
  abbrev pub Onward : Code → List ℕ → Value → ℕ → Type 0
  Onward k operands v n = (x : ℕ) → Means w v x → Comes Q w (StandsFor w s) n (standing store k (x ∷ operands) xs contexts)

  onward-num : (k : Code) (operands : List ℕ) (n m : ℕ) (v : Value) → v ≡ Number n → Onward k operands v m → Exact m (standing store k (n ∷ operands) xs contexts)
  onward-num k operands n m v is onward = onward n (subst (λ (u : Value). Means w u n) (sym is) refl)

  -- what an expression's code does
  abbrev pub ExpressionRuns : Expression → Type 0
  ExpressionRuns e = (v : Value) → value s e ≡ Some v → (k : Code) (operands : List ℕ) (n : ℕ) → Onward k operands v n →
      Comes Q w (StandsFor w s) (cost e + n) (standing store (expression_code e k) operands xs contexts)

  on_numbers : (operator : Op) (f : ℕ → ℕ → Option ℕ) (l r : Expression) → ExpressionRuns l → ExpressionRuns r → (v : Value) → of_numbers f (value s l) (value s r) ≡ Some v →
      ((x y m : ℕ) (operands : List ℕ) → f x y ≡ Some m → op_wants operator store.globals (y ∷ x ∷ operands) xs ≡ Leaves (m ∷ operands) xs) →
      (k : Code) (operands : List ℕ) (n : ℕ) → Onward k operands v n →
      Exact (cost l + cost r + 1 + n) (standing store (expression_code l (expression_code r (op operator k))) operands xs contexts)
  on_numbers operator f l r left right v is leaves k operands n onward =
      let parts = numbers-are f (value s l) (value s r) v is in
      counted Q w (StandsFor w s) (cost l + (cost r + suc n)) (cost l + cost r + 1 + n) _ (omega arith)
      (left (Number parts.0) parts.3 (expression_code r (op operator k)) operands (cost r + suc n)
      (λ x x_is. right (Number parts.1) parts.4 (op operator k) (x ∷ operands) (suc n)
      (λ y y_is. op_goes Q store contexts w s xs operator k (y ∷ x ∷ operands) (parts.2 ∷ operands) xs n
      (rw (x_is, y_is) (leaves parts.0 parts.1 parts.2 operands parts.5))
      (onward-num k operands parts.2 n v parts.6 onward))))

  -- an operator on one number
  on_number : (operator : Op) (f : ℕ → ℕ) (e : Expression) → ExpressionRuns e → (v : Value) → of_number f (value s e) ≡ Some v →
      ((x : ℕ) (operands : List ℕ) → op_wants operator store.globals (x ∷ operands) xs ≡ Leaves (f x ∷ operands) xs) →
      (k : Code) (operands : List ℕ) (n : ℕ) → Onward k operands v n →
      Exact (cost e + 1 + n) (standing store (expression_code e (op operator k)) operands xs contexts)
  on_number operator f e runs v is leaves k operands n onward =
      let part = number-is f (value s e) v is in
      counted Q w (StandsFor w s) (cost e + suc n) (cost e + 1 + n) _ (omega arith)
      (runs (Number part.0) part.1 (op operator k) operands (suc n)
      (λ x x_is. op_goes Q store contexts w s xs operator k (x ∷ operands) (f part.0 ∷ operands) xs n
      (rw x_is (leaves part.0 operands))
      (onward-num k operands (f part.0) n v part.2 onward)))

  pub expression_runs : (e : Expression) → ExpressionRuns e
  expression_runs (constant_of c) v is k operands n onward = counted Q w (StandsFor w s) (suc n) (1 + n) _ (omega arith)
      (op_goes Q store contexts w s xs (o.Const c) k operands (constant c ∷ operands) xs n refl
      (onward-num k operands (constant c) n v (sym (same_Some (Number (constant c)) v is)) onward))
  expression_runs (local i) v is k operands n onward =
      let found = get-meant w s.locals xs are i v is in
      counted Q w (StandsFor w s) (suc n) (1 + n) _ (omega arith)
      (op_goes Q store contexts w s xs (o.LocalGet i) k operands (found.0 ∷ operands) xs n (rw found.1 refl) (onward found.0 found.2))
  expression_runs (unop t u e) v is k operands n onward =
      on_number (o.Unary t u) (unary t u) e (expression_runs e) v is (λ x below. refl) k operands n onward
  expression_runs (binop t b l r) v is k operands n onward =
      on_numbers (o.Binary t b) (λ x y. Some (binary t b x y)) l r (expression_runs l) (expression_runs r) v is
      (λ x y m below made. rw (same_Some (binary t b x y) m made) refl) k operands n onward
  expression_runs (divop t d l r) v is k operands n onward =
      on_numbers (o.Division t d) (λ x y. if_defined (division t d x y)) l r (expression_runs l) (expression_runs r) v is
      (λ x y m below made. rw (defined-is (division t d x y) m made) refl) k operands n onward
  expression_runs (is_zero t e) v is k operands n onward =
      let part = tested-is w s memory stands t (value s e) v is in
      counted Q w (StandsFor w s) (cost e + suc n) (cost e + 1 + n) _ (omega arith)
      (expression_runs e part.0 part.1 (op (o.Eqz t) k) operands (suc n)
      (λ x means. op_goes Q store contexts w s xs (o.Eqz t) k (x ∷ operands) (truth (x == 0) ∷ operands) xs n refl
      (onward (truth (x == 0)) (part.2 x means))))
  expression_runs (relop t r left right) v is k operands n onward =
      on_numbers (o.Relation t r) (λ x y. Some (relation t r x y)) left right (expression_runs left) (expression_runs right) v is
      (λ x y m below made. rw (same_Some (relation t r x y) m made) refl) k operands n onward
  expression_runs (cvtop c e) v is k operands n onward =
      on_number (o.Convert c) (converted c) e (expression_runs e) v is (λ x below. refl) k operands n onward
  expression_runs (advance a e) v is k operands n onward =
      let parts = advanced-is s (value s a) (value s e) v is in
      counted Q w (StandsFor w s) (cost a + (cost e + suc n)) (cost a + cost e + 1 + n) _ (omega arith)
      (expression_runs a (Address parts.0 parts.1) parts.3 (expression_code e (op (o.Binary I32 Add) k)) operands (cost e + suc n)
      (λ x means. expression_runs e (Number parts.2) parts.4 (op (o.Binary I32 Add) k) (x ∷ operands) (suc n)
      (λ y is_number. op_goes Q store contexts w s xs (o.Binary I32 Add) k (y ∷ x ∷ operands) (binary I32 Add x y ∷ operands) xs n refl
      (onward (binary I32 Add x y) (subst (λ (u : Value). Means w u (binary I32 Add x y)) (sym parts.6)
      (subst (λ (m : ℕ). Means w (Address parts.0 (parts.1 + parts.2)) (binary I32 Add x m)) (sym is_number) (moved w s memory stands parts.0 parts.1 parts.2 parts.5 x means)))))))
  expression_runs (retreat a e) v is k operands n onward =
      let parts = retreated-is (value s a) (value s e) v is in
      counted Q w (StandsFor w s) (cost a + (cost e + suc n)) (cost a + cost e + 1 + n) _ (omega arith)
      (expression_runs a (Address parts.0 parts.1) parts.3 (expression_code e (op (o.Binary I32 Sub) k)) operands (cost e + suc n)
      (λ x means. expression_runs e (Number parts.2) parts.4 (op (o.Binary I32 Sub) k) (x ∷ operands) (suc n)
      (λ y is_number. op_goes Q store contexts w s xs (o.Binary I32 Sub) k (y ∷ x ∷ operands) (binary I32 Sub x y ∷ operands) xs n refl
      (onward (binary I32 Sub x y) (subst (λ (u : Value). Means w u (binary I32 Sub x y)) (sym parts.6)
      (subst (λ (m : ℕ). Means w (Address parts.0 (parts.1 - parts.2)) (binary I32 Sub x m)) (sym is_number) (moved_back w s memory stands parts.0 parts.1 parts.2 parts.5 x means)))))))
