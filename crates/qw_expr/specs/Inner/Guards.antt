-- Of `src/bounds.rt` and `src/guard.rt`: expressions that raise nothing, and conditions that are unknown where a null word says that a column of theirs is null.
use Rattle.std.specs.Prelude.{◌≡◌, ℕ, ℤ, ◌≤◌, ◌||◌, ◌++◌, Bool, true, false, unsigned_abs, List, [], ◌∷◌, Option, Some, None, Ok, slice_get}
use Rattle.std.specs.List.{AllByRecursion}
use Rattle.qw_types.specs.declared.truth.Truth.TheVariants.{Unknown}
use Rattle.qw_types.specs.declared.value.Val.{Val}
use Rattle.qw_types.specs.declared.value.Val.TheVariants as val
use Rattle.qw_scalar.specs.declared.expression.Operator.{Operator}
use Rattle.qw_scalar.specs.declared.expression.Cond.{Cond}
use Rattle.qw_scalar.specs.declared.expression.Cond.TheVariants.{Compare', Between', In', Predicate', And', Or', Not', Is'}
use Rattle.qw_scalar.specs.Columns.{HasColumns, HaveColumns, HoldsIn}
use Rattle.qw_scalar.specs.Evaluation.{applied, truth_of, value_of, at_row}
use Rattle.qw_scalar.specs.Expression.{Expression, Expressions, Condition, among, scale_after, scale_of}
use Rattle.qw_module.specs.declared.instruction.ValType.{ValType}
use Rattle.qw_module.specs.declared.instruction.ValType.TheVariants.{I32}
use Rattle.qw_module.specs.declared.instruction.Binary.TheVariants.{Or}
use Rattle.qw_module.specs.Numbers.{truth}
use Rattle.qw_low.specs.Syntax as low
use Rattle.qw_low.specs.State.{Number, LowState}
use Rattle.qw_expr.specs.declared.guard.Sure.{Sure}
use Rattle.qw_expr.specs.declared.known.Binding.{Binding}
use Rattle.qw_expr.specs.declared.operand.Operand.{Operand}
use Rattle.qw_expr.specs.Bindings.{IsAmong, IsServed, TakeKnown, TakesKnown, known_of, named}
use Rattle.qw_expr.specs.Cells.{IsWithin}
use Rattle.qw_expr.specs.Computes.{Known, AreHeld, AreDeclared}
use Rattle.qw_expr.specs.Inner.Made.{Includes}

-- on numbers within these magnitudes an operator raises nothing, and gives one within `most`
pub record Stays (operator : Operator) (sa ma sb mb scale most : ℕ) : Type 0 where
  pub scale_is : scale ≡ scale_after operator sa sb
  pub gives : (v w : ℤ) → unsigned_abs v ≤ ma → unsigned_abs w ≤ mb → (z : ℤ) × (applied operator v sa w sb ≡ Ok z) × (unsigned_abs z ≤ most)

-- ---- null words
-- whether any of some is 1
abbrev pub any_of : ℕ → List ℕ → low.Expression
any_of n [] = low.local n
any_of n (m ∷ nulls) = low.binop I32 Or (low.local n) (any_of m nulls)

abbrev pub Flagged : LowState → List ℕ → Bool → Type 0
Flagged s [] g = g ≡ false
Flagged s (n ∷ nulls) g = (h k : Bool) × (slice_get s.locals n ≡ Some (Number (truth h))) × Flagged s nulls k × (g ≡ (h || k))

-- ---- what is known of leaves where no null word says that one is null
abbrev pub null_words : Option ℕ → List ℕ
null_words None = []
null_words (Some n) = n ∷ []

abbrev pub sure_operand : Operand → Operand
sure_operand o = record { cell = record { value = o.cell.value; length = o.cell.length; null = None }; kind = o.kind; scale = o.scale; most = o.most }

-- at a row the null words are 0 or 1; where one is 1 something holds, and else the leaves' values are held, and none is null
abbrev pub Tells : List Binding → List ℕ → List Val → LowState → Type 0 → Type 0
Tells leaves nulls row s Null = (g : Bool) × Flagged s nulls g × (g ≡ true → Null) × (g ≡ false → AreHeld (known_of leaves) row s)

-- the leaves have the kinds, the scales and the locals of what is known, and the null words are declared
pub record AreLeaves (known : List Known) (leaves : List Binding) (nulls : List ℕ) : Type 0 where
  pub served : (n : ℕ) → IsServed n known → IsServed n (known_of leaves)
  pub declared : (types : List ValType) → AreDeclared types known → AreDeclared types (known_of leaves)
  pub words : (types : List ValType) → AreDeclared types known → AllByRecursion (λ (n : ℕ). slice_get types n ≡ Some I32) nulls

-- an expression that raises nothing, with a number of at most a magnitude, and is null where a null word is 1
pub record Calm (known : List Known) (e : Expression) (leaves : List Binding) (nulls : List ℕ) (scale most : ℕ) : Type 0 where
  pub are : AreLeaves known leaves nulls
  pub takes : TakesKnown (known_of leaves) e
  pub scale_is : scale ≡ scale_of e
  pub tells : (row : List Val) (s : LowState) → AreHeld known row s → HasColumns (HoldsIn row) e → (v : Val) × (value_of e (at_row row) ≡ Ok v) × IsWithin most v × Tells leaves nulls row s (v ≡ val.Null)

-- an expression that is null where a null word is 1, and raises nothing then; elsewhere it may raise
pub record Nulled (known : List Known) (e : Expression) (leaves : List Binding) (nulls : List ℕ) : Type 0 where
  pub are : AreLeaves known leaves nulls
  pub takes : TakesKnown (known_of leaves) e
  pub tells : (row : List Val) (s : LowState) → AreHeld known row s → HasColumns (HoldsIn row) e → Tells leaves nulls row s (value_of e (at_row row) ≡ Ok val.Null)

-- a condition that is unknown where a null word is 1, and raises nothing then
pub record Strict (known : List Known) (c : Condition) (leaves : List Binding) (nulls : List ℕ) : Type 0 where
  pub are : AreLeaves known leaves nulls
  pub takes : TakeKnown (known_of leaves) c
  pub tells : (row : List Val) (s : LowState) → AreHeld known row s → HaveColumns (HoldsIn row) c → Tells leaves nulls row s (truth_of c (at_row row) ≡ Ok Unknown)

-- what gathering adds
pub record Gathers (old new : Sure) (Made : List Binding → List ℕ → Type 0) : Type 0 where
  pub leaves : List Binding
  pub nulls : List ℕ
  pub leaves_is : new.leaves.items ≡ old.leaves.items ++ leaves
  pub nulls_is : new.nulls.items ≡ old.nulls.items ++ nulls
  pub made : Made leaves nulls

-- a column or a literal that is kept as it is known
pub record Keeps (known : List Known) (e : Expression) (leaves : List Binding) (nulls : List ℕ) : Type 0 where
  pub leaf : Binding
  pub leaves_is : leaves ≡ leaf ∷ []
  pub nulls_is : nulls ≡ []
  pub name_is : named leaf.leaf ≡ e
  pub among : IsAmong (record { expression = e; operand = leaf.operand }) known

-- the values of IN, each a column or a literal
pub record AreKept (known : List Known) (values : Expressions) (leaves : List Binding) (nulls : List ℕ) : Type 0 where
  pub are : AreLeaves known leaves nulls
  pub take : (more : List Known) (x : Expression) → Includes more (known_of leaves) → TakesKnown more x → TakeKnown more (among x values)
  pub tell : (row : List Val) (s : LowState) → AreHeld known row s → Tells leaves nulls row s ⊥
  pub unknown : (row : List Val) (s : LowState) (x : Expression) → AreHeld known row s → value_of x (at_row row) ≡ Ok val.Null → truth_of (among x values) (at_row row) ≡ Ok Unknown

-- conditions whose test leaves room for a guard
abbrev pub IsGuarded : Cond → Type 0
IsGuarded (Compare' op _ a _ b) = Unit {0}
IsGuarded (Between' _ x _ a _ b) = Unit {0}
IsGuarded (In' _ x _ values) = Unit {0}
IsGuarded (Predicate' p _ a) = ⊥
IsGuarded (And' _ c _ d) = ⊥
IsGuarded (Or' _ c _ d) = ⊥
IsGuarded (Not' _ c) = Unit {0}
IsGuarded (Is' _ c t) = ⊥
