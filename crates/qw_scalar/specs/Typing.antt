-- The kinds of expressions (ISO/IEC 9075:1992, 4.1, 6.11, 6.12), and which expressions and conditions are typed.
use Rattle.std.specs.Prelude.{◌&&◌, IsUtf8, List, [], ◌∷◌, unsigned_abs, ◌≡◌, ℕ, ◌+◌, ◌≤◌, max, Bool, true, false, IsTrue, Option, Some, None}
use Rattle.std.specs.List.{AllByRecursion}
use Rattle.qw_types.specs.Arithmetic.{fits}
use Rattle.qw_types.specs.Kind.{IsOfKind, type_kind}
use Rattle.qw_types.specs.Value.{IsDay, type_scale}
use Rattle.qw_types.specs.declared.kind.Kind.{Kind}
use Rattle.qw_types.specs.declared.kind.Kind.TheVariants as kind
use Rattle.qw_types.specs.declared.value.Val.{Val}
use Rattle.qw_types.specs.declared.value.Val.TheVariants as val
use Rattle.qw_scalar.specs.declared.expression.Operator.{Operator}
use Rattle.qw_scalar.specs.declared.expression.Operator.TheVariants.{Add, Subtract, Multiply, Divide}
use Rattle.qw_scalar.specs.Expression.{Expression, Condition, Choices, null, number, date, text, column, arithmetic, negative, extract, brought, choice, given, cell, comparison, predicate, both, either, negation_of, is, found, Operands, nil, operand, otherwise, when, kind_scale, scale_after, scale_of}

-- a value of an expression's kind: null alone where it has none
abbrev pub IsValueOf : Option Kind → Val → Type 0
IsValueOf None v = v ≡ val.Null
IsValueOf (Some k) v = IsOfKind k v

-- a value that is brought to a scale is of the same kind, at that scale
abbrev pub at_scale : Option Kind → ℕ → Option Kind
at_scale None s = None
at_scale (Some (kind.Number t)) s = Some (kind.Number s)
at_scale (Some kind.Date) s = Some kind.Date
at_scale (Some kind.Text) s = Some kind.Text

-- of two results, numbers are of the larger scale, and null is of the other's kind (9.3)
abbrev pub joined : Option Kind → Option Kind → Option Kind
joined None k = k
joined (Some (kind.Number s)) None = Some (kind.Number s)
joined (Some (kind.Number s)) (Some (kind.Number t)) = Some (kind.Number (max s t))
joined (Some (kind.Number s)) (Some kind.Date) = Some (kind.Number s)
joined (Some (kind.Number s)) (Some kind.Text) = Some (kind.Number s)
joined (Some kind.Date) k = Some kind.Date
joined (Some kind.Text) k = Some kind.Text

-- the kind of an expression's values, none where null is the only one
abbrev pub kind_of : Expression → Option Kind
kind_of null = None
kind_of (number v s) = Some (kind.Number s)
kind_of (date d) = Some kind.Date
kind_of (text t) = Some kind.Text
kind_of (column i ty) = Some (type_kind ty)
kind_of (arithmetic operator a b) = Some (kind.Number (scale_after operator (scale_of a) (scale_of b)))
kind_of (negative a) = Some (kind.Number (scale_of a))
kind_of (extract field a) = Some (kind.Number 0)
kind_of (brought a s) = at_scale (kind_of a) s
kind_of (choice c a b) = joined (kind_of a) (kind_of b)
kind_of (given w k most v) = Some k
kind_of (cell i ty most) = Some (type_kind ty)

-- numbers compare with numbers of any scale, dates with dates, texts with texts (8.2)
abbrev pub are_comparable : Option Kind → Option Kind → Bool
are_comparable (Some (kind.Number s)) (Some (kind.Number t)) = true
are_comparable (Some kind.Date) (Some kind.Date) = true
are_comparable (Some kind.Text) (Some kind.Text) = true
are_comparable k other = false

-- results of a choice are comparable, or one is null (6.9, 9.3)
abbrev pub agree : Option Kind → Option Kind → Bool
agree None k = true
agree (Some k) None = true
agree (Some k) (Some other) = are_comparable (Some k) (Some other)

abbrev pub is_number : Option Kind → Bool
is_number None = false
is_number (Some (kind.Number s)) = true
is_number (Some kind.Date) = false
is_number (Some kind.Text) = false

abbrev pub is_date : Option Kind → Bool
is_date None = false
is_date (Some (kind.Number s)) = false
is_date (Some kind.Date) = true
is_date (Some kind.Text) = false

-- the scales that an operator takes: no result's scale is above 18
abbrev pub ScalesAllowed : Operator → ℕ → ℕ → Type 0
ScalesAllowed Add sa sb = Unit {0}
ScalesAllowed Subtract sa sb = Unit {0}
ScalesAllowed Multiply sa sb = sa + sb ≤ 18
ScalesAllowed Divide sa sb = sa + sb ≤ 18

-- keys, and what is asked behind them, each comparable with the cell of a row that it meets (8.2, 8.4); a cell that nothing meets may be of any kind
abbrev pub meet_cells : (keys asked : Operands) → List Kind → Bool
meet_cells nil nil kinds = true
meet_cells nil (operand e es) [] = false
meet_cells nil (operand e es) (k ∷ kinds) = are_comparable (kind_of e) (Some k) && meet_cells nil es kinds
meet_cells (operand e es) asked [] = false
meet_cells (operand e es) asked (k ∷ kinds) = are_comparable (kind_of e) (Some k) && meet_cells es asked kinds

-- a number is no larger than this, whichever its sign
abbrev pub IsWithin : ℕ → Val → Type 0
IsWithin m val.Null = Unit {0}
IsWithin m (val.Num v) = unsigned_abs v ≤ m
IsWithin m (val.Date d) = Unit {0}
IsWithin m (val.Text t) = Unit {0}

-- the octets of a text are UTF-8
abbrev pub IsUtf8Value : Val → Type 0
IsUtf8Value val.Null = Unit {0}
IsUtf8Value (val.Num v) = Unit {0}
IsUtf8Value (val.Date d) = Unit {0}
IsUtf8Value (val.Text t) = IsUtf8 t

-- what a dynamic parameter or a scalar subquery may give (6.2, 7.11): null, or a value of its kind, a number no larger than told, a text in UTF-8
abbrev pub MayBeGiven : Kind → (most : ℕ) → Val → Type 0
MayBeGiven k most v = (IsOfKind k v × IsWithin most v) × IsUtf8Value v

-- a row of a table subquery (7.11): a cell of each kind, null or a value of it, a text in UTF-8
abbrev pub AreCells : List Kind → List Val → Type 0
AreCells [] [] = Unit {0}
AreCells [] (v ∷ vs) = ⊥
AreCells (k ∷ ks) [] = ⊥
AreCells (k ∷ ks) (v ∷ vs) = (IsOfKind k v × IsUtf8Value v) × AreCells ks vs

-- Typed: literals fit, no scale is above 18, operands are of the kinds that their operator takes, and results agree.
abbrev mutual
  pub IsTyped : Expression → Type 0
  IsTyped null = Unit {0}
  IsTyped (number v s) = IsTrue (fits v) × (s ≤ 18)
  IsTyped (date d) = IsDay d
  IsTyped (text t) = Unit {0}
  IsTyped (column i ty) = type_scale ty ≤ 18
  IsTyped (arithmetic operator a b) =
      (IsTyped a × IsTyped b) × ((IsTrue (is_number (kind_of a)) × IsTrue (is_number (kind_of b))) × ScalesAllowed operator (scale_of a) (scale_of b))
  IsTyped (negative a) = IsTyped a × IsTrue (is_number (kind_of a))
  IsTyped (extract field a) = IsTyped a × IsTrue (is_date (kind_of a))
  IsTyped (brought a s) = IsTyped a × ((scale_of a ≤ s) × (s ≤ 18))
  IsTyped (choice c a b) = AreTyped c × ((IsTyped a × IsTyped b) × IsTrue (agree (kind_of a) (kind_of b)))
  IsTyped (given w k most v) = ((kind_scale k ≤ 18) × (most ≤ 999999999999999999)) × MayBeGiven k most v
  IsTyped (cell i ty most) = (type_scale ty ≤ 18) × (most ≤ 999999999999999999)

  pub AreTyped : Condition → Type 0
  AreTyped (comparison op a b) = (IsTyped a × IsTyped b) × IsTrue (are_comparable (kind_of a) (kind_of b))
  AreTyped (predicate p a) = IsTyped a
  AreTyped (both c d) = AreTyped c × AreTyped d
  AreTyped (either c d) = AreTyped c × AreTyped d
  AreTyped (negation_of c) = AreTyped c
  AreTyped (is c t) = AreTyped c
  AreTyped (found n asked keys kinds rows) = (OperandsAreTyped asked × OperandsAreTyped keys) × (AllByRecursion (AreCells kinds) rows × IsTrue (meet_cells keys asked kinds))

  pub OperandsAreTyped : Operands → Type 0
  OperandsAreTyped nil = Unit {0}
  OperandsAreTyped (operand e es) = IsTyped e × OperandsAreTyped es

-- not null alone
abbrev pub has_kind : Option Kind → Bool
has_kind None = false
has_kind (Some k) = true

abbrev pub HasKind : Expression → Type 0
HasKind e = IsTrue (has_kind (kind_of e))

-- each result of a CASE
abbrev pub AreResultsTyped : Choices → Type 0
AreResultsTyped (otherwise e) = IsTyped e
AreResultsTyped (when c e rest) = IsTyped e × AreResultsTyped rest
