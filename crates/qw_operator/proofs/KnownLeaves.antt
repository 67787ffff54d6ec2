-- What holds of the leaves of expressions: it holds of an expression's where it holds of all that is known; a row fits what another one fits
-- that agrees on columns.
use Rattle.std.proofs.Common.{◌≡◌, IsUtf8, List, [], ◌∷◌, inl, inr, refl, sym, ap₂, subst}
use Rattle.std.specs.List.{AllByRecursion}
use Rattle.qw_types.specs.Kind.{IsOfKind, type_kind}
use Rattle.qw_types.specs.declared.value.Val.{Val}
use Rattle.qw_scalar.specs.Columns.{HasColumns, HoldsIn}
use Rattle.qw_scalar.specs.Expression.{Expression, Condition, null, number, date, text, column, arithmetic, negative, extract, brought, choice, given, cell, comparison, predicate, both, either, negation_of, is, found, Operands, nil, operand}
use Rattle.qw_scalar.specs.Typing.{IsUtf8Value}
use Rattle.qw_leaves.specs.declared.leaf.Leaf.{Leaf}
use Rattle.qw_leaves.specs.declared.leaf.Leaf.TheVariants as leaf
use Rattle.qw_leaves.specs.Leaves.{HasLeaves, HaveLeaves, OfColumn, OperandsHaveLeaves, stands_for}
use Rattle.qw_leaves.proofs.Agreement.{Agrees, value_at}
use Rattle.qw_leaves.proofs.LeafLemmas.{column_leaves, condition_leaves_weaker, leaves_joined, leaves_weaker}
use Rattle.qw_expr.specs.Bindings.{IsAmong, Knows, OperandsTakeKnown, TakesKnown, TakeKnown}
use Rattle.qw_expr.specs.Computes.{Known}

-- ---- what expressions take is known just where their leaves are
module _ (known : List Known) where
  abbrev pub IsKnown : Leaf → Type 0
  IsKnown l = Knows known (stands_for l)

  mutual
    takes_are : (e : Expression) → HasLeaves IsKnown e ≡ TakesKnown known e
    takes_are null = refl
    takes_are (number v s) = refl
    takes_are (date d) = refl
    takes_are (text t) = refl
    takes_are (column i t) = refl
    takes_are (arithmetic operator a b) = ap₂ (λ (A B : Type 0). A × B) (takes_are a) (takes_are b)
    takes_are (negative a) = takes_are a
    takes_are (extract field a) = takes_are a
    takes_are (brought a s) = takes_are a
    takes_are (choice c a b) = ap₂ (λ (A B : Type 0). A × B) (take_are c) (ap₂ (λ (A B : Type 0). A × B) (takes_are a) (takes_are b))
    takes_are (given w k most v) = refl
    takes_are (cell i t most) = refl

    take_are : (c : Condition) → HaveLeaves IsKnown c ≡ TakeKnown known c
    take_are (comparison op a b) = ap₂ (λ (A B : Type 0). A × B) (takes_are a) (takes_are b)
    take_are (predicate p a) = takes_are a
    take_are (both c d) = ap₂ (λ (A B : Type 0). A × B) (take_are c) (take_are d)
    take_are (either c d) = ap₂ (λ (A B : Type 0). A × B) (take_are c) (take_are d)
    take_are (negation_of c) = take_are c
    take_are (is c t) = take_are c
    take_are (found n asked keys kinds rows) = ap₂ (λ (A B : Type 0). A × B) (operands_are asked) (operands_are keys)

    operands_are : (es : Operands) → OperandsHaveLeaves IsKnown es ≡ OperandsTakeKnown known es
    operands_are nil = refl
    operands_are (operand e es) = ap₂ (λ (A B : Type 0). A × B) (takes_are e) (operands_are es)

  pub takes_known : (e : Expression) → HasLeaves IsKnown e → TakesKnown known e
  takes_known e h = subst (λ (A : Type 0). A) (takes_are e) h

  pub take_known : (c : Condition) → HaveLeaves IsKnown c → TakeKnown known c
  take_known c h = subst (λ (A : Type 0). A) (take_are c) h

  pub known_leaves : (e : Expression) → TakesKnown known e → HasLeaves IsKnown e
  known_leaves e h = subst (λ (A : Type 0). A) (sym (takes_are e)) h

  pub known_conditions : (c : Condition) → TakeKnown known c → HaveLeaves IsKnown c
  known_conditions c h = subst (λ (A : Type 0). A) (sym (take_are c)) h

-- more that is known
module _ (xs ys : List Known) (over : (e : Expression) → Knows xs e → Knows ys e) where
  of_more : (l : Leaf) → IsKnown xs l → IsKnown ys l
  of_more l h = over (stands_for l) h

  pub takes_over : (e : Expression) → TakesKnown xs e → TakesKnown ys e
  takes_over e h = takes_known ys e (leaves_weaker (IsKnown xs) (IsKnown ys) of_more e (known_leaves xs e h))

  pub take_over : (c : Condition) → TakeKnown xs c → TakeKnown ys c
  take_over c h = take_known ys c (condition_leaves_weaker (IsKnown xs) (IsKnown ys) of_more c (known_conditions xs c h))

-- ---- of all that is known, so of what takes nothing else
module _ (P : Leaf → Type 0) (known : List Known) (all : AllByRecursion (λ (k : Known). HasLeaves P k.expression) known) where
  among_all : (ks : List Known) → AllByRecursion (λ (k : Known). HasLeaves P k.expression) ks → (k : Known) → IsAmong k ks → HasLeaves P k.expression
  among_all [] each k there = absurd there
  among_all (first ∷ ks) each k (inl same) = subst (λ (x : Known). HasLeaves P x.expression) (sym same) each.0
  among_all (first ∷ ks) each k (inr there) = among_all ks each.1 k there

  known_leaf : (l : Leaf) → IsKnown known l → P l
  known_leaf (leaf.Number v s) h = among_all known all (record { expression = number v s; operand = h.0 }) h.1
  known_leaf (leaf.Date d) h = among_all known all (record { expression = date d; operand = h.0 }) h.1
  known_leaf (leaf.Text t) h = among_all known all (record { expression = text t; operand = h.0 }) h.1
  known_leaf (leaf.Column i ty) h = among_all known all (record { expression = column i ty; operand = h.0 }) h.1

  pub takes_leaves : (e : Expression) → TakesKnown known e → HasLeaves P e
  takes_leaves e h = leaves_weaker (IsKnown known) P known_leaf e (known_leaves known e h)

  pub take_leaves : (c : Condition) → TakeKnown known c → HaveLeaves P c
  take_leaves c h = condition_leaves_weaker (IsKnown known) P known_leaf c (known_conditions known c h)

-- ---- what a row fits
-- a column's value is of its type's kind, and texts are UTF-8
abbrev pub Fits : List Val → Leaf → Type 0
Fits row (leaf.Column i ty) = HoldsIn row i ty × IsUtf8Value (value_at row i)
Fits row (leaf.Number v s) = Unit {0}
Fits row (leaf.Date d) = Unit {0}
Fits row (leaf.Text t) = IsUtf8 t

abbrev pub AreFit : List Val → List Known → Type 0
AreFit row known = AllByRecursion (λ (k : Known). HasLeaves (Fits row) k.expression) known

-- a row that agrees on columns fits what the other one fits
module _ (row other : List Val) where
  fits_leaf : (l : Leaf) → OfColumn (Agrees row other) l → Fits row l → Fits other l
  fits_leaf (leaf.Column i ty) same h = (subst (IsOfKind (type_kind ty)) (sym same) h.0, subst IsUtf8Value (sym same) h.1)
  fits_leaf (leaf.Number v s) same h = tt
  fits_leaf (leaf.Date d) same h = tt
  fits_leaf (leaf.Text t) same h = h

  pub fits_other : (e : Expression) → HasColumns (Agrees row other) e → HasLeaves (Fits row) e → HasLeaves (Fits other) e
  fits_other e same h = leaves_joined (OfColumn (Agrees row other)) (Fits row) (Fits other) fits_leaf e (column_leaves (Agrees row other) e same) h
