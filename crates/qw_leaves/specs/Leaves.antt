-- The leaves of expressions and conditions, from left to right: the columns and the literals (ISO/IEC 9075:1992, 5.3, 6.4) that they take, all
-- but NULL. Of the code's trees, of what they stand for, and what holds of all of them.
use Rattle.std.specs.Prelude.{◌≡◌, List, [], ◌∷◌, ◌++◌, ℕ, IsUtf8}
use Rattle.std.specs.List.{AllByRecursion}
use Rattle.qw_types.specs.declared.value.Ty.{Ty}
use Rattle.qw_scalar.specs.declared.expression.Expr.{Expr}
use Rattle.qw_scalar.specs.declared.expression.Cond.{Cond}
use Rattle.qw_scalar.specs.declared.expression.Exprs.{Exprs}
use Rattle.qw_scalar.specs.declared.expression.Branches.{Branches}
use Rattle.qw_scalar.specs.declared.expression.Matches.{Matches}
use Rattle.qw_scalar.specs.declared.expression.Expr.TheVariants.{Null, Number, Date, Text, Column, Arithmetic', Negative', Extract', Case', Match', Call'}
use Rattle.qw_scalar.specs.declared.expression.Cond.TheVariants.{Compare', Between', In', Predicate', And', Or', Not', Is'}
use Rattle.qw_scalar.specs.declared.expression.Exprs.TheVariants as Exprs
use Rattle.qw_scalar.specs.declared.expression.Branches.TheVariants as Branches
use Rattle.qw_scalar.specs.declared.expression.Matches.TheVariants as Matches
use Rattle.qw_scalar.specs.Expression.{Expression, Condition, null, number, date, text, column, arithmetic, negative, extract, brought, choice, given, cell, comparison, predicate, both, either, negation_of, is, found, Operands, nil, operand}
use Rattle.qw_leaves.specs.declared.leaf.Leaf.{Leaf}
use Rattle.qw_leaves.specs.declared.leaf.Leaf.TheVariants as leaf

-- ---- of the code's trees
abbrev mutual
  pub leaves_in : Expr → List Leaf
  leaves_in Null = []
  leaves_in (Number v s) = leaf.Number v s ∷ []
  leaves_in (Date d) = leaf.Date d ∷ []
  leaves_in (Text t) = leaf.Text t ∷ []
  leaves_in (Column i ty) = leaf.Column i ty ∷ []
  leaves_in (Arithmetic' operator _ a _ b) = leaves_in a ++ leaves_in b
  leaves_in (Negative' _ a) = leaves_in a
  leaves_in (Extract' field _ a) = leaves_in a
  leaves_in (Case' _ branches) = leaves_of_branches branches
  leaves_in (Match' _ x _ matches) = leaves_in x ++ leaves_of_matches matches
  leaves_in (Call' function _ arguments) = leaves_of_all arguments

  pub leaves_within : Cond → List Leaf
  leaves_within (Compare' op _ a _ b) = leaves_in a ++ leaves_in b
  leaves_within (Between' _ x _ a _ b) = leaves_in x ++ (leaves_in a ++ leaves_in b)
  leaves_within (In' _ x _ values) = leaves_in x ++ leaves_of_all values
  leaves_within (Predicate' p _ a) = leaves_in a
  leaves_within (And' _ c _ d) = leaves_within c ++ leaves_within d
  leaves_within (Or' _ c _ d) = leaves_within c ++ leaves_within d
  leaves_within (Not' _ c) = leaves_within c
  leaves_within (Is' _ c t) = leaves_within c

  pub leaves_of_all : Exprs → List Leaf
  leaves_of_all (Exprs.Last' _ e) = leaves_in e
  leaves_of_all (Exprs.More' _ e _ es) = leaves_in e ++ leaves_of_all es

  pub leaves_of_branches : Branches → List Leaf
  leaves_of_branches (Branches.Else' _ e) = leaves_in e
  leaves_of_branches (Branches.When' _ c _ e _ rest) = leaves_within c ++ (leaves_in e ++ leaves_of_branches rest)

  pub leaves_of_matches : Matches → List Leaf
  leaves_of_matches (Matches.Last' _ v _ e _ other) = leaves_in v ++ (leaves_in e ++ leaves_in other)
  leaves_of_matches (Matches.When' _ v _ e _ rest) = leaves_in v ++ (leaves_in e ++ leaves_of_matches rest)

-- ---- of what they stand for: an operand as often as an abbreviation names it (6.9, 8.3, 8.4)
abbrev mutual
  pub leaves : Expression → List Leaf
  leaves null = []
  leaves (number v s) = leaf.Number v s ∷ []
  leaves (date d) = leaf.Date d ∷ []
  leaves (text t) = leaf.Text t ∷ []
  leaves (column i ty) = leaf.Column i ty ∷ []
  leaves (arithmetic operator a b) = leaves a ++ leaves b
  leaves (negative a) = leaves a
  leaves (extract field a) = leaves a
  leaves (brought a s) = leaves a
  leaves (choice c a b) = condition_leaves c ++ (leaves a ++ leaves b)
  leaves (given w k most v) = []
  leaves (cell i ty most) = leaf.Column i ty ∷ []

  pub condition_leaves : Condition → List Leaf
  condition_leaves (comparison op a b) = leaves a ++ leaves b
  condition_leaves (predicate p a) = leaves a
  condition_leaves (both c d) = condition_leaves c ++ condition_leaves d
  condition_leaves (either c d) = condition_leaves c ++ condition_leaves d
  condition_leaves (negation_of c) = condition_leaves c
  condition_leaves (is c t) = condition_leaves c
  condition_leaves (found n asked keys kinds rows) = operands_leaves asked ++ operands_leaves keys

  pub operands_leaves : Operands → List Leaf
  operands_leaves nil = []
  operands_leaves (operand e es) = leaves e ++ operands_leaves es

-- the leaf as an expression
abbrev pub stands_for : Leaf → Expression
stands_for (leaf.Column i ty) = column i ty
stands_for (leaf.Number v s) = number v s
stands_for (leaf.Date d) = date d
stands_for (leaf.Text t) = text t

-- ---- something holds of each leaf
abbrev mutual
  pub HasLeaves : (Leaf → Type 0) → Expression → Type 0
  HasLeaves Holds null = Unit {0}
  HasLeaves Holds (number v s) = Holds (leaf.Number v s)
  HasLeaves Holds (date d) = Holds (leaf.Date d)
  HasLeaves Holds (text t) = Holds (leaf.Text t)
  HasLeaves Holds (column i ty) = Holds (leaf.Column i ty)
  HasLeaves Holds (arithmetic operator a b) = HasLeaves Holds a × HasLeaves Holds b
  HasLeaves Holds (negative a) = HasLeaves Holds a
  HasLeaves Holds (extract field a) = HasLeaves Holds a
  HasLeaves Holds (brought a s) = HasLeaves Holds a
  HasLeaves Holds (choice c a b) = HaveLeaves Holds c × (HasLeaves Holds a × HasLeaves Holds b)
  HasLeaves Holds (given w k most v) = Unit {0}
  HasLeaves Holds (cell i ty most) = Holds (leaf.Column i ty)

  pub HaveLeaves : (Leaf → Type 0) → Condition → Type 0
  HaveLeaves Holds (comparison op a b) = HasLeaves Holds a × HasLeaves Holds b
  HaveLeaves Holds (predicate p a) = HasLeaves Holds a
  HaveLeaves Holds (both c d) = HaveLeaves Holds c × HaveLeaves Holds d
  HaveLeaves Holds (either c d) = HaveLeaves Holds c × HaveLeaves Holds d
  HaveLeaves Holds (negation_of c) = HaveLeaves Holds c
  HaveLeaves Holds (is c t) = HaveLeaves Holds c
  HaveLeaves Holds (found n asked keys kinds rows) = OperandsHaveLeaves Holds asked × OperandsHaveLeaves Holds keys

  pub OperandsHaveLeaves : (Leaf → Type 0) → Operands → Type 0
  OperandsHaveLeaves Holds nil = Unit {0}
  OperandsHaveLeaves Holds (operand e es) = HasLeaves Holds e × OperandsHaveLeaves Holds es

-- of each that is a text, and of each that is a column
abbrev pub OfText : (List ℕ → Type 0) → Leaf → Type 0
OfText Holds (leaf.Column i ty) = Unit {0}
OfText Holds (leaf.Number v s) = Unit {0}
OfText Holds (leaf.Date d) = Unit {0}
OfText Holds (leaf.Text t) = Holds t

abbrev pub OfColumn : (ℕ → Ty → Type 0) → Leaf → Type 0
OfColumn Holds (leaf.Column i ty) = Holds i ty
OfColumn Holds (leaf.Number v s) = Unit {0}
OfColumn Holds (leaf.Date d) = Unit {0}
OfColumn Holds (leaf.Text t) = Unit {0}

-- ---- among leaves
-- the texts
abbrev pub texts_among : List Leaf → List (List ℕ)
texts_among [] = []
texts_among (leaf.Column i ty ∷ ls) = texts_among ls
texts_among (leaf.Number v s ∷ ls) = texts_among ls
texts_among (leaf.Date d ∷ ls) = texts_among ls
texts_among (leaf.Text t ∷ ls) = t ∷ texts_among ls

-- the numbers of the columns
abbrev pub columns_among : List Leaf → List ℕ
columns_among [] = []
columns_among (leaf.Column i ty ∷ ls) = i ∷ columns_among ls
columns_among (leaf.Number v s ∷ ls) = columns_among ls
columns_among (leaf.Date d ∷ ls) = columns_among ls
columns_among (leaf.Text t ∷ ls) = columns_among ls

-- each with its type
abbrev pub typed_columns_among : List Leaf → List (ℕ × Ty)
typed_columns_among [] = []
typed_columns_among (leaf.Column i ty ∷ ls) = (i, ty) ∷ typed_columns_among ls
typed_columns_among (leaf.Number v s ∷ ls) = typed_columns_among ls
typed_columns_among (leaf.Date d ∷ ls) = typed_columns_among ls
typed_columns_among (leaf.Text t ∷ ls) = typed_columns_among ls

-- leaves, whose texts are UTF-8, were added behind others
abbrev pub Gathers : (old new more : List Leaf) → Type 0
Gathers old new more = (new ≡ old ++ more) × AllByRecursion (OfText IsUtf8) more
