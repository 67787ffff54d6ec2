-- What holds of the leaves of expressions and conditions: one by one, of the list of them, and of the columns among them.
use Rattle.std.proofs.Common.{ℕ, ◌++◌}
use Rattle.std.specs.List.{AllByRecursion}
use Rattle.qw_types.specs.declared.value.Ty.{Ty}
use Rattle.qw_scalar.specs.Columns.{HasColumns, HaveColumns, OperandsHave}
use Rattle.qw_scalar.specs.Expression.{Expression, Condition, null, number, date, text, column, arithmetic, negative, extract, brought, choice, given, cell, comparison, predicate, both, either, negation_of, is, found, Operands, nil, operand}
use Rattle.qw_scalar.specs.Typing.{AreTyped, IsTyped, OperandsAreTyped}
use Rattle.qw_leaves.specs.declared.leaf.Leaf.{Leaf}
use Rattle.qw_leaves.specs.declared.leaf.Leaf.TheVariants as leaf
use Rattle.qw_leaves.specs.Leaves.{HasLeaves, HaveLeaves, OfColumn, OperandsHaveLeaves, condition_leaves, leaves, operands_leaves, stands_for}
use Rattle.qw_leaves.proofs.LeafLists.{all_back, all_front, all_joined, all_pairs, all_weaker}

-- ---- of the list
module _ (P : Leaf → Type 0) where
  mutual
    pub listed : (e : Expression) → HasLeaves P e → AllByRecursion P (leaves e)
    listed null h = tt
    listed (number v s) h = (h, tt)
    listed (date d) h = (h, tt)
    listed (text t) h = (h, tt)
    listed (column i ty) h = (h, tt)
    listed (arithmetic operator a b) h = all_joined P (leaves a) (leaves b) (listed a h.0) (listed b h.1)
    listed (negative a) h = listed a h
    listed (extract field a) h = listed a h
    listed (brought a s) h = listed a h
    listed (choice c a b) h = all_joined P (condition_leaves c) (leaves a ++ leaves b) (condition_listed c h.0) (all_joined P (leaves a) (leaves b) (listed a h.1.0) (listed b h.1.1))
    listed (given w k most v) h = tt
    listed (cell i ty most) h = (h, tt)

    pub condition_listed : (c : Condition) → HaveLeaves P c → AllByRecursion P (condition_leaves c)
    condition_listed (comparison op a b) h = all_joined P (leaves a) (leaves b) (listed a h.0) (listed b h.1)
    condition_listed (predicate p a) h = listed a h
    condition_listed (both c d) h = all_joined P (condition_leaves c) (condition_leaves d) (condition_listed c h.0) (condition_listed d h.1)
    condition_listed (either c d) h = all_joined P (condition_leaves c) (condition_leaves d) (condition_listed c h.0) (condition_listed d h.1)
    condition_listed (negation_of c) h = condition_listed c h
    condition_listed (is c t) h = condition_listed c h
    condition_listed (found n asked keys kinds rows) h = all_joined P (operands_leaves asked) (operands_leaves keys) (operands_listed asked h.0) (operands_listed keys h.1)

    pub operands_listed : (es : Operands) → OperandsHaveLeaves P es → AllByRecursion P (operands_leaves es)
    operands_listed nil h = tt
    operands_listed (operand e es) h = all_joined P (leaves e) (operands_leaves es) (listed e h.0) (operands_listed es h.1)

  mutual
    pub unlisted : (e : Expression) → AllByRecursion P (leaves e) → HasLeaves P e
    unlisted null h = tt
    unlisted (number v s) h = h.0
    unlisted (date d) h = h.0
    unlisted (text t) h = h.0
    unlisted (column i ty) h = h.0
    unlisted (arithmetic operator a b) h = (unlisted a (all_front P (leaves a) (leaves b) h), unlisted b (all_back P (leaves a) (leaves b) h))
    unlisted (negative a) h = unlisted a h
    unlisted (extract field a) h = unlisted a h
    unlisted (brought a s) h = unlisted a h
    unlisted (choice c a b) h =
        let rest = all_back P (condition_leaves c) (leaves a ++ leaves b) h in (
          condition_unlisted c (all_front P (condition_leaves c) (leaves a ++ leaves b) h),
          (unlisted a (all_front P (leaves a) (leaves b) rest), unlisted b (all_back P (leaves a) (leaves b) rest)),
        )
    unlisted (given w k most v) h = tt
    unlisted (cell i ty most) h = h.0

    pub condition_unlisted : (c : Condition) → AllByRecursion P (condition_leaves c) → HaveLeaves P c
    condition_unlisted (comparison op a b) h = (unlisted a (all_front P (leaves a) (leaves b) h), unlisted b (all_back P (leaves a) (leaves b) h))
    condition_unlisted (predicate p a) h = unlisted a h
    condition_unlisted (both c d) h =
        (condition_unlisted c (all_front P (condition_leaves c) (condition_leaves d) h), condition_unlisted d (all_back P (condition_leaves c) (condition_leaves d) h))
    condition_unlisted (either c d) h =
        (condition_unlisted c (all_front P (condition_leaves c) (condition_leaves d) h), condition_unlisted d (all_back P (condition_leaves c) (condition_leaves d) h))
    condition_unlisted (negation_of c) h = condition_unlisted c h
    condition_unlisted (is c t) h = condition_unlisted c h
    condition_unlisted (found n asked keys kinds rows) h =
        (operands_unlisted asked (all_front P (operands_leaves asked) (operands_leaves keys) h), operands_unlisted keys (all_back P (operands_leaves asked) (operands_leaves keys) h))

    pub operands_unlisted : (es : Operands) → AllByRecursion P (operands_leaves es) → OperandsHaveLeaves P es
    operands_unlisted nil h = tt
    operands_unlisted (operand e es) h = (unlisted e (all_front P (leaves e) (operands_leaves es) h), operands_unlisted es (all_back P (leaves e) (operands_leaves es) h))

-- ---- what follows of each
module _ (P Q : Leaf → Type 0) (more : (l : Leaf) → P l → Q l) where
  pub leaves_weaker : (e : Expression) → HasLeaves P e → HasLeaves Q e
  leaves_weaker e h = unlisted Q e (all_weaker P Q more (leaves e) (listed P e h))

  pub condition_leaves_weaker : (c : Condition) → HaveLeaves P c → HaveLeaves Q c
  condition_leaves_weaker c h = condition_unlisted Q c (all_weaker P Q more (condition_leaves c) (condition_listed P c h))

-- of two things that hold
module _ (P Q R : Leaf → Type 0) (more : (l : Leaf) → P l → Q l → R l) where
  pub leaves_joined : (e : Expression) → HasLeaves P e → HasLeaves Q e → HasLeaves R e
  leaves_joined e h g = unlisted R e (all_weaker (λ l. P l × Q l) R (λ l k. more l k.0 k.1) (leaves e) (all_pairs P Q (leaves e) (listed P e h) (listed Q e g)))

  pub condition_leaves_joined : (c : Condition) → HaveLeaves P c → HaveLeaves Q c → HaveLeaves R c
  condition_leaves_joined c h g =
      condition_unlisted R c (all_weaker (λ l. P l × Q l) R (λ l k. more l k.0 k.1) (condition_leaves c) (all_pairs P Q (condition_leaves c) (condition_listed P c h) (condition_listed Q c g)))

-- ---- columns
module _ (P : ℕ → Ty → Type 0) where
  mutual
    pub has_columns : (e : Expression) → HasLeaves (OfColumn P) e → HasColumns P e
    has_columns null h = tt
    has_columns (number v s) h = tt
    has_columns (date d) h = tt
    has_columns (text t) h = tt
    has_columns (column i t) h = h
    has_columns (arithmetic operator a b) h = (has_columns a h.0, has_columns b h.1)
    has_columns (negative a) h = has_columns a h
    has_columns (extract field a) h = has_columns a h
    has_columns (brought a s) h = has_columns a h
    has_columns (choice c a b) h = (have_columns c h.0, (has_columns a h.1.0, has_columns b h.1.1))
    has_columns (given w k most v) h = tt
    has_columns (cell i t most) h = h

    pub have_columns : (c : Condition) → HaveLeaves (OfColumn P) c → HaveColumns P c
    have_columns (comparison op a b) h = (has_columns a h.0, has_columns b h.1)
    have_columns (predicate p a) h = has_columns a h
    have_columns (both c d) h = (have_columns c h.0, have_columns d h.1)
    have_columns (either c d) h = (have_columns c h.0, have_columns d h.1)
    have_columns (negation_of c) h = have_columns c h
    have_columns (is c t) h = have_columns c h
    have_columns (found n asked keys kinds rows) h = (operands_columns asked h.0, operands_columns keys h.1)

    pub operands_columns : (es : Operands) → OperandsHaveLeaves (OfColumn P) es → OperandsHave P es
    operands_columns nil h = tt
    operands_columns (operand e es) h = (has_columns e h.0, operands_columns es h.1)

  mutual
    pub column_leaves : (e : Expression) → HasColumns P e → HasLeaves (OfColumn P) e
    column_leaves null h = tt
    column_leaves (number v s) h = tt
    column_leaves (date d) h = tt
    column_leaves (text t) h = tt
    column_leaves (column i t) h = h
    column_leaves (arithmetic operator a b) h = (column_leaves a h.0, column_leaves b h.1)
    column_leaves (negative a) h = column_leaves a h
    column_leaves (extract field a) h = column_leaves a h
    column_leaves (brought a s) h = column_leaves a h
    column_leaves (choice c a b) h = (condition_column_leaves c h.0, (column_leaves a h.1.0, column_leaves b h.1.1))
    column_leaves (given w k most v) h = tt
    column_leaves (cell i t most) h = h

    pub condition_column_leaves : (c : Condition) → HaveColumns P c → HaveLeaves (OfColumn P) c
    condition_column_leaves (comparison op a b) h = (column_leaves a h.0, column_leaves b h.1)
    condition_column_leaves (predicate p a) h = column_leaves a h
    condition_column_leaves (both c d) h = (condition_column_leaves c h.0, condition_column_leaves d h.1)
    condition_column_leaves (either c d) h = (condition_column_leaves c h.0, condition_column_leaves d h.1)
    condition_column_leaves (negation_of c) h = condition_column_leaves c h
    condition_column_leaves (is c t) h = condition_column_leaves c h
    condition_column_leaves (found n asked keys kinds rows) h = (operands_column_leaves asked h.0, operands_column_leaves keys h.1)

    pub operands_column_leaves : (es : Operands) → OperandsHave P es → OperandsHaveLeaves (OfColumn P) es
    operands_column_leaves nil h = tt
    operands_column_leaves (operand e es) h = (column_leaves e h.0, operands_column_leaves es h.1)

-- of a leaf where it is a column
pub column_from : (P : Leaf → Type 0) (Q : ℕ → Ty → Type 0) → ((i : ℕ) (ty : Ty) → P (leaf.Column i ty) → Q i ty) → (l : Leaf) → P l → OfColumn Q l
column_from P Q more (leaf.Column i ty) h = more i ty h
column_from P Q more (leaf.Number v s) h = tt
column_from P Q more (leaf.Date d) h = tt
column_from P Q more (leaf.Text t) h = tt

module _ (P : Leaf → Type 0) (Q : ℕ → Ty → Type 0) (more : (i : ℕ) (ty : Ty) → P (leaf.Column i ty) → Q i ty) where
  pub leaves_columns : (e : Expression) → HasLeaves P e → HasColumns Q e
  leaves_columns e h = has_columns Q e (leaves_weaker P (OfColumn Q) (column_from P Q more) e h)

  pub conditions_columns : (c : Condition) → HaveLeaves P c → HaveColumns Q c
  conditions_columns c h = have_columns Q c (condition_leaves_weaker P (OfColumn Q) (column_from P Q more) c h)

-- two things that hold of columns
column_pair : (P Q : ℕ → Ty → Type 0) (l : Leaf) → OfColumn P l → OfColumn Q l → OfColumn (λ i ty. P i ty × Q i ty) l
column_pair P Q (leaf.Column i ty) h g = (h, g)
column_pair P Q (leaf.Number v s) h g = tt
column_pair P Q (leaf.Date d) h g = tt
column_pair P Q (leaf.Text t) h g = tt

pub columns_both : (P Q : ℕ → Ty → Type 0) (e : Expression) → HasColumns P e → HasColumns Q e → HasColumns (λ i ty. P i ty × Q i ty) e
columns_both P Q e h g =
    has_columns (λ i ty. P i ty × Q i ty) e (leaves_joined (OfColumn P) (OfColumn Q) (OfColumn (λ i ty. P i ty × Q i ty)) (column_pair P Q) e (column_leaves P e h) (column_leaves Q e g))

pub conditions_both : (P Q : ℕ → Ty → Type 0) (c : Condition) → HaveColumns P c → HaveColumns Q c → HaveColumns (λ i ty. P i ty × Q i ty) c
conditions_both P Q c h g =
    have_columns (λ i ty. P i ty × Q i ty) c
    (condition_leaves_joined (OfColumn P) (OfColumn Q) (OfColumn (λ i ty. P i ty × Q i ty)) (column_pair P Q) c (condition_column_leaves P c h) (condition_column_leaves Q c g))

-- ---- the leaves of typed expressions are typed
abbrev pub IsTypedLeaf : Leaf → Type 0
IsTypedLeaf l = IsTyped (stands_for l)

mutual
  pub typed_leaves : (e : Expression) → IsTyped e → HasLeaves IsTypedLeaf e
  typed_leaves null h = tt
  typed_leaves (number v s) h = h
  typed_leaves (date d) h = h
  typed_leaves (text t) h = h
  typed_leaves (column i t) h = h
  typed_leaves (arithmetic operator a b) h = (typed_leaves a h.0.0, typed_leaves b h.0.1)
  typed_leaves (negative a) h = typed_leaves a h.0
  typed_leaves (extract field a) h = typed_leaves a h.0
  typed_leaves (brought a s) h = typed_leaves a h.0
  typed_leaves (choice c a b) h = (typed_conditions c h.0, (typed_leaves a h.1.0.0, typed_leaves b h.1.0.1))
  typed_leaves (given w k most v) h = tt
  typed_leaves (cell i t most) h = h.0

  pub typed_conditions : (c : Condition) → AreTyped c → HaveLeaves IsTypedLeaf c
  typed_conditions (comparison op a b) h = (typed_leaves a h.0.0, typed_leaves b h.0.1)
  typed_conditions (predicate p a) h = typed_leaves a h
  typed_conditions (both c d) h = (typed_conditions c h.0, typed_conditions d h.1)
  typed_conditions (either c d) h = (typed_conditions c h.0, typed_conditions d h.1)
  typed_conditions (negation_of c) h = typed_conditions c h
  typed_conditions (is c t) h = typed_conditions c h
  typed_conditions (found n asked keys kinds rows) h = (typed_operands asked h.0.0, typed_operands keys h.0.1)

  pub typed_operands : (es : Operands) → OperandsAreTyped es → OperandsHaveLeaves IsTypedLeaf es
  typed_operands nil h = tt
  typed_operands (operand e es) h = (typed_leaves e h.0, typed_operands es h.1)
