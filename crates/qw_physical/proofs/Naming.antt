-- What holds of the numbers of the columns that a tree names, and of the columns of what it stands for.
use Rattle.std.proofs.Common.{◌≡◌, ℕ, List, [], ◌∷◌, refl}
use Rattle.std.specs.List.{AllByRecursion, flat_map}
use Rattle.qw_scalar.specs.declared.expression.Expr.{Expr}
use Rattle.qw_scalar.specs.declared.expression.Cond.{Cond}
use Rattle.qw_scalar.specs.Columns.{HasColumns, HaveColumns}
use Rattle.qw_scalar.specs.Tree.{condition_of, expression_of}
use Rattle.qw_leaves.specs.declared.leaf.Leaf.{Leaf}
use Rattle.qw_leaves.specs.declared.leaf.Leaf.TheVariants as leaf
use Rattle.qw_leaves.specs.Leaves.{OfColumn, columns_among, leaves_in, leaves_within}
use Rattle.qw_leaves.proofs.LeafLemmas.{column_leaves, condition_column_leaves, has_columns, have_columns}
use Rattle.qw_leaves.proofs.LeafLists.{columns_of_each}
use Rattle.qw_leaves.proofs.TreeLeaves.{has_leaves, have_leaves, leaves_have, leaves_within_have}
use Rattle.qw_physical.specs.Named.{columns_in, columns_within}

module _ (P : ℕ → Type 0) where
  abbrev IsNumbered : Leaf → Type 0
  IsNumbered = OfColumn (λ i ty. P i)

  all_numbered : (ls : List Leaf) → AllByRecursion P (columns_among ls) → AllByRecursion IsNumbered ls
  all_numbered [] all = tt
  all_numbered (leaf.Column i ty ∷ ls) all = (all.0, all_numbered ls all.1)
  all_numbered (leaf.Number v s ∷ ls) all = (tt, all_numbered ls all)
  all_numbered (leaf.Date d ∷ ls) all = (tt, all_numbered ls all)
  all_numbered (leaf.Text t ∷ ls) all = (tt, all_numbered ls all)

  numbered_all : (ls : List Leaf) → AllByRecursion IsNumbered ls → AllByRecursion P (columns_among ls)
  numbered_all [] all = tt
  numbered_all (leaf.Column i ty ∷ ls) all = (all.0, numbered_all ls all.1)
  numbered_all (leaf.Number v s ∷ ls) all = numbered_all ls all.1
  numbered_all (leaf.Date d ∷ ls) all = numbered_all ls all.1
  numbered_all (leaf.Text t ∷ ls) all = numbered_all ls all.1

  pub has_named : (e : Expr) → AllByRecursion P (columns_in e) → HasColumns (λ i ty. P i) (expression_of e)
  has_named e all = has_columns (λ i ty. P i) (expression_of e) (has_leaves IsNumbered e (all_numbered (leaves_in e) all))

  pub have_named : (c : Cond) → AllByRecursion P (columns_within c) → HaveColumns (λ i ty. P i) (condition_of c)
  have_named c all = have_columns (λ i ty. P i) (condition_of c) (have_leaves IsNumbered c (all_numbered (leaves_within c) all))

  pub named_have : (e : Expr) → HasColumns (λ i ty. P i) (expression_of e) → AllByRecursion P (columns_in e)
  named_have e h = numbered_all (leaves_in e) (leaves_have IsNumbered e (column_leaves (λ i ty. P i) (expression_of e) h))

  pub columns_within_have : (c : Cond) → HaveColumns (λ i ty. P i) (condition_of c) → AllByRecursion P (columns_within c)
  columns_within_have c h = numbered_all (leaves_within c) (leaves_within_have IsNumbered c (condition_column_leaves (λ i ty. P i) (condition_of c) h))

-- of lists of trees
pub columns_of_items : (es : List Expr) → columns_among (flat_map leaves_in es) ≡ flat_map columns_in es
columns_of_items es = columns_of_each leaves_in columns_in es (λ e. refl)

pub columns_of_conjuncts : (cs : List Cond) → columns_among (flat_map leaves_within cs) ≡ flat_map columns_within cs
columns_of_conjuncts cs = columns_of_each leaves_within columns_within cs (λ c. refl)
