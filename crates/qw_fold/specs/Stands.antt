-- What can stand for an expression or a condition: it means the same, is typed where that is, and names no other columns (ISO/IEC 9075:1992,
-- 6.11, 8.12); and of the trees that folding makes, that nothing is left to compute, and how large they are.
use Rattle.std.specs.Prelude.{◌≡◌, ◌≤◌, ℕ, List, Contains}
use Rattle.qw_types.specs.declared.value.Ty.{Ty}
use Rattle.qw_scalar.specs.declared.expression.Expr.{Expr}
use Rattle.qw_scalar.specs.declared.expression.Cond.{Cond}
use Rattle.qw_scalar.specs.Columns.{HasColumns, HaveColumns}
use Rattle.qw_scalar.specs.Expression.{Condition, Expression}
use Rattle.qw_scalar.specs.Nodes.{nodes, nodes_of}
use Rattle.qw_scalar.specs.Same.{AreSame, IsSame}
use Rattle.qw_scalar.specs.Tree.{condition_of, expression_of}
use Rattle.qw_scalar.specs.Typing.{AreTyped, IsTyped}
use Rattle.qw_fold.specs.Folded.{AreFolded, IsFolded}
use Rattle.qw_scalar.specs.Texts.{texts_in, texts_within}

-- one of these columns, each its number and its type
abbrev pub IsAmong : List (ℕ × Ty) → ℕ → Ty → Type 0
IsAmong columns i ty = Contains columns (i, ty)

-- the second can stand for the first, and names no column that the first doesn't
pub record Follows (e f : Expression) : Type 0 where
  pub same : IsSame e f
  pub typed : IsTyped e → IsTyped f
  pub columns : (columns : List (ℕ × Ty)) → HasColumns (IsAmong columns) e → HasColumns (IsAmong columns) f

pub record FollowsTruth (c d : Condition) : Type 0 where
  pub same : AreSame c d
  pub typed : AreTyped c → AreTyped d
  pub columns : (columns : List (ℕ × Ty)) → HaveColumns (IsAmong columns) c → HaveColumns (IsAmong columns) d

-- a folded tree that can stand for an expression, of at most so many nodes and with these texts
pub record IsFoldOf (e : Expression) (count : ℕ) (texts : List (List ℕ)) (new : Expr) : Type 0 where
  pub follows : Follows e (expression_of new)
  pub folded : IsFolded new
  pub short : nodes new ≤ count
  pub same_texts : texts_in new ≡ texts

pub record AreFoldOf (c : Condition) (count : ℕ) (texts : List (List ℕ)) (new : Cond) : Type 0 where
  pub follows : FollowsTruth c (condition_of new)
  pub folded : AreFolded new
  pub short : nodes_of new ≤ count
  pub same_texts : texts_within new ≡ texts
