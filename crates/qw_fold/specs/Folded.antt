-- Trees in which no operation on literals is left that a compiler can do (ISO/IEC 9075:1992, 6.9, 6.11, 6.12, 8.2 to 8.4): each raises. And
-- no literal stands beside a number of a larger scale, unless it has more than 18 digits there.
use Rattle.std.specs.Prelude.{◌≡◌, ◌⊎◌, ◌≤◌, ℕ, max, Err}
use Rattle.qw_types.specs.Arithmetic.{bring}
use Rattle.qw_types.specs.declared.code.Code.{Code}
use Rattle.qw_types.specs.declared.code.Code.TheVariants.{OutOfRange}
use Rattle.qw_scalar.specs.declared.expression.Operator.{Operator}
use Rattle.qw_scalar.specs.declared.expression.Operator.TheVariants.{Add, Subtract, Multiply, Divide}
use Rattle.qw_scalar.specs.declared.expression.Expr.{Expr}
use Rattle.qw_scalar.specs.declared.expression.Cond.{Cond}
use Rattle.qw_scalar.specs.declared.expression.Exprs.{Exprs}
use Rattle.qw_scalar.specs.declared.expression.Branches.{Branches}
use Rattle.qw_scalar.specs.declared.expression.Matches.{Matches}
use Rattle.qw_scalar.specs.declared.expression.Expr.TheVariants.{Null, Number, Date, Text, Column, Arithmetic', Negative', Extract', Case', Match', Call'}
use Rattle.qw_scalar.specs.declared.expression.Cond.TheVariants.{Compare', Between', In', Predicate', And', Or', Not', Is'}
use Rattle.qw_scalar.specs.declared.expression.Exprs.TheVariants as Exprs
use Rattle.qw_scalar.specs.declared.expression.Branches.TheVariants as Branches
use Rattle.qw_scalar.specs.declared.expression.Matches.TheVariants as Matches
use Rattle.qw_scalar.specs.Evaluation.{applied}
use Rattle.qw_scalar.specs.Expression.{called, largest_result, scale_of}
use Rattle.qw_scalar.specs.Tree.{choices_of, expression_of, expressions_of, matches_of}

-- A literal of a number is of this scale or of a larger one, or has no value of 18 digits at it.
abbrev pub IsAtScale : ℕ → Expr → Type 0
IsAtScale s (Number v t) = (s ≤ t) ⊎ (bring v t s ≡ Err OutOfRange)
IsAtScale s _ = Unit {0}

-- so are two expressions, at the larger scale of both
abbrev pub AreAtOneScale : Expr → Expr → Type 0
AreAtOneScale a b =
    IsAtScale (max (scale_of (expression_of a)) (scale_of (expression_of b))) a
    × IsAtScale (max (scale_of (expression_of a)) (scale_of (expression_of b))) b

-- the operands of a sum and of a difference are
abbrev pub AreOperands : Operator → Expr → Expr → Type 0
AreOperands Add a b = AreAtOneScale a b
AreOperands Subtract a b = AreAtOneScale a b
AreOperands Multiply a b = Unit {0}
AreOperands Divide a b = Unit {0}

-- an operation on two literals of numbers raises
abbrev pub IsLeft : Operator → Expr → Expr → Type 0
IsLeft operator (Number v s) (Number w t) = (code : Code) × (applied operator v s w t ≡ Err code)
IsLeft operator _ _ = Unit {0}

abbrev pub IsNoNumber : Expr → Type 0
IsNoNumber (Number v s) = ⊥
IsNoNumber _ = Unit {0}

abbrev pub IsNoDate : Expr → Type 0
IsNoDate (Date d) = ⊥
IsNoDate _ = Unit {0}

abbrev mutual
  pub IsFolded : Expr → Type 0
  IsFolded Null = Unit {0}
  IsFolded (Number v s) = Unit {0}
  IsFolded (Date d) = Unit {0}
  IsFolded (Text t) = Unit {0}
  IsFolded (Column i ty) = Unit {0}
  IsFolded (Arithmetic' operator _ a _ b) = (IsFolded a × IsFolded b) × (IsLeft operator a b × AreOperands operator a b)
  IsFolded (Negative' _ a) = IsFolded a × IsNoNumber a
  IsFolded (Extract' field _ a) = IsFolded a × IsNoDate a
  IsFolded (Case' _ branches) = BranchesFolded (largest_result (choices_of branches)) branches
  IsFolded (Match' _ x _ matches) =
      IsFolded x × MatchesFolded (scale_of (expression_of x)) (largest_result (matches_of matches (expression_of x))) matches
  IsFolded (Call' function _ arguments) = AllFolded (scale_of (called function (expressions_of arguments))) arguments

  pub AreFolded : Cond → Type 0
  AreFolded (Compare' op _ a _ b) = (IsFolded a × IsFolded b) × AreAtOneScale a b
  AreFolded (Between' _ x _ a _ b) =
      (IsFolded x × (IsFolded a × IsFolded b)) × (IsAtScale (scale_of (expression_of x)) a × IsAtScale (scale_of (expression_of x)) b)
  AreFolded (In' _ x _ values) = IsFolded x × AllFolded (scale_of (expression_of x)) values
  AreFolded (Predicate' p _ a) = IsFolded a
  AreFolded (And' _ c _ d) = AreFolded c × AreFolded d
  AreFolded (Or' _ c _ d) = AreFolded c × AreFolded d
  AreFolded (Not' _ c) = AreFolded c
  AreFolded (Is' _ c t) = AreFolded c

  -- several expressions, each at a scale
  pub AllFolded : ℕ → Exprs → Type 0
  AllFolded s (Exprs.Last' _ e) = IsFolded e × IsAtScale s e
  AllFolded s (Exprs.More' _ e _ es) = (IsFolded e × IsAtScale s e) × AllFolded s es

  -- the branches of a CASE, its results at a scale
  pub BranchesFolded : ℕ → Branches → Type 0
  BranchesFolded s (Branches.Else' _ e) = IsFolded e × IsAtScale s e
  BranchesFolded s (Branches.When' _ c _ e _ rest) = (AreFolded c × (IsFolded e × IsAtScale s e)) × BranchesFolded s rest

  -- those of a CASE with an operand of a scale
  pub MatchesFolded : (operand results : ℕ) → Matches → Type 0
  MatchesFolded x s (Matches.Last' _ v _ e _ other) =
      ((IsFolded v × IsAtScale x v) × (IsFolded e × IsAtScale s e)) × (IsFolded other × IsAtScale s other)
  MatchesFolded x s (Matches.When' _ v _ e _ rest) =
      ((IsFolded v × IsAtScale x v) × (IsFolded e × IsAtScale s e)) × MatchesFolded x s rest
