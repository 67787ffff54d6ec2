-- What the functions of src/literal.rt, src/operation.rt, src/construct.rt, src/tree.rt and src/fold.rt make: a tree that means the same as
-- an expression or condition, is typed where that is, names no other columns, is folded, has at most so many nodes, and these texts.
use Rattle.std.specs.Prelude.{◌≡◌, ◌⊎◌, ◌≤◌, ◌<◌, ℕ, ℤ, max, List, Option, Some, None, Ok, Err, Result, Bool, true, false, IsTrue}
use Rattle.std.specs.List.{AllZip}
use Rattle.qw_types.specs.Arithmetic.{bring, fits}
use Rattle.qw_types.specs.declared.code.Code.{Code}
use Rattle.qw_types.specs.declared.value.Val.{Val}
use Rattle.qw_types.specs.declared.value.Val.TheVariants as val
use Rattle.qw_scalar.specs.declared.expression.Expr.{Expr}
use Rattle.qw_scalar.specs.declared.expression.Cond.{Cond}
use Rattle.qw_scalar.specs.declared.expression.Exprs.{Exprs}
use Rattle.qw_scalar.specs.declared.expression.Branches.{Branches}
use Rattle.qw_scalar.specs.declared.expression.Matches.{Matches}
use Rattle.qw_scalar.specs.declared.expression.Expr.TheVariants.{Number, Date}
use Rattle.qw_scalar.specs.Expression.{Choices, Condition, Expression, Expressions, last, more, cases, largest_result, number, scale_of}
use Rattle.qw_scalar.specs.Nodes.{nodes, nodes_of, nodes_of_all, nodes_of_branches, nodes_of_matches}
use Rattle.qw_scalar.specs.Tree.{choices_of, condition_of, expression_of, expressions_of, matches_of}
use Rattle.qw_fold.specs.Folded.{AllFolded, AreAtOneScale, BranchesFolded, IsAtScale, IsFolded, MatchesFolded}
use Rattle.qw_scalar.specs.Texts.{texts_in, texts_of_all, texts_of_branches, texts_of_matches, texts_within}
pub use Rattle.qw_fold.specs.Stands.{AreFoldOf, Follows, FollowsTruth, IsAmong, IsFoldOf}

-- so can results of a choice that are brought to a scale
pub record FollowsResults (s : ℕ) (cs ds : Choices) : Type 0 where
  pub brought : Follows (cases s cs) (cases s ds)
  pub least : largest_result cs ≤ largest_result ds
  pub most : largest_result cs ≤ s → largest_result ds ≤ s

-- a literal of a number, and the same number at a larger scale
pub record IsRaised (s : ℕ) (e f : Expression) : Type 0 where
  pub value : ℤ
  pub scale : ℕ
  pub made : ℤ
  pub is : e ≡ number value scale
  pub made_is : f ≡ number made s
  pub up : scale < s
  pub near : s ≤ 18
  pub brought : bring value scale s ≡ Ok made
  pub fit : IsTrue (fits made)

-- an expression as it is, or a literal brought to a scale
abbrev pub IsBrought : ℕ → Expression → Expression → Type 0
IsBrought s e f = (f ≡ e) ⊎ IsRaised s e f

-- whether a tree is a literal of a number, or of a date
abbrev pub is_number : Expr → Bool
is_number (Number v s) = true
is_number _ = false

abbrev pub is_date : Expr → Bool
is_date (Date d) = true
is_date _ = false

-- the number that a value is
abbrev pub number_in : Result Val Code → Option ℤ
number_in (Ok val.Null) = None
number_in (Ok (val.Num v)) = Some v
number_in (Ok (val.Date d)) = None
number_in (Ok (val.Text t)) = None
number_in (Err code) = None

-- the tree of an expression, of so many nodes and with these texts
pub record IsBuilt (e : Expression) (count : ℕ) (texts : List (List ℕ)) (tree : Expr) : Type 0 where
  pub means : expression_of tree ≡ e
  pub counted : nodes tree ≡ count
  pub same_texts : texts_in tree ≡ texts

pub record AreBuilt (c : Condition) (count : ℕ) (texts : List (List ℕ)) (tree : Cond) : Type 0 where
  pub means : condition_of tree ≡ c
  pub counted : nodes_of tree ≡ count
  pub same_texts : texts_within tree ≡ texts

-- of lists
pub record AllBuilt (es : Expressions) (count : ℕ) (texts : List (List ℕ)) (tree : Exprs) : Type 0 where
  pub means : expressions_of tree ≡ es
  pub counted : nodes_of_all tree ≡ count
  pub same_texts : texts_of_all tree ≡ texts

pub record ChoicesBuilt (cs : Choices) (count : ℕ) (texts : List (List ℕ)) (tree : Branches) : Type 0 where
  pub means : choices_of tree ≡ cs
  pub counted : nodes_of_branches tree ≡ count
  pub same_texts : texts_of_branches tree ≡ texts

pub record MatchesBuilt (cs : Expression → Choices) (count : ℕ) (texts : List (List ℕ)) (tree : Matches) : Type 0 where
  pub means : (x : Expression) → matches_of tree x ≡ cs x
  pub counted : nodes_of_matches tree ≡ count
  pub same_texts : texts_of_matches tree ≡ texts

-- two trees at the larger scale of both
pub record BroughtTogether (a b x y : Expr) : Type 0 where
  pub left : IsBrought (max (scale_of (expression_of a)) (scale_of (expression_of b))) (expression_of a) (expression_of x)
  pub right : IsBrought (max (scale_of (expression_of a)) (scale_of (expression_of b))) (expression_of b) (expression_of y)
  pub together : AreAtOneScale x y
  pub folded : IsFolded a × IsFolded b → IsFolded x × IsFolded y
  pub left_nodes : nodes x ≡ nodes a
  pub right_nodes : nodes y ≡ nodes b
  pub left_texts : texts_in x ≡ texts_in a
  pub right_texts : texts_in y ≡ texts_in b

-- what stands for an expression, brought to a scale
pub record StandsAt (s : ℕ) (e f : Expression) : Type 0 where
  pub between : Expression
  pub follows : Follows e between
  pub brought : IsBrought s between f

pub record IsFoldAt (s : ℕ) (e : Expression) (count : ℕ) (texts : List (List ℕ)) (new : Expr) : Type 0 where
  pub stands : StandsAt s e (expression_of new)
  pub folded : IsFolded new × IsAtScale s new
  pub short : nodes new ≤ count
  pub same_texts : texts_in new ≡ texts

-- so do several expressions, one for one
abbrev pub AllStandAt : ℕ → Expressions → Expressions → Type 0
AllStandAt s (last e) (last f) = StandsAt s e f
AllStandAt s (last e) (more f fs) = ⊥
AllStandAt s (more e es) (last f) = ⊥
AllStandAt s (more e es) (more f fs) = StandsAt s e f × AllStandAt s es fs

pub record AllFoldAt (s : ℕ) (values : Expressions) (count : ℕ) (texts : List (List ℕ)) (new : Exprs) : Type 0 where
  pub stand : AllStandAt s values (expressions_of new)
  pub folded : AllFolded s new
  pub short : nodes_of_all new ≤ count
  pub same_texts : texts_of_all new ≡ texts

pub record BranchesFold (s : ℕ) (choices : Choices) (count : ℕ) (texts : List (List ℕ)) (new : Branches) : Type 0 where
  pub follows : FollowsResults s choices (choices_of new)
  pub folded : BranchesFolded s new
  pub short : nodes_of_branches new ≤ count
  pub same_texts : texts_of_branches new ≡ texts

-- the branches of a CASE whose operand is of a scale
pub record MatchesFold (operand s : ℕ) (old : Matches) (new : Matches) : Type 0 where
  pub follows : (x y : Expression) → Follows x y → FollowsResults s (matches_of old x) (matches_of new y)
  pub folded : MatchesFolded operand s new
  pub short : nodes_of_matches new ≤ nodes_of_matches old
  pub same_texts : texts_of_matches new ≡ texts_of_matches old

-- conjuncts, and the items of a select list, one for one
abbrev pub ConjunctsFold : List Cond → List Cond → Type 0
ConjunctsFold old new = AllZip (λ (c d : Cond). AreFoldOf (condition_of c) (nodes_of c) (texts_within c) d) old new

abbrev pub ItemsFold : List Expr → List Expr → Type 0
ItemsFold old new = AllZip (λ (e f : Expr). IsFoldOf (expression_of e) (nodes e) (texts_in e) f) old new
