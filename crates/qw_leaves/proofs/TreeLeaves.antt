-- The leaves of the code's trees: those of what they stand for, and no more than their nodes.
use Rattle.std.proofs.Common.{ℕ, ◌≤◌, List, [], ◌∷◌, ◌++◌, length, length-append, sum_by, arith}
use Rattle.std.specs.List.{AllByRecursion}
use Rattle.std.proofs.lemmas.List.Sums.{sum_by-cons}
use Rattle.qw_scalar.specs.declared.expression.Expr.{Expr}
use Rattle.qw_scalar.specs.declared.expression.Cond.{Cond}
use Rattle.qw_scalar.specs.declared.expression.Function.TheVariants.{Coalesce, NullIf}
use Rattle.qw_scalar.specs.declared.expression.Exprs.{Exprs}
use Rattle.qw_scalar.specs.declared.expression.Branches.{Branches}
use Rattle.qw_scalar.specs.declared.expression.Matches.{Matches}
use Rattle.qw_scalar.specs.declared.expression.Expr.TheVariants.{Null, Number, Date, Text, Column, Arithmetic', Negative', Extract', Case', Match', Call'}
use Rattle.qw_scalar.specs.declared.expression.Cond.TheVariants.{Compare', Between', In', Predicate', And', Or', Not', Is'}
use Rattle.qw_scalar.specs.declared.expression.Exprs.TheVariants as Exprs
use Rattle.qw_scalar.specs.declared.expression.Branches.TheVariants as Branches
use Rattle.qw_scalar.specs.declared.expression.Matches.TheVariants as Matches
use Rattle.qw_scalar.specs.Expression.{Expression, among, cases, coalesced, unless_among}
use Rattle.qw_scalar.specs.Nodes.{nodes, nodes_of, nodes_of_all, nodes_of_branches, nodes_of_matches}
use Rattle.qw_scalar.specs.Tree.{choices_of, condition_of, expression_of, expressions_of, matches_of}
use Rattle.qw_leaves.specs.declared.leaf.Leaf.{Leaf}
use Rattle.qw_leaves.specs.Leaves.{HasLeaves, HaveLeaves, leaves_in, leaves_of_all, leaves_of_branches, leaves_of_matches, leaves_within}
use Rattle.qw_leaves.proofs.LeafLists.{all_back, all_front, all_joined}

-- ---- of the trees
module _ (P : Leaf → Type 0) where
  mutual
    pub has_leaves : (e : Expr) → AllByRecursion P (leaves_in e) → HasLeaves P (expression_of e)
    has_leaves Null all = tt
    has_leaves (Number v s) all = all.0
    has_leaves (Date d) all = all.0
    has_leaves (Text t) all = all.0
    has_leaves (Column i ty) all = all.0
    has_leaves (Arithmetic' operator _ a _ b) all = (has_leaves a (all_front P (leaves_in a) (leaves_in b) all), has_leaves b (all_back P (leaves_in a) (leaves_in b) all))
    has_leaves (Negative' _ a) all = has_leaves a all
    has_leaves (Extract' field _ a) all = has_leaves a all
    has_leaves (Case' _ branches) all = branches_have branches _ all
    has_leaves (Match' _ x _ matches) all =
        matches_have matches _ (expression_of x) (has_leaves x (all_front P (leaves_in x) (leaves_of_matches matches) all)) (all_back P (leaves_in x) (leaves_of_matches matches) all)
    has_leaves (Call' Coalesce _ arguments) all = coalesced_have arguments _ all
    has_leaves (Call' NullIf _ arguments) all = unless_have arguments all

    pub have_leaves : (c : Cond) → AllByRecursion P (leaves_within c) → HaveLeaves P (condition_of c)
    have_leaves (Compare' op _ a _ b) all = (has_leaves a (all_front P (leaves_in a) (leaves_in b) all), has_leaves b (all_back P (leaves_in a) (leaves_in b) all))
    have_leaves (Between' _ x _ a _ b) all =
        let e = has_leaves x (all_front P (leaves_in x) (leaves_in a ++ leaves_in b) all) in
        let rest = all_back P (leaves_in x) (leaves_in a ++ leaves_in b) all in
        ((e, has_leaves a (all_front P (leaves_in a) (leaves_in b) rest)), (e, has_leaves b (all_back P (leaves_in a) (leaves_in b) rest)))
    have_leaves (In' _ x _ values) all =
        among_have values (expression_of x) (has_leaves x (all_front P (leaves_in x) (leaves_of_all values) all)) (all_back P (leaves_in x) (leaves_of_all values) all)
    have_leaves (Predicate' p _ a) all = has_leaves a all
    have_leaves (And' _ c _ d) all = (have_leaves c (all_front P (leaves_within c) (leaves_within d) all), have_leaves d (all_back P (leaves_within c) (leaves_within d) all))
    have_leaves (Or' _ c _ d) all = (have_leaves c (all_front P (leaves_within c) (leaves_within d) all), have_leaves d (all_back P (leaves_within c) (leaves_within d) all))
    have_leaves (Not' _ c) all = have_leaves c all
    have_leaves (Is' _ c t) all = have_leaves c all

    unless_have : (es : Exprs) → AllByRecursion P (leaves_of_all es) → HasLeaves P (unless_among (expressions_of es))
    unless_have (Exprs.Last' _ e) all = has_leaves e all
    unless_have (Exprs.More' _ e _ es) all =
        let x = has_leaves e (all_front P (leaves_in e) (leaves_of_all es) all) in
        (among_have es (expression_of e) x (all_back P (leaves_in e) (leaves_of_all es) all), (tt, x))

    coalesced_have : (es : Exprs) (s : ℕ) → AllByRecursion P (leaves_of_all es) → HasLeaves P (cases s (coalesced (expressions_of es)))
    coalesced_have (Exprs.Last' _ e) s all = has_leaves e all
    coalesced_have (Exprs.More' _ e _ es) s all =
        let x = has_leaves e (all_front P (leaves_in e) (leaves_of_all es) all) in
        (x, (x, coalesced_have es s (all_back P (leaves_in e) (leaves_of_all es) all)))

    among_have : (es : Exprs) (x : Expression) → HasLeaves P x → AllByRecursion P (leaves_of_all es) → HaveLeaves P (among x (expressions_of es))
    among_have (Exprs.Last' _ e) x has all = (has, has_leaves e all)
    among_have (Exprs.More' _ e _ es) x has all = ((has, has_leaves e (all_front P (leaves_in e) (leaves_of_all es) all)), among_have es x has (all_back P (leaves_in e) (leaves_of_all es) all))

    branches_have : (b : Branches) (s : ℕ) → AllByRecursion P (leaves_of_branches b) → HasLeaves P (cases s (choices_of b))
    branches_have (Branches.Else' _ e) s all = has_leaves e all
    branches_have (Branches.When' _ c _ e _ rest) s all =
        let more = all_back P (leaves_within c) (leaves_in e ++ leaves_of_branches rest) all in (
          have_leaves c (all_front P (leaves_within c) (leaves_in e ++ leaves_of_branches rest) all),
          (has_leaves e (all_front P (leaves_in e) (leaves_of_branches rest) more), branches_have rest s (all_back P (leaves_in e) (leaves_of_branches rest) more)),
        )

    matches_have : (m : Matches) (s : ℕ) (x : Expression) → HasLeaves P x → AllByRecursion P (leaves_of_matches m) → HasLeaves P (cases s (matches_of m x))
    matches_have (Matches.Last' _ v _ e _ other) s x has all =
        let more = all_back P (leaves_in v) (leaves_in e ++ leaves_in other) all in (
          (has, has_leaves v (all_front P (leaves_in v) (leaves_in e ++ leaves_in other) all)),
          (has_leaves e (all_front P (leaves_in e) (leaves_in other) more), has_leaves other (all_back P (leaves_in e) (leaves_in other) more)),
        )
    matches_have (Matches.When' _ v _ e _ rest) s x has all =
        let more = all_back P (leaves_in v) (leaves_in e ++ leaves_of_matches rest) all in (
          (has, has_leaves v (all_front P (leaves_in v) (leaves_in e ++ leaves_of_matches rest) all)),
          (has_leaves e (all_front P (leaves_in e) (leaves_of_matches rest) more), matches_have rest s x has (all_back P (leaves_in e) (leaves_of_matches rest) more)),
        )

-- ---- and of the trees, by those of what they stand for
module _ (P : Leaf → Type 0) where
  joined : (xs ys : List Leaf) → AllByRecursion P xs → AllByRecursion P ys → AllByRecursion P (xs ++ ys)
  joined xs ys one two = all_joined P xs ys one two

  mutual
    pub leaves_have : (e : Expr) → HasLeaves P (expression_of e) → AllByRecursion P (leaves_in e)
    leaves_have Null h = tt
    leaves_have (Number v s) h = (h, tt)
    leaves_have (Date d) h = (h, tt)
    leaves_have (Text t) h = (h, tt)
    leaves_have (Column i ty) h = (h, tt)
    leaves_have (Arithmetic' operator _ a _ b) h = joined (leaves_in a) (leaves_in b) (leaves_have a h.0) (leaves_have b h.1)
    leaves_have (Negative' _ a) h = leaves_have a h
    leaves_have (Extract' field _ a) h = leaves_have a h
    leaves_have (Case' _ branches) h = branches_leaves branches _ h
    leaves_have (Match' _ x _ matches) h = let both = matches_leaves matches _ (expression_of x) h in joined (leaves_in x) (leaves_of_matches matches) (leaves_have x both.0) both.1
    leaves_have (Call' Coalesce _ arguments) h = coalesced_leaves arguments _ h
    leaves_have (Call' NullIf _ arguments) h = unless_leaves arguments h

    pub leaves_within_have : (c : Cond) → HaveLeaves P (condition_of c) → AllByRecursion P (leaves_within c)
    leaves_within_have (Compare' op _ a _ b) h = joined (leaves_in a) (leaves_in b) (leaves_have a h.0) (leaves_have b h.1)
    leaves_within_have (Between' _ x _ a _ b) h =
        joined (leaves_in x) (leaves_in a ++ leaves_in b) (leaves_have x h.0.0) (joined (leaves_in a) (leaves_in b) (leaves_have a h.0.1) (leaves_have b h.1.1))
    leaves_within_have (In' _ x _ values) h = let both = among_leaves values (expression_of x) h in joined (leaves_in x) (leaves_of_all values) (leaves_have x both.0) both.1
    leaves_within_have (Predicate' p _ a) h = leaves_have a h
    leaves_within_have (And' _ c _ d) h = joined (leaves_within c) (leaves_within d) (leaves_within_have c h.0) (leaves_within_have d h.1)
    leaves_within_have (Or' _ c _ d) h = joined (leaves_within c) (leaves_within d) (leaves_within_have c h.0) (leaves_within_have d h.1)
    leaves_within_have (Not' _ c) h = leaves_within_have c h
    leaves_within_have (Is' _ c t) h = leaves_within_have c h

    unless_leaves : (es : Exprs) → HasLeaves P (unless_among (expressions_of es)) → AllByRecursion P (leaves_of_all es)
    unless_leaves (Exprs.Last' _ e) h = leaves_have e h
    unless_leaves (Exprs.More' _ e _ es) h = joined (leaves_in e) (leaves_of_all es) (leaves_have e h.1.1) (among_leaves es (expression_of e) h.0).1

    coalesced_leaves : (es : Exprs) (s : ℕ) → HasLeaves P (cases s (coalesced (expressions_of es))) → AllByRecursion P (leaves_of_all es)
    coalesced_leaves (Exprs.Last' _ e) s h = leaves_have e h
    coalesced_leaves (Exprs.More' _ e _ es) s h = joined (leaves_in e) (leaves_of_all es) (leaves_have e h.1.0) (coalesced_leaves es s h.1.1)

    among_leaves : (es : Exprs) (x : Expression) → HaveLeaves P (among x (expressions_of es)) → HasLeaves P x × AllByRecursion P (leaves_of_all es)
    among_leaves (Exprs.Last' _ e) x h = (h.0, leaves_have e h.1)
    among_leaves (Exprs.More' _ e _ es) x h = (h.0.0, joined (leaves_in e) (leaves_of_all es) (leaves_have e h.0.1) (among_leaves es x h.1).1)

    branches_leaves : (b : Branches) (s : ℕ) → HasLeaves P (cases s (choices_of b)) → AllByRecursion P (leaves_of_branches b)
    branches_leaves (Branches.Else' _ e) s h = leaves_have e h
    branches_leaves (Branches.When' _ c _ e _ rest) s h =
        joined (leaves_within c) (leaves_in e ++ leaves_of_branches rest) (leaves_within_have c h.0) (joined (leaves_in e) (leaves_of_branches rest) (leaves_have e h.1.0) (branches_leaves rest s h.1.1))

    matches_leaves : (m : Matches) (s : ℕ) (x : Expression) → HasLeaves P (cases s (matches_of m x)) → HasLeaves P x × AllByRecursion P (leaves_of_matches m)
    matches_leaves (Matches.Last' _ v _ e _ other) s x h = (
      h.0.0,
      joined (leaves_in v) (leaves_in e ++ leaves_in other) (leaves_have v h.0.1) (joined (leaves_in e) (leaves_in other) (leaves_have e h.1.0) (leaves_have other h.1.1)),
    )
    matches_leaves (Matches.When' _ v _ e _ rest) s x h = (
      h.0.0,
      joined (leaves_in v) (leaves_in e ++ leaves_of_matches rest) (leaves_have v h.0.1) (joined (leaves_in e) (leaves_of_matches rest) (leaves_have e h.1.0) (matches_leaves rest s x h.1.1).1),
    )

-- ---- nodes
pub some_nodes : (e : Expr) → 1 ≤ nodes e
some_nodes Null = omega arith
some_nodes (Number v s) = omega arith
some_nodes (Date d) = omega arith
some_nodes (Text t) = omega arith
some_nodes (Column i ty) = omega arith
some_nodes (Arithmetic' operator _ a _ b) = omega arith
some_nodes (Negative' _ a) = omega arith
some_nodes (Extract' field _ a) = omega arith
some_nodes (Case' _ branches) = omega arith
some_nodes (Match' _ x _ matches) = omega arith
some_nodes (Call' function _ arguments) = omega arith

pub some_nodes_of : (c : Cond) → 1 ≤ nodes_of c
some_nodes_of (Compare' op _ a _ b) = omega arith
some_nodes_of (Between' _ x _ a _ b) = omega arith
some_nodes_of (In' _ x _ values) = omega arith
some_nodes_of (Predicate' p _ a) = omega arith
some_nodes_of (And' _ c _ d) = omega arith
some_nodes_of (Or' _ c _ d) = omega arith
some_nodes_of (Not' _ c) = omega arith
some_nodes_of (Is' _ c t) = omega arith

pub many_nodes : (items : List Expr) → length items ≤ sum_by nodes items
many_nodes [] = omega arith
many_nodes (e ∷ items) = let rest = many_nodes items in omega (arith, rest, some_nodes e, sum_by-cons nodes e items)

-- ---- each leaf is a node
mutual
  pub leaves_few : (e : Expr) → length (leaves_in e) ≤ nodes e
  leaves_few Null = omega arith
  leaves_few (Number v s) = omega arith
  leaves_few (Date d) = omega arith
  leaves_few (Text t) = omega arith
  leaves_few (Column i ty) = omega arith
  leaves_few (Arithmetic' operator _ a _ b) = omega (arith, length-append (leaves_in a) (leaves_in b), leaves_few a, leaves_few b)
  leaves_few (Negative' _ a) = omega (arith, leaves_few a)
  leaves_few (Extract' field _ a) = omega (arith, leaves_few a)
  leaves_few (Case' _ branches) = omega (arith, branches_few branches)
  leaves_few (Match' _ x _ matches) = omega (arith, length-append (leaves_in x) (leaves_of_matches matches), leaves_few x, matches_few matches)
  leaves_few (Call' function _ arguments) = omega (arith, all_few arguments)

  pub condition_few : (c : Cond) → length (leaves_within c) ≤ nodes_of c
  condition_few (Compare' op _ a _ b) = omega (arith, length-append (leaves_in a) (leaves_in b), leaves_few a, leaves_few b)
  condition_few (Between' _ x _ a _ b) = omega (arith, length-append (leaves_in x) (leaves_in a ++ leaves_in b), length-append (leaves_in a) (leaves_in b), leaves_few x, leaves_few a, leaves_few b)
  condition_few (In' _ x _ values) = omega (arith, length-append (leaves_in x) (leaves_of_all values), leaves_few x, all_few values)
  condition_few (Predicate' p _ a) = omega (arith, leaves_few a)
  condition_few (And' _ c _ d) = omega (arith, length-append (leaves_within c) (leaves_within d), condition_few c, condition_few d)
  condition_few (Or' _ c _ d) = omega (arith, length-append (leaves_within c) (leaves_within d), condition_few c, condition_few d)
  condition_few (Not' _ c) = omega (arith, condition_few c)
  condition_few (Is' _ c t) = omega (arith, condition_few c)

  all_few : (es : Exprs) → length (leaves_of_all es) ≤ nodes_of_all es
  all_few (Exprs.Last' _ e) = omega (arith, leaves_few e)
  all_few (Exprs.More' _ e _ es) = omega (arith, length-append (leaves_in e) (leaves_of_all es), leaves_few e, all_few es)

  branches_few : (b : Branches) → length (leaves_of_branches b) ≤ nodes_of_branches b
  branches_few (Branches.Else' _ e) = omega (arith, leaves_few e)
  branches_few (Branches.When' _ c _ e _ rest) =
      omega (arith, length-append (leaves_within c) (leaves_in e ++ leaves_of_branches rest), length-append (leaves_in e) (leaves_of_branches rest), condition_few c, leaves_few e, branches_few rest)

  matches_few : (m : Matches) → length (leaves_of_matches m) ≤ nodes_of_matches m
  matches_few (Matches.Last' _ v _ e _ other) =
      omega (arith, length-append (leaves_in v) (leaves_in e ++ leaves_in other), length-append (leaves_in e) (leaves_in other), leaves_few v, leaves_few e, leaves_few other)
  matches_few (Matches.When' _ v _ e _ rest) =
      omega (arith, length-append (leaves_in v) (leaves_in e ++ leaves_of_matches rest), length-append (leaves_in e) (leaves_of_matches rest), leaves_few v, leaves_few e, matches_few rest)
