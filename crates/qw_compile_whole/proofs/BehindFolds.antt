-- Folded conjuncts and items, one for one: they can stand for those that they were made of, are no longer, and have the same texts.
use Rattle.std.proofs.Common.{◌≡◌, ℕ, ◌+◌, ◌≤◌, List, [], ◌∷◌, ◌++◌, Vec, Global, map, sum_by, refl, ap, ap₂, ◌∙◌, append-nil, arith}
use Rattle.std.specs.List.{AllZip, flat_map}
use Rattle.std.proofs.lemmas.List.Sums.{sum_by-cons}
use Rattle.qw_fold.specs.Stands.{Follows, FollowsTruth}
use Rattle.qw_scalar.specs.Texts.{texts_in, texts_within}
use Rattle.qw_leaves.specs.Leaves.{leaves_in, leaves_within, texts_among}
use Rattle.qw_leaves.specs.declared.leaf.Leaf.{Leaf}
use Rattle.qw_leaves.proofs.LeafLists.{texts_of_both}
use Rattle.qw_physical.specs.Inner.Spelling.{AreFolds, AreItemFolds}
use Rattle.qw_physical.specs.Sizes.{operator_size, size}
use Rattle.qw_physical.specs.declared.pipeline.Operator.{Operator}
use Rattle.qw_physical.specs.declared.pipeline.Operator.TheVariants as operators
use Rattle.qw_physical.specs.declared.pipeline.Pipeline.{Pipeline}
use Rattle.qw_physical.specs.declared.pipeline.Sink.TheVariants as sinks
use Rattle.qw_scalar.specs.Nodes.{nodes, nodes_of}
use Rattle.qw_scalar.specs.Tree.{condition_of, expression_of}
use Rattle.qw_scalar.specs.declared.expression.Cond.{Cond}
use Rattle.qw_scalar.specs.declared.expression.Expr.{Expr}
use Rattle.qw_compile.specs.QueryLiterals.{operator_leaves, pipeline_leaves, query_texts}
use Rattle.qw_compile.proofs.TextsWithin.{conditions_there, expressions_there}

pub tests_follow : (old new : List Cond) → AreFolds old new → AllZip FollowsTruth (map condition_of old) (map condition_of new)
tests_follow [] [] z = tt
tests_follow [] (d ∷ new) z = absurd z
tests_follow (c ∷ old) [] z = absurd z
tests_follow (c ∷ old) (d ∷ new) z = (z.0.follows, tests_follow old new z.1)

pub items_follow : (old new : List Expr) → AreItemFolds old new → AllZip Follows (map expression_of old) (map expression_of new)
items_follow [] [] z = tt
items_follow [] (f ∷ new) z = absurd z
items_follow (e ∷ old) [] z = absurd z
items_follow (e ∷ old) (f ∷ new) z = (z.0.follows, items_follow old new z.1)

tests_short : (old new : List Cond) → AreFolds old new → sum_by nodes_of new ≤ sum_by nodes_of old
tests_short [] [] z = omega arith
tests_short [] (d ∷ new) z = absurd z
tests_short (c ∷ old) [] z = absurd z
tests_short (c ∷ old) (d ∷ new) z = omega (arith, z.0.short, tests_short old new z.1, sum_by-cons nodes_of c old, sum_by-cons nodes_of d new)

items_short : (old new : List Expr) → AreItemFolds old new → sum_by nodes new ≤ sum_by nodes old
items_short [] [] z = omega arith
items_short [] (f ∷ new) z = absurd z
items_short (e ∷ old) [] z = absurd z
items_short (e ∷ old) (f ∷ new) z = omega (arith, z.0.short, items_short old new z.1, sum_by-cons nodes e old, sum_by-cons nodes f new)

tests_texts : (old new : List Cond) → AreFolds old new → flat_map texts_within new ≡ flat_map texts_within old
tests_texts [] [] z = refl
tests_texts [] (d ∷ new) z = absurd z
tests_texts (c ∷ old) [] z = absurd z
tests_texts (c ∷ old) (d ∷ new) z = ap₂ (λ (xs ys : List (List ℕ)). xs ++ ys) z.0.same_texts (tests_texts old new z.1)

items_texts : (old new : List Expr) → AreItemFolds old new → flat_map texts_in new ≡ flat_map texts_in old
items_texts [] [] z = refl
items_texts [] (f ∷ new) z = absurd z
items_texts (e ∷ old) [] z = absurd z
items_texts (e ∷ old) (f ∷ new) z = ap₂ (λ (xs ys : List (List ℕ)). xs ++ ys) z.0.same_texts (items_texts old new z.1)

module _ (conjuncts tests : List Cond) (items made : List Expr) (one : AreFolds conjuncts tests) (two : AreItemFolds items made) (entry table : ℕ) (kept : Vec Cond Global) (kept_is : kept.items ≡ tests) (steps : Vec Operator Global) (steps_are : steps.items ≡ operators.Filter kept ∷ [])
    (list : Vec Expr Global) (list_is : list.items ≡ made) where
  abbrev pub behind : Pipeline
  behind = record { entry = entry; table = table; operators = steps; sink = sinks.Select list }

  pub behind_short : size nodes nodes_of (record { entry = entry; table = table; operators = steps; sink = sinks.Select list }) ≤ sum_by nodes_of conjuncts + sum_by nodes items
  behind_short =
      let sized = ap (λ (os : List Operator). sum_by (operator_size nodes nodes_of) os) steps_are in
      omega (
        arith,
        sized,
        sum_by-cons (operator_size nodes nodes_of) (operators.Filter kept) [],
        ap (λ (l : List Cond). sum_by nodes_of l) kept_is,
        ap (λ (l : List Expr). sum_by nodes l) list_is,
        tests_short conjuncts tests one,
        items_short items made two,
      )

  pub behind_texts : query_texts (record { entry = entry; table = table; operators = steps; sink = sinks.Select list } ∷ []) ≡ flat_map texts_within conjuncts ++ flat_map texts_in items
  behind_texts =
      let leaves : pipeline_leaves behind ≡ flat_map leaves_within tests ++ flat_map leaves_in made =
      ap₂ (λ (xs ys : List Leaf). xs ++ ys)
      (ap (λ (os : List Operator). flat_map operator_leaves os) steps_are ∙ (append-nil (flat_map leaves_within kept.items) ∙ ap (λ (l : List Cond). flat_map leaves_within l) kept_is))
      (ap (λ (l : List Expr). flat_map leaves_in l) list_is) in
      ap texts_among (append-nil (pipeline_leaves behind) ∙ leaves)
      ∙ texts_of_both (flat_map leaves_within tests) (flat_map leaves_in made) (flat_map texts_within conjuncts) (flat_map texts_in items) (conditions_there tests ∙ tests_texts conjuncts tests one) (expressions_there made ∙ items_texts items made two)
