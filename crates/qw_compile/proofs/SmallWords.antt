-- Numbers and dates of typed pipelines fit their locals.
use Rattle.std.proofs.Common.{List, [], ◌∷◌, map}
use Rattle.std.specs.List.{AllByRecursion, flat_map}
use Rattle.qw_types.proofs.KindLemmas.{day_number}
use Rattle.qw_scalar.specs.Tree.{condition_of, expression_of}
use Rattle.qw_scalar.specs.Typing.{AreTyped, IsTyped}
use Rattle.qw_scalar.specs.declared.expression.Cond.{Cond}
use Rattle.qw_scalar.specs.declared.expression.Expr.{Expr}
use Rattle.qw_algebra.proofs.Lists.{all_append}
use Rattle.qw_leaves.specs.declared.leaf.Leaf.{Leaf}
use Rattle.qw_leaves.specs.declared.leaf.Leaf.TheVariants as leaf
use Rattle.qw_leaves.proofs.LeafLists.{all_weaker}
use Rattle.qw_read.specs.Constants.{IsSmall}
use Rattle.qw_physical.specs.Coded.{operator_of, pipeline_of, sink_of}
use Rattle.qw_physical.specs.Typed.{IsTypedOperator, IsTypedPhysical, IsTypedSink, IsValued}
use Rattle.qw_physical.specs.declared.pipeline.Operator.{Operator}
use Rattle.qw_physical.specs.declared.pipeline.Operator.TheVariants as operators
use Rattle.qw_physical.specs.declared.pipeline.Pipeline.{Pipeline}
use Rattle.qw_physical.specs.declared.pipeline.Sink.{Sink}
use Rattle.qw_physical.specs.declared.pipeline.Sink.TheVariants as sinks
use Rattle.qw_leaves.specs.Leaves.{leaves_in, leaves_within}
use Rattle.qw_leaves.proofs.LeafLemmas.{IsTypedLeaf, typed_conditions, typed_leaves}
use Rattle.qw_leaves.proofs.TreeLeaves.{leaves_have, leaves_within_have}
use Rattle.qw_compile.proofs.WordLemmas.{OfWord, words_all}
use Rattle.qw_compile.specs.QueryLiterals.{operator_leaves, pipeline_leaves, query_words, sink_leaves}

abbrev AreSmall : List Leaf → Type 0
AreSmall leaves = AllByRecursion (OfWord IsSmall) leaves

small_leaf : (l : Leaf) → IsTypedLeaf l → OfWord IsSmall l
small_leaf (leaf.Column i ty) h = tt
small_leaf (leaf.Number v s) h = h.0
small_leaf (leaf.Date d) h = day_number d h
small_leaf (leaf.Text t) h = tt

condition_small : (c : Cond) → AreTyped (condition_of c) → AreSmall (leaves_within c)
condition_small c h = all_weaker IsTypedLeaf (OfWord IsSmall) small_leaf (leaves_within c) (leaves_within_have IsTypedLeaf c (typed_conditions (condition_of c) h))

value_small : (e : Expr) → IsTyped (expression_of e) → AreSmall (leaves_in e)
value_small e h = all_weaker IsTypedLeaf (OfWord IsSmall) small_leaf (leaves_in e) (leaves_have IsTypedLeaf e (typed_leaves (expression_of e) h))

conditions_small : (cs : List Cond) → AllByRecursion AreTyped (map condition_of cs) → AreSmall (flat_map leaves_within cs)
conditions_small [] h = tt
conditions_small (c ∷ cs) h =
    all_append (OfWord IsSmall) (leaves_within c) (flat_map leaves_within cs) (condition_small c h.0) (conditions_small cs h.1)

values_small : (es : List Expr) → AllByRecursion IsValued (map expression_of es) → AreSmall (flat_map leaves_in es)
values_small [] h = tt
values_small (e ∷ es) h = all_append (OfWord IsSmall) (leaves_in e) (flat_map leaves_in es) (value_small e h.0.0) (values_small es h.1)

operator_small : (o : Operator) → IsTypedOperator (operator_of o) → AreSmall (operator_leaves o)
operator_small (operators.Filter conjuncts) h = conditions_small conjuncts.items h
operator_small (operators.Probe p) h = all_append (OfWord IsSmall) (flat_map leaves_in p.key.items) (flat_map leaves_within p.on.items) (values_small p.key.items h.0) (conditions_small p.on.items h.1)

operators_small : (os : List Operator) → AllByRecursion IsTypedOperator (map operator_of os) → AreSmall (flat_map operator_leaves os)
operators_small [] h = tt
operators_small (o ∷ os) h = all_append (OfWord IsSmall) (operator_leaves o) (flat_map operator_leaves os) (operator_small o h.0) (operators_small os h.1)

sink_small : (s : Sink) → IsTypedSink (sink_of s) → AreSmall (sink_leaves s)
sink_small (sinks.Build b) h = values_small b.key.items h
sink_small (sinks.Select items) h = values_small items.items h

leaves_small : (ps : List Pipeline) → AllByRecursion IsTypedPhysical (map pipeline_of ps) → AreSmall (flat_map pipeline_leaves ps)
leaves_small [] h = tt
leaves_small (p ∷ ps) h =
    all_append (OfWord IsSmall) (pipeline_leaves p) (flat_map pipeline_leaves ps)
    (all_append (OfWord IsSmall) (flat_map operator_leaves p.operators.items) (sink_leaves p.sink) (operators_small p.operators.items h.0.operators) (sink_small p.sink h.0.sink)) (leaves_small ps h.1)

pub words_small : (ps : List Pipeline) → AllByRecursion IsTypedPhysical (map pipeline_of ps) → AllByRecursion IsSmall (query_words ps)
words_small ps h = words_all IsSmall (flat_map pipeline_leaves ps) (leaves_small ps h)
