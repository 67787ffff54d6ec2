-- Equalities of the code compare operands of one scale where they are of one kind: results of a CASE are brought to one scale.
use Rattle.std.proofs.Common.{◌≡◌, ◌∙◌, ℕ, ◌+◌, max, true, List, [], ◌∷◌, map, length, Option, Some, None, refl, sym, subst, arith}
use Rattle.std.specs.List.{AllByRecursion, flat_map}
use Rattle.std.specs.Prelude.{IsTrue}
use Rattle.std.proofs.lemmas.Bool.Decides.{nat_tests}
use Rattle.qw_types.specs.Kind.{type_kind}
use Rattle.qw_types.specs.Value.{type_scale}
use Rattle.qw_types.specs.declared.kind.Kind.{Kind}
use Rattle.qw_types.specs.declared.kind.Kind.TheVariants as kind
use Rattle.qw_types.specs.declared.value.Ty.{Ty}
use Rattle.qw_types.specs.declared.value.Ty.TheVariants as type
use Rattle.qw_scalar.specs.declared.expression.Expr.{Expr}
use Rattle.qw_scalar.specs.declared.expression.Cond.{Cond}
use Rattle.qw_scalar.specs.declared.expression.Exprs.{Exprs}
use Rattle.qw_scalar.specs.declared.expression.Function.TheVariants.{Coalesce, NullIf}
use Rattle.qw_scalar.specs.declared.expression.Branches.{Branches}
use Rattle.qw_scalar.specs.declared.expression.Matches.{Matches}
use Rattle.qw_scalar.specs.declared.expression.Expr.TheVariants.{Null, Number, Date, Text, Column, Arithmetic', Negative', Extract', Case', Match', Call'}
use Rattle.qw_scalar.specs.declared.expression.Exprs.TheVariants as Exprs
use Rattle.qw_scalar.specs.declared.expression.Branches.TheVariants as Branches
use Rattle.qw_scalar.specs.declared.expression.Matches.TheVariants as Matches
use Rattle.qw_scalar.specs.Expression.{Choices, Expression, otherwise, when, case, cases, coalesced, largest_result, scale_of, unless_among}
use Rattle.qw_scalar.specs.Tree.{choices_of, condition_of, expression_of, expressions_of, matches_of}
use Rattle.qw_scalar.specs.Typing.{AreResultsTyped, AreTyped, IsTyped, agree, at_scale, joined, kind_of}
use Rattle.qw_scalar.proofs.CaseLemmas.{cases_scale, results_typed}
use Rattle.qw_leaves.specs.Compared.{ComparedTrees, OfCompared, compared_by, trees_compared}
use Rattle.qw_leaves.proofs.ComparedLemmas.{operands_typed, trees_are}
use Rattle.qw_meaning.specs.Query.{QueryParts, joined_of, query_of, source_of}
use Rattle.qw_meaning.specs.Select.{AreJoinsOver, AreSourcesOver, Entry, IsColumnOf, IsConditionOver, IsReached, IsSpecification, Joined, conjuncts_on, entries_in, entries_of}
use Rattle.qw_meaning.specs.declared.query.Joined as coded_join
use Rattle.qw_meaning.specs.declared.query.Source as coded_source
use Rattle.qw_algebra.proofs.Lists.{all_append}
use Rattle.qw_rewrite.specs.Probe.{are_alike}
use Rattle.qw_physical.specs.Reads.{AreScaled, IsScaled}

-- ---- kinds and scales

-- a number's scale is that of its kind, and what is no number has none
abbrev Fits : Option Kind → ℕ → Type 0
Fits None s = s ≡ 0
Fits (Some (kind.Number t)) s = s ≡ t
Fits (Some kind.Date) s = s ≡ 0
Fits (Some kind.Text) s = s ≡ 0

abbrev IsFit : Expression → Type 0
IsFit e = Fits (kind_of e) (scale_of e)

alike_scales : (j k : Option Kind) (s t : ℕ) → Fits j s → Fits k t → are_alike j k ≡ true → s ≡ t
alike_scales None k s t h g e = absurd cc
alike_scales (Some (kind.Number a)) None s t h g e = absurd cc
alike_scales (Some (kind.Number a)) (Some (kind.Number b)) s t h g e = let same : a ≡ b = grind (arith, nat_tests) in h ∙ same ∙ sym g
alike_scales (Some (kind.Number a)) (Some kind.Date) s t h g e = absurd cc
alike_scales (Some (kind.Number a)) (Some kind.Text) s t h g e = absurd cc
alike_scales (Some kind.Date) None s t h g e = absurd cc
alike_scales (Some kind.Date) (Some (kind.Number b)) s t h g e = absurd cc
alike_scales (Some kind.Date) (Some kind.Date) s t h g e = h ∙ sym g
alike_scales (Some kind.Date) (Some kind.Text) s t h g e = absurd cc
alike_scales (Some kind.Text) None s t h g e = absurd cc
alike_scales (Some kind.Text) (Some (kind.Number b)) s t h g e = absurd cc
alike_scales (Some kind.Text) (Some kind.Date) s t h g e = absurd cc
alike_scales (Some kind.Text) (Some kind.Text) s t h g e = h ∙ sym g

-- ---- results of a CASE, brought to a scale; the largest of theirs is another number

abbrev Brought : Option Kind → (scale largest : ℕ) → Type 0
Brought None s l = l ≡ 0
Brought (Some (kind.Number t)) s l = t ≡ s
Brought (Some kind.Date) s l = l ≡ 0
Brought (Some kind.Text) s l = l ≡ 0

one_brought : (k : Option Kind) (s l : ℕ) → Fits k l → Brought (at_scale k s) s l
one_brought None s l h = h
one_brought (Some (kind.Number t)) s l h = refl
one_brought (Some kind.Date) s l h = h
one_brought (Some kind.Text) s l h = h

both_none : (l m : ℕ) → l ≡ 0 → m ≡ 0 → max l m ≡ 0
both_none l m h g = omega (arith, h, g)

two_brought : (j k : Option Kind) (s l m : ℕ) → Brought j s l → Brought k s m → IsTrue (agree j k) → Brought (joined j k) s (max l m)
two_brought None None s l m h g a = both_none l m h g
two_brought None (Some (kind.Number b)) s l m h g a = g
two_brought None (Some kind.Date) s l m h g a = both_none l m h g
two_brought None (Some kind.Text) s l m h g a = both_none l m h g
two_brought (Some (kind.Number t)) None s l m h g a = h
two_brought (Some (kind.Number t)) (Some (kind.Number b)) s l m h g a = omega (arith, h, g)
two_brought (Some (kind.Number t)) (Some kind.Date) s l m h g a = absurd cc
two_brought (Some (kind.Number t)) (Some kind.Text) s l m h g a = absurd cc
two_brought (Some kind.Date) None s l m h g a = both_none l m h g
two_brought (Some kind.Date) (Some (kind.Number b)) s l m h g a = absurd cc
two_brought (Some kind.Date) (Some kind.Date) s l m h g a = both_none l m h g
two_brought (Some kind.Date) (Some kind.Text) s l m h g a = absurd cc
two_brought (Some kind.Text) None s l m h g a = both_none l m h g
two_brought (Some kind.Text) (Some (kind.Number b)) s l m h g a = absurd cc
two_brought (Some kind.Text) (Some kind.Date) s l m h g a = absurd cc
two_brought (Some kind.Text) (Some kind.Text) s l m h g a = both_none l m h g

abbrev AreFit : Choices → Type 0
AreFit (otherwise e) = IsFit e
AreFit (when c e rest) = IsFit e × AreFit rest

cases_brought : (choices : Choices) (s : ℕ) → AreFit choices → IsTyped (cases s choices) → Brought (kind_of (cases s choices)) s (largest_result choices)
cases_brought (otherwise e) s h t = one_brought (kind_of e) s (scale_of e) h
cases_brought (when c e rest) s h t =
    two_brought (at_scale (kind_of e) s) (kind_of (cases s rest)) s (scale_of e) (largest_result rest) (one_brought (kind_of e) s (scale_of e) h.0) (cases_brought rest s h.1 t.1.0.1) t.1.1

at_largest : (k : Option Kind) (l : ℕ) → Brought k l l → Fits k l
at_largest None l h = h
at_largest (Some (kind.Number t)) l h = sym h
at_largest (Some kind.Date) l h = h
at_largest (Some kind.Text) l h = h

case_fit : (choices : Choices) → AreFit choices → IsTyped (case choices) → IsFit (case choices)
case_fit choices h t =
    let l : ℕ = largest_result choices in
    subst (Fits (kind_of (cases l choices))) (sym (cases_scale l choices)) (at_largest (kind_of (cases l choices)) l (cases_brought choices l h t))

-- ---- trees

column_fit : (ty : Ty) → Fits (Some (type_kind ty)) (type_scale ty)
column_fit type.Integer = refl
column_fit (type.Decimal p s) = refl
column_fit type.Date = refl
column_fit (type.Varchar n) = refl

max_none : (n : ℕ) → n ≡ max 0 n
max_none n = omega arith

mutual
  expression_fit : (e : Expr) → IsTyped (expression_of e) → IsFit (expression_of e)
  expression_fit Null t = refl
  expression_fit (Number v s) t = refl
  expression_fit (Date d) t = refl
  expression_fit (Text x) t = refl
  expression_fit (Column i ty) t = column_fit ty
  expression_fit (Arithmetic' operator _ a _ b) t = refl
  expression_fit (Negative' _ a) t = refl
  expression_fit (Extract' field _ a) t = refl
  expression_fit (Case' _ branches) t =
      case_fit (choices_of branches) (branches_fit branches (results_typed (largest_result (choices_of branches)) (choices_of branches) t)) t
  expression_fit (Match' _ x _ matches) t =
      case_fit (matches_of matches (expression_of x)) (matches_fit matches (expression_of x) (results_typed (largest_result (matches_of matches (expression_of x))) (matches_of matches (expression_of x)) t)) t
  expression_fit (Call' Coalesce _ arguments) t =
      case_fit (coalesced (expressions_of arguments)) (arguments_fit arguments (results_typed (largest_result (coalesced (expressions_of arguments))) (coalesced (expressions_of arguments)) t)) t
  expression_fit (Call' NullIf _ arguments) t = first_fits arguments t

  first_fits : (arguments : Exprs) → IsTyped (unless_among (expressions_of arguments)) → IsFit (unless_among (expressions_of arguments))
  first_fits (Exprs.Last' _ e) t = case_fit (otherwise (expression_of e)) (expression_fit e t.0) t
  first_fits (Exprs.More' _ e _ es) t = subst (Fits (kind_of (expression_of e))) (max_none (scale_of (expression_of e))) (expression_fit e t.1.0.1)

  branches_fit : (branches : Branches) → AreResultsTyped (choices_of branches) → AreFit (choices_of branches)
  branches_fit (Branches.Else' _ e) t = expression_fit e t
  branches_fit (Branches.When' _ c _ e _ rest) t = (expression_fit e t.0, branches_fit rest t.1)

  matches_fit : (matches : Matches) (x : Expression) → AreResultsTyped (matches_of matches x) → AreFit (matches_of matches x)
  matches_fit (Matches.Last' _ v _ e _ other) x t = (expression_fit e t.0, expression_fit other t.1)
  matches_fit (Matches.When' _ v _ e _ rest) x t = (expression_fit e t.0, matches_fit rest x t.1)

  arguments_fit : (arguments : Exprs) → AreResultsTyped (coalesced (expressions_of arguments)) → AreFit (coalesced (expressions_of arguments))
  arguments_fit (Exprs.Last' _ e) t = expression_fit e t
  arguments_fit (Exprs.More' _ e _ es) t = (expression_fit e t.0, arguments_fit es t.1)

pair_scaled : (a b : Expr) → IsTyped (expression_of a) → IsTyped (expression_of b) → are_alike (kind_of (expression_of a)) (kind_of (expression_of b)) ≡ true → scale_of (expression_of a) ≡ scale_of (expression_of b)
pair_scaled a b ta tb h =
    alike_scales (kind_of (expression_of a)) (kind_of (expression_of b)) (scale_of (expression_of a)) (scale_of (expression_of b)) (expression_fit a ta) (expression_fit b tb) h

-- of every typed condition of the code
trees_scaled : (o : Option ComparedTrees) → OfCompared (λ op a b. IsTyped a × IsTyped b) (compared_by o)
    → OfCompared (λ op a b. are_alike (kind_of a) (kind_of b) ≡ true → scale_of a ≡ scale_of b) (compared_by o)
trees_scaled None t = tt
trees_scaled (Some k) t = λ h. pair_scaled k.left k.right t.0 t.1 h

pub tree_scaled : (c : Cond) → AreTyped (condition_of c) → IsScaled (condition_of c)
tree_scaled c t =
    subst (OfCompared (λ op a b. are_alike (kind_of a) (kind_of b) ≡ true → scale_of a ≡ scale_of b)) (sym (trees_are c))
    (trees_scaled (trees_compared c) (subst (OfCompared (λ op a b. IsTyped a × IsTyped b)) (trees_are c) (operands_typed (condition_of c) t)))

-- ---- queries

conjuncts_scaled : (Holds : ℕ → Ty → Type 0) (cs : List Cond) → AllByRecursion (IsConditionOver Holds) (map condition_of cs) → AllByRecursion IsScaled (map condition_of cs)
conjuncts_scaled Holds [] h = tt
conjuncts_scaled Holds (c ∷ cs) h = (tree_scaled c h.0.0, conjuncts_scaled Holds cs h.1)

joins_scaled : (entries : List Entry) (first next : ℕ) (js : List coded_join.Joined) → AreJoinsOver entries first next (map joined_of js)
    → AllByRecursion IsScaled (flat_map (λ (j : Joined). j.on) (map joined_of js))
joins_scaled entries first next [] h = tt
joins_scaled entries first next (j ∷ js) h =
    all_append IsScaled (map condition_of j.on.items) (flat_map (λ (i : Joined). i.on) (map joined_of js)) (conjuncts_scaled (IsReached entries first (next + 1)) j.on.items h.0)
    (joins_scaled entries first (next + 1) js h.1)

sources_scaled : (entries : List Entry) (first : ℕ) (sources : List coded_source.Source) → AreSourcesOver entries first (map source_of sources) → AllByRecursion IsScaled (conjuncts_on (map source_of sources))
sources_scaled entries first [] h = tt
sources_scaled entries first (source ∷ sources) h =
    all_append IsScaled (flat_map (λ (j : Joined). j.on) (map joined_of source.joins.items)) (conjuncts_on (map source_of sources)) (joins_scaled entries first (first + 1) source.joins.items h.0)
    (sources_scaled entries (first + length (entries_in (source_of source))) sources h.1)

-- of every query of the code
pub query_scaled : (parts : QueryParts) → IsSpecification (query_of parts) → AreScaled (query_of parts)
query_scaled parts whole =
    let entries : List Entry = entries_of (map source_of parts.sources) in
    all_append IsScaled (conjuncts_on (map source_of parts.sources)) (map condition_of parts.conjuncts) (sources_scaled entries 0 parts.sources whole.sources)
    (conjuncts_scaled (IsColumnOf entries) parts.conjuncts whole.conjuncts)
