-- The texts of a query's pipelines are among those of the query: whatever texts weigh, the pipelines weigh no more.
use Rattle.std.proofs.Common.{◌≡◌, ◌∙◌, ◌≤◌, ℕ, suc, ◌+◌, nat_eq, ◌&&◌, if◌then◌else◌, Bool, true, false, Contains, IsUtf8, List, [], ◌∷◌, ◌++◌, sum_by, refl, sym, ap, ap₂, subst, append_assoc, arith}
use Rattle.std.specs.List.{AllByRecursion, flat_map}
use Rattle.std.proofs.lemmas.Bool.Decides.{nat_tests}
use Rattle.std.proofs.lemmas.List.Sums.{sum_by-append, sum_by-cons}
use Rattle.qw_scalar.specs.declared.expression.Expr.{Expr}
use Rattle.qw_scalar.specs.declared.expression.Cond.{Cond}
use Rattle.qw_scalar.specs.declared.expression.Exprs.{Exprs}
use Rattle.qw_scalar.specs.declared.expression.Branches.{Branches}
use Rattle.qw_scalar.specs.declared.expression.Matches.{Matches}
use Rattle.qw_scalar.specs.declared.expression.Expr.TheVariants.{Null, Number, Date, Text, Column, Arithmetic', Negative', Extract', Case', Match', Call'}
use Rattle.qw_scalar.specs.declared.expression.Cond.TheVariants.{Compare', Between', In', Predicate', And', Or', Not', Is'}
use Rattle.qw_scalar.specs.declared.expression.Exprs.TheVariants as Exprs
use Rattle.qw_scalar.specs.declared.expression.Branches.TheVariants as Branches
use Rattle.qw_scalar.specs.declared.expression.Matches.TheVariants as Matches
use Rattle.qw_meaning.specs.Query.{QueryParts}
use Rattle.qw_scalar.specs.Texts.{texts_in, texts_of_all, texts_of_branches, texts_of_matches, texts_within as texts_of_condition}
use Rattle.qw_algebra.specs.Sizes.{query_size, tests_on}
use Rattle.qw_algebra.proofs.Lists.{all_append}
use Rattle.qw_leaves.specs.declared.leaf.Leaf.{Leaf}
use Rattle.qw_physical.specs.Sizes.{operator_size, sink_size, size, weight_in, weight_within}
use Rattle.qw_physical.specs.declared.pipeline.Operator.{Operator}
use Rattle.qw_physical.specs.declared.pipeline.Operator.TheVariants as operators
use Rattle.qw_physical.specs.declared.pipeline.Pipeline.{Pipeline}
use Rattle.qw_physical.specs.declared.pipeline.ReadColumn.{ReadColumn}
use Rattle.qw_physical.specs.declared.pipeline.Sink.{Sink}
use Rattle.qw_physical.specs.declared.pipeline.Sink.TheVariants as sinks
use Rattle.qw_leaves.specs.Leaves.{OfText, leaves_in, leaves_of_all, leaves_of_branches, leaves_of_matches, leaves_within, texts_among}
use Rattle.qw_leaves.proofs.LeafLists.{texts_all, texts_of_both, texts_of_each}
use Rattle.qw_compile.specs.QueryPasses.{ArePipelinesOf}
use Rattle.qw_compile.specs.QueryLiterals.{operator_leaves, pipeline_leaves, query_texts, sink_leaves}
use Rattle.qw_compile.specs.WrittenTexts.{texts_of_query}

-- ---- the texts among the leaves of trees
mutual
  pub texts_there : (e : Expr) → texts_among (leaves_in e) ≡ texts_in e
  texts_there Null = refl
  texts_there (Number v s) = refl
  texts_there (Date d) = refl
  texts_there (Text t) = refl
  texts_there (Column i ty) = refl
  texts_there (Arithmetic' operator _ a _ b) = texts_of_both (leaves_in a) (leaves_in b) (texts_in a) (texts_in b) (texts_there a) (texts_there b)
  texts_there (Negative' _ a) = texts_there a
  texts_there (Extract' field _ a) = texts_there a
  texts_there (Case' _ branches) = branches_there branches
  texts_there (Match' _ x _ matches) = texts_of_both (leaves_in x) (leaves_of_matches matches) (texts_in x) (texts_of_matches matches) (texts_there x) (matches_there matches)
  texts_there (Call' function _ arguments) = all_there arguments

  pub texts_at : (c : Cond) → texts_among (leaves_within c) ≡ texts_of_condition c
  texts_at (Compare' op _ a _ b) = texts_of_both (leaves_in a) (leaves_in b) (texts_in a) (texts_in b) (texts_there a) (texts_there b)
  texts_at (Between' _ x _ a _ b) =
      texts_of_both (leaves_in x) (leaves_in a ++ leaves_in b) (texts_in x) (texts_in a ++ texts_in b) (texts_there x)
      (texts_of_both (leaves_in a) (leaves_in b) (texts_in a) (texts_in b) (texts_there a) (texts_there b))
  texts_at (In' _ x _ values) = texts_of_both (leaves_in x) (leaves_of_all values) (texts_in x) (texts_of_all values) (texts_there x) (all_there values)
  texts_at (Predicate' p _ a) = texts_there a
  texts_at (And' _ c _ d) = texts_of_both (leaves_within c) (leaves_within d) (texts_of_condition c) (texts_of_condition d) (texts_at c) (texts_at d)
  texts_at (Or' _ c _ d) = texts_of_both (leaves_within c) (leaves_within d) (texts_of_condition c) (texts_of_condition d) (texts_at c) (texts_at d)
  texts_at (Not' _ c) = texts_at c
  texts_at (Is' _ c t) = texts_at c

  all_there : (es : Exprs) → texts_among (leaves_of_all es) ≡ texts_of_all es
  all_there (Exprs.Last' _ e) = texts_there e
  all_there (Exprs.More' _ e _ es) = texts_of_both (leaves_in e) (leaves_of_all es) (texts_in e) (texts_of_all es) (texts_there e) (all_there es)

  branches_there : (b : Branches) → texts_among (leaves_of_branches b) ≡ texts_of_branches b
  branches_there (Branches.Else' _ e) = texts_there e
  branches_there (Branches.When' _ c _ e _ rest) =
      texts_of_both (leaves_within c) (leaves_in e ++ leaves_of_branches rest) (texts_of_condition c) (texts_in e ++ texts_of_branches rest) (texts_at c)
      (texts_of_both (leaves_in e) (leaves_of_branches rest) (texts_in e) (texts_of_branches rest) (texts_there e) (branches_there rest))

  matches_there : (m : Matches) → texts_among (leaves_of_matches m) ≡ texts_of_matches m
  matches_there (Matches.Last' _ v _ e _ other) =
      texts_of_both (leaves_in v) (leaves_in e ++ leaves_in other) (texts_in v) (texts_in e ++ texts_in other) (texts_there v)
      (texts_of_both (leaves_in e) (leaves_in other) (texts_in e) (texts_in other) (texts_there e) (texts_there other))
  matches_there (Matches.When' _ v _ e _ rest) =
      texts_of_both (leaves_in v) (leaves_in e ++ leaves_of_matches rest) (texts_in v) (texts_in e ++ texts_of_matches rest) (texts_there v)
      (texts_of_both (leaves_in e) (leaves_of_matches rest) (texts_in e) (texts_of_matches rest) (texts_there e) (matches_there rest))

pub conditions_there : (cs : List Cond) → texts_among (flat_map leaves_within cs) ≡ flat_map texts_of_condition cs
conditions_there cs = texts_of_each leaves_within texts_of_condition cs texts_at

pub expressions_there : (es : List Expr) → texts_among (flat_map leaves_in es) ≡ flat_map texts_in es
expressions_there es = texts_of_each leaves_in texts_in es texts_there

-- those of a query, as they are gathered
pub texts_gathered : (parts : QueryParts) (none on conjuncts items : List Leaf) → none ≡ [] → on ≡ none ++ flat_map leaves_within (tests_on parts.sources) → conjuncts ≡ on ++ flat_map leaves_within parts.conjuncts →
    items ≡ conjuncts ++ flat_map leaves_in parts.items → texts_among items ≡ texts_of_query parts
texts_gathered parts none on conjuncts items first second third last =
    let tests = flat_map leaves_within (tests_on parts.sources) in
    let both = tests ++ flat_map leaves_within parts.conjuncts in
    let all : items ≡ both ++ flat_map leaves_in parts.items =
    last ∙ ap (λ (l : List Leaf). l ++ flat_map leaves_in parts.items) (third ∙ ap (λ (l : List Leaf). l ++ flat_map leaves_within parts.conjuncts) (second ∙ ap (λ (l : List Leaf). l ++ tests) first)) in
    ap texts_among (all ∙ append_assoc tests (flat_map leaves_within parts.conjuncts) (flat_map leaves_in parts.items))
    ∙ texts_of_both tests (flat_map leaves_within parts.conjuncts ++ flat_map leaves_in parts.items) (flat_map texts_of_condition (tests_on parts.sources)) (flat_map texts_of_condition parts.conjuncts ++ flat_map texts_in parts.items)
    (conditions_there (tests_on parts.sources))
    (texts_of_both (flat_map leaves_within parts.conjuncts) (flat_map leaves_in parts.items) (flat_map texts_of_condition parts.conjuncts) (flat_map texts_in parts.items) (conditions_there parts.conjuncts) (expressions_there parts.items))

pub utf8_gathered : (none on conjuncts items first second third : List Leaf) → none ≡ [] → on ≡ none ++ first → conjuncts ≡ on ++ second → items ≡ conjuncts ++ third → AllByRecursion (OfText IsUtf8) first → AllByRecursion (OfText IsUtf8) second →
    AllByRecursion (OfText IsUtf8) third → AllByRecursion IsUtf8 (texts_among items)
utf8_gathered none on conjuncts items first second third e f g h one two three =
    let P : Leaf → Type 0 = OfText IsUtf8 in
    let all_on : AllByRecursion P on = subst (AllByRecursion P) (sym (f ∙ ap (λ (l : List Leaf). l ++ first) e)) one in
    let all_conjuncts : AllByRecursion P conjuncts = subst (AllByRecursion P) (sym g) (all_append P on second all_on two) in
    texts_all IsUtf8 items (subst (AllByRecursion P) (sym h) (all_append P conjuncts third all_conjuncts three))

-- ---- what texts weigh
module _ (w : List ℕ → ℕ) where
  each_weighs : {X : Type 0} (f : X → List (List ℕ)) (xs : List X) → sum_by (λ x. sum_by w (f x)) xs ≡ sum_by w (flat_map f xs)
  each_weighs f [] = refl
  each_weighs f (x ∷ xs) = let rest = each_weighs f xs in omega (arith, sum_by-cons (λ y. sum_by w (f y)) x xs, sum_by-append w (f x) (flat_map f xs), rest)

  conditions_weigh : (cs : List Cond) → sum_by (weight_within w) cs ≡ sum_by w (texts_among (flat_map leaves_within cs))
  conditions_weigh cs = each_weighs texts_of_condition cs ∙ ap (sum_by w) (sym (conditions_there cs))

  expressions_weigh : (es : List Expr) → sum_by (weight_in w) es ≡ sum_by w (texts_among (flat_map leaves_in es))
  expressions_weigh es = each_weighs texts_in es ∙ ap (sum_by w) (sym (expressions_there es))

  both_weigh : (xs ys : List (List ℕ)) (whole : List (List ℕ)) (a b : ℕ) → whole ≡ xs ++ ys → a ≡ sum_by w xs → b ≡ sum_by w ys → a + b ≡ sum_by w whole
  both_weigh xs ys whole a b is one two = let all = ap (sum_by w) is ∙ sum_by-append w xs ys in omega (arith, all, one, two)

  operator_weighs : (o : Operator) → operator_size (weight_in w) (weight_within w) o ≡ sum_by w (texts_among (operator_leaves o))
  operator_weighs (operators.Filter conjuncts) = conditions_weigh conjuncts.items
  operator_weighs (operators.Probe p) =
      both_weigh (texts_among (flat_map leaves_in p.key.items)) (texts_among (flat_map leaves_within p.on.items)) (texts_among (operator_leaves (operators.Probe p))) (sum_by (weight_in w) p.key.items) (sum_by (weight_within w) p.on.items)
      (texts_of_both (flat_map leaves_in p.key.items) (flat_map leaves_within p.on.items) (texts_among (flat_map leaves_in p.key.items)) (texts_among (flat_map leaves_within p.on.items)) refl refl)
      (expressions_weigh p.key.items) (conditions_weigh p.on.items)

  operators_weigh : (os : List Operator) → sum_by (operator_size (weight_in w) (weight_within w)) os ≡ sum_by w (texts_among (flat_map operator_leaves os))
  operators_weigh [] = refl
  operators_weigh (o ∷ os) =
      sum_by-cons (operator_size (weight_in w) (weight_within w)) o os
      ∙ both_weigh (texts_among (operator_leaves o)) (texts_among (flat_map operator_leaves os)) (texts_among (flat_map operator_leaves (o ∷ os))) (operator_size (weight_in w) (weight_within w) o) (sum_by (operator_size (weight_in w) (weight_within w)) os)
      (texts_of_both (operator_leaves o) (flat_map operator_leaves os) (texts_among (operator_leaves o)) (texts_among (flat_map operator_leaves os)) refl refl) (operator_weighs o) (operators_weigh os)

  sink_weighs : (s : Sink) → sink_size (weight_in w) s ≡ sum_by w (texts_among (sink_leaves s))
  sink_weighs (sinks.Build b) = expressions_weigh b.key.items
  sink_weighs (sinks.Select items) = expressions_weigh items.items

  pipeline_weighs : (p : Pipeline) → size (weight_in w) (weight_within w) p ≡ sum_by w (texts_among (pipeline_leaves p))
  pipeline_weighs p =
      both_weigh (texts_among (flat_map operator_leaves p.operators.items)) (texts_among (sink_leaves p.sink)) (texts_among (pipeline_leaves p)) (sum_by (operator_size (weight_in w) (weight_within w)) p.operators.items) (sink_size (weight_in w) p.sink)
      (texts_of_both (flat_map operator_leaves p.operators.items) (sink_leaves p.sink) (texts_among (flat_map operator_leaves p.operators.items)) (texts_among (sink_leaves p.sink)) refl refl)
      (operators_weigh p.operators.items) (sink_weighs p.sink)

  -- pipelines, and the query
  pub pipelines_weigh : (ps : List Pipeline) → sum_by (size (weight_in w) (weight_within w)) ps ≡ sum_by w (query_texts ps)
  pipelines_weigh [] = refl
  pipelines_weigh (p ∷ ps) =
      sum_by-cons (size (weight_in w) (weight_within w)) p ps
      ∙ both_weigh (texts_among (pipeline_leaves p)) (query_texts ps) (query_texts (p ∷ ps)) (size (weight_in w) (weight_within w) p) (sum_by (size (weight_in w) (weight_within w)) ps)
      (texts_of_both (pipeline_leaves p) (flat_map pipeline_leaves ps) (texts_among (pipeline_leaves p)) (query_texts ps) refl refl) (pipeline_weighs p) (pipelines_weigh ps)

  pub query_weighs : (parts : QueryParts) → query_size (weight_in w) (weight_within w) parts ≡ sum_by w (texts_of_query parts)
  query_weighs parts =
      let on = tests_on parts.sources in
      let conjuncts = flat_map texts_of_condition parts.conjuncts in
      let items = flat_map texts_in parts.items in
      both_weigh (flat_map texts_of_condition on) (conjuncts ++ items) (texts_of_query parts) (sum_by (weight_within w) on) (sum_by (weight_within w) parts.conjuncts + sum_by (weight_in w) parts.items) refl (each_weighs texts_of_condition on)
      (both_weigh conjuncts items (conjuncts ++ items) (sum_by (weight_within w) parts.conjuncts) (sum_by (weight_in w) parts.items) refl (each_weighs texts_of_condition parts.conjuncts) (each_weighs texts_in parts.items))

-- ---- which texts there are
abbrev same_text : List ℕ → List ℕ → Bool
same_text [] [] = true
same_text [] (y ∷ ys) = false
same_text (x ∷ xs) [] = false
same_text (x ∷ xs) (y ∷ ys) = nat_eq x y && same_text xs ys

-- 1 at a text, and 0 at all others
abbrev at_text : List ℕ → List ℕ → ℕ
at_text t x = if same_text x t then 1 else 0

itself : (x : ℕ) → nat_eq x x ≡ true
itself x = grind (arith, nat_tests)

equal_is : (x y : ℕ) → nat_eq x y ≡ true → x ≡ y
equal_is x y h = grind (arith, nat_tests)

same_itself : (t : List ℕ) → same_text t t ≡ true
same_itself [] = refl
same_itself (x ∷ t) = ap (λ (b : Bool). b && same_text t t) (itself x) ∙ same_itself t

same_is : (x y : List ℕ) → same_text x y ≡ true → x ≡ y
same_is [] [] h = refl
same_is [] (y ∷ ys) h = absurd cc
same_is (x ∷ xs) [] h = absurd cc
same_is (x ∷ xs) (y ∷ ys) h = one (nat_eq x y) refl h (λ g. same_is xs ys g)
  where
    one : (b : Bool) → nat_eq x y ≡ b → (b && same_text xs ys) ≡ true → (same_text xs ys ≡ true → xs ≡ ys) → x ∷ xs ≡ y ∷ ys
    one true e g later = ap₂ (λ (n : ℕ) (l : List ℕ). n ∷ l) (equal_is x y e) (later g)
    one false e g later = absurd cc

weighs_itself : (front : List (List ℕ)) (t : List ℕ) (back : List (List ℕ)) → 1 ≤ sum_by (at_text t) (front ++ t ∷ back)
weighs_itself front t back =
    let here : at_text t t ≡ 1 = ap (λ (b : Bool). if b then 1 else 0) (same_itself t) in
    omega (arith, sum_by-append (at_text t) front (t ∷ back), sum_by-cons (at_text t) t back, here)

all_weigh : (front ts : List (List ℕ)) → AllByRecursion (λ (t : List ℕ). 1 ≤ sum_by (at_text t) (front ++ ts)) ts
all_weigh front [] = tt
all_weigh front (t ∷ ts) = (
  weighs_itself front t ts,
  subst (λ (l : List (List ℕ)). AllByRecursion (λ (u : List ℕ). 1 ≤ sum_by (at_text u) l) ts) (append_assoc front (t ∷ []) ts) (all_weigh (front ++ t ∷ []) ts),
)

found : (ts : List (List ℕ)) (t : List ℕ) → 1 ≤ sum_by (at_text t) ts → Contains ts t
found [] t h = absurd (omega (arith, h))
found (x ∷ ts) t h = one (same_text x t) refl (let all = sum_by-cons (at_text t) x ts in omega (arith, all, h)) (λ later. found ts t later)
  where
    one : (b : Bool) → same_text x t ≡ b → 1 ≤ (if b then 1 else 0) + sum_by (at_text t) ts → (1 ≤ sum_by (at_text t) ts → Contains ts t) → Contains (x ∷ ts) t
    one true e g later = (0, omega arith, same_is x t e)
    one false e g later = let rest = later (omega (arith, g)) in (suc rest.0, omega (arith, rest.1), rest.2)

pub texts_within : (parts : QueryParts) (kept : List ReadColumn) (made : List Pipeline) → ArePipelinesOf parts kept made → AllByRecursion (Contains (texts_of_query parts)) (query_texts made)
texts_within parts kept made of = each (query_texts made) (all_weigh [] (query_texts made))
  where
    each : (ts : List (List ℕ)) → AllByRecursion (λ (t : List ℕ). 1 ≤ sum_by (at_text t) (query_texts made)) ts → AllByRecursion (Contains (texts_of_query parts)) ts
    each [] h = tt
    each (t ∷ ts) h =
        let more = of.light (at_text t) in
        let mine = pipelines_weigh (at_text t) made in
        let all = query_weighs (at_text t) parts in
        (found (texts_of_query parts) t (omega (arith, h.0, more, mine, all)), each ts h.1)
