-- What is typed small is never too long to be compiled: its text literals, each as heavy as its octets, weigh the octets of all of them.
use Rattle.std.proofs.Common.{◌≡◌, Bool, true, false, ℕ, ◌≤◌, List, [], ◌∷◌, ◌++◌, length, sum_by, refl, arith}
use Rattle.std.specs.List.{flat_map}
use Rattle.std.proofs.lemmas.List.Sums.{sum_by-append, sum_by-cons, sum_by-le-sum_by}
use Rattle.qw_scalar.specs.declared.expression.Expr.{Expr}
use Rattle.qw_scalar.specs.declared.expression.Cond.{Cond}
use Rattle.qw_scalar.specs.declared.expression.Exprs.{Exprs}
use Rattle.qw_scalar.specs.declared.expression.Branches.{Branches}
use Rattle.qw_scalar.specs.declared.expression.Matches.{Matches}
use Rattle.qw_scalar.specs.declared.expression.Expr.TheVariants.{Null, Number, Date, Text, Column, Arithmetic', Negative', Extract', Case', Match', Call'}
use Rattle.qw_scalar.specs.declared.expression.Cond.TheVariants.{Compare', Between', In', Predicate', And', Or', Not', Is'}
use Rattle.qw_scalar.specs.declared.expression.Exprs.TheVariants as Exprs
use Rattle.qw_scalar.specs.declared.expression.Branches.TheVariants as Branches
use Rattle.qw_scalar.specs.declared.expression.Matches.TheVariants as Matches
use Rattle.qw_scalar.specs.Texts.{texts_in, texts_of_all, texts_of_branches, texts_of_matches, texts_within}
use Rattle.qw_meaning.specs.Query.{QueryParts}
use Rattle.qw_grouped.specs.Query.{GroupedParts}
use Rattle.qw_grouped.specs.declared.set_function.SetFunction.{SetFunction}
use Rattle.qw_grouped.specs.declared.whole.WholeQuery.{WholeQuery}
use Rattle.qw_grouped.specs.declared.whole.Body.{Body}
use Rattle.qw_grouped.specs.declared.whole.Body.TheVariants.{Plain, Grouped}
use Rattle.qw_algebra.specs.Sizes.{tests_on}
use Rattle.qw_physical.specs.Sizes.{weight_in, weight_within}
use Rattle.qw_typer.specs.Sizes.{HasRoom, IsSmall, IsSmallBody, IsSmallGrouped, IsSmallWhole, text_octets, text_octets_of, text_octets_of_all, text_octets_of_branches, text_octets_of_matches}
use Rattle.qw_compile.specs.Limits.{IsShort}
use Rattle.qw_compile.proofs.TextsFew.{octets_are}
use Rattle.qw_compile_whole.specs.ShortQueries.{IsShortAsked, IsShortWhole}
use Rattle.qw_compile_whole.specs.WholeLimits.{IsShortGrouped}
use Rattle.qw_compile_whole.specs.WholeTexts.{argument_texts, front_texts, texts_of_grouped}

-- ---- the octets of a tree's texts
mutual
  octets_in : (e : Expr) → sum_by length (texts_in e) ≡ text_octets e
  octets_in Null = refl
  octets_in (Number v s) = refl
  octets_in (Date d) = refl
  octets_in (Text t) = omega arith
  octets_in (Column i ty) = refl
  octets_in (Arithmetic' operator _ a _ b) = omega (arith, sum_by-append length (texts_in a) (texts_in b), octets_in a, octets_in b)
  octets_in (Negative' _ a) = octets_in a
  octets_in (Extract' field _ a) = octets_in a
  octets_in (Case' _ branches) = octets_of_branches branches
  octets_in (Match' _ x _ matches) = omega (arith, sum_by-append length (texts_in x) (texts_of_matches matches), octets_in x, octets_of_matches matches)
  octets_in (Call' function _ arguments) = octets_of_all arguments

  octets_within : (c : Cond) → sum_by length (texts_within c) ≡ text_octets_of c
  octets_within (Compare' op _ a _ b) = omega (arith, sum_by-append length (texts_in a) (texts_in b), octets_in a, octets_in b)
  octets_within (Between' _ x _ a _ b) =
      omega (arith, sum_by-append length (texts_in x) (texts_in a ++ texts_in b), sum_by-append length (texts_in a) (texts_in b), octets_in x, octets_in a, octets_in b)
  octets_within (In' _ x _ values) = omega (arith, sum_by-append length (texts_in x) (texts_of_all values), octets_in x, octets_of_all values)
  octets_within (Predicate' p _ a) = octets_in a
  octets_within (And' _ c _ d) = omega (arith, sum_by-append length (texts_within c) (texts_within d), octets_within c, octets_within d)
  octets_within (Or' _ c _ d) = omega (arith, sum_by-append length (texts_within c) (texts_within d), octets_within c, octets_within d)
  octets_within (Not' _ c) = octets_within c
  octets_within (Is' _ c t) = octets_within c

  octets_of_all : (es : Exprs) → sum_by length (texts_of_all es) ≡ text_octets_of_all es
  octets_of_all (Exprs.Last' _ e) = octets_in e
  octets_of_all (Exprs.More' _ e _ es) = omega (arith, sum_by-append length (texts_in e) (texts_of_all es), octets_in e, octets_of_all es)

  octets_of_branches : (b : Branches) → sum_by length (texts_of_branches b) ≡ text_octets_of_branches b
  octets_of_branches (Branches.Else' _ e) = octets_in e
  octets_of_branches (Branches.When' _ c _ e _ rest) =
      omega (arith, sum_by-append length (texts_within c) (texts_in e ++ texts_of_branches rest), sum_by-append length (texts_in e) (texts_of_branches rest), octets_within c, octets_in e, octets_of_branches rest)

  octets_of_matches : (m : Matches) → sum_by length (texts_of_matches m) ≡ text_octets_of_matches m
  octets_of_matches (Matches.Last' _ v _ e _ other) =
      omega (arith, sum_by-append length (texts_in v) (texts_in e ++ texts_in other), sum_by-append length (texts_in e) (texts_in other), octets_in v, octets_in e, octets_in other)
  octets_of_matches (Matches.When' _ v _ e _ rest) =
      omega (arith, sum_by-append length (texts_in v) (texts_in e ++ texts_of_matches rest), sum_by-append length (texts_in e) (texts_of_matches rest), octets_in v, octets_in e, octets_of_matches rest)

light : (e : Expr) → weight_in length e ≤ text_octets e
light e = omega (arith, octets_in e)

light_within : (c : Cond) → weight_within length c ≤ text_octets_of c
light_within c = omega (arith, octets_within c)

-- ---- a query's

short_plain : (parts : QueryParts) → IsSmall parts → IsShort parts
short_plain parts small =
    let tests = sum_by-le-sum_by (weight_within length) text_octets_of (tests_on parts.sources) light_within in
    let conjuncts = sum_by-le-sum_by (weight_within length) text_octets_of parts.conjuncts light_within in
    let items = sum_by-le-sum_by (weight_in length) text_octets parts.items light in
    let few_octets = small.few_octets in
    record { few_nodes = small.few_nodes; few_octets = omega (arith, tests, conjuncts, items, few_octets) }

-- the octets of texts, of each of a list
each_octets : {A : Type 0} (texts : A → List (List ℕ)) (octets : A → ℕ) (l : List A) → ((a : A) → sum_by (λ (t : List ℕ). length t) (texts a) ≡ octets a) → sum_by (λ (t : List ℕ). length t) (flat_map texts l) ≡ sum_by octets l
each_octets texts octets [] h = omega arith
each_octets texts octets (a ∷ l) h =
    let rest = each_octets texts octets l h in
    let first = h a in
    let both = sum_by-append (λ (t : List ℕ). length t) (texts a) (flat_map texts l) in
    let more = sum_by-cons octets a l in
    omega (arith, first, rest, both, more)

short_grouped : (parts : GroupedParts) → IsSmallGrouped parts → IsShortGrouped parts
short_grouped parts small =
    let tests = each_octets texts_within text_octets_of (tests_on parts.sources) octets_within in
    let conjuncts = each_octets texts_within text_octets_of parts.conjuncts octets_within in
    let arguments = each_octets (λ (f : SetFunction). texts_in f.argument) (λ (f : SetFunction). text_octets f.argument) parts.functions (λ (f : SetFunction). octets_in f.argument) in
    let having = each_octets texts_within text_octets_of parts.having octets_within in
    let items = each_octets texts_in text_octets parts.items octets_in in
    let all = octets_are (texts_of_grouped parts) in
    let apart = sum_by-append (λ (t : List ℕ). length t) (front_texts parts) (flat_map texts_within parts.having ++ flat_map texts_in parts.items) in
    let front = sum_by-append (λ (t : List ℕ). length t) (flat_map texts_within (tests_on parts.sources)) (flat_map texts_within parts.conjuncts ++ argument_texts parts.functions) in
    let tested = sum_by-append (λ (t : List ℕ). length t) (flat_map texts_within parts.conjuncts) (argument_texts parts.functions) in
    let behind = sum_by-append (λ (t : List ℕ). length t) (flat_map texts_within parts.having) (flat_map texts_in parts.items) in
    let few_octets = small.few_octets in
    record { few_nodes = small.few_nodes; few_octets = omega (arith, all, apart, front, tested, behind, tests, conjuncts, arguments, having, items, few_octets) }

short_asked : (distinct : Bool) (body : Body) → IsSmallBody body → (distinct ≡ true → HasRoom body) → IsShortAsked body distinct
short_asked false (Plain parts) small room = short_plain parts small
short_asked true (Plain parts) small room = record { short = short_plain parts small; few_keys = room refl }
short_asked false (Grouped parts) small room = short_grouped parts small
short_asked true (Grouped parts) small room = let short = short_grouped parts small in record { few_nodes = room refl; few_octets = short.few_octets }

pub is_short : (query : WholeQuery) → IsSmallWhole query → IsShortWhole query
is_short query small = short_asked query.distinct query.body small.body small.room
