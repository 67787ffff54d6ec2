-- Each column that trees of a query name is named by what they stand for, so the columns that are named are read.
use Rattle.std.proofs.Common.{◌≡◌, ℕ, ◌==◌, nat_eq, Bool, true, false, not, ◌||◌, if◌then◌else◌, List, [], ◌∷◌, ◌++◌, map, ap, arith}
use Rattle.std.specs.List.{AllByRecursion, flat_map, list_any}
use Rattle.std.proofs.lemmas.Bool.Decides.{nat_tests}
use Rattle.qw_scalar.specs.declared.expression.Expr.{Expr}
use Rattle.qw_scalar.specs.declared.expression.Cond.{Cond}
use Rattle.qw_scalar.specs.Expression.{Condition}
use Rattle.qw_scalar.specs.Tree.{condition_of, expression_of}
use Rattle.qw_leaves.proofs.LeafLists.{all_back, all_front}
use Rattle.qw_meaning.specs.Query.{QueryParts, joined_of, query_of, source_of}
use Rattle.qw_meaning.specs.Select.{Joined, conjuncts_on}
use Rattle.qw_meaning.specs.declared.query.Joined as coded_join
use Rattle.qw_meaning.specs.declared.query.Source as coded_source
use Rattle.qw_algebra.specs.Columns.{condition_names_only, names_only}
use Rattle.qw_algebra.proofs.Lists.{all_append}
use Rattle.qw_rewrite.proofs.Names.{names_has, names_have}
use Rattle.qw_physical.specs.Named.{and_column, and_columns, columns_in, columns_of_join, columns_of_query, columns_of_source, columns_within, named_by}
use Rattle.qw_physical.specs.Reads.{conjuncts_in}
use Rattle.qw_physical.proofs.Naming.{columns_within_have, named_have}
use Rattle.qw_physical.proofs.EntryRows.{or_true}

module _ (test : ℕ → Bool) where
  abbrev Pass : List ℕ → Type 0
  Pass is = AllByRecursion (λ i. test i ≡ true) is

  both : (is js : List ℕ) → Pass is → Pass js → Pass (is ++ js)
  both is js h g = all_append (λ i. test i ≡ true) is js h g

  expression_passes : (e : Expr) → names_only test (expression_of e) ≡ true → Pass (columns_in e)
  expression_passes e h = named_have (λ i. test i ≡ true) e (names_has test (expression_of e) h)

  condition_passes : (c : Cond) → condition_names_only test (condition_of c) ≡ true → Pass (columns_within c)
  condition_passes c h = columns_within_have (λ i. test i ≡ true) c (names_have test (condition_of c) h)

  -- ---- queries

  abbrev AllPass : List Condition → Type 0
  AllPass cs = AllByRecursion (λ c. condition_names_only test c ≡ true) cs

  conjuncts_pass : (cs : List Cond) → AllPass (map condition_of cs) → Pass (flat_map columns_within cs)
  conjuncts_pass [] h = tt
  conjuncts_pass (c ∷ cs) h = both (columns_within c) (flat_map columns_within cs) (condition_passes c h.0) (conjuncts_pass cs h.1)

  items_pass : (es : List Expr) → AllByRecursion (λ e. names_only test e ≡ true) (map expression_of es) → Pass (flat_map columns_in es)
  items_pass [] h = tt
  items_pass (e ∷ es) h = both (columns_in e) (flat_map columns_in es) (expression_passes e h.0) (items_pass es h.1)

  joins_pass : (js : List coded_join.Joined) → AllPass (flat_map (λ (j : Joined). j.on) (map joined_of js)) → Pass (flat_map columns_of_join js)
  joins_pass [] h = tt
  joins_pass (j ∷ js) h =
      let rest : List Condition = flat_map (λ (i : Joined). i.on) (map joined_of js) in
      both (columns_of_join j) (flat_map columns_of_join js) (conjuncts_pass j.on.items (all_front (λ c. condition_names_only test c ≡ true) (map condition_of j.on.items) rest h))
      (joins_pass js (all_back (λ c. condition_names_only test c ≡ true) (map condition_of j.on.items) rest h))

  sources_pass : (sources : List coded_source.Source) → AllPass (conjuncts_on (map source_of sources)) → Pass (flat_map columns_of_source sources)
  sources_pass [] h = tt
  sources_pass (source ∷ sources) h =
      let first : List Condition = flat_map (λ (j : Joined). j.on) (map joined_of source.joins.items) in
      let rest : List Condition = conjuncts_on (map source_of sources) in
      both (columns_of_source source) (flat_map columns_of_source sources) (joins_pass source.joins.items (all_front (λ c. condition_names_only test c ≡ true) first rest h))
      (sources_pass sources (all_back (λ c. condition_names_only test c ≡ true) first rest h))

  query_passes : (parts : QueryParts) → AllPass (conjuncts_in (query_of parts)) → AllByRecursion (λ e. names_only test e ≡ true) (query_of parts).items → Pass (columns_of_query parts)
  query_passes parts h g =
      let on : List Condition = conjuncts_on (map source_of parts.sources) in
      let where_of : List Condition = map condition_of parts.conjuncts in
      both (flat_map columns_of_source parts.sources) (flat_map columns_within parts.conjuncts ++ flat_map columns_in parts.items)
      (sources_pass parts.sources (all_front (λ c. condition_names_only test c ≡ true) on where_of h))
      (both (flat_map columns_within parts.conjuncts) (flat_map columns_in parts.items) (conjuncts_pass parts.conjuncts (all_back (λ c. condition_names_only test c ≡ true) on where_of h)) (items_pass parts.items g))

  named_pass : (more columns : List ℕ) → Pass columns → Pass more → Pass (and_columns columns more)
  named_pass [] columns h g = h
  named_pass (i ∷ more) columns h g = named_pass more (and_column columns i) (one (list_any (λ j. j == i) columns)) g.1
    where
      one : (b : Bool) → Pass (if b then columns else columns ++ i ∷ [])
      one true = h
      one false = both columns (i ∷ []) h (g.0, tt)

-- ---- numbers of a list

itself : (n : ℕ) → nat_eq n n ≡ true
itself n = grind (arith, nat_tests)

more_there : (j : ℕ) (js is : List ℕ) → AllByRecursion (λ i. list_any (λ k. nat_eq k i) js ≡ true) is → AllByRecursion (λ i. list_any (λ k. nat_eq k i) (j ∷ js) ≡ true) is
more_there j js [] h = tt
more_there j js (i ∷ is) h = (or_true (nat_eq j i) (list_any (λ k. nat_eq k i) js) h.0, more_there j js is h.1)

all_there : (js : List ℕ) → AllByRecursion (λ i. list_any (λ k. nat_eq k i) js ≡ true) js
all_there [] = tt
all_there (j ∷ js) = (ap (λ (b : Bool). b || list_any (λ k. nat_eq k j) js) (itself j), more_there j js js (all_there js))

none_there : (js : List ℕ) (i : ℕ) → AllByRecursion (λ j. not (nat_eq j i) ≡ true) js → list_any (λ k. nat_eq k i) js ≡ true → ⊥
none_there [] i h g = cc
none_there (j ∷ js) i h g = one (nat_eq j i) h.0 g (λ rest. none_there js i h.1 rest)
  where
    one : (b : Bool) → not b ≡ true → (b || list_any (λ k. nat_eq k i) js) ≡ true → (list_any (λ k. nat_eq k i) js ≡ true → ⊥) → ⊥
    one true e g rest = cc
    one false e g rest = rest g

each_of : (P Q : ℕ → Type 0) (is : List ℕ) → ((i : ℕ) → P i → Q i) → AllByRecursion P is → AllByRecursion Q is
each_of P Q [] f h = tt
each_of P Q (i ∷ is) f h = (f i h.0, each_of P Q is f h.1)

-- what holds of each column that an expression of the query names holds of the columns that are named
pub named_hold : (parts : QueryParts) (Q : ℕ → Type 0)
    → ((i : ℕ) → (AllByRecursion (λ c. condition_names_only (λ j. not (nat_eq j i)) c ≡ true) (conjuncts_in (query_of parts)) → AllByRecursion (λ e. names_only (λ j. not (nat_eq j i)) e ≡ true) (query_of parts).items → ⊥) → Q i)
    → AllByRecursion Q (named_by parts)
named_hold parts Q named =
    each_of (λ i. list_any (λ k. nat_eq k i) (named_by parts) ≡ true) Q (named_by parts)
    (λ i there. named i (λ conjuncts items.
    none_there (named_by parts) i (named_pass (λ j. not (nat_eq j i)) (columns_of_query parts) [] tt (query_passes (λ j. not (nat_eq j i)) parts conjuncts items)) there))
    (all_there (named_by parts))
