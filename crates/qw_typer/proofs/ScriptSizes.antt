-- A query of the grammar is typed with at most three and a half times its nodes, but for `*`. A query with NULL elsewhere than
-- as a result of a CASE has no such bound, so the proof goes along the rules of the grammar.
use Rattle.std.proofs.Common.{◌≡◌, ℕ, zero, suc, ◌+◌, ◌*◌, ◌≤◌, Bool, true, false, List, [], ◌∷◌, ◌++◌, length, Option, arith}
use Rattle.std.specs.List.{AllByRecursion}
use Rattle.qw_token.specs.Token.{Lexeme}
use Rattle.qw_scalar.specs.declared.expression.Operator.{Operator}
use Rattle.qw_ast.specs.Syntax.{Expression, arithmetic, Condition, both, either, Clause, condition, expression, SelectItem, Selected, Entry, Joined, Source, Select}
use Rattle.qw_ast.specs.ScriptGrammar.{Series, first, more, IsNothing, nothing, appended, arguments, IsResult, null_result, result, Branch, is_condition, IsBranch, branch, IsElse, no_else, else_result, branching, IsPrimary, a_number, a_string, a_date, a_column, a_qualified_column, brackets, a_searched_case, a_simple_case, a_call, an_extract, a_row_count, a_set_function, IsFactor, unsigned_factor, signed_factor, IsTerm, IsValueExpression, IsPredicate, a_comparison, a_between, an_in, a_like, a_value_test, IsBooleanPrimary, a_predicate, condition_brackets, IsBooleanTest, no_test, a_test, IsBooleanFactor, no_negation, a_negation, IsBooleanTerm, IsSearchCondition, IsClause, IsNested, IsItem, item, IsSelectList, asterisk, some_items, IsFilter, unfiltered, filtered, IsHaving, no_having, a_having, IsJoined, a_joined, AreJoins, IsSource, a_source, AreSources, some_sources, IsSelect, a_select, IsSelectOf}
use Rattle.qw_ast.specs.Limits as script
use Rattle.qw_typer.specs.Inner.Sizes.{nodes, weight, weight_condition, weight_clause, weight_all, weight_branches}
use Rattle.qw_typer.proofs.WeightLemmas.{weighed}

-- ---- what is said of each

pub record FewNodes (e : Expression) : Type 0 where
  pub few : 2 * weight e + 4 ≤ 7 * script.nodes e

pub record FewNodesOf (c : Condition) : Type 0 where
  pub few : 2 * weight_condition c + 7 ≤ 7 * script.nodes_condition c

abbrev IsFew : Clause → Type 0
IsFew (condition c) = FewNodesOf c
IsFew (expression e) = FewNodes e

-- NULL may stand here
pub record FewInResult (e : Expression) : Type 0 where
  pub few : 2 * weight e ≤ 7 * script.nodes e + 2

-- a WHEN that has a condition has so many fewer
abbrev gain : Bool → ℕ
gain true = 3
gain false = 0

pub record FewInBranch (searched : Bool) (b : Branch) : Type 0 where
  pub few : 2 + 2 * weight_clause b.test + 2 * weight b.result + gain searched ≤ 7 * script.nodes_clause b.test + 7 * script.nodes b.result

pub record FewInSource (s : Source) : Type 0 where
  pub few : 2 * script.over_joins weight_condition s.joins ≤ 7 * script.over_joins script.nodes_condition s.joins

-- of each clause of a query
pub record IsFewIn (s : Select) : Type 0 where
  pub in_items : 2 * script.over_items weight (script.items_of s.selected) + 4 * length (script.items_of s.selected) ≤ 7 * script.over_items script.nodes (script.items_of s.selected)
  pub in_sources : 2 * script.over_sources weight_condition s.sources ≤ 7 * script.over_sources script.nodes_condition s.sources
  pub in_filter : 2 * script.over_filter weight_condition s.filter ≤ 7 * script.over_filter script.nodes_condition s.filter
  pub in_having : 2 * script.over_filter weight_condition s.having ≤ 7 * script.over_filter script.nodes_condition s.having

-- ---- lists

series_all : {A O B : Type 0} {First : A → List Lexeme → List Lexeme → Type 0} {Between : O → List Lexeme → List Lexeme → Type 0} {Operand : B → List Lexeme → List Lexeme → Type 0} {joined : O → A → B → A} (P : A → Type 0)
    → ((a : A) (ts rest : List Lexeme) → First a ts rest → P a) → ((o : O) (a : A) (b : B) (ts rest : List Lexeme) → P a → Operand b ts rest → P (joined o a b))
    → (a : A) (ts rest : List Lexeme) → Series First Between Operand joined a ts rest → P a
series_all P one next _ _ _ (first a ts rest h) = one a ts rest h
series_all P one next _ _ _ (more a o b ts us vs rest h between' h') = next o a b vs rest (series_all P one next a ts us h) h'

all_appended : {A : Type 0} (P : A → Type 0) (xs : List A) (x : A) → AllByRecursion P xs → P x → AllByRecursion P (xs ++ x ∷ [])
all_appended P [] x all one = (one, tt)
all_appended P (y ∷ xs) x all one = (all.0, all_appended P xs x all.1 one)

none_yet : {A : Type 0} (P : A → Type 0) (xs : List A) (ts rest : List Lexeme) → IsNothing xs ts rest → AllByRecursion P xs
none_yet P _ _ _ (nothing rest) = tt

list_all : {A O : Type 0} {Between : O → List Lexeme → List Lexeme → Type 0} {Item : A → List Lexeme → List Lexeme → Type 0} (P : A → Type 0) → ((a : A) (ts rest : List Lexeme) → Item a ts rest → P a)
    → (xs : List A) (ts rest : List Lexeme) → Series IsNothing Between Item appended xs ts rest → AllByRecursion P xs
list_all P each xs ts rest h =
    series_all (AllByRecursion P) (none_yet P) (λ o ys y us vs all one. all_appended P ys y all (each y us vs one)) xs ts rest h

few_arguments : (e : Expression) (es : List Expression) → FewNodes e → AllByRecursion FewNodes es → 2 * weight_all (arguments e es) + 2 ≤ 7 * script.nodes_all (arguments e es)
few_arguments e [] one all = let few = one.few in omega (arith, few)
few_arguments e (f ∷ es) one all = let few = one.few in let rest = few_arguments f es all.0 all.1 in omega (arith, few, rest)

few_branches : (searched : Bool) (bs : List Branch) (other : Expression) → AllByRecursion (FewInBranch searched) bs → FewInResult other → 2 * weight_branches (branching bs other) ≤ 7 * script.nodes_branches (branching bs other) + 4
few_branches searched [] other all last' = let few = last'.few in omega (arith, few)
few_branches searched (b ∷ bs) other all last' = let few = all.0.few in let rest = few_branches searched bs other all.1 last' in omega (arith, few, rest)

few_items : (list : List SelectItem) → AllByRecursion (λ (i : SelectItem). FewNodes i.value) list → 2 * script.over_items weight list + 4 * length list ≤ 7 * script.over_items script.nodes list
few_items [] all = omega arith
few_items (i ∷ others) all = let few = all.0.few in let rest = few_items others all.1 in omega (arith, few, rest)

-- ---- joined operands

few_joined : (o : Operator) (a b : Expression) → FewNodes a → FewNodes b → FewNodes (arithmetic o a b)
few_joined o a b left right = let l = left.few in let r = right.few in record { few = omega (arith, l, r) }

few_both : (a b : Condition) → FewNodesOf a → FewNodesOf b → FewNodesOf (both a b)
few_both a b left right = let l = left.few in let r = right.few in record { few = omega (arith, l, r) }

few_either : (a b : Condition) → FewNodesOf a → FewNodesOf b → FewNodesOf (either a b)
few_either a b left right = let l = left.few in let r = right.few in record { few = omega (arith, l, r) }

-- ---- rules, over what stands in brackets and in CASE
module _ (Inner : Clause → List Lexeme → List Lexeme → Type 0) (inner : (c : Clause) (ts rest : List Lexeme) → Inner c ts rest → IsFew c) where
  few_result : (e : Expression) (ts rest : List Lexeme) → IsResult Inner e ts rest → FewInResult e
  few_result _ _ _ (null_result t rest word) = record { few = omega arith }
  few_result _ _ _ (result e ts rest h) = let one = inner (expression e) ts rest h in let few = one.few in record { few = omega (arith, few) }

  few_branch : (searched : Bool) (b : Branch) (ts rest : List Lexeme) → IsBranch Inner searched b ts rest → FewInBranch searched b
  few_branch searched _ _ _ (branch c e word ts us rest h sort then' h') = by_test c searched sort (inner c ts (word ∷ us) h) (few_result e us rest h')
    where
      by_test : (c : Clause) (searched : Bool) → is_condition c ≡ searched → IsFew c → FewInResult e → FewInBranch searched (record { test = c; result = e })
      by_test (condition d) true sort one two = let few = one.few in let more' = two.few in record { few = omega (arith, few, more') }
      by_test (condition d) false sort one two = cc
      by_test (expression v) true sort one two = cc
      by_test (expression v) false sort one two = let few = one.few in let more' = two.few in record { few = omega (arith, few, more') }

  few_else : (e : Expression) (ts rest : List Lexeme) → IsElse Inner e ts rest → FewInResult e
  few_else _ _ _ (no_else end rest word) = record { few = omega arith }
  few_else _ _ _ (else_result e word end ts rest w h w') = few_result e ts (end ∷ rest) h

  few_primary : (e : Expression) (ts rest : List Lexeme) → IsPrimary Inner e ts rest → FewNodes e
  few_primary _ _ _ (a_number t rest h) = record { few = omega arith }
  few_primary _ _ _ (a_string t rest h) = record { few = omega arith }
  few_primary _ _ _ (a_date d ts rest h) = record { few = omega arith }
  few_primary _ _ _ (a_column t rest h) = record { few = omega arith }
  few_primary _ _ _ (a_qualified_column q point t rest h h' h'') = record { few = omega arith }
  few_primary _ _ _ (brackets e opening closing ts rest h within h') = inner (expression e) ts (closing ∷ rest) within
  few_primary _ _ _ (a_searched_case b bs other word ts us rest w are is_else) =
      let all = list_all (FewInBranch true) (few_branch true) (b ∷ bs) ts us are in
      let few = all.0.few in
      let behind = few_branches true bs other all.1 (few_else other us rest is_else) in
      record { few = omega (arith, few, behind) }
  few_primary _ _ _ (a_simple_case x b bs other word ts us vs rest w one are is_else) =
      let all = list_all (FewInBranch false) (few_branch false) (b ∷ bs) us vs are in
      let operand = inner (expression x) ts us one in
      let few = operand.few in
      let behind = few_branches false (b ∷ bs) other all (few_else other vs rest is_else) in
      record { few = omega (arith, few, behind) }
  few_primary _ _ _ (a_call f e es word opening closing ts us rest w w' one are w'' many) =
      let all = list_all FewNodes (λ g vs ws h. inner (expression g) vs ws h) es us (closing ∷ rest) are in
      let few = few_arguments e es (inner (expression e) ts us one) all in
      record { few = omega (arith, few) }
  few_primary _ _ _ (an_extract field e word opening name from closing ts rest w w' f w'' one w''') =
      let operand = inner (expression e) ts (closing ∷ rest) one in
      let few = operand.few in
      record { few = omega (arith, few) }
  few_primary _ _ _ (a_row_count word opening star closing rest is_word open_there star_there close_there) = record { few = omega arith }
  few_primary _ _ _ (a_set_function f e word opening closing ts us rest is_word open_there all one close_there) =
      let argument = inner (expression e) us (closing ∷ rest) one in
      let few = argument.few in
      let least = weighed e in
      record { few = omega (arith, few, least) }

  few_factor : (e : Expression) (ts rest : List Lexeme) → IsFactor Inner e ts rest → FewNodes e
  few_factor _ _ _ (unsigned_factor e ts rest h) = few_primary e ts rest h
  few_factor _ _ _ (signed_factor s e t ts rest sign h) = let operand = few_primary e ts rest h in let few = operand.few in record { few = omega (arith, few) }

  few_term : (e : Expression) (ts rest : List Lexeme) → IsTerm Inner e ts rest → FewNodes e
  few_term e ts rest h = series_all FewNodes few_factor (λ o a b us vs few one. few_joined o a b few (few_factor b us vs one)) e ts rest h

  few_value : (e : Expression) (ts rest : List Lexeme) → IsValueExpression Inner e ts rest → FewNodes e
  few_value e ts rest h = series_all FewNodes few_term (λ o a b us vs few one. few_joined o a b few (few_term b us vs one)) e ts rest h

  few_predicate : (c : Condition) (ts rest : List Lexeme) → IsPredicate Inner c ts rest → FewNodesOf c
  few_predicate _ _ _ (a_comparison a b op t ts us rest h w h') =
      let left = few_value a ts (t ∷ us) h in
      let right = few_value b us rest h' in
      record { few = omega arith }
  few_predicate _ _ _ (a_between x a b negated word conjunction ts us vs ws rest h n w h' w' h'') =
      let operand = few_value x ts us h in
      let least = few_value a vs (conjunction ∷ ws) h' in
      let greatest = few_value b ws rest h'' in
      let few = operand.few in
      record { few = omega (arith, few) }
  few_predicate _ _ _ (an_in x e es negated word opening closing ts us vs ws rest h n w w' one are w'') =
      let operand = few_value x ts us h in
      let few = operand.few in
      let all = list_all FewNodes (λ g ys zs i. inner (expression g) ys zs i) es ws (closing ∷ rest) are in
      let values = few_arguments e es (inner (expression e) vs ws one) all in
      record { few = omega (arith, few, values) }
  few_predicate _ _ _ (a_like x negated word t ts us rest h n w w') = let operand = few_value x ts us h in let few = operand.few in record { few = omega (arith, few) }
  few_predicate _ _ _ (a_value_test x p negated word t ts us rest h w n w') = let operand = few_value x ts (word ∷ us) h in let few = operand.few in record { few = omega (arith, few) }

  few_boolean_primary : (c : Condition) (ts rest : List Lexeme) → IsBooleanPrimary Inner c ts rest → FewNodesOf c
  few_boolean_primary _ _ _ (a_predicate c ts rest h) = few_predicate c ts rest h
  few_boolean_primary _ _ _ (condition_brackets c opening closing ts rest w one w') = let within = inner (condition c) ts (closing ∷ rest) one in let few = within.few in record { few = few }

  few_test : (c : Condition) (ts rest : List Lexeme) → IsBooleanTest Inner c ts rest → FewNodesOf c
  few_test _ _ _ (no_test c ts rest h) = few_boolean_primary c ts rest h
  few_test _ _ _ (a_test c negated truth word t ts us rest h w n w') = let operand = few_boolean_primary c ts (word ∷ us) h in let few = operand.few in record { few = omega (arith, few) }

  few_boolean_factor : (c : Condition) (ts rest : List Lexeme) → IsBooleanFactor Inner c ts rest → FewNodesOf c
  few_boolean_factor _ _ _ (no_negation c ts rest h) = few_test c ts rest h
  few_boolean_factor _ _ _ (a_negation c word ts rest w h) = let operand = few_test c ts rest h in let few = operand.few in record { few = omega (arith, few) }

  few_boolean_term : (c : Condition) (ts rest : List Lexeme) → IsBooleanTerm Inner c ts rest → FewNodesOf c
  few_boolean_term c ts rest h = series_all FewNodesOf few_boolean_factor (λ o a b us vs few one. few_both a b few (few_boolean_factor b us vs one)) c ts rest h

  few_search_condition : (c : Condition) (ts rest : List Lexeme) → IsSearchCondition Inner c ts rest → FewNodesOf c
  few_search_condition c ts rest h = series_all FewNodesOf few_boolean_term (λ o a b us vs few one. few_either a b few (few_boolean_term b us vs one)) c ts rest h

  few_clause : (c : Clause) (ts rest : List Lexeme) → IsClause Inner c ts rest → IsFew c
  few_clause (condition c) ts rest h = few_search_condition c ts rest h
  few_clause (expression e) ts rest h = few_value e ts rest h

  -- ---- queries

  few_item : (i : SelectItem) (ts rest : List Lexeme) → IsItem Inner i ts rest → FewNodes i.value
  few_item _ _ _ (item e name ts us rest h n) = inner (expression e) ts us h

  few_selected : (selected : Selected) (ts rest : List Lexeme) → IsSelectList Inner selected ts rest → 2 * script.over_items weight (script.items_of selected) + 4 * length (script.items_of selected) ≤ 7 * script.over_items script.nodes (script.items_of selected)
  few_selected _ _ _ (asterisk t rest star) = omega arith
  few_selected _ _ _ (some_items i others ts us rest h are) =
      let all = list_all (λ (j : SelectItem). FewNodes j.value) few_item others us rest are in
      few_items (i ∷ others) (few_item i ts us h, all)

  few_filter : (filter : Option Condition) (ts rest : List Lexeme) → IsFilter Inner filter ts rest → 2 * script.over_filter weight_condition filter ≤ 7 * script.over_filter script.nodes_condition filter
  few_filter _ _ _ (unfiltered rest) = omega arith
  few_filter _ _ _ (filtered c word ts rest w h) = let one = inner (condition c) ts rest h in let few = one.few in omega (arith, few)

  few_joined_condition : (j : Entry × Condition) (ts rest : List Lexeme) → IsJoined Inner j ts rest → FewNodesOf j.1
  few_joined_condition _ _ _ (a_joined e c word ts us rest is_entry w h) = inner (condition c) us rest h

  few_joins : (js : List Joined) → AllByRecursion (λ (j : Joined). FewNodesOf j.on) js → 2 * script.over_joins weight_condition js ≤ 7 * script.over_joins script.nodes_condition js
  few_joins [] all = omega arith
  few_joins (j ∷ others) all = let few = all.0.few in let rest = few_joins others all.1 in omega (arith, few, rest)

  few_in_joins : (js : List Joined) (ts rest : List Lexeme) → AreJoins Inner js ts rest → AllByRecursion (λ (j : Joined). FewNodesOf j.on) js
  few_in_joins js ts rest h =
      series_all (AllByRecursion (λ (j : Joined). FewNodesOf j.on)) (none_yet (λ (j : Joined). FewNodesOf j.on))
      (λ o ks k us vs all one. all_appended (λ (j : Joined). FewNodesOf j.on) ks (record { entry = k.0; outer = o; on = k.1 }) all (few_joined_condition k us vs one)) js ts rest h

  few_source : (s : Source) (ts rest : List Lexeme) → IsSource Inner s ts rest → FewInSource s
  few_source _ _ _ (a_source e js ts us rest is_entry are) =
      record { few = few_joins js (few_in_joins js us rest are) }

  few_all_sources : (ss : List Source) → AllByRecursion FewInSource ss → 2 * script.over_sources weight_condition ss ≤ 7 * script.over_sources script.nodes_condition ss
  few_all_sources [] all = omega arith
  few_all_sources (s ∷ others) all = let few = all.0.few in let rest = few_all_sources others all.1 in omega (arith, few, rest)

  few_sources : (ss : List Source) (ts rest : List Lexeme) → AreSources Inner ss ts rest → 2 * script.over_sources weight_condition ss ≤ 7 * script.over_sources script.nodes_condition ss
  few_sources _ _ _ (some_sources s others ts us rest h are) = few_all_sources (s ∷ others) (few_source s ts us h, list_all FewInSource few_source others us rest are)

  few_having : (having : Option Condition) (ts rest : List Lexeme) → IsHaving Inner having ts rest → 2 * script.over_filter weight_condition having ≤ 7 * script.over_filter script.nodes_condition having
  few_having _ _ _ (no_having rest) = omega arith
  few_having _ _ _ (a_having c word ts rest w h) = let one = inner (condition c) ts rest h in let few = one.few in omega (arith, few)

  few_select : (s : Select) (ts rest : List Lexeme) → IsSelect Inner s ts rest → IsFewIn s
  few_select _ _ _ (a_select distinct selected sources filter grouping having order word from ts us vs ws xs ys zs rest w all list w' froms where' groups having' order') = record {
    in_items = few_selected selected us (from ∷ vs) list;
    in_sources = few_sources sources vs ws froms;
    in_filter = few_filter filter ws xs where';
    in_having = few_having having ys zs having';
  }

few_nested : (n : ℕ) (c : Clause) (ts rest : List Lexeme) → IsNested n c ts rest → IsFew c
few_nested zero c ts rest h = absurd h
few_nested (suc n) c ts rest h = few_clause (IsNested n) (few_nested n) c ts rest h

pub few_of_query : (tokens : List Lexeme) (s : Select) → IsSelectOf tokens s → IsFewIn s
few_of_query tokens s h = few_select (IsNested 33) (few_nested 33) s tokens [] h
