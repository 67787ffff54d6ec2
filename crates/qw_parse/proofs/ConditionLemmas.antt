-- Predicates and conditions are read exactly, where what stands in brackets and in CASE is; and so is what is nested.
use Rattle.std.proofs.Common.{◌≡◌, ℕ, zero, suc, ◌<◌, Bool, true, false, cond, List, ◌∷◌, length, Option, Some, None, refl, sym, ap, subst, ◌∙◌, arith, inl, inr}
use Rattle.std.specs.Prelude.{◌⊎◌, codes, IsTrue}
use Rattle.std.specs.Option.{option_map_or}
use Rattle.std.proofs.lemmas.Bool.{cases_Bool}
use Rattle.qw_types.specs.declared.truth.Truth.{Truth}
use Rattle.qw_token.specs.Token.{Lexeme}
use Rattle.qw_token.specs.declared.token.Kind.TheVariants.{Word}
use Rattle.qw_scalar.specs.declared.comparison.Comparison.{Comparison}
use Rattle.qw_scalar.specs.declared.expression.Predicate.{Predicate}
use Rattle.qw_ast.specs.Grammar.{folded}
use Rattle.qw_ast.specs.Syntax.{Expression, text, Condition, comparison, between, among, predicate, both, either, negation_of, is, bracketed, Clause, condition, expression}
use Rattle.qw_ast.specs.ScriptGrammar.{is_word, is_symbol, is_string, comparison_of, predicate_of, truth_of, likeness, Series, first, IsOperator, AreFurther, IsExpressionOf, arguments, IsOptionalNot, not_absent, not_there, IsValueExpression, IsPredicate, a_comparison, a_between, an_in, a_like, a_value_test, IsBooleanPrimary, a_predicate, condition_brackets, IsBooleanTest, no_test, a_test, IsBooleanFactor, no_negation, a_negation, is_and, is_or, IsBooleanTerm, IsClause, IsNested}
use Rattle.qw_parse.specs.Inner.Readers.{token_at, word_at, octets_if, not_at, expression_at, listing_at, condition_at, the_expression, the_condition, sum_at, between_at, in_at, like_at, compare_at, value_test_at, condition_clause, ranged_at, tail_at, predicate_at, truth_test_at, test_at, boolean_factor_at, join_and, join_or, boolean_term_at, clause_at, nested_at, series_at}
use Rattle.qw_parse.proofs.LoopLemmas.{bind_some, none_not_some, some_same, cases_option}
use Rattle.qw_parse.proofs.TokenLemmas.{word_is, Front, front, one_takes, one_is, one_not, Found, found, token_takes, token_is, octets_found, octets_are, told_or, strength, Stops, stops_at, stops_weaker, stops_one, stops_token, strong_symbol, strong_word}
use Rattle.qw_parse.proofs.ExactLemmas.{Starts, starts_at, Exact, operator_stops, other_word, not_takes, not_is, not_shorter}
use Rattle.qw_parse.proofs.PrimaryLemmas.{the_expression_is, Of, IsBracketed, between_brackets, listing_takes, listing_is, further_down}
use Rattle.qw_parse.proofs.SumLemmas.{Begins, sum_exact, expression_begins, bracketed_begins}
use Rattle.qw_parse.proofs.RankLemmas.{rank_exact}

-- ---- tokens

comparison_strong : (t : Lexeme) (op : Comparison) → comparison_of t ≡ Some op → strength t ≡ 4
comparison_strong t op e =
    let R = λ (o : Comparison). strength t ≡ 4 in
    told_or R _ _ op _ e (strong_symbol (codes "=") 4 t refl) (λ a.
    told_or R _ _ op _ a (strong_symbol (codes "<>") 4 t refl) (λ b.
    told_or R _ _ op _ b (strong_symbol (codes "<") 4 t refl) (λ c.
    told_or R _ _ op _ c (strong_symbol (codes "<=") 4 t refl) (λ d.
    told_or R _ _ op _ d (strong_symbol (codes ">") 4 t refl) (λ f.
    told_or R _ _ op None f (strong_symbol (codes ">=") 4 t refl) (λ g. absurd cc))))))

no_comparison : (ts : List Lexeme) → Stops 4 ts → token_at comparison_of ts ≡ None
no_comparison ts h = stops_token 4 comparison_of (λ t op e. let s = comparison_strong t op e in omega (arith, s)) ts h

-- no word of this strength stands there
no_strong_word : (w : List ℕ) (n : ℕ) → strength (record { kind = Word; octets = w }) ≡ n → folded w ≡ w → (ts : List Lexeme) → Stops n ts → word_at w ts ≡ None
no_strong_word w n e f ts h = stops_one n (is_word w) (λ t i. let s = strong_word w n t e f i in omega (arith, s)) ts h

word_weak : (w : List ℕ) (n m : ℕ) (t : Lexeme) (rest : List Lexeme) → strength (record { kind = Word; octets = w }) ≡ n → folded w ≡ w → n < m → IsTrue (is_word w t) → Stops m (t ∷ rest)
word_weak w n m t rest e f le h = let s = strong_word w n t e f h in stops_at m t rest (omega (arith, s, le))

-- what no NOT says is said by none
meant_no_not : {A : Type 0} (meaning : Lexeme → Option A) (t : Lexeme) (a : A) (rest : List Lexeme) → (IsTrue (is_word (codes "NOT") t) → meaning t ≡ None) → meaning t ≡ Some a → word_at (codes "NOT") (t ∷ rest) ≡ None
meant_no_not meaning t a rest never e =
    elim (cases_Bool (is_word (codes "NOT") t)) [
      | inl h ↦ absurd (none_not_some (meaning t) a (never h) e)
      | inr h ↦ one_not (is_word (codes "NOT")) t rest h
    ]

predicate_no_not : (t : Lexeme) (p : Predicate) (rest : List Lexeme) → predicate_of t ≡ Some p → word_at (codes "NOT") (t ∷ rest) ≡ None
predicate_no_not t p rest e = meant_no_not predicate_of t p rest (λ h. let i = word_is (codes "NOT") t h in rw (i.0, i.1) refl) e

truth_no_not : (t : Lexeme) (v : Truth) (rest : List Lexeme) → truth_of t ≡ Some v → word_at (codes "NOT") (t ∷ rest) ≡ None
truth_no_not t v rest e = meant_no_not truth_of t v rest (λ h. let i = word_is (codes "NOT") t h in rw (i.0, i.1) refl) e

-- what stands in front of BETWEEN, IN and LIKE
ranged_front : (w : List ℕ) → strength (record { kind = Word; octets = w }) ≡ 3 → folded w ≡ w → is_word (codes "IS") (record { kind = Word; octets = w }) ≡ false
    → (negated : Bool) (ts : List Lexeme) (t : Lexeme) (rest : List Lexeme) → IsOptionalNot negated ts (t ∷ rest) → IsTrue (is_word w t) → Stops 4 ts × (word_at (codes "IS") ts ≡ None)
ranged_front w e f no_is negated ts t rest h i = of_not negated ts (t ∷ rest) h (word_weak w 3 4 t rest e f (omega arith) i, other_word w (codes "IS") t rest f no_is i)
  where
    of_not : (negated : Bool) (ts us : List Lexeme) → IsOptionalNot negated ts us → Stops 4 us × (word_at (codes "IS") us ≡ None) → Stops 4 ts × (word_at (codes "IS") ts ≡ None)
    of_not _ _ _ (not_absent us) h = h
    of_not _ _ _ (not_there n us i) h = (word_weak (codes "NOT") 3 4 n us refl refl (omega arith) i, other_word (codes "NOT") (codes "IS") n us refl refl i)

condition_clause_some : (o : Option (Condition × List Lexeme)) (x : Clause × List Lexeme) → condition_clause o ≡ Some x → (y : Condition × List Lexeme) × (o ≡ Some y) × ((condition y.0, y.1) ≡ x)
unfolding condition_clause
condition_clause_some None x e = absurd cc
condition_clause_some (Some y) x e = (y, refl, some_same (condition y.0, y.1) x e)

condition_clause_is : (o : Option (Condition × List Lexeme)) (c : Condition) (rest : List Lexeme) → o ≡ Some (c, rest) → condition_clause o ≡ Some (condition c, rest)
unfolding condition_clause
condition_clause_is o c rest h = rw h refl

pub the_condition_is : (c : Clause) (d : Condition) → the_condition c ≡ Some d → c ≡ condition d
the_condition_is (expression e) d h = absurd cc
the_condition_is (condition c) d h = ap condition (some_same c d h)

and_strong : (t : Lexeme) (o : Unit {0}) → is_and t ≡ Some o → strength t ≡ 2
and_strong t o e =
    elim (cases_Bool (is_word (codes "AND") t)) [
      | inl h ↦ strong_word (codes "AND") 2 t refl refl h
      | inr h ↦ absurd (let none : None ≡ Some o = rw h at e in cc)
    ]

or_strong : (t : Lexeme) (o : Unit {0}) → is_or t ≡ Some o → strength t ≡ 1
or_strong t o e =
    elim (cases_Bool (is_word (codes "OR") t)) [
      | inl h ↦ strong_word (codes "OR") 1 t refl refl h
      | inr h ↦ absurd (let none : None ≡ Some o = rw h at e in cc)
    ]

and_parts : (o : Unit {0}) (p q r : Clause) → join_and o p q ≡ Some r → (a : Condition) × (b : Condition) × (p ≡ condition a) × (q ≡ condition b) × (r ≡ condition (both a b))
and_parts o (condition a) (condition b) r e = (a, b, refl, refl, sym (some_same (condition (both a b)) r e))
and_parts o (condition a) (expression d) r e = absurd cc
and_parts o (expression c) (expression b) r e = absurd cc
and_parts o (expression c) (condition d) r e = absurd cc

or_parts : (o : Unit {0}) (p q r : Clause) → join_or o p q ≡ Some r → (a : Condition) × (b : Condition) × (p ≡ condition a) × (q ≡ condition b) × (r ≡ condition (either a b))
or_parts o (condition a) (condition b) r e = (a, b, refl, refl, sym (some_same (condition (either a b)) r e))
or_parts o (condition a) (expression d) r e = absurd cc
or_parts o (expression c) (expression b) r e = absurd cc
or_parts o (expression c) (condition d) r e = absurd cc

module _ (Inner : Clause → List Lexeme → List Lexeme → Type 0) (inner : List Lexeme → Option (Clause × List Lexeme)) (reads : Exact Inner (Stops 1) inner) where
  -- ---- the expressions of a predicate

  sum_takes : (ts : List Lexeme) (x : Expression × List Lexeme) → expression_at (sum_at inner) ts ≡ Some x → IsValueExpression Inner x.0 ts x.1
  unfolding expression_at
  sum_takes ts x e =
      let c = bind_some (sum_at inner ts) _ x e in
      let d = bind_some (the_expression c.0.0) _ x c.2 in
      subst (λ (y : Expression × List Lexeme). IsValueExpression Inner y.0 ts y.1) (some_same (d.0, c.0.1) x d.2)
      (subst (λ y. Of (IsValueExpression Inner) (IsBracketed Inner) y ts c.0.1) (the_expression_is c.0.0 d.0 d.1) ((sum_exact Inner inner reads).takes ts c.0 c.1))

  sum_is : (e : Expression) (ts rest : List Lexeme) → IsValueExpression Inner e ts rest → Stops 5 rest → expression_at (sum_at inner) ts ≡ Some (e, rest)
  unfolding expression_at
  sum_is e ts rest h ends = rw ((sum_exact Inner inner reads).is (expression e) ts rest h ends) refl

  first_is : (e : Expression) (ts rest : List Lexeme) → IsValueExpression Inner e ts rest → Stops 5 rest → sum_at inner ts ≡ Some (expression e, rest)
  first_is e ts rest h ends = (sum_exact Inner inner reads).is (expression e) ts rest h ends

  sum_shorter : (e : Expression) (ts rest : List Lexeme) → IsValueExpression Inner e ts rest → length rest < length ts
  sum_shorter e ts rest h = (sum_exact Inner inner reads).shorter (expression e) ts rest h

  -- ---- behind the first expression

  compare_made : (x y : Expression) (op : Comparison) (front_ts ts us rest : List Lexeme) → IsValueExpression Inner x front_ts ts → Found comparison_of op ts us → IsValueExpression Inner y us rest → IsPredicate Inner (comparison op x y) front_ts rest
  compare_made x y _ front_ts _ _ rest h (found op t us f) i = a_comparison x y op t front_ts us rest h f i

  compare_takes : (x : Expression) (op : Comparison) (front_ts ts us : List Lexeme) → IsValueExpression Inner x front_ts ts → Found comparison_of op ts us → (z : Condition × List Lexeme) → compare_at inner op x us ≡ Some z → IsPredicate Inner z.0 front_ts z.1
  unfolding compare_at
  compare_takes x op front_ts ts us h f z e =
      let b = bind_some (expression_at (sum_at inner) us) _ z e in
      subst (λ (y : Condition × List Lexeme). IsPredicate Inner y.0 front_ts y.1) (some_same (comparison op x b.0.0, b.0.1) z b.2) (compare_made x b.0.0 op front_ts ts us b.0.1 h f (sum_takes us b.0 b.1))

  value_test_made : (x : Expression) (p : Predicate) (negated : Bool) (front_ts ts us vs rest : List Lexeme) → IsValueExpression Inner x front_ts ts → Front (is_word (codes "IS")) ts us → IsOptionalNot negated us vs → Found predicate_of p vs rest → IsPredicate Inner (predicate p negated x) front_ts rest
  value_test_made x _ negated front_ts _ us _ rest h (front w _ f) n (found p t _ g) = a_value_test x p negated w t front_ts us rest h f n g

  value_test_takes : (x : Expression) (front_ts ts us : List Lexeme) → IsValueExpression Inner x front_ts ts → Front (is_word (codes "IS")) ts us → (z : Condition × List Lexeme) → value_test_at x us ≡ Some z → IsPredicate Inner z.0 front_ts z.1
  unfolding value_test_at
  value_test_takes x front_ts ts us h f z e =
      let p = bind_some (token_at predicate_of (not_at us).1) _ z e in
      subst (λ (y : Condition × List Lexeme). IsPredicate Inner y.0 front_ts y.1) (some_same (predicate p.0.0 (not_at us).0 x, p.0.1) z p.2)
      (value_test_made x p.0.0 (not_at us).0 front_ts ts us (not_at us).1 p.0.1 h f (not_takes us) (token_takes predicate_of (not_at us).1 p.0 p.1))

  between_made : (x a b : Expression) (negated : Bool) (front_ts ts us vs ws xs rest : List Lexeme) → IsValueExpression Inner x front_ts ts → IsOptionalNot negated ts us → Front (is_word (codes "BETWEEN")) us vs → IsValueExpression Inner a vs ws → Front (is_word (codes "AND")) ws xs → IsValueExpression Inner b xs rest → IsPredicate Inner (between negated x a b) front_ts rest
  between_made x a b negated front_ts ts _ vs _ xs rest h n (front w _ f) i (front v _ g) j = a_between x a b negated w v front_ts ts vs xs rest h n f i g j

  between_takes : (x : Expression) (negated : Bool) (front_ts ts us vs : List Lexeme) → IsValueExpression Inner x front_ts ts → IsOptionalNot negated ts us → Front (is_word (codes "BETWEEN")) us vs → (z : Condition × List Lexeme) → between_at inner negated x vs ≡ Some z → IsPredicate Inner z.0 front_ts z.1
  unfolding between_at
  between_takes x negated front_ts ts us vs h n f z e =
      let a = bind_some (expression_at (sum_at inner) vs) _ z e in
      let w = bind_some (word_at (codes "AND") a.0.1) _ z a.2 in
      let b = bind_some (expression_at (sum_at inner) w.0) _ z w.2 in
      subst (λ (y : Condition × List Lexeme). IsPredicate Inner y.0 front_ts y.1) (some_same (between negated x a.0.0 b.0.0, b.0.1) z b.2)
      (between_made x a.0.0 b.0.0 negated front_ts ts us vs a.0.1 w.0 b.0.1 h n f (sum_takes vs a.0 a.1) (one_takes (is_word (codes "AND")) a.0.1 w.0 w.1) (sum_takes w.0 b.0 b.1))

  in_made : (x e : Expression) (es : List Expression) (negated : Bool) (front_ts ts us vs ws xs ys rest : List Lexeme) → IsValueExpression Inner x front_ts ts → IsOptionalNot negated ts us → Front (is_word (codes "IN")) us vs → Front (is_symbol (codes "(")) vs ws → Inner (expression e) ws xs → AreFurther (IsExpressionOf Inner) es xs ys → Front (is_symbol (codes ")")) ys rest → IsPredicate Inner (among negated x (arguments e es)) front_ts rest
  in_made x e es negated front_ts ts _ _ ws xs _ rest h n (front w _ f) (front o _ g) i j (front c _ k) = an_in x e es negated w o c front_ts ts ws xs rest h n f g i j k

  in_takes : (x : Expression) (negated : Bool) (front_ts ts us vs : List Lexeme) → IsValueExpression Inner x front_ts ts → IsOptionalNot negated ts us → Front (is_word (codes "IN")) us vs → (z : Condition × List Lexeme) → in_at inner negated x vs ≡ Some z → IsPredicate Inner z.0 front_ts z.1
  unfolding in_at
  in_takes x negated front_ts ts us vs h n f z e =
      let l = bind_some (listing_at inner vs) _ z e in
      let parts = listing_takes Inner inner reads vs l.0 l.1 in
      subst (λ (y : Condition × List Lexeme). IsPredicate Inner y.0 front_ts y.1) (some_same (among negated x (arguments l.0.0.0 l.0.0.1), l.0.1) z l.2)
      (in_made x l.0.0.0 l.0.0.1 negated front_ts ts us vs parts.0 parts.1 parts.2 l.0.1 h n f parts.3 parts.4 parts.5 parts.6)

  like_made : (x : Expression) (p : List ℕ) (negated : Bool) (front_ts ts us vs rest : List Lexeme) → IsValueExpression Inner x front_ts ts → IsOptionalNot negated ts us → Front (is_word (codes "LIKE")) us vs → Found (octets_if is_string) p vs rest → IsPredicate Inner (comparison (likeness negated) x (text p)) front_ts rest
  like_made x _ negated front_ts ts _ _ rest h n (front w _ f) (found p t _ g) =
      let o = octets_found is_string t p g in
      subst (λ octets. IsPredicate Inner (comparison (likeness negated) x (text octets)) front_ts rest) o.1 (a_like x negated w t front_ts ts rest h n f o.0)

  like_takes : (x : Expression) (negated : Bool) (front_ts ts us vs : List Lexeme) → IsValueExpression Inner x front_ts ts → IsOptionalNot negated ts us → Front (is_word (codes "LIKE")) us vs → (z : Condition × List Lexeme) → like_at negated x vs ≡ Some z → IsPredicate Inner z.0 front_ts z.1
  unfolding like_at
  like_takes x negated front_ts ts us vs h n f z e =
      let p = bind_some (token_at (octets_if is_string) vs) _ z e in
      subst (λ (y : Condition × List Lexeme). IsPredicate Inner y.0 front_ts y.1) (some_same (comparison (likeness negated) x (text p.0.0), p.0.1) z p.2)
      (like_made x p.0.0 negated front_ts ts us vs p.0.1 h n f (token_takes (octets_if is_string) vs p.0 p.1))

  ranged_takes : (x : Expression) (negated : Bool) (front_ts ts us : List Lexeme) → IsValueExpression Inner x front_ts ts → IsOptionalNot negated ts us → (read : Option (Condition × List Lexeme)) (z : Condition × List Lexeme) → ranged_at inner negated x us ≡ Some read → read ≡ Some z → IsPredicate Inner z.0 front_ts z.1
  unfolding ranged_at
  ranged_takes x negated front_ts ts us h n read z e is_some =
      elim (cases_option (word_at (codes "BETWEEN") us)) [
        | inr vs ↦ between_takes x negated front_ts ts us vs.0 h n (one_takes (is_word (codes "BETWEEN")) us vs.0 vs.1) z (some_same (between_at inner negated x vs.0) read (rw vs.1 at e) ∙ is_some)
        | inl none ↦ elim (cases_option (word_at (codes "IN") us)) [
          | inr vs ↦ in_takes x negated front_ts ts us vs.0 h n (one_takes (is_word (codes "IN")) us vs.0 vs.1) z (some_same (in_at inner negated x vs.0) read (rw (none, vs.1) at e) ∙ is_some)
          | inl none' ↦ elim (cases_option (word_at (codes "LIKE") us)) [
            | inr vs ↦ like_takes x negated front_ts ts us vs.0 h n (one_takes (is_word (codes "LIKE")) us vs.0 vs.1) z (some_same (like_at negated x vs.0) read (rw (none, none', vs.1) at e) ∙ is_some)
            | inl none'' ↦ absurd (let no : None ≡ Some read = rw (none, none', none'') at e in cc)
          ]
        ]
      ]

  as_predicate : (front_ts : List Lexeme) (o : Option (Condition × List Lexeme)) (y : Clause × List Lexeme) → condition_clause o ≡ Some y → ((z : Condition × List Lexeme) → o ≡ Some z → IsPredicate Inner z.0 front_ts z.1) → Of (IsValueExpression Inner) (IsPredicate Inner) y.0 front_ts y.1
  as_predicate front_ts o y e made =
      let z = condition_clause_some o y e in
      subst (λ (w : Clause × List Lexeme). Of (IsValueExpression Inner) (IsPredicate Inner) w.0 front_ts w.1) z.2 (made z.0 z.1)

  alone_takes : (x : Expression) (front_ts ts : List Lexeme) (b : Bool) (y : Clause × List Lexeme) → IsValueExpression Inner x front_ts ts → cond b None (Some (expression x, ts)) ≡ Some y → Of (IsValueExpression Inner) (IsPredicate Inner) y.0 front_ts y.1
  alone_takes x front_ts ts true y h e = absurd cc
  alone_takes x front_ts ts false y h e = subst (λ (w : Clause × List Lexeme). Of (IsValueExpression Inner) (IsPredicate Inner) w.0 front_ts w.1) (some_same (expression x, ts) y e) h

  tail_takes : (x : Expression) (front_ts ts : List Lexeme) → IsValueExpression Inner x front_ts ts → (y : Clause × List Lexeme) → tail_at inner x ts ≡ Some y → Of (IsValueExpression Inner) (IsPredicate Inner) y.0 front_ts y.1
  unfolding tail_at
  tail_takes x front_ts ts h y e =
      elim (cases_option (token_at comparison_of ts)) [
        | inr op ↦ as_predicate front_ts (compare_at inner op.0.0 x op.0.1) y (rw op.1 at e) (compare_takes x op.0.0 front_ts ts op.0.1 h (token_takes comparison_of ts op.0 op.1))
        | inl no_op ↦ elim (cases_option (word_at (codes "IS") ts)) [
          | inr us ↦ as_predicate front_ts (value_test_at x us.0) y (rw (no_op, us.1) at e) (value_test_takes x front_ts ts us.0 h (one_takes (is_word (codes "IS")) ts us.0 us.1))
          | inl no_is ↦ elim (cases_option (ranged_at inner (not_at ts).0 x (not_at ts).1)) [
            | inr read ↦ as_predicate front_ts read.0 y (rw (no_op, no_is, read.1) at e) (λ z some. ranged_takes x (not_at ts).0 front_ts ts (not_at ts).1 h (not_takes ts) read.0 z read.1 some)
            | inl no_range ↦ alone_takes x front_ts ts (not_at ts).0 y h (rw (no_op, no_is, no_range) at e)
          ]
        ]
      ]

  -- ---- a predicate, or an expression alone

  primary_of_condition : (c : Condition) (ts rest : List Lexeme) → IsBracketed Inner c ts rest → IsBooleanPrimary Inner c ts rest
  primary_of_condition _ _ _ (between_brackets c o k ts rest f h g) = condition_brackets c o k ts rest f h g

  to_primary : (c : Clause) (ts rest : List Lexeme) → Of (IsValueExpression Inner) (IsPredicate Inner) c ts rest → Of (IsValueExpression Inner) (IsBooleanPrimary Inner) c ts rest
  to_primary (expression e) ts rest h = h
  to_primary (condition c) ts rest h = a_predicate c ts rest h

  clause_takes : (c : Clause) (front_ts ts : List Lexeme) → Of (IsValueExpression Inner) (IsBracketed Inner) c front_ts ts → (y : Clause × List Lexeme) → option_map_or (λ x. tail_at inner x ts) (the_expression c) (Some (c, ts)) ≡ Some y → Of (IsValueExpression Inner) (IsBooleanPrimary Inner) y.0 front_ts y.1
  clause_takes (expression x) front_ts ts h y e = to_primary y.0 front_ts y.1 (tail_takes x front_ts ts h y e)
  clause_takes (condition c) front_ts ts h y e = subst (λ (w : Clause × List Lexeme). Of (IsValueExpression Inner) (IsBooleanPrimary Inner) w.0 front_ts w.1) (some_same (condition c, ts) y e) (primary_of_condition c front_ts ts h)

  predicate_takes : (ts : List Lexeme) (y : Clause × List Lexeme) → predicate_at inner ts ≡ Some y → Of (IsValueExpression Inner) (IsBooleanPrimary Inner) y.0 ts y.1
  unfolding predicate_at
  predicate_takes ts y e =
      let c = bind_some (sum_at inner ts) _ y e in
      clause_takes c.0.0 ts c.0.1 ((sum_exact Inner inner reads).takes ts c.0 c.1) y c.2

  begun : (x : Expression) (ts us : List Lexeme) → IsValueExpression Inner x ts us → Stops 5 us → predicate_at inner ts ≡ tail_at inner x us
  unfolding predicate_at
  begun x ts us h ends = rw (first_is x ts us h ends) refl

  tail_compares : (x : Expression) (t : Lexeme) (us : List Lexeme) (op : Comparison) → comparison_of t ≡ Some op → tail_at inner x (t ∷ us) ≡ condition_clause (compare_at inner op x us)
  unfolding tail_at
  tail_compares x t us op e = rw (token_is comparison_of t us op e) refl

  tail_tests : (x : Expression) (t : Lexeme) (us : List Lexeme) → IsTrue (is_word (codes "IS") t) → tail_at inner x (t ∷ us) ≡ condition_clause (value_test_at x us)
  unfolding tail_at
  tail_tests x t us h = rw (no_comparison (t ∷ us) (word_weak (codes "IS") 3 4 t us refl refl (omega arith) h), one_is (is_word (codes "IS")) t us h) refl

  tail_ranges : (x : Expression) (negated : Bool) (ts us : List Lexeme) (read : Option (Condition × List Lexeme)) → Stops 4 ts → word_at (codes "IS") ts ≡ None → not_at ts ≡ (negated, us) → ranged_at inner negated x us ≡ Some read → tail_at inner x ts ≡ condition_clause read
  unfolding tail_at
  tail_ranges x negated ts us read ends no_is n e = rw (no_comparison ts ends, no_is, n, e) refl

  between_is : (x a b : Expression) (negated : Bool) (conjunction : Lexeme) (vs ws rest : List Lexeme) → IsValueExpression Inner a vs (conjunction ∷ ws) → IsTrue (is_word (codes "AND") conjunction) → IsValueExpression Inner b ws rest → Stops 5 rest → between_at inner negated x vs ≡ Some (between negated x a b, rest)
  unfolding between_at
  between_is x a b negated t vs ws rest i g j ends =
      rw (sum_is a vs (t ∷ ws) i (word_weak (codes "AND") 2 5 t ws refl refl (omega arith) g), one_is (is_word (codes "AND")) t ws g, sum_is b ws rest j ends) refl

  in_is : (x e : Expression) (es : List Expression) (negated : Bool) (o c : Lexeme) (vs ws rest : List Lexeme) → IsTrue (is_symbol (codes "(") o) → Inner (expression e) vs ws → AreFurther (IsExpressionOf Inner) es ws (c ∷ rest) → IsTrue (is_symbol (codes ")") c) → in_at inner negated x (o ∷ vs) ≡ Some (among negated x (arguments e es), rest)
  unfolding in_at
  in_is x e es negated o c vs ws rest f i j g = rw (listing_is Inner inner reads e es o c vs ws rest f i j g) refl

  like_is : (x : Expression) (negated : Bool) (t : Lexeme) (rest : List Lexeme) → IsTrue (is_string t) → like_at negated x (t ∷ rest) ≡ Some (comparison (likeness negated) x (text t.octets), rest)
  unfolding like_at
  like_is x negated t rest h = rw (token_is (octets_if is_string) t rest t.octets (octets_are is_string t h)) refl

  ranged_between : (x : Expression) (negated : Bool) (t : Lexeme) (vs : List Lexeme) → IsTrue (is_word (codes "BETWEEN") t) → ranged_at inner negated x (t ∷ vs) ≡ Some (between_at inner negated x vs)
  unfolding ranged_at
  ranged_between x negated t vs h = rw (one_is (is_word (codes "BETWEEN")) t vs h) refl

  ranged_in : (x : Expression) (negated : Bool) (t : Lexeme) (vs : List Lexeme) → IsTrue (is_word (codes "IN") t) → ranged_at inner negated x (t ∷ vs) ≡ Some (in_at inner negated x vs)
  unfolding ranged_at
  ranged_in x negated t vs h = rw (other_word (codes "IN") (codes "BETWEEN") t vs refl refl h, one_is (is_word (codes "IN")) t vs h) refl

  ranged_like : (x : Expression) (negated : Bool) (t : Lexeme) (vs : List Lexeme) → IsTrue (is_word (codes "LIKE") t) → ranged_at inner negated x (t ∷ vs) ≡ Some (like_at negated x vs)
  unfolding ranged_at
  ranged_like x negated t vs h = rw (other_word (codes "LIKE") (codes "BETWEEN") t vs refl refl h, other_word (codes "LIKE") (codes "IN") t vs refl refl h, one_is (is_word (codes "LIKE")) t vs h) refl

  compare_is : (x b : Expression) (op : Comparison) (us rest : List Lexeme) → IsValueExpression Inner b us rest → Stops 5 rest → compare_at inner op x us ≡ Some (comparison op x b, rest)
  unfolding compare_at
  compare_is x b op us rest h ends = rw (sum_is b us rest h ends) refl

  value_test_is : (x : Expression) (p : Predicate) (negated : Bool) (t : Lexeme) (us rest : List Lexeme) → IsOptionalNot negated us (t ∷ rest) → predicate_of t ≡ Some p → value_test_at x us ≡ Some (predicate p negated x, rest)
  unfolding value_test_at
  value_test_is x p negated t us rest n g = rw (not_is negated us (t ∷ rest) n (predicate_no_not t p rest g), token_is predicate_of t rest p g) refl

  predicate_is : (c : Condition) (ts rest : List Lexeme) → IsPredicate Inner c ts rest → Stops 5 rest → predicate_at inner ts ≡ Some (condition c, rest)
  predicate_is _ _ _ (a_comparison a b op t ts us rest h f i) ends =
      let s = comparison_strong t op f in
      begun a ts (t ∷ us) h (stops_at 5 t us (omega (arith, s))) ∙ tail_compares a t us op f ∙ condition_clause_is (compare_at inner op a us) (comparison op a b) rest (compare_is a b op us rest i ends)
  predicate_is _ _ _ (a_between x a b negated word t ts us vs ws rest h n f i g j) ends =
      let fronts = ranged_front (codes "BETWEEN") refl refl refl negated us word vs n f in
      begun x ts us h (stops_weaker 4 5 us (omega arith) fronts.0)
      ∙ tail_ranges x negated us (word ∷ vs) (between_at inner negated x vs) fronts.0 fronts.1 (not_is negated us (word ∷ vs) n (other_word (codes "BETWEEN") (codes "NOT") word vs refl refl f)) (ranged_between x negated word vs f)
      ∙ condition_clause_is (between_at inner negated x vs) (between negated x a b) rest (between_is x a b negated t vs ws rest i g j ends)
  predicate_is _ _ _ (an_in x e es negated word o c ts us vs ws rest h n f g i j k) ends =
      let fronts = ranged_front (codes "IN") refl refl refl negated us word (o ∷ vs) n f in
      begun x ts us h (stops_weaker 4 5 us (omega arith) fronts.0)
      ∙ tail_ranges x negated us (word ∷ o ∷ vs) (in_at inner negated x (o ∷ vs)) fronts.0 fronts.1 (not_is negated us (word ∷ o ∷ vs) n (other_word (codes "IN") (codes "NOT") word (o ∷ vs) refl refl f)) (ranged_in x negated word (o ∷ vs) f)
      ∙ condition_clause_is (in_at inner negated x (o ∷ vs)) (among negated x (arguments e es)) rest (in_is x e es negated o c vs ws rest g i j k)
  predicate_is _ _ _ (a_like x negated word t ts us rest h n f g) ends =
      let fronts = ranged_front (codes "LIKE") refl refl refl negated us word (t ∷ rest) n f in
      begun x ts us h (stops_weaker 4 5 us (omega arith) fronts.0)
      ∙ tail_ranges x negated us (word ∷ t ∷ rest) (like_at negated x (t ∷ rest)) fronts.0 fronts.1 (not_is negated us (word ∷ t ∷ rest) n (other_word (codes "LIKE") (codes "NOT") word (t ∷ rest) refl refl f)) (ranged_like x negated word (t ∷ rest) f)
      ∙ condition_clause_is (like_at negated x (t ∷ rest)) (comparison (likeness negated) x (text t.octets)) rest (like_is x negated t rest g)
  predicate_is _ _ _ (a_value_test x p negated w t ts us rest h f n g) ends =
      begun x ts (w ∷ us) h (word_weak (codes "IS") 3 5 w us refl refl (omega arith) f) ∙ tail_tests x w us f ∙ condition_clause_is (value_test_at x us) (predicate p negated x) rest (value_test_is x p negated t us rest n g)

  brackets_is : (c : Condition) (ts rest : List Lexeme) → IsBracketed Inner c ts rest → Stops 5 rest → predicate_at inner ts ≡ Some (condition c, rest)
  unfolding predicate_at
  brackets_is c ts rest h ends = rw ((sum_exact Inner inner reads).is (condition c) ts rest h ends) refl

  primary_is : (c : Condition) (ts rest : List Lexeme) → IsBooleanPrimary Inner c ts rest → Stops 5 rest → predicate_at inner ts ≡ Some (condition c, rest)
  primary_is _ _ _ (a_predicate c ts rest h) ends = predicate_is c ts rest h ends
  primary_is _ _ _ (condition_brackets c o k ts rest f h g) ends = brackets_is (bracketed c) (o ∷ ts) rest (between_brackets c o k ts rest f h g) ends

  tail_alone : (x : Expression) (ts : List Lexeme) → Stops 3 ts → tail_at inner x ts ≡ Some (expression x, ts)
  unfolding tail_at ranged_at
  tail_alone x ts ends =
      rw (
        no_comparison ts (stops_weaker 3 4 ts (omega arith) ends),
        no_strong_word (codes "IS") 3 refl refl ts ends,
        not_is false ts ts (not_absent ts) (no_strong_word (codes "NOT") 3 refl refl ts ends),
        no_strong_word (codes "BETWEEN") 3 refl refl ts ends,
        no_strong_word (codes "IN") 3 refl refl ts ends,
        no_strong_word (codes "LIKE") 3 refl refl ts ends,
      ) refl

  alone_is : (x : Expression) (ts rest : List Lexeme) → IsValueExpression Inner x ts rest → Stops 3 rest → predicate_at inner ts ≡ Some (expression x, rest)
  alone_is x ts rest h ends = begun x ts rest h (stops_weaker 3 5 rest (omega arith) ends) ∙ tail_alone x rest ends

  primary_shorter : (c : Condition) (ts rest : List Lexeme) → IsBooleanPrimary Inner c ts rest → length rest < length ts
  primary_shorter _ _ _ (a_predicate _ _ _ (a_comparison a b op t ts us rest h f i)) =
      let p = sum_shorter a ts (t ∷ us) h in
      let q = sum_shorter b us rest i in
      omega (arith, p, q)
  primary_shorter _ _ _ (a_predicate _ _ _ (a_between x a b negated word t ts us vs ws rest h n f i g j)) =
      let p = sum_shorter x ts us h in
      let m = not_shorter negated us (word ∷ vs) n in
      let q = sum_shorter a vs (t ∷ ws) i in
      let r = sum_shorter b ws rest j in
      omega (arith, p, m, q, r)
  primary_shorter _ _ _ (a_predicate _ _ _ (an_in x e es negated word o c ts us vs ws rest h n f g i j k)) =
      let p = sum_shorter x ts us h in
      let m = not_shorter negated us (word ∷ o ∷ vs) n in
      let q = reads.shorter (expression e) vs ws i in
      let r = further_down Inner inner reads es ws (c ∷ rest) j in
      omega (arith, p, m, q, r)
  primary_shorter _ _ _ (a_predicate _ _ _ (a_like x negated word t ts us rest h n f g)) =
      let p = sum_shorter x ts us h in
      let m = not_shorter negated us (word ∷ t ∷ rest) n in
      omega (arith, p, m)
  primary_shorter _ _ _ (a_predicate _ _ _ (a_value_test x p negated w t ts us rest h f n g)) =
      let s = sum_shorter x ts (w ∷ us) h in
      let m = not_shorter negated us (t ∷ rest) n in
      omega (arith, s, m)
  primary_shorter _ _ _ (condition_brackets c o k ts rest f h g) = let p = reads.shorter (condition c) ts (k ∷ rest) h in omega (arith, p)

  primary_begins : (c : Condition) (ts rest : List Lexeme) → IsBooleanPrimary Inner c ts rest → Begins ts
  primary_begins _ _ _ (a_predicate _ _ _ (a_comparison a b op t ts us rest h f i)) = expression_begins Inner inner reads a ts (t ∷ us) h
  primary_begins _ _ _ (a_predicate _ _ _ (a_between x a b negated word t ts us vs ws rest h n f i g j)) = expression_begins Inner inner reads x ts us h
  primary_begins _ _ _ (a_predicate _ _ _ (an_in x e es negated word o c ts us vs ws rest h n f g i j k)) = expression_begins Inner inner reads x ts us h
  primary_begins _ _ _ (a_predicate _ _ _ (a_like x negated word t ts us rest h n f g)) = expression_begins Inner inner reads x ts us h
  primary_begins _ _ _ (a_predicate _ _ _ (a_value_test x p negated w t ts us rest h f n g)) = expression_begins Inner inner reads x ts (w ∷ us) h
  primary_begins _ _ _ (condition_brackets c o k ts rest f h g) = bracketed_begins Inner inner reads (bracketed c) (o ∷ ts) rest (between_brackets c o k ts rest f h g)

  -- ---- a test

  test_made : (c : Condition) (negated : Bool) (v : Truth) (ts us vs ws rest : List Lexeme) → IsBooleanPrimary Inner c ts us → Front (is_word (codes "IS")) us vs → IsOptionalNot negated vs ws → Found truth_of v ws rest → IsBooleanTest Inner (is negated c v) ts rest
  test_made c negated _ ts _ vs _ rest h (front w _ f) n (found v t _ g) = a_test c negated v w t ts vs rest h f n g

  truth_takes : (c : Condition) (ts us : List Lexeme) → IsBooleanPrimary Inner c ts us → (y : Condition × List Lexeme) → truth_test_at c us ≡ Some y → IsBooleanTest Inner y.0 ts y.1
  unfolding truth_test_at
  truth_takes c ts us h y e =
      elim (cases_option (word_at (codes "IS") us)) [
        | inl none ↦ subst (λ (w : Condition × List Lexeme). IsBooleanTest Inner w.0 ts w.1) (some_same (c, us) y (rw none at e)) (no_test c ts us h)
        | inr vs ↦ (
            let v = bind_some (token_at truth_of (not_at vs.0).1) _ y (rw vs.1 at e) in
            subst (λ (w : Condition × List Lexeme). IsBooleanTest Inner w.0 ts w.1) (some_same (is (not_at vs.0).0 c v.0.0, v.0.1) y v.2)
            (test_made c (not_at vs.0).0 v.0.0 ts us vs.0 (not_at vs.0).1 v.0.1 h (one_takes (is_word (codes "IS")) us vs.0 vs.1) (not_takes vs.0) (token_takes truth_of (not_at vs.0).1 v.0 v.1)))
      ]

  test_of : (c : Clause) (ts us : List Lexeme) → Of (IsValueExpression Inner) (IsBooleanPrimary Inner) c ts us → (y : Clause × List Lexeme) → option_map_or (λ d. condition_clause (truth_test_at d us)) (the_condition c) (Some (c, us)) ≡ Some y → Of (IsValueExpression Inner) (IsBooleanTest Inner) y.0 ts y.1
  test_of (expression x) ts us h y e = subst (λ (w : Clause × List Lexeme). Of (IsValueExpression Inner) (IsBooleanTest Inner) w.0 ts w.1) (some_same (expression x, us) y e) h
  test_of (condition c) ts us h y e =
      let z = condition_clause_some (truth_test_at c us) y e in
      subst (λ (w : Clause × List Lexeme). Of (IsValueExpression Inner) (IsBooleanTest Inner) w.0 ts w.1) z.2 (truth_takes c ts us h z.0 z.1)

  test_takes : (ts : List Lexeme) (y : Clause × List Lexeme) → test_at inner ts ≡ Some y → Of (IsValueExpression Inner) (IsBooleanTest Inner) y.0 ts y.1
  unfolding test_at
  test_takes ts y e =
      let c = bind_some (predicate_at inner ts) _ y e in
      test_of c.0.0 ts c.0.1 (predicate_takes ts c.0 c.1) y c.2

  tested : (c d : Condition) (ts us rest : List Lexeme) → predicate_at inner ts ≡ Some (condition c, us) → truth_test_at c us ≡ Some (d, rest) → test_at inner ts ≡ Some (condition d, rest)
  unfolding test_at
  tested c d ts us rest e f = rw e (condition_clause_is (truth_test_at c us) d rest f)

  truth_none : (c : Condition) (rest : List Lexeme) → Stops 3 rest → truth_test_at c rest ≡ Some (c, rest)
  unfolding truth_test_at
  truth_none c rest ends = rw (no_strong_word (codes "IS") 3 refl refl rest ends) refl

  truth_is : (c : Condition) (negated : Bool) (v : Truth) (w t : Lexeme) (us rest : List Lexeme) → IsTrue (is_word (codes "IS") w) → IsOptionalNot negated us (t ∷ rest) → truth_of t ≡ Some v → truth_test_at c (w ∷ us) ≡ Some (is negated c v, rest)
  unfolding truth_test_at
  truth_is c negated v w t us rest f n g = rw (one_is (is_word (codes "IS")) w us f, not_is negated us (t ∷ rest) n (truth_no_not t v rest g), token_is truth_of t rest v g) refl

  test_is : (c : Condition) (ts rest : List Lexeme) → IsBooleanTest Inner c ts rest → Stops 3 rest → test_at inner ts ≡ Some (condition c, rest)
  test_is _ _ _ (no_test c ts rest h) ends = tested c c ts rest rest (primary_is c ts rest h (stops_weaker 3 5 rest (omega arith) ends)) (truth_none c rest ends)
  test_is _ _ _ (a_test c negated v w t ts us rest h f n g) ends =
      tested c (is negated c v) ts (w ∷ us) rest (primary_is c ts (w ∷ us) h (word_weak (codes "IS") 3 5 w us refl refl (omega arith) f)) (truth_is c negated v w t us rest f n g)

  untested : (x : Expression) (ts rest : List Lexeme) → IsValueExpression Inner x ts rest → Stops 3 rest → test_at inner ts ≡ Some (expression x, rest)
  unfolding test_at
  untested x ts rest h ends = rw (alone_is x ts rest h ends) refl

  test_shorter : (c : Condition) (ts rest : List Lexeme) → IsBooleanTest Inner c ts rest → length rest < length ts
  test_shorter _ _ _ (no_test c ts rest h) = primary_shorter c ts rest h
  test_shorter _ _ _ (a_test c negated v w t ts us rest h f n g) =
      let p = primary_shorter c ts (w ∷ us) h in
      let m = not_shorter negated us (t ∷ rest) n in
      omega (arith, p, m)

  test_begins : (c : Condition) (ts rest : List Lexeme) → IsBooleanTest Inner c ts rest → Begins ts
  test_begins _ _ _ (no_test c ts rest h) = primary_begins c ts rest h
  test_begins _ _ _ (a_test c negated v w t ts us rest h f n g) = primary_begins c ts (w ∷ us) h

  -- ---- a factor

  negation_made : (c : Condition) (ts us rest : List Lexeme) → Front (is_word (codes "NOT")) ts us → IsBooleanTest Inner c us rest → IsBooleanFactor Inner (negation_of c) ts rest
  negation_made c _ us rest (front w _ f) h = a_negation c w us rest f h

  to_factor : (c : Clause) (ts rest : List Lexeme) → Of (IsValueExpression Inner) (IsBooleanTest Inner) c ts rest → Of (IsValueExpression Inner) (IsBooleanFactor Inner) c ts rest
  to_factor (expression e) ts rest h = h
  to_factor (condition c) ts rest h = no_negation c ts rest h

  condition_takes : (ts : List Lexeme) (x : Condition × List Lexeme) → condition_at (test_at inner) ts ≡ Some x → IsBooleanTest Inner x.0 ts x.1
  unfolding condition_at
  condition_takes ts x e =
      let c = bind_some (test_at inner ts) _ x e in
      let d = bind_some (the_condition c.0.0) _ x c.2 in
      subst (λ (y : Condition × List Lexeme). IsBooleanTest Inner y.0 ts y.1) (some_same (d.0, c.0.1) x d.2)
      (subst (λ y. Of (IsValueExpression Inner) (IsBooleanTest Inner) y ts c.0.1) (the_condition_is c.0.0 d.0 d.1) (test_takes ts c.0 c.1))

  factor_takes : (ts : List Lexeme) (y : Clause × List Lexeme) → boolean_factor_at inner ts ≡ Some y → Of (IsValueExpression Inner) (IsBooleanFactor Inner) y.0 ts y.1
  unfolding boolean_factor_at
  factor_takes ts y e =
      elim (cases_option (word_at (codes "NOT") ts)) [
        | inl none ↦ to_factor y.0 ts y.1 (test_takes ts y (rw none at e))
        | inr us ↦ (
            let c = bind_some (condition_at (test_at inner) us.0) _ y (rw us.1 at e) in
            subst (λ (w : Clause × List Lexeme). Of (IsValueExpression Inner) (IsBooleanFactor Inner) w.0 ts w.1) (some_same (condition (negation_of c.0.0), c.0.1) y c.2)
            (negation_made c.0.0 ts us.0 c.0.1 (one_takes (is_word (codes "NOT")) ts us.0 us.1) (condition_takes us.0 c.0 c.1)))
      ]

  condition_is : (c : Condition) (ts rest : List Lexeme) → IsBooleanTest Inner c ts rest → Stops 3 rest → condition_at (test_at inner) ts ≡ Some (c, rest)
  unfolding condition_at
  condition_is c ts rest h ends = rw (test_is c ts rest h ends) refl

  factor_of : (c : Condition) (ts rest : List Lexeme) → IsBooleanFactor Inner c ts rest → Stops 3 rest → boolean_factor_at inner ts ≡ Some (condition c, rest)
  unfolding boolean_factor_at
  factor_of _ _ _ (no_negation c ts rest h) ends = rw ((test_begins c ts rest h).no_not) (test_is c ts rest h ends)
  factor_of _ _ _ (a_negation c w ts rest f h) ends = rw (one_is (is_word (codes "NOT")) w ts f, condition_is c ts rest h ends) refl

  factor_is : (c : Clause) (ts rest : List Lexeme) → Of (IsValueExpression Inner) (IsBooleanFactor Inner) c ts rest → Stops 3 rest → boolean_factor_at inner ts ≡ Some (c, rest)
  unfolding boolean_factor_at
  factor_is (condition c) ts rest h ends = factor_of c ts rest h ends
  factor_is (expression e) ts rest h ends = rw ((expression_begins Inner inner reads e ts rest h).no_not) (untested e ts rest h ends)

  factor_down : (c : Condition) (ts rest : List Lexeme) → IsBooleanFactor Inner c ts rest → length rest < length ts
  factor_down _ _ _ (no_negation c ts rest h) = test_shorter c ts rest h
  factor_down _ _ _ (a_negation c w ts rest f h) = let p = test_shorter c ts rest h in omega (arith, p)

  factor_shorter : (c : Clause) (ts rest : List Lexeme) → Of (IsValueExpression Inner) (IsBooleanFactor Inner) c ts rest → length rest < length ts
  factor_shorter (condition c) ts rest h = factor_down c ts rest h
  factor_shorter (expression e) ts rest h = sum_shorter e ts rest h

  not_starts : (t : Lexeme) (ts : List Lexeme) → IsTrue (is_word (codes "NOT") t) → Starts (t ∷ ts)
  not_starts t ts h = let i = word_is (codes "NOT") t h in starts_at t ts (rw (i.0, i.1) refl)

  factor_front : (c : Condition) (ts rest : List Lexeme) → IsBooleanFactor Inner c ts rest → Starts ts
  factor_front _ _ _ (no_negation c ts rest h) = (test_begins c ts rest h).starts
  factor_front _ _ _ (a_negation c w ts rest f h) = not_starts w ts f

  factor_begins : (c : Clause) (ts rest : List Lexeme) → Of (IsValueExpression Inner) (IsBooleanFactor Inner) c ts rest → Starts ts
  factor_begins (condition c) ts rest h = factor_front c ts rest h
  factor_begins (expression e) ts rest h = (expression_begins Inner inner reads e ts rest h).starts

  pub factor_exact : Exact (Of (IsValueExpression Inner) (IsBooleanFactor Inner)) (Stops 3) (boolean_factor_at inner)
  factor_exact = record { takes = factor_takes; is = factor_is; shorter = factor_shorter; begins = factor_begins }

  -- ---- AND and OR

  alone_in : {O : Type 0} (F : Condition → List Lexeme → List Lexeme → Type 0) (meaning : Lexeme → Option O) (joined : O → Condition → Condition → Condition) (p : Clause) (ts rest : List Lexeme)
      → Of (IsValueExpression Inner) F p ts rest → Of (IsValueExpression Inner) (λ c us vs. Series F (IsOperator meaning) F joined c us vs) p ts rest
  alone_in F meaning joined (expression e) ts rest h = h
  alone_in F meaning joined (condition c) ts rest h = first c ts rest h

  sorts_in : {O : Type 0} (F : Condition → List Lexeme → List Lexeme → Type 0) (meaning : Lexeme → Option O) (joined : O → Condition → Condition → Condition) (p : Clause) (ts rest : List Lexeme)
      → Of (IsValueExpression Inner) (λ c us vs. Series F (IsOperator meaning) F joined c us vs) p ts rest → ((a : Condition) × (p ≡ condition a) × Series F (IsOperator meaning) F joined a ts rest) ⊎ Of (IsValueExpression Inner) F p ts rest
  sorts_in F meaning joined (expression e) ts rest h = inr h
  sorts_in F meaning joined (condition c) ts rest h = inl (c, refl, h)

  -- operators of one rank between conditions
  conditions_exact : {O : Type 0} (F : Condition → List Lexeme → List Lexeme → Type 0) (meaning : Lexeme → Option O) (joined : O → Condition → Condition → Condition) (join : O → Clause → Clause → Option Clause) (n m : ℕ) (read : List Lexeme → Option (Clause × List Lexeme))
      → ((o : O) (a b : Condition) → join o (condition a) (condition b) ≡ Some (condition (joined o a b)))
      → ((o : O) (p q r : Clause) → join o p q ≡ Some r → (a : Condition) × (b : Condition) × (p ≡ condition a) × (q ≡ condition b) × (r ≡ condition (joined o a b)))
      → m < n → ((t : Lexeme) (o : O) → meaning t ≡ Some o → strength t ≡ m) → Exact (Of (IsValueExpression Inner) F) (Stops n) read
      → Exact (Of (IsValueExpression Inner) (λ c us vs. Series F (IsOperator meaning) F joined c us vs)) (Stops m) (series_at read (token_at meaning) read join)
  conditions_exact F meaning joined join n m read joins parts weaker strong =
      rank_exact condition meaning F joined join (Of (IsValueExpression Inner) F) (Of (IsValueExpression Inner) (λ c us vs. Series F (IsOperator meaning) F joined c us vs)) (Stops n) (Stops m) read
      record {
        operand = λ a ts rest h. h;
        clause = λ a ts rest h. h;
        alone = alone_in F meaning joined;
        whole = λ a ts rest h. h;
        series = λ a ts rest h. h;
        sorts = sorts_in F meaning joined;
        joins = joins;
        parts = parts;
        ends = λ rest e. stops_weaker m n rest (omega arith) e;
        none = λ rest e. stops_token m meaning (λ t o h. let s = strong t o h in omega (arith, s)) rest e;
        between = λ o a us vs rest h f. operator_stops meaning n (λ t o h. let s = strong t o h in omega (arith, s)) o us vs h;
      }

  pub boolean_term_exact : Exact (Of (IsValueExpression Inner) (IsBooleanTerm Inner)) (Stops 2) (boolean_term_at inner)
  unfolding boolean_term_at
  boolean_term_exact =
      conditions_exact (IsBooleanFactor Inner) is_and (λ _ a b. both a b) join_and 3 2 (boolean_factor_at inner) (λ o a b. refl) and_parts (omega arith) and_strong factor_exact

  pub clause_exact : Exact (IsClause Inner) (Stops 1) (clause_at inner)
  unfolding clause_at
  clause_exact =
      conditions_exact (IsBooleanTerm Inner) is_or (λ _ a b. either a b) join_or 2 1 (boolean_term_at inner) (λ o a b. refl) or_parts (omega arith) or_strong boolean_term_exact

-- ---- what is nested

pub nested_exact : (n : ℕ) → Exact (IsNested n) (Stops 1) (nested_at n)
unfolding nested_at
nested_exact zero = record {
  takes = λ ts x e. nothing_read ts x e;
  is = λ p ts rest h ends. absurd h;
  shorter = λ p ts rest h. absurd h;
  begins = λ p ts rest h. absurd h;
}
  where
    nothing_read : (ts : List Lexeme) (x : Clause × List Lexeme) → None ≡ Some x → ⊥
    nothing_read ts x e = cc
nested_exact (suc n) = clause_exact (IsNested n) (nested_at n) (nested_exact n)
