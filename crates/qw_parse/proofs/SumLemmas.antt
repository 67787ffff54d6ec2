-- Primaries, factors, terms and sums are read exactly, where what stands in brackets and in CASE is.
use Rattle.std.proofs.Common.{◌≡◌, ℕ, ◌<◌, ◌≤◌, true, false, cond, ◌||◌, List, [], ◌∷◌, length, Option, Some, None, refl, sym, subst, ◌∙◌, arith, inl, inr}
use Rattle.std.specs.Prelude.{◌⊎◌, codes, IsTrue}
use Rattle.std.proofs.lemmas.Bool.{or_left, or_right}
use Rattle.qw_token.specs.Token.{Lexeme}
use Rattle.qw_token.specs.declared.token.Kind.TheVariants.{Word, Symbol}
use Rattle.qw_scalar.specs.declared.expression.Operator.{Operator}
use Rattle.qw_scalar.specs.declared.expression.Function.{Function}
use Rattle.qw_ast.specs.declared.script.Sign.{Sign}
use Rattle.qw_ast.specs.declared.script.SetFunction.{SetFunction}
use Rattle.qw_ast.specs.declared.script.SetFunction.TheVariants.{Count, Sum, Avg, Min, Max}
use Rattle.qw_ast.specs.Grammar.{folded}
use Rattle.qw_ast.specs.Syntax.{Expression, number, text, date, column, signed, arithmetic, Condition, Clause, condition, expression}
use Rattle.qw_ast.specs.ScriptGrammar.{is_word, is_symbol, is_number, is_string, is_name, sign_of, addition_of, multiplication_of, function_of, set_function_of, Series, first, IsOperator, operator, Dated, IsPrimary, a_number, a_string, a_date, a_column, a_qualified_column, brackets, a_searched_case, a_simple_case, a_call, an_extract, a_row_count, a_set_function, IsFactor, unsigned_factor, signed_factor, IsTerm, IsValueExpression}
use Rattle.qw_parse.specs.Inner.Readers.{◌>>=◌, token_at, word_at, symbol_at, the_expression, case_at, call_at, extract_at, set_function_at, brackets_at, column_at, date_at, as_clause, in_brackets, primary_at, interval_sign_at, factor_at, join_arithmetic, term_at, sum_at, series_at}
use Rattle.qw_parse.proofs.LoopLemmas.{bind_some, some_same, cases_option, series_begins}
use Rattle.qw_parse.proofs.TokenLemmas.{word_is, symbol_is, Front, front, one_takes, one_is, one_not, Found, found, token_takes, token_is, token_not, told_or, choose, strength, Stops, stops_at, stops_weaker, stops_one, stops_token, strong_symbol}
use Rattle.qw_parse.proofs.RankLemmas.{rank_exact}
use Rattle.qw_parse.proofs.ExactLemmas.{starts, Starts, starts_at, starts_not, Exact, all_shorter, names_take, one_name, two_names, date_takes, date_is, date_shorter, date_begins}
use Rattle.qw_parse.proofs.PrimaryLemmas.{the_expression_is, string_no_number, name_kind, name_no_symbol, name_no_word, number_no_symbol, string_no_symbol, number_no_word, string_no_word, Of, IsBracketed, between_brackets, EndsPrimary, as_clause_some, as_clause_is, case_takes, searched_is, simple_is, call_takes, call_is, extract_takes, extract_is, closing_ends, branches_shorter, else_shorter, further_down}
use Rattle.qw_parse.proofs.CallLemmas.{call_word_of, call_word, call_no_case, call_begins, name_no_call}
use Rattle.qw_parse.proofs.FunctionLemmas.{word_of, function_word, word_begins, name_no_function, rows_are, set_function_takes, set_function_is}

-- ---- what the operators are

two_symbols : {A : Type 0} (a b : List ℕ) (x y : A) (t : Lexeme) (o : A) → cond (is_symbol a t) (Some x) (cond (is_symbol b t) (Some y) None) ≡ Some o → IsTrue (is_symbol a t) ⊎ IsTrue (is_symbol b t)
two_symbols {A = A} a b x y t o e =
    let R = λ (z : A). IsTrue (is_symbol a t) ⊎ IsTrue (is_symbol b t) in
    told_or R _ x o _ e (λ h. inl h) (λ e1. told_or R _ y o None e1 (λ h. inr h) (λ e2. absurd cc))

sign_symbol : (t : Lexeme) (s : Sign) → sign_of t ≡ Some s → IsTrue (is_symbol (codes "+") t) ⊎ IsTrue (is_symbol (codes "-") t)
sign_symbol t s e = two_symbols (codes "+") (codes "-") _ _ t s e

multiplication_symbol : (t : Lexeme) (o : Operator) → multiplication_of t ≡ Some o → IsTrue (is_symbol (codes "*") t) ⊎ IsTrue (is_symbol (codes "/") t)
multiplication_symbol t o e = two_symbols (codes "*") (codes "/") _ _ t o e

two_strong : (a b : List ℕ) (n : ℕ) (t : Lexeme) → strength (record { kind = Symbol; octets = a }) ≡ n → strength (record { kind = Symbol; octets = b }) ≡ n → IsTrue (is_symbol a t) ⊎ IsTrue (is_symbol b t) → strength t ≡ n
two_strong a b n t e f one =
    elim one [
      | inl h ↦ strong_symbol a n t e h
      | inr h ↦ strong_symbol b n t f h
    ]

addition_strong : (t : Lexeme) (o : Operator) → addition_of t ≡ Some o → strength t ≡ 5
addition_strong t o e = two_strong (codes "+") (codes "-") 5 t refl refl (two_symbols (codes "+") (codes "-") _ _ t o e)

multiplication_strong : (t : Lexeme) (o : Operator) → multiplication_of t ≡ Some o → strength t ≡ 6
multiplication_strong t o e = two_strong (codes "*") (codes "/") 6 t refl refl (multiplication_symbol t o e)

sign_strong : (t : Lexeme) (s : Sign) → sign_of t ≡ Some s → strength t ≡ 5
sign_strong t s e = two_strong (codes "+") (codes "-") 5 t refl refl (sign_symbol t s e)

symbol_strong : (s : List ℕ) (n m : ℕ) → strength (record { kind = Symbol; octets = s }) ≡ m → n ≤ m → (t : Lexeme) → IsTrue (is_symbol s t) → n ≤ strength t
symbol_strong s n m e le t h = let z = strong_symbol s m t e h in omega (arith, z, le)

-- ---- what stops a factor

-- no sign before INTERVAL
pub no_interval : (ts : List Lexeme) → token_at sign_of ts ≡ None → interval_sign_at ts ≡ None
unfolding interval_sign_at
no_interval ts e = rw e refl

-- nothing as strong as a point follows, and no interval
pub record EndsFactor (n : ℕ) (ts : List Lexeme) : Type 0 where
  pub stops : Stops n ts
  pub no_interval : interval_sign_at ts ≡ None

ends_primary : (n : ℕ) (ts : List Lexeme) → n ≤ 7 → EndsFactor n ts → EndsPrimary ts
ends_primary n ts le ends =
    let s = stops_weaker n 7 ts le ends.stops in
    record {
      no_point = stops_one 7 (is_symbol (codes ".")) (symbol_strong (codes ".") 7 7 refl (omega arith)) ts s;
      date = record {
        no_brackets = stops_one 7 (is_symbol (codes "(")) (symbol_strong (codes "(") 7 7 refl (omega arith)) ts s;
        no_interval = ends.no_interval;
      };
    }

stops_factor : (n : ℕ) (ts : List Lexeme) → n ≤ 5 → Stops n ts → EndsFactor n ts
stops_factor n ts le h = record {
  stops = h;
  no_interval = no_interval ts (stops_token n sign_of (λ t s e. let z = sign_strong t s e in omega (arith, z, le)) ts h);
}

-- ---- what an expression begins with

-- no NOT
pub record Begins (ts : List Lexeme) : Type 0 where
  pub starts : Starts ts
  pub no_not : word_at (codes "NOT") ts ≡ None

-- and of a primary no sign
record BeginsPrimary (ts : List Lexeme) : Type 0 where
  pub begins : Begins ts
  pub no_sign : token_at sign_of ts ≡ None

begins_with : (t : Lexeme) (ts : List Lexeme) → IsTrue (starts t) → is_word (codes "NOT") t ≡ false → is_symbol (codes "+") t ≡ false → is_symbol (codes "-") t ≡ false → BeginsPrimary (t ∷ ts)
begins_with t ts h e a b = record { begins = record { starts = starts_at t ts h; no_not = one_not (is_word (codes "NOT")) t ts e }; no_sign = token_not sign_of t ts (rw (a, b) refl) }

with_number : (t : Lexeme) (ts : List Lexeme) → IsTrue (is_number t) → BeginsPrimary (t ∷ ts)
with_number t ts h = begins_with t ts (rw h refl) (number_no_word (codes "NOT") t h) (number_no_symbol (codes "+") t h) (number_no_symbol (codes "-") t h)

with_string : (t : Lexeme) (ts : List Lexeme) → IsTrue (is_string t) → BeginsPrimary (t ∷ ts)
with_string t ts h = begins_with t ts (rw (string_no_number t h, h) refl) (string_no_word (codes "NOT") t h) (string_no_symbol (codes "+") t h) (string_no_symbol (codes "-") t h)

with_name : (t : Lexeme) (ts : List Lexeme) → IsTrue (is_name t) → BeginsPrimary (t ∷ ts)
with_name t ts h = begins_with t ts (or_right (is_number t || is_string t) _ (or_left (is_name t) _ h)) (name_no_word (codes "NOT") t refl refl h) (name_no_symbol (codes "+") t h) (name_no_symbol (codes "-") t h)

with_word : (w : List ℕ) (t : Lexeme) (ts : List Lexeme) → starts (record { kind = Word; octets = w }) ≡ true → is_word (codes "NOT") (record { kind = Word; octets = w }) ≡ false → folded w ≡ w → IsTrue (is_word w t) → BeginsPrimary (t ∷ ts)
with_word w t ts e no_not f h = let is = word_is w t h in begins_with t ts (rw (is.0, is.1) (rw f at e)) (rw (is.0, is.1) (rw f at no_not)) (rw is.0 refl) (rw is.0 refl)

with_date : (ts us : List Lexeme) → Front (is_word (codes "DATE")) ts us → BeginsPrimary ts
with_date _ _ (front t rest h) = with_word (codes "DATE") t rest refl refl refl h

with_bracket : (t : Lexeme) (ts : List Lexeme) → IsTrue (is_symbol (codes "(") t) → BeginsPrimary (t ∷ ts)
with_bracket t ts h = let is = symbol_is (codes "(") t h in begins_with t ts (rw (is.0, is.1) refl) (rw is.0 refl) (rw (is.0, is.1) refl) (rw (is.0, is.1) refl)

with_sign : (t : Lexeme) (ts : List Lexeme) (s : Sign) → sign_of t ≡ Some s → Begins (t ∷ ts)
with_sign t ts s e =
    elim (sign_symbol t s e) [
      | inl h ↦ by_symbol (codes "+") refl h
      | inr h ↦ by_symbol (codes "-") refl h
    ]
  where
    by_symbol : (symbol : List ℕ) → starts (record { kind = Symbol; octets = symbol }) ≡ true → IsTrue (is_symbol symbol t) → Begins (t ∷ ts)
    by_symbol symbol f h = let is = symbol_is symbol t h in record { starts = starts_at t ts (rw (is.0, is.1) f); no_not = one_not (is_word (codes "NOT")) t ts (rw is.0 refl) }

module _ (Inner : Clause → List Lexeme → List Lexeme → Type 0) (inner : List Lexeme → Option (Clause × List Lexeme)) (reads : Exact Inner (Stops 1) inner) where
  -- ---- brackets and columns

  brackets_made : (c : Clause) (t : Lexeme) (ts us rest : List Lexeme) → IsTrue (is_symbol (codes "(") t) → Inner c ts us → Front (is_symbol (codes ")")) us rest → Of (IsPrimary Inner) (IsBracketed Inner) (in_brackets c) (t ∷ ts) rest
  brackets_made (expression e) t ts _ rest f h (front c _ g) = brackets e t c ts rest f h g
  brackets_made (condition d) t ts _ rest f h (front c _ g) = between_brackets d t c ts rest f h g

  brackets_takes : (t : Lexeme) → IsTrue (is_symbol (codes "(") t) → (ts : List Lexeme) (x : Clause × List Lexeme) → brackets_at inner ts ≡ Some x → Of (IsPrimary Inner) (IsBracketed Inner) x.0 (t ∷ ts) x.1
  unfolding brackets_at
  brackets_takes t f ts x e =
      let c = bind_some (inner ts) _ x e in
      let rest = bind_some (symbol_at (codes ")") c.0.1) _ x c.2 in
      subst (λ (y : Clause × List Lexeme). Of (IsPrimary Inner) (IsBracketed Inner) y.0 (t ∷ ts) y.1) (some_same (in_brackets c.0.0, rest.0) x rest.2)
      (brackets_made c.0.0 t ts c.0.1 rest.0 f (reads.takes ts c.0 c.1) (one_takes (is_symbol (codes ")")) c.0.1 rest.0 rest.1))

  brackets_are : (c : Clause) (closing : Lexeme) (ts rest : List Lexeme) → Inner c ts (closing ∷ rest) → IsTrue (is_symbol (codes ")") closing) → brackets_at inner ts ≡ Some (in_brackets c, rest)
  unfolding brackets_at
  brackets_are c closing ts rest h g = rw (reads.is c ts (closing ∷ rest) h (closing_ends Inner inner reads closing rest g), one_is (is_symbol (codes ")")) closing rest g) refl

  column_takes : (ts : List Lexeme) (x : Expression × List Lexeme) → column_at ts ≡ Some x → IsPrimary Inner x.0 ts x.1
  unfolding column_at
  column_takes = names_take column (IsPrimary Inner) a_column a_qualified_column

  column_is : (t : Lexeme) (rest : List Lexeme) → IsTrue (is_name t) → symbol_at (codes ".") rest ≡ None → column_at (t ∷ rest) ≡ Some (column None t.octets, rest)
  unfolding column_at
  column_is = one_name column

  qualified_is : (q p t : Lexeme) (rest : List Lexeme) → IsTrue (is_name q) → IsTrue (is_symbol (codes ".") p) → IsTrue (is_name t) → column_at (q ∷ p ∷ t ∷ rest) ≡ Some (column (Some q.octets) t.octets, rest)
  unfolding column_at
  qualified_is = two_names column

  -- ---- a primary

  as_primary : (ts : List Lexeme) (o : Option (Expression × List Lexeme)) (x : Clause × List Lexeme) → as_clause o ≡ Some x → ((y : Expression × List Lexeme) → o ≡ Some y → IsPrimary Inner y.0 ts y.1) → Of (IsPrimary Inner) (IsBracketed Inner) x.0 ts x.1
  as_primary ts o x e made =
      let y = as_clause_some o x e in
      subst (λ (z : Clause × List Lexeme). Of (IsPrimary Inner) (IsBracketed Inner) z.0 ts z.1) y.2 (made y.0 y.1)

  date_made : (ts : List Lexeme) (y : Expression × List Lexeme) → (date_at ts >>= (λ d. Some (date d.0.string d.0.intervals, d.1))) ≡ Some y → IsPrimary Inner y.0 ts y.1
  date_made ts y e =
      let d = bind_some (date_at ts) _ y e in
      subst (λ (z : Expression × List Lexeme). IsPrimary Inner z.0 ts z.1) (some_same (date d.0.0.string d.0.0.intervals, d.0.1) y d.2) (a_date d.0.0 ts d.0.1 (date_takes ts d.0 d.1))

  primary_takes : (ts : List Lexeme) (x : Clause × List Lexeme) → primary_at inner ts ≡ Some x → Of (IsPrimary Inner) (IsBracketed Inner) x.0 ts x.1
  unfolding primary_at
  primary_takes [] x e = absurd cc
  primary_takes (t ∷ ts) x e0 =
      let R = λ (y : Clause × List Lexeme). Of (IsPrimary Inner) (IsBracketed Inner) y.0 (t ∷ ts) y.1 in
      elim (choose (is_number t) _ _ x e0) [
        | inl h ↦ subst R (some_same (expression (number t.octets), ts) x h.1) (a_number t ts h.0)
        | inr e1 ↦ elim (choose (is_string t) _ _ x e1.1) [
          | inl h ↦ subst R (some_same (expression (text t.octets), ts) x h.1) (a_string t ts h.0)
          | inr e2 ↦ elim (choose (is_symbol (codes "(") t) _ _ x e2.1) [
            | inl h ↦ brackets_takes t h.0 ts x h.1
            | inr e3 ↦ elim (choose (is_word (codes "CASE") t) _ _ x e3.1) [
              | inl h ↦ as_primary (t ∷ ts) (case_at inner ts) x h.1 (case_takes Inner inner reads t h.0 ts)
              | inr e4 ↦ elim (cases_option (function_of t)) [
                | inr f ↦ as_primary (t ∷ ts) (call_at inner f.0 ts) x (rw f.1 at e4.1) (call_takes Inner inner reads f.0 t f.1 ts)
                | inl no_call ↦ elim (choose (is_word (codes "EXTRACT") t) _ _ x (rw no_call at e4.1)) [
                  | inl h ↦ as_primary (t ∷ ts) (extract_at inner ts) x h.1 (extract_takes Inner inner reads t h.0 ts)
                  | inr e5 ↦ elim (cases_option (set_function_of t)) [
                    | inr f ↦ as_primary (t ∷ ts) (set_function_at inner f.0 ts) x (rw f.1 at e5.1) (set_function_takes Inner inner reads t f.0 f.1 ts)
                    | inl none ↦ elim (choose (is_word (codes "DATE") t) _ _ x (rw none at e5.1)) [
                      | inl h ↦ as_primary (t ∷ ts) _ x h.1 (date_made (t ∷ ts))
                      | inr e6 ↦ as_primary (t ∷ ts) (column_at (t ∷ ts)) x e6.1 (column_takes (t ∷ ts))
                    ]
                  ]
                ]
              ]
            ]
          ]
        ]
      ]

  -- the first token tells which primary it is

  name_primary : (t : Lexeme) (ts : List Lexeme) → IsTrue (is_name t) → primary_at inner (t ∷ ts) ≡ as_clause (column_at (t ∷ ts))
  unfolding primary_at
  name_primary t ts h =
      let k = name_kind t t.kind refl h in
      rw (k.0, k.1, name_no_symbol (codes "(") t h, name_no_word (codes "CASE") t refl refl h, name_no_call t h, name_no_word (codes "EXTRACT") t refl refl h, name_no_function t h, name_no_word (codes "DATE") t refl refl h) refl

  function_primary : (t : Lexeme) (f : SetFunction) (ts : List Lexeme) → set_function_of t ≡ Some f → primary_at inner (t ∷ ts) ≡ as_clause (set_function_at inner f ts)
  unfolding primary_at
  function_primary t Count ts e = let is = word_is (codes "COUNT") t (function_word t Count e) in rw (is.0, is.1) refl
  function_primary t Sum ts e = let is = word_is (codes "SUM") t (function_word t Sum e) in rw (is.0, is.1) refl
  function_primary t Avg ts e = let is = word_is (codes "AVG") t (function_word t Avg e) in rw (is.0, is.1) refl
  function_primary t Min ts e = let is = word_is (codes "MIN") t (function_word t Min e) in rw (is.0, is.1) refl
  function_primary t Max ts e = let is = word_is (codes "MAX") t (function_word t Max e) in rw (is.0, is.1) refl

  call_primary : (t : Lexeme) (f : Function) (ts : List Lexeme) → function_of t ≡ Some f → primary_at inner (t ∷ ts) ≡ as_clause (call_at inner f ts)
  unfolding primary_at
  call_primary t f ts e =
      let is = word_is (call_word_of f) t (call_word t f e) in
      let number : is_number t ≡ false = rw is.0 refl in
      let string : is_string t ≡ false = rw is.0 refl in
      let opening : is_symbol (codes "(") t ≡ false = rw is.0 refl in
      rw (number, string, opening, call_no_case t f e, e) refl

  date_step : (d : Dated) (ts rest : List Lexeme) (o : Option (Expression × List Lexeme)) → date_at ts ≡ Some (d, rest) → o ≡ (date_at ts >>= (λ x. Some (date x.0.string x.0.intervals, x.1))) → o ≡ Some (date d.string d.intervals, rest)
  date_step d ts rest o e same = same ∙ rw e refl

  date_literal : (t : Lexeme) (us : List Lexeme) → IsTrue (is_word (codes "DATE") t) → (d : Dated) (rest : List Lexeme) → date_at (t ∷ us) ≡ Some (d, rest) → primary_at inner (t ∷ us) ≡ Some (expression (date d.string d.intervals), rest)
  unfolding primary_at
  date_literal t us h d rest e =
      let is = word_is (codes "DATE") t h in
      let number : is_number t ≡ false = rw is.0 refl in
      let string : is_string t ≡ false = rw is.0 refl in
      let opening : is_symbol (codes "(") t ≡ false = rw is.0 refl in
      let case : is_word (codes "CASE") t ≡ false = rw (is.0, is.1) refl in
      let no_call : function_of t ≡ None = rw (is.0, is.1) refl in
      let extract_word : is_word (codes "EXTRACT") t ≡ false = rw (is.0, is.1) refl in
      let no_function : set_function_of t ≡ None = rw (is.0, is.1) refl in
      rw (number, string, opening, case, no_call, extract_word, no_function, h) (as_clause_is _ (date d.string d.intervals) rest (date_step d (t ∷ us) rest _ e refl))

  date_primary : (d : Dated) (ts us rest : List Lexeme) → Front (is_word (codes "DATE")) ts us → date_at ts ≡ Some (d, rest) → primary_at inner ts ≡ Some (expression (date d.string d.intervals), rest)
  date_primary d _ us rest (front t _ h) e = date_literal t us h d rest e

  primary_is : (e : Expression) (ts rest : List Lexeme) → IsPrimary Inner e ts rest → EndsPrimary rest → primary_at inner ts ≡ Some (expression e, rest)
  unfolding primary_at
  primary_is _ _ _ (a_number t rest h) ends = rw h refl
  primary_is _ _ _ (a_string t rest h) ends = rw (string_no_number t h, h) refl
  primary_is _ _ _ (a_date d ts rest h) ends = let b = date_begins d ts rest h in date_primary d ts b.0 rest b.1 (date_is d ts rest h ends.date)
  primary_is _ _ _ (a_column t rest h) ends = name_primary t rest h ∙ as_clause_is (column_at (t ∷ rest)) (column None t.octets) rest (column_is t rest h ends.no_point)
  primary_is _ _ _ (a_qualified_column q p t rest h f i) ends = name_primary q (p ∷ t ∷ rest) h ∙ as_clause_is (column_at (q ∷ p ∷ t ∷ rest)) (column (Some q.octets) t.octets) rest (qualified_is q p t rest h f i)
  primary_is _ _ _ (brackets e opening closing ts rest f h g) ends = let is = symbol_is (codes "(") opening f in rw (is.0, is.1) (brackets_are (expression e) closing ts rest h g)
  primary_is _ _ _ (a_searched_case b bs other t ts us rest w h end) ends = let is = word_is (codes "CASE") t w in rw (is.0, is.1) (as_clause_is (case_at inner ts) _ rest (searched_is Inner inner reads b bs other ts us rest h end))
  primary_is _ _ _ (a_simple_case x b bs other t ts us vs rest w i h end) ends = let is = word_is (codes "CASE") t w in rw (is.0, is.1) (as_clause_is (case_at inner ts) _ rest (simple_is Inner inner reads x b bs other ts us vs rest i h end))
  primary_is _ _ _ (a_call f e es t o c ts us rest w p i h g many) ends = call_primary t f (o ∷ ts) w ∙ as_clause_is (call_at inner f (o ∷ ts)) _ rest (call_is Inner inner reads f e es o c ts us rest p i h g many)
  primary_is _ _ _ (an_extract field e t o n m c ts rest w f g h i k) ends = let is = word_is (codes "EXTRACT") t w in rw (is.0, is.1) (as_clause_is (extract_at inner (o ∷ n ∷ m ∷ ts)) _ rest (extract_is Inner inner reads field e o n m c ts rest f g h i k))
  primary_is _ _ _ (a_row_count t o s c rest w f g h) ends = let is = word_is (codes "COUNT") t w in rw (is.0, is.1) (as_clause_is (set_function_at inner Count (o ∷ s ∷ c ∷ rest)) _ rest (rows_are Inner inner reads o s c rest f g h))
  primary_is _ _ _ (a_set_function f e t o c ts us rest w g all h i) ends = function_primary t f (o ∷ ts) w ∙ as_clause_is (set_function_at inner f (o ∷ ts)) _ rest (set_function_is Inner inner reads f e o c ts us rest g all h i)

  bracketed_is : (c : Condition) (ts rest : List Lexeme) → IsBracketed Inner c ts rest → primary_at inner ts ≡ Some (condition c, rest)
  unfolding primary_at
  bracketed_is _ _ _ (between_brackets c opening closing ts rest f h g) = let is = symbol_is (codes "(") opening f in rw (is.0, is.1) (brackets_are (condition c) closing ts rest h g)

  primary_shorter : (e : Expression) (ts rest : List Lexeme) → IsPrimary Inner e ts rest → length rest < length ts
  primary_shorter _ _ _ (a_number t rest h) = omega arith
  primary_shorter _ _ _ (a_string t rest h) = omega arith
  primary_shorter _ _ _ (a_date d ts rest h) = date_shorter d ts rest h
  primary_shorter _ _ _ (a_column t rest h) = omega arith
  primary_shorter _ _ _ (a_qualified_column q p t rest h f i) = omega arith
  primary_shorter _ _ _ (brackets e opening closing ts rest f h g) = let s = reads.shorter (expression e) ts (closing ∷ rest) h in omega (arith, s)
  primary_shorter _ _ _ (a_searched_case b bs other t ts us rest w h end) =
      let s = branches_shorter Inner inner reads true (b ∷ bs) ts us h in
      let z = else_shorter Inner inner reads other us rest end in
      omega (arith, s, z)
  primary_shorter _ _ _ (a_simple_case x b bs other t ts us vs rest w i h end) =
      let q = reads.shorter (expression x) ts us i in
      let s = branches_shorter Inner inner reads false (b ∷ bs) us vs h in
      let z = else_shorter Inner inner reads other vs rest end in
      omega (arith, q, s, z)
  primary_shorter _ _ _ (a_call f e es t o c ts us rest w p i h g many) =
      let q = reads.shorter (expression e) ts us i in
      let s = further_down Inner inner reads es us (c ∷ rest) h in
      omega (arith, q, s)
  primary_shorter _ _ _ (an_extract field e t o n m c ts rest w f g h i k) = let q = reads.shorter (expression e) ts (c ∷ rest) i in omega (arith, q)
  primary_shorter _ _ _ (a_row_count t o s c rest w f g h) = omega arith
  primary_shorter _ _ _ (a_set_function f e t o c ts us rest w g all h i) =
      let q = reads.shorter (expression e) us (c ∷ rest) h in
      let s = all_shorter ts us all in
      omega (arith, q, s)

  primary_begins : (e : Expression) (ts rest : List Lexeme) → IsPrimary Inner e ts rest → BeginsPrimary ts
  primary_begins _ _ _ (a_number t rest h) = with_number t rest h
  primary_begins _ _ _ (a_string t rest h) = with_string t rest h
  primary_begins _ _ _ (a_date d ts rest h) = let b = date_begins d ts rest h in with_date ts b.0 b.1
  primary_begins _ _ _ (a_column t rest h) = with_name t rest h
  primary_begins _ _ _ (a_qualified_column q p t rest h f i) = with_name q (p ∷ t ∷ rest) h
  primary_begins _ _ _ (brackets e opening closing ts rest f h g) = with_bracket opening ts f
  primary_begins _ _ _ (a_searched_case b bs other t ts us rest w h end) = with_word (codes "CASE") t ts refl refl refl w
  primary_begins _ _ _ (a_simple_case x b bs other t ts us vs rest w i h end) = with_word (codes "CASE") t ts refl refl refl w
  primary_begins _ _ _ (a_call f e es t o c ts us rest w p i h g many) = with_word (call_word_of f) t (o ∷ ts) (call_begins f).begins (call_begins f).no_not (call_begins f).folded_is (call_word t f w)
  primary_begins _ _ _ (an_extract field e t o n m c ts rest w f g h i k) = with_word (codes "EXTRACT") t (o ∷ n ∷ m ∷ ts) refl refl refl w
  primary_begins _ _ _ (a_row_count t o s c rest w f g h) = with_word (codes "COUNT") t (o ∷ s ∷ c ∷ rest) refl refl refl w
  primary_begins _ _ _ (a_set_function f e t o c ts us rest w g all h i) = with_word (word_of f) t (o ∷ ts) (word_begins f).begins (word_begins f).no_not (word_begins f).folded_is (function_word t f w)

  bracketed_shorter : (c : Condition) (ts rest : List Lexeme) → IsBracketed Inner c ts rest → length rest < length ts
  bracketed_shorter _ _ _ (between_brackets c opening closing ts rest f h g) = let s = reads.shorter (condition c) ts (closing ∷ rest) h in omega (arith, s)

  bracketed_front : (c : Condition) (ts rest : List Lexeme) → IsBracketed Inner c ts rest → BeginsPrimary ts
  bracketed_front _ _ _ (between_brackets c opening closing ts rest f h g) = with_bracket opening ts f

  pub bracketed_begins : (c : Condition) (ts rest : List Lexeme) → IsBracketed Inner c ts rest → Begins ts
  bracketed_begins c ts rest h = (bracketed_front c ts rest h).begins

  -- ---- a factor

  signed_made : (s : Sign) (c : Clause) (e : Expression) (ts us rest : List Lexeme) → Found sign_of s ts us → Of (IsPrimary Inner) (IsBracketed Inner) c us rest → c ≡ expression e → IsFactor Inner (signed s e) ts rest
  signed_made _ c e _ us rest (found s t _ f) h same = signed_factor s e t us rest f (subst (λ y. Of (IsPrimary Inner) (IsBracketed Inner) y us rest) same h)

  to_factor : (c : Clause) (ts rest : List Lexeme) → Of (IsPrimary Inner) (IsBracketed Inner) c ts rest → Of (IsFactor Inner) (IsBracketed Inner) c ts rest
  to_factor (expression e) ts rest h = unsigned_factor e ts rest h
  to_factor (condition c) ts rest h = h

  factor_takes : (ts : List Lexeme) (x : Clause × List Lexeme) → factor_at inner ts ≡ Some x → Of (IsFactor Inner) (IsBracketed Inner) x.0 ts x.1
  unfolding factor_at
  factor_takes ts x e =
      elim (cases_option (token_at sign_of ts)) [
        | inl none ↦ to_factor x.0 ts x.1 (primary_takes ts x (rw none at e))
        | inr s ↦ (
            let c = bind_some (primary_at inner s.0.1) _ x (rw s.1 at e) in
            let d = bind_some (the_expression c.0.0) _ x c.2 in
            subst (λ (y : Clause × List Lexeme). Of (IsFactor Inner) (IsBracketed Inner) y.0 ts y.1) (some_same (expression (signed s.0.0 d.0), c.0.1) x d.2)
            (signed_made s.0.0 c.0.0 d.0 ts s.0.1 c.0.1 (token_takes sign_of ts s.0 s.1) (primary_takes s.0.1 c.0 c.1) (the_expression_is c.0.0 d.0 d.1)))
      ]

  factor_of : (e : Expression) (ts rest : List Lexeme) → IsFactor Inner e ts rest → EndsFactor 7 rest → factor_at inner ts ≡ Some (expression e, rest)
  unfolding factor_at
  factor_of _ _ _ (unsigned_factor e ts rest h) ends = rw ((primary_begins e ts rest h).no_sign) (primary_is e ts rest h (ends_primary 7 rest (omega arith) ends))
  factor_of _ _ _ (signed_factor s e t ts rest f h) ends = rw (token_is sign_of t ts s f, primary_is e ts rest h (ends_primary 7 rest (omega arith) ends)) refl

  factor_down : (e : Expression) (ts rest : List Lexeme) → IsFactor Inner e ts rest → length rest < length ts
  factor_down _ _ _ (unsigned_factor e ts rest h) = primary_shorter e ts rest h
  factor_down _ _ _ (signed_factor s e t ts rest f h) = let z = primary_shorter e ts rest h in omega (arith, z)

  factor_front : (e : Expression) (ts rest : List Lexeme) → IsFactor Inner e ts rest → Begins ts
  factor_front _ _ _ (unsigned_factor e ts rest h) = (primary_begins e ts rest h).begins
  factor_front _ _ _ (signed_factor s e t ts rest f h) = with_sign t ts s f

  pub expression_begins : (e : Expression) (ts rest : List Lexeme) → IsValueExpression Inner e ts rest → Begins ts
  expression_begins e ts rest h = series_begins Begins (λ a us vs f. series_begins Begins factor_front a us vs f) e ts rest h

  factor_is : (c : Clause) (ts rest : List Lexeme) → Of (IsFactor Inner) (IsBracketed Inner) c ts rest → EndsFactor 7 rest → factor_at inner ts ≡ Some (c, rest)
  unfolding factor_at
  factor_is (condition c) ts rest h ends = rw ((bracketed_front c ts rest h).no_sign) (bracketed_is c ts rest h)
  factor_is (expression e) ts rest h ends = factor_of e ts rest h ends

  factor_shorter : (c : Clause) (ts rest : List Lexeme) → Of (IsFactor Inner) (IsBracketed Inner) c ts rest → length rest < length ts
  factor_shorter (condition c) ts rest h = bracketed_shorter c ts rest h
  factor_shorter (expression e) ts rest h = factor_down e ts rest h

  factor_begins : (c : Clause) (ts rest : List Lexeme) → Of (IsFactor Inner) (IsBracketed Inner) c ts rest → Starts ts
  factor_begins (condition c) ts rest h = (bracketed_begins c ts rest h).starts
  factor_begins (expression e) ts rest h = (factor_front e ts rest h).starts

  pub factor_exact : Exact (Of (IsFactor Inner) (IsBracketed Inner)) (EndsFactor 7) (factor_at inner)
  factor_exact = record { takes = factor_takes; is = factor_is; shorter = factor_shorter; begins = factor_begins }

-- ---- terms and sums

alone_in : (F : Expression → List Lexeme → List Lexeme → Type 0) (B : Condition → List Lexeme → List Lexeme → Type 0) (meaning : Lexeme → Option Operator) (p : Clause) (ts rest : List Lexeme) → Of F B p ts rest → Of (λ e us vs. Series F (IsOperator meaning) F arithmetic e us vs) B p ts rest
alone_in F B meaning (expression e) ts rest h = first e ts rest h
alone_in F B meaning (condition c) ts rest h = h

sorts_in : (F : Expression → List Lexeme → List Lexeme → Type 0) (B : Condition → List Lexeme → List Lexeme → Type 0) (meaning : Lexeme → Option Operator) (p : Clause) (ts rest : List Lexeme) → Of (λ e us vs. Series F (IsOperator meaning) F arithmetic e us vs) B p ts rest
    → ((a : Expression) × (p ≡ expression a) × Series F (IsOperator meaning) F arithmetic a ts rest) ⊎ Of F B p ts rest
sorts_in F B meaning (expression e) ts rest h = inl (e, refl, h)
sorts_in F B meaning (condition c) ts rest h = inr h

arithmetic_parts : (o : Operator) (p q r : Clause) → join_arithmetic o p q ≡ Some r → (a : Expression) × (b : Expression) × (p ≡ expression a) × (q ≡ expression b) × (r ≡ expression (arithmetic o a b))
arithmetic_parts o (expression a) (expression b) r e = (a, b, refl, refl, sym (some_same (expression (arithmetic o a b)) r e))
arithmetic_parts o (expression a) (condition d) r e = absurd cc
arithmetic_parts o (condition c) (expression b) r e = absurd cc
arithmetic_parts o (condition c) (condition d) r e = absurd cc

-- operators of one rank between expressions
arithmetic_exact : (F : Expression → List Lexeme → List Lexeme → Type 0) (B : Condition → List Lexeme → List Lexeme → Type 0) (meaning : Lexeme → Option Operator) (EndsR EndsS : List Lexeme → Type 0) (read : List Lexeme → Option (Clause × List Lexeme))
    → ((rest : List Lexeme) → EndsS rest → EndsR rest) → ((rest : List Lexeme) → EndsS rest → token_at meaning rest ≡ None) → ((o : Operator) (a : Expression) (us vs rest : List Lexeme) → IsOperator meaning o us vs → F a vs rest → EndsR us)
    → Exact (Of F B) EndsR read → Exact (Of (λ e us vs. Series F (IsOperator meaning) F arithmetic e us vs) B) EndsS (series_at read (token_at meaning) read join_arithmetic)
arithmetic_exact F B meaning EndsR EndsS read ends none between =
    rank_exact expression meaning F arithmetic join_arithmetic (Of F B) (Of (λ e us vs. Series F (IsOperator meaning) F arithmetic e us vs) B) EndsR EndsS read
    record {
      operand = λ a ts rest h. h;
      clause = λ a ts rest h. h;
      alone = alone_in F B meaning;
      whole = λ a ts rest h. h;
      series = λ a ts rest h. h;
      sorts = sorts_in F B meaning;
      joins = λ o a b. refl;
      parts = arithmetic_parts;
      ends = ends;
      none = none;
      between = between;
    }

interval_none : (t : Lexeme) (ts : List Lexeme) → word_at (codes "INTERVAL") ts ≡ None → interval_sign_at (t ∷ ts) ≡ None
unfolding interval_sign_at
interval_none t ts e =
    elim (cases_option (sign_of t)) [
      | inl none ↦ rw (token_not sign_of t ts none) refl
      | inr s ↦ rw (token_is sign_of t ts s.0 s.1, e) refl
    ]

module _ (Inner : Clause → List Lexeme → List Lexeme → Type 0) (inner : List Lexeme → Option (Clause × List Lexeme)) (reads : Exact Inner (Stops 1) inner) where
  multiplication_ends : (o : Operator) (ts rest : List Lexeme) → IsOperator multiplication_of o ts rest → EndsFactor 7 ts
  multiplication_ends _ _ _ (operator o t rest h) =
      let s = multiplication_strong t o h in
      record { stops = stops_at 7 t rest (omega (arith, s)); no_interval = no_interval (t ∷ rest) (token_not sign_of t rest (never t o h)) }
    where
      never : (t : Lexeme) (o : Operator) → multiplication_of t ≡ Some o → sign_of t ≡ None
      never t o h =
          elim (multiplication_symbol t o h) [
            | inl e ↦ (let is = symbol_is (codes "*") t e in rw (is.0, is.1) refl)
            | inr e ↦ (let is = symbol_is (codes "/") t e in rw (is.0, is.1) refl)
          ]

  pub term_exact : Exact (Of (IsTerm Inner) (IsBracketed Inner)) (EndsFactor 6) (term_at inner)
  unfolding term_at
  term_exact =
      arithmetic_exact (IsFactor Inner) (IsBracketed Inner) multiplication_of (EndsFactor 7) (EndsFactor 6) (factor_at inner)
      (λ rest e. record { stops = stops_weaker 6 7 rest (omega arith) e.stops; no_interval = e.no_interval })
      (λ rest e. stops_token 6 multiplication_of (λ t o h. let s = multiplication_strong t o h in omega (arith, s)) rest e.stops)
      (λ o a us vs rest h f. multiplication_ends o us vs h)
      (factor_exact Inner inner reads)

  addition_ends : (o : Operator) (ts rest : List Lexeme) → IsOperator addition_of o ts rest → Starts rest → EndsFactor 6 ts
  addition_ends _ _ _ (operator o t rest h) begins =
      let s = addition_strong t o h in
      record { stops = stops_at 6 t rest (omega (arith, s)); no_interval = interval_none t rest (starts_not (codes "INTERVAL") refl refl rest begins) }

  pub sum_exact : Exact (Of (IsValueExpression Inner) (IsBracketed Inner)) (Stops 5) (sum_at inner)
  unfolding sum_at
  sum_exact =
      arithmetic_exact (IsTerm Inner) (IsBracketed Inner) addition_of (EndsFactor 6) (Stops 5) (term_at inner)
      (λ rest e. let f = stops_factor 5 rest (omega arith) e in record { stops = stops_weaker 5 6 rest (omega arith) e; no_interval = f.no_interval })
      (λ rest e. stops_token 5 addition_of (λ t o h. let s = addition_strong t o h in omega (arith, s)) rest e)
      (λ o a us vs rest h f. addition_ends o us vs h (term_exact.begins (expression a) vs rest f))
      term_exact
