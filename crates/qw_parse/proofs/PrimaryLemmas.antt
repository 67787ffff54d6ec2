-- Primaries are read exactly, where what stands in brackets and in CASE is.
use Rattle.std.proofs.Common.{◌≡◌, ℕ, ◌<◌, ◌≤◌, Bool, true, false, List, [], ◌∷◌, length, Option, Some, None, refl, sym, ap, subst, ◌∙◌, arith, inl, inr}
use Rattle.std.specs.Prelude.{codes, IsTrue}
use Rattle.std.proofs.lemmas.Bool.{cases_Bool, false≢true}
use Rattle.qw_token.specs.Token.{Lexeme}
use Rattle.qw_token.specs.declared.token.Kind.{Kind}
use Rattle.qw_token.specs.declared.token.Kind.TheVariants.{Word, DelimitedIdentifier, CharacterString, Number, Symbol}
use Rattle.qw_scalar.specs.declared.expression.Field.{Field}
use Rattle.qw_scalar.specs.declared.expression.Function.{Function}
use Rattle.qw_ast.specs.Grammar.{folded}
use Rattle.qw_ast.specs.Syntax.{Expression, null, extract, searched_case, simple_case, call, Condition, bracketed, Clause, condition, expression, Branching}
use Rattle.qw_ast.specs.ScriptGrammar.{is_string_kind, is_number_kind, is_symbol_kind, is_word, is_symbol, is_number, is_string, is_name, field_of, function_of, takes, is_when, is_condition, IsOperator, operator, AreFurther, IsResult, null_result, result, Branch, IsBranch, branch, AreBranches, IsElse, no_else, else_result, IsExpressionOf, arguments, branching, IsPrimary, a_searched_case, a_simple_case, a_call, an_extract}
use Rattle.qw_parse.specs.Inner.Readers.{token_at, one_at, word_at, symbol_at, further_at, expression_at, before_at, listing_at, the_expression, result_at, same, branch_at, branches_at, else_at, case_operand_at, is_absent, case_of, chain_of, chain_at, case_at, call_of, call_at, extract_at, as_clause}
use Rattle.qw_parse.proofs.LoopLemmas.{bind_some, some_same, cases_option}
use Rattle.qw_parse.proofs.TokenLemmas.{number_kind, string_kind, word_is, Front, front, one_takes, one_is, Found, found, token_takes, token_is, choose, strength, Stops, strong_word}
use Rattle.qw_parse.proofs.ExactLemmas.{Starts, starts_not, Exact, operator_stops, series_front, list_takes, list_is, list_shorter, comma_stops, no_comma, further_takes, further_is, further_shorter, further_ends, other_word, word_stops, symbol_stops, EndsDate}

pub the_expression_is : (c : Clause) (e : Expression) → the_expression c ≡ Some e → c ≡ expression e
the_expression_is (condition c) e h = absurd cc
the_expression_is (expression d) e h = ap expression (some_same d e h)

same_is : (a b : Bool) → same a b ≡ true → a ≡ b
same_is true b e = sym e
same_is false true e = absurd cc
same_is false false e = refl

is_same : (a : Bool) → same a a ≡ true
is_same true = refl
is_same false = refl

when_weak : (t : Lexeme) (o : Unit {0}) → is_when t ≡ Some o → strength t < 1
when_weak t o e =
    elim (cases_Bool (is_word (codes "WHEN") t)) [
      | inl h ↦ (let s = strong_word (codes "WHEN") 0 t refl refl h in omega (arith, s))
      | inr h ↦ absurd (let none : None ≡ Some o = rw h at e in cc)
    ]

when_not : (w : List ℕ) (t : Lexeme) (rest : List Lexeme) → folded w ≡ w → is_when (record { kind = Word; octets = w }) ≡ None → IsTrue (is_word w t) → token_at is_when (t ∷ rest) ≡ None
unfolding token_at
when_not w t rest f e h = let is = word_is w t h in rw (is.0, is.1) (rw (rw f at e) refl)

-- ---- kinds of tokens

pub string_no_number : (t : Lexeme) → is_string t ≡ true → is_number t ≡ false
string_no_number t h = rw (string_kind t h) refl

-- a name is of no other kind
pub name_kind : (t : Lexeme) (k : Kind) → t.kind ≡ k → is_name t ≡ true → (is_number_kind k ≡ false) × (is_string_kind k ≡ false) × (is_symbol_kind k ≡ false)
name_kind t Word e h = (refl, refl, refl)
name_kind t DelimitedIdentifier e h = (refl, refl, refl)
name_kind t CharacterString e h = absurd (let no : false ≡ true = rw e at h in cc)
name_kind t Number e h = absurd (let no : false ≡ true = rw e at h in cc)
name_kind t Symbol e h = absurd (let no : false ≡ true = rw e at h in cc)

pub name_no_symbol : (s : List ℕ) (t : Lexeme) → is_name t ≡ true → is_symbol s t ≡ false
name_no_symbol s t h = let k = name_kind t t.kind refl h in rw k.2 refl

pub number_no_symbol : (s : List ℕ) (t : Lexeme) → is_number t ≡ true → is_symbol s t ≡ false
number_no_symbol s t h = rw (number_kind t h) refl

pub string_no_symbol : (s : List ℕ) (t : Lexeme) → is_string t ≡ true → is_symbol s t ≡ false
string_no_symbol s t h = rw (string_kind t h) refl

pub number_no_word : (w : List ℕ) (t : Lexeme) → is_number t ≡ true → is_word w t ≡ false
number_no_word w t h = rw (number_kind t h) refl

pub string_no_word : (w : List ℕ) (t : Lexeme) → is_string t ≡ true → is_word w t ≡ false
string_no_word w t h = rw (string_kind t h) refl

pub name_no_word : (w : List ℕ) (t : Lexeme) → folded w ≡ w → is_name (record { kind = Word; octets = w }) ≡ false → is_name t ≡ true → is_word w t ≡ false
name_no_word w t f e h =
    elim (cases_Bool (is_word w t)) [
      | inl is ↦ absurd (
          let parts = word_is w t is in
          let never : is_name t ≡ false = rw (parts.0, parts.1) (rw f at e) in
          false≢true (sym never ∙ h))
      | inr is_not ↦ is_not
    ]

pub front_is : (test : Lexeme → Bool) (ts rest : List Lexeme) → Front test ts rest → one_at test ts ≡ Some rest
front_is test _ _ (front t rest h) = one_is test t rest h

-- ---- clauses of one sort or the other

abbrev pub Of : (Expression → List Lexeme → List Lexeme → Type 0) → (Condition → List Lexeme → List Lexeme → Type 0) → Clause → List Lexeme → List Lexeme → Type 0
Of E C (expression e) ts rest = E e ts rest
Of E C (condition c) ts rest = C c ts rest

-- a condition in brackets
pub data IsBracketed (Inner : Clause → List Lexeme → List Lexeme → Type 0) : Condition → List Lexeme → List Lexeme → Type 0 where
  between_brackets : (c : Condition) (opening closing : Lexeme) (ts rest : List Lexeme) → IsTrue (is_symbol (codes "(") opening) → Inner (condition c) ts (closing ∷ rest) → IsTrue (is_symbol (codes ")") closing) → IsBracketed Inner (bracketed c) (opening ∷ ts) rest

-- what stops a primary: no point, and what stops a date
pub record EndsPrimary (ts : List Lexeme) : Type 0 where
  pub no_point : symbol_at (codes ".") ts ≡ None
  pub date : EndsDate ts

pub as_clause_some : (o : Option (Expression × List Lexeme)) (x : Clause × List Lexeme) → as_clause o ≡ Some x → (y : Expression × List Lexeme) × (o ≡ Some y) × ((expression y.0, y.1) ≡ x)
unfolding as_clause
as_clause_some None x e = absurd cc
as_clause_some (Some y) x e = (y, refl, some_same (expression y.0, y.1) x e)

pub as_clause_is : (o : Option (Expression × List Lexeme)) (e : Expression) (rest : List Lexeme) → o ≡ Some (e, rest) → as_clause o ≡ Some (expression e, rest)
unfolding as_clause
as_clause_is o e rest h = rw h refl

-- an expression and the symbol behind it
pub before_some : (inner : List Lexeme → Option (Clause × List Lexeme)) (symbol : List ℕ) (ts : List Lexeme) (y : Expression × List Lexeme) → before_at inner symbol ts ≡ Some y → (us : List Lexeme) × (expression_at inner ts ≡ Some (y.0, us)) × (symbol_at symbol us ≡ Some y.1)
unfolding before_at
before_some inner symbol ts y h =
    let e = bind_some (expression_at inner ts) _ y h in
    let rest = bind_some (symbol_at symbol e.0.1) _ y e.2 in
    let same = some_same (e.0.0, rest.0) y rest.2 in
    (e.0.1, e.1 ∙ ap (λ (z : Expression × List Lexeme). Some (z.0, e.0.1)) same, rest.1 ∙ ap (λ (z : Expression × List Lexeme). Some z.1) same)

-- what stands between CASE and WHEN
data IsCaseOperand (Inner : Clause → List Lexeme → List Lexeme → Type 0) : Option Expression → List Lexeme → List Lexeme → Type 0 where
  no_operand : (rest : List Lexeme) → IsCaseOperand Inner None rest rest
  an_operand : (e : Expression) (ts rest : List Lexeme) → Inner (expression e) ts rest → IsCaseOperand Inner (Some e) ts rest

module _ (Inner : Clause → List Lexeme → List Lexeme → Type 0) (inner : List Lexeme → Option (Clause × List Lexeme)) (reads : Exact Inner (Stops 1) inner) where
  -- ---- an expression

  pub expression_takes : (ts : List Lexeme) (x : Expression × List Lexeme) → expression_at inner ts ≡ Some x → Inner (expression x.0) ts x.1
  unfolding expression_at
  expression_takes ts x e =
      let c = bind_some (inner ts) _ x e in
      let d = bind_some (the_expression c.0.0) _ x c.2 in
      subst (λ (y : Expression × List Lexeme). Inner (expression y.0) ts y.1) (some_same (d.0, c.0.1) x d.2)
      (subst (λ y. Inner y ts c.0.1) (the_expression_is c.0.0 d.0 d.1) (reads.takes ts c.0 c.1))

  pub expression_is : (e : Expression) (ts rest : List Lexeme) → Inner (expression e) ts rest → Stops 1 rest → expression_at inner ts ≡ Some (e, rest)
  unfolding expression_at
  expression_is e ts rest h ends = rw (reads.is (expression e) ts rest h ends) refl

  pub expression_exact : Exact (IsExpressionOf Inner) (Stops 1) (expression_at inner)
  expression_exact = record {
    takes = expression_takes;
    is = expression_is;
    shorter = λ e ts rest h. reads.shorter (expression e) ts rest h;
    begins = λ e ts rest h. reads.begins (expression e) ts rest h;
  }

  -- ---- results and branches

  result_takes : (ts : List Lexeme) (x : Expression × List Lexeme) → result_at inner ts ≡ Some x → IsResult Inner x.0 ts x.1
  unfolding result_at
  result_takes ts x e =
      elim (cases_option (word_at (codes "NULL") ts)) [
        | inl none ↦ result x.0 ts x.1 (expression_exact.takes ts x (rw none at e))
        | inr us ↦ subst (λ (y : Expression × List Lexeme). IsResult Inner y.0 ts y.1) (some_same (null, us.0) x (rw us.1 at e)) (made ts us.0 (one_takes (is_word (codes "NULL")) ts us.0 us.1))
      ]
    where
      made : (ts us : List Lexeme) → Front (is_word (codes "NULL")) ts us → IsResult Inner null ts us
      made _ _ (front t rest h) = null_result t rest h

  result_is : (e : Expression) (ts rest : List Lexeme) → IsResult Inner e ts rest → Stops 1 rest → result_at inner ts ≡ Some (e, rest)
  unfolding result_at
  result_is _ _ _ (null_result t rest h) ends = rw (one_is (is_word (codes "NULL")) t rest h) refl
  result_is _ _ _ (result e ts rest h) ends = rw (starts_not (codes "NULL") refl refl ts (reads.begins (expression e) ts rest h)) (expression_exact.is e ts rest h ends)

  pub result_shorter : (e : Expression) (ts rest : List Lexeme) → IsResult Inner e ts rest → length rest < length ts
  result_shorter _ _ _ (null_result t rest h) = omega arith
  result_shorter _ _ _ (result e ts rest h) = reads.shorter (expression e) ts rest h

  module _ (searched : Bool) where
    branch_takes : (ts : List Lexeme) (x : Branch × List Lexeme) → branch_at inner searched ts ≡ Some x → IsBranch Inner searched x.0 ts x.1
    unfolding branch_at
    branch_takes ts x e =
        let c = bind_some (inner ts) _ x e in
        elim (choose (same (is_condition c.0.0) searched) _ None x c.2) [
          | inr h ↦ absurd (let none : None ≡ Some x = h.1 in cc)
          | inl h ↦ (
              let us = bind_some (word_at (codes "THEN") c.0.1) _ x h.1 in
              let r = bind_some (result_at inner us.0) _ x us.2 in
              subst (λ (y : Branch × List Lexeme). IsBranch Inner searched y.0 ts y.1) (some_same (record { test = c.0.0; result = r.0.0 }, r.0.1) x r.2)
              (made c.0.0 r.0.0 ts c.0.1 us.0 r.0.1 (reads.takes ts c.0 c.1) (same_is (is_condition c.0.0) searched h.0) (one_takes (is_word (codes "THEN")) c.0.1 us.0 us.1) (result_takes us.0 r.0 r.1)))
        ]
      where
        made : (c : Clause) (e : Expression) (ts vs us rest : List Lexeme) → Inner c ts vs → is_condition c ≡ searched → Front (is_word (codes "THEN")) vs us → IsResult Inner e us rest → IsBranch Inner searched (record { test = c; result = e }) ts rest
        made c e ts _ us rest h s (front t _ f) r = branch c e t ts us rest h s f r

    branch_is : (b : Branch) (ts rest : List Lexeme) → IsBranch Inner searched b ts rest → Stops 1 rest → branch_at inner searched ts ≡ Some (b, rest)
    unfolding branch_at
    branch_is _ _ _ (branch c e word ts us rest h s f r) ends =
        rw (reads.is c ts (word ∷ us) h (word_stops (codes "THEN") 1 word us refl refl (omega arith) f), s, is_same searched, one_is (is_word (codes "THEN")) word us f, result_is e us rest r ends) refl

    branch_shorter : (b : Branch) (ts rest : List Lexeme) → IsBranch Inner searched b ts rest → length rest < length ts
    branch_shorter _ _ _ (branch c e word ts us rest h s f r) =
        let a = reads.shorter c ts (word ∷ us) h in
        let b = result_shorter e us rest r in
        omega (arith, a, b)

    branch_begins : (b : Branch) (ts rest : List Lexeme) → IsBranch Inner searched b ts rest → Starts ts
    branch_begins _ _ _ (branch c e word ts us rest h s f r) = reads.begins c ts (word ∷ us) h

    pub branch_exact : Exact (IsBranch Inner searched) (Stops 1) (branch_at inner searched)
    branch_exact = record { takes = branch_takes; is = branch_is; shorter = branch_shorter; begins = branch_begins }

    branches_takes : (ts : List Lexeme) (x : List Branch × List Lexeme) → branches_at inner searched ts ≡ Some x → AreBranches Inner searched x.0 ts x.1
    unfolding branches_at
    branches_takes ts x e = list_takes is_when (Stops 1) branch_exact ts x e

    branches_are : (bs : List Branch) (ts rest : List Lexeme) → AreBranches Inner searched bs ts rest → Stops 1 rest → token_at is_when rest ≡ None → branches_at inner searched ts ≡ Some (bs, rest)
    unfolding branches_at
    branches_are bs ts rest h ends none = list_is is_when (Stops 1) branch_exact (λ o us vs between. operator_stops is_when 1 when_weak o us vs between) bs ts rest h ends none

    pub branches_shorter : (bs : List Branch) (ts rest : List Lexeme) → AreBranches Inner searched bs ts rest → length rest ≤ length ts
    branches_shorter bs ts rest h = list_shorter is_when (Stops 1) branch_exact bs ts rest h

    -- branches begin with WHEN
    branches_front : (b : Branch) (bs : List Branch) (ts rest : List Lexeme) → AreBranches Inner searched (b ∷ bs) ts rest → (us : List Lexeme) × Front (is_word (codes "WHEN")) ts us
    branches_front b bs ts rest h =
        elim (series_front (λ ts. (us : List Lexeme) × Front (is_word (codes "WHEN")) ts us) begins (b ∷ bs) ts rest h) [
          | inl none ↦ absurd (let e : b ∷ bs ≡ [] = none.0 in cc)
          | inr hit ↦ hit
        ]
      where
        begins : (o : Unit {0}) (us vs : List Lexeme) → IsOperator is_when o us vs → (ws : List Lexeme) × Front (is_word (codes "WHEN")) us ws
        begins _ _ _ (operator o t rest e) =
            elim (cases_Bool (is_word (codes "WHEN") t)) [
              | inl h ↦ (rest, front t rest h)
              | inr h ↦ absurd (let none : None ≡ Some o = rw h at e in cc)
            ]

  -- ---- ELSE

  else_takes : (ts : List Lexeme) (x : Expression × List Lexeme) → else_at inner ts ≡ Some x → IsElse Inner x.0 ts x.1
  unfolding else_at
  else_takes ts x e =
      elim (cases_option (word_at (codes "ELSE") ts)) [
        | inl none ↦ (
            let us = bind_some (word_at (codes "END") ts) _ x (rw none at e) in
            subst (λ (y : Expression × List Lexeme). IsElse Inner y.0 ts y.1) (some_same (null, us.0) x us.2) (made_none ts us.0 (one_takes (is_word (codes "END")) ts us.0 us.1)))
        | inr us ↦ (
            let r = bind_some (result_at inner us.0) _ x (rw us.1 at e) in
            let vs = bind_some (word_at (codes "END") r.0.1) _ x r.2 in
            subst (λ (y : Expression × List Lexeme). IsElse Inner y.0 ts y.1) (some_same (r.0.0, vs.0) x vs.2)
            (made r.0.0 ts us.0 r.0.1 vs.0 (one_takes (is_word (codes "ELSE")) ts us.0 us.1) (result_takes us.0 r.0 r.1) (one_takes (is_word (codes "END")) r.0.1 vs.0 vs.1)))
      ]
    where
      made_none : (ts us : List Lexeme) → Front (is_word (codes "END")) ts us → IsElse Inner null ts us
      made_none _ _ (front t rest h) = no_else t rest h

      made : (e : Expression) (ts us vs rest : List Lexeme) → Front (is_word (codes "ELSE")) ts us → IsResult Inner e us vs → Front (is_word (codes "END")) vs rest → IsElse Inner e ts rest
      made e _ us _ rest (front w _ a) r (front end _ b) = else_result e w end us rest a r b

  else_is : (e : Expression) (ts rest : List Lexeme) → IsElse Inner e ts rest → else_at inner ts ≡ Some (e, rest)
  unfolding else_at
  else_is _ _ _ (no_else end rest h) = rw (other_word (codes "END") (codes "ELSE") end rest refl refl h, one_is (is_word (codes "END")) end rest h) refl
  else_is _ _ _ (else_result e word end ts rest a r b) =
      rw (one_is (is_word (codes "ELSE")) word ts a, result_is e ts (end ∷ rest) r (word_stops (codes "END") 1 end rest refl refl (omega arith) b), one_is (is_word (codes "END")) end rest b) refl

  pub else_shorter : (e : Expression) (ts rest : List Lexeme) → IsElse Inner e ts rest → length rest < length ts
  else_shorter _ _ _ (no_else end rest h) = omega arith
  else_shorter _ _ _ (else_result e word end ts rest a r b) = let s = result_shorter e ts (end ∷ rest) r in omega (arith, s)

  -- neither WHEN nor what goes on with a result stands there
  else_ends : (e : Expression) (ts rest : List Lexeme) → IsElse Inner e ts rest → Stops 1 ts × (token_at is_when ts ≡ None)
  else_ends _ _ _ (no_else end rest h) = (word_stops (codes "END") 1 end rest refl refl (omega arith) h, when_not (codes "END") end rest refl refl h)
  else_ends _ _ _ (else_result e word end ts rest a r b) = (word_stops (codes "ELSE") 1 word ts refl refl (omega arith) a, when_not (codes "ELSE") word ts refl refl a)

  -- ---- CASE

  operand_takes : (ts : List Lexeme) (x : Option Expression × List Lexeme) → case_operand_at inner ts ≡ Some x → IsCaseOperand Inner x.0 ts x.1
  unfolding case_operand_at
  operand_takes ts x e =
      elim (cases_option (word_at (codes "WHEN") ts)) [
        | inl none ↦ (
            let y = bind_some (expression_at inner ts) _ x (rw none at e) in
            subst (λ (z : Option Expression × List Lexeme). IsCaseOperand Inner z.0 ts z.1) (some_same (Some y.0.0, y.0.1) x y.2) (an_operand y.0.0 ts y.0.1 (expression_takes ts y.0 y.1)))
        | inr us ↦ subst (λ (z : Option Expression × List Lexeme). IsCaseOperand Inner z.0 ts z.1) (some_same (None, ts) x (rw us.1 at e)) (no_operand ts)
      ]

  case_made : (word : Lexeme) → IsTrue (is_word (codes "CASE") word) → (o : Option Expression) (bs : List Branch) (other : Expression) (chain : Branching) (ts us vs rest : List Lexeme)
      → IsCaseOperand Inner o ts us → AreBranches Inner (is_absent o) bs us vs → IsElse Inner other vs rest → chain_of bs other ≡ Some chain → IsPrimary Inner (case_of o chain) (word ∷ ts) rest
  case_made word w o [] other chain ts us vs rest h branches end made = absurd cc
  case_made word w _ (b ∷ bs) other chain _ _ vs rest (no_operand ts) branches end made =
      subst (λ x. IsPrimary Inner (searched_case x) (word ∷ ts) rest) (some_same (branching (b ∷ bs) other) chain made) (a_searched_case b bs other word ts vs rest w branches end)
  case_made word w _ (b ∷ bs) other chain _ _ vs rest (an_operand x ts us h) branches end made =
      subst (λ y. IsPrimary Inner (simple_case x y) (word ∷ ts) rest) (some_same (branching (b ∷ bs) other) chain made) (a_simple_case x b bs other word ts us vs rest w h branches end)

  chain_takes : (word : Lexeme) → IsTrue (is_word (codes "CASE") word) → (o : Option Expression) (ts us : List Lexeme) → IsCaseOperand Inner o ts us → (y : Branching × List Lexeme) → chain_at inner (is_absent o) us ≡ Some y → IsPrimary Inner (case_of o y.0) (word ∷ ts) y.1
  unfolding chain_at
  chain_takes word w o ts us operand y e =
      let bs = bind_some (branches_at inner (is_absent o) us) _ y e in
      let other = bind_some (else_at inner bs.0.1) _ y bs.2 in
      let c = bind_some (chain_of bs.0.0 other.0.0) _ y other.2 in
      subst (λ (z : Branching × List Lexeme). IsPrimary Inner (case_of o z.0) (word ∷ ts) z.1) (some_same (c.0, other.0.1) y c.2)
      (case_made word w o bs.0.0 other.0.0 c.0 ts us bs.0.1 other.0.1 operand (branches_takes (is_absent o) us bs.0 bs.1) (else_takes bs.0.1 other.0 other.1) c.1)

  pub case_takes : (word : Lexeme) → IsTrue (is_word (codes "CASE") word) → (ts : List Lexeme) (x : Expression × List Lexeme) → case_at inner ts ≡ Some x → IsPrimary Inner x.0 (word ∷ ts) x.1
  unfolding case_at
  case_takes word w ts x e =
      let o = bind_some (case_operand_at inner ts) _ x e in
      let chain = bind_some (chain_at inner (is_absent o.0.0) o.0.1) _ x o.2 in
      subst (λ (y : Expression × List Lexeme). IsPrimary Inner y.0 (word ∷ ts) y.1) (some_same (case_of o.0.0 chain.0.0, chain.0.1) x chain.2)
      (chain_takes word w o.0.0 ts o.0.1 (operand_takes ts o.0 o.1) chain.0 chain.1)

  operand_none : (ts us : List Lexeme) → Front (is_word (codes "WHEN")) ts us → case_operand_at inner ts ≡ Some (None, ts)
  unfolding case_operand_at
  operand_none ts us h = rw (front_is (is_word (codes "WHEN")) ts us h) refl

  operand_some : (x : Expression) (ts rest : List Lexeme) → Inner (expression x) ts rest → Stops 1 rest → case_operand_at inner ts ≡ Some (Some x, rest)
  unfolding case_operand_at
  operand_some x ts rest h ends = rw (starts_not (codes "WHEN") refl refl ts (reads.begins (expression x) ts rest h), expression_is x ts rest h ends) refl

  when_stops : (ts us : List Lexeme) → Front (is_word (codes "WHEN")) ts us → Stops 1 ts
  when_stops _ _ (front t rest h) = word_stops (codes "WHEN") 1 t rest refl refl (omega arith) h

  pub searched_is : (b : Branch) (bs : List Branch) (other : Expression) (ts us rest : List Lexeme) → AreBranches Inner true (b ∷ bs) ts us → IsElse Inner other us rest → case_at inner ts ≡ Some (searched_case (branching (b ∷ bs) other), rest)
  unfolding case_at chain_at
  searched_is b bs other ts us rest h end =
      let begins = branches_front true b bs ts us h in
      let ends = else_ends other us rest end in
      rw (operand_none ts begins.0 begins.1, branches_are true (b ∷ bs) ts us h ends.0 ends.1, else_is other us rest end) refl

  pub simple_is : (x : Expression) (b : Branch) (bs : List Branch) (other : Expression) (ts us vs rest : List Lexeme) → Inner (expression x) ts us → AreBranches Inner false (b ∷ bs) us vs → IsElse Inner other vs rest → case_at inner ts ≡ Some (simple_case x (branching (b ∷ bs) other), rest)
  unfolding case_at chain_at
  simple_is x b bs other ts us vs rest i h end =
      let begins = branches_front false b bs us vs h in
      let ends = else_ends other vs rest end in
      rw (operand_some x ts us i (when_stops us begins.0 begins.1), branches_are false (b ∷ bs) us vs h ends.0 ends.1, else_is other vs rest end) refl

  -- ---- functions

  call_made : (f : Function) (word : Lexeme) → function_of word ≡ Some f → (e : Expression) (es : List Expression) (x : Expression) (ts us vs ws rest : List Lexeme)
      → Front (is_symbol (codes "(")) ts us → Inner (expression e) us vs → AreFurther (IsExpressionOf Inner) es vs ws → Front (is_symbol (codes ")")) ws rest → call_of f e es ≡ Some x → IsPrimary Inner x (word ∷ ts) rest
  call_made f word w e es x _ us vs _ rest (front o _ p) i h (front c _ g) made =
      elim (choose (takes f (length es)) _ _ x made) [
        | inl many ↦ subst (λ z. IsPrimary Inner z (word ∷ o ∷ us) rest) (some_same (call f (arguments e es)) x many.1) (a_call f e es word o c us vs rest w p i h g many.0)
        | inr few ↦ absurd (let none : None ≡ Some x = few.1 in cc)
      ]

  pub listing_takes : (ts : List Lexeme) (y : (Expression × List Expression) × List Lexeme) → listing_at inner ts ≡ Some y
      → (us : List Lexeme) × (vs : List Lexeme) × (ws : List Lexeme) × Front (is_symbol (codes "(")) ts us × Inner (expression y.0.0) us vs × AreFurther (IsExpressionOf Inner) y.0.1 vs ws × Front (is_symbol (codes ")")) ws y.1
  unfolding listing_at
  listing_takes ts y h =
      let us = bind_some (symbol_at (codes "(") ts) _ y h in
      let e = bind_some (expression_at inner us.0) _ y us.2 in
      let es = bind_some (further_at (expression_at inner) e.0.1) _ y e.2 in
      let rest = bind_some (symbol_at (codes ")") es.0.1) _ y es.2 in
      subst
      (λ (z : (Expression × List Expression) × List Lexeme). (us : List Lexeme) × (vs : List Lexeme) × (ws : List Lexeme) × Front (is_symbol (codes "(")) ts us × Inner (expression z.0.0) us vs × AreFurther (IsExpressionOf Inner) z.0.1 vs ws × Front (is_symbol (codes ")")) ws z.1)
      (some_same ((e.0.0, es.0.0), rest.0) y rest.2)
      (us.0, e.0.1, es.0.1, one_takes (is_symbol (codes "(")) ts us.0 us.1, expression_takes us.0 e.0 e.1, further_takes (Stops 1) expression_exact comma_stops e.0.1 es.0 es.1, one_takes (is_symbol (codes ")")) es.0.1 rest.0 rest.1)

  pub call_takes : (f : Function) (word : Lexeme) → function_of word ≡ Some f → (ts : List Lexeme) (x : Expression × List Lexeme) → call_at inner f ts ≡ Some x → IsPrimary Inner x.0 (word ∷ ts) x.1
  unfolding call_at
  call_takes f word w ts x h =
      let l = bind_some (listing_at inner ts) _ x h in
      let c = bind_some (call_of f l.0.0.0 l.0.0.1) _ x l.2 in
      let parts = listing_takes ts l.0 l.1 in
      subst (λ (y : Expression × List Lexeme). IsPrimary Inner y.0 (word ∷ ts) y.1) (some_same (c.0, l.0.1) x c.2)
      (call_made f word w l.0.0.0 l.0.0.1 c.0 ts parts.0 parts.1 parts.2 l.0.1 parts.3 parts.4 parts.5 parts.6 c.1)

  pub closing_ends : (c : Lexeme) (rest : List Lexeme) → IsTrue (is_symbol (codes ")") c) → Stops 1 (c ∷ rest)
  closing_ends c rest h = symbol_stops (codes ")") 1 c rest refl (omega arith) h

  pub listing_is : (e : Expression) (es : List Expression) (o c : Lexeme) (ts us rest : List Lexeme) → IsTrue (is_symbol (codes "(") o) → Inner (expression e) ts us → AreFurther (IsExpressionOf Inner) es us (c ∷ rest) → IsTrue (is_symbol (codes ")") c) → listing_at inner (o ∷ ts) ≡ Some ((e, es), rest)
  unfolding listing_at
  listing_is e es o c ts us rest f i h g =
      let ends = closing_ends c rest g in
      rw (
        one_is (is_symbol (codes "(")) o ts f,
        expression_is e ts us i (further_ends (Stops 1) expression_exact comma_stops es us (c ∷ rest) h ends),
        further_is (Stops 1) expression_exact comma_stops es us (c ∷ rest) h ends (no_comma (codes ")") c rest g refl),
        one_is (is_symbol (codes ")")) c rest g,
      ) refl

  pub call_is : (f : Function) (e : Expression) (es : List Expression) (o c : Lexeme) (ts us rest : List Lexeme) → IsTrue (is_symbol (codes "(") o) → Inner (expression e) ts us → AreFurther (IsExpressionOf Inner) es us (c ∷ rest) → IsTrue (is_symbol (codes ")") c)
      → IsTrue (takes f (length es)) → call_at inner f (o ∷ ts) ≡ Some (call f (arguments e es), rest)
  unfolding call_at
  call_is f e es o c ts us rest p i h g many = rw (listing_is e es o c ts us rest p i h g, many) refl

  extract_made : (word : Lexeme) → IsTrue (is_word (codes "EXTRACT") word) → (field : Field) (e : Expression) (ts us vs ws xs rest : List Lexeme)
      → Front (is_symbol (codes "(")) ts us → Found field_of field us vs → Front (is_word (codes "FROM")) vs ws → Inner (expression e) ws xs → Front (is_symbol (codes ")")) xs rest → IsPrimary Inner (extract field e) (word ∷ ts) rest
  extract_made word w _ e _ _ _ ws _ rest (front o _ f) (found field n _ g) (front m _ h) i (front c _ k) = an_extract field e word o n m c ws rest w f g h i k

  pub extract_takes : (word : Lexeme) → IsTrue (is_word (codes "EXTRACT") word) → (ts : List Lexeme) (x : Expression × List Lexeme) → extract_at inner ts ≡ Some x → IsPrimary Inner x.0 (word ∷ ts) x.1
  unfolding extract_at
  extract_takes word w ts x h =
      let us = bind_some (symbol_at (codes "(") ts) _ x h in
      let field = bind_some (token_at field_of us.0) _ x us.2 in
      let vs = bind_some (word_at (codes "FROM") field.0.1) _ x field.2 in
      let e = bind_some (before_at inner (codes ")") vs.0) _ x vs.2 in
      let ws = before_some inner (codes ")") vs.0 e.0 e.1 in
      subst (λ (y : Expression × List Lexeme). IsPrimary Inner y.0 (word ∷ ts) y.1) (some_same (extract field.0.0 e.0.0, e.0.1) x e.2)
      (extract_made word w field.0.0 e.0.0 ts us.0 field.0.1 vs.0 ws.0 e.0.1 (one_takes (is_symbol (codes "(")) ts us.0 us.1) (token_takes field_of us.0 field.0 field.1) (one_takes (is_word (codes "FROM")) field.0.1 vs.0 vs.1) (expression_takes vs.0 (e.0.0, ws.0) ws.1) (one_takes (is_symbol (codes ")")) ws.0 e.0.1 ws.2))

  pub extract_is : (field : Field) (e : Expression) (o n m c : Lexeme) (ts rest : List Lexeme) → IsTrue (is_symbol (codes "(") o) → field_of n ≡ Some field → IsTrue (is_word (codes "FROM") m) → Inner (expression e) ts (c ∷ rest) → IsTrue (is_symbol (codes ")") c) → extract_at inner (o ∷ n ∷ m ∷ ts) ≡ Some (extract field e, rest)
  unfolding extract_at before_at
  extract_is field e o n m c ts rest f g h i k =
      rw (one_is (is_symbol (codes "(")) o (n ∷ m ∷ ts) f, token_is field_of n (m ∷ ts) field g, one_is (is_word (codes "FROM")) m ts h, expression_is e ts (c ∷ rest) i (closing_ends c rest k), one_is (is_symbol (codes ")")) c rest k) refl

  pub further_down : (es : List Expression) (ts rest : List Lexeme) → AreFurther (IsExpressionOf Inner) es ts rest → length rest ≤ length ts
  further_down es ts rest h = further_shorter (Stops 1) expression_exact comma_stops es ts rest h
