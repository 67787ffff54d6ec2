-- Set functions are read exactly, where their arguments are.
use Rattle.std.proofs.Common.{◌≡◌, ℕ, true, List, ◌∷◌, length, Option, Some, None, refl, subst, inl, inr}
use Rattle.std.specs.Prelude.{codes, IsTrue}
use Rattle.qw_token.specs.Token.{Lexeme}
use Rattle.qw_ast.specs.declared.script.SetFunction.{SetFunction}
use Rattle.qw_ast.specs.declared.script.SetFunction.TheVariants.{Count, Sum, Avg, Min, Max}
use Rattle.qw_ast.specs.Syntax.{Expression, count_rows, set_function, Clause, expression}
use Rattle.qw_ast.specs.ScriptGrammar.{is_word, is_symbol, is_name, set_function_of, IsOptionalAll, IsPrimary, a_row_count, a_set_function}
use Rattle.qw_parse.specs.Inner.Readers.{symbol_at, before_at, behind_all, argument_at, rows_at, set_function_at}
use Rattle.qw_parse.proofs.LoopLemmas.{bind_some, some_same, cases_option}
use Rattle.qw_parse.proofs.TokenLemmas.{Front, front, one_takes, one_is, told_or, Stops}
use Rattle.qw_parse.proofs.ExactLemmas.{BeginsAs, starts_not, Exact, all_takes, all_is, all_no_asterisk}
use Rattle.qw_parse.proofs.PrimaryLemmas.{name_no_word, before_some, expression_takes, expression_is, closing_ends}

-- ---- their words

abbrev pub word_of : SetFunction → List ℕ
word_of Count = codes "COUNT"
word_of Sum = codes "SUM"
word_of Avg = codes "AVG"
word_of Min = codes "MIN"
word_of Max = codes "MAX"

pub function_word : (t : Lexeme) (f : SetFunction) → set_function_of t ≡ Some f → IsTrue (is_word (word_of f) t)
function_word t f e =
    let R = λ (g : SetFunction). IsTrue (is_word (word_of g) t) in
    told_or R _ Count f _ e (λ h. h) (λ e1.
    told_or R _ Sum f _ e1 (λ h. h) (λ e2.
    told_or R _ Avg f _ e2 (λ h. h) (λ e3.
    told_or R _ Min f _ e3 (λ h. h) (λ e4.
    told_or R _ Max f None e4 (λ h. h) (λ e5. absurd cc)))))

pub word_begins : (f : SetFunction) → BeginsAs (word_of f)
word_begins Count = record { folded_is = refl; no_not = refl; begins = refl }
word_begins Sum = record { folded_is = refl; no_not = refl; begins = refl }
word_begins Avg = record { folded_is = refl; no_not = refl; begins = refl }
word_begins Min = record { folded_is = refl; no_not = refl; begins = refl }
word_begins Max = record { folded_is = refl; no_not = refl; begins = refl }

-- a name is none of them
pub name_no_function : (t : Lexeme) → is_name t ≡ true → set_function_of t ≡ None
name_no_function t h =
    rw (
      name_no_word (codes "COUNT") t refl refl h,
      name_no_word (codes "SUM") t refl refl h,
      name_no_word (codes "AVG") t refl refl h,
      name_no_word (codes "MIN") t refl refl h,
      name_no_word (codes "MAX") t refl refl h,
    ) refl

module _ (Inner : Clause → List Lexeme → List Lexeme → Type 0) (inner : List Lexeme → Option (Clause × List Lexeme)) (reads : Exact Inner (Stops 1) inner) where
  -- ---- COUNT(*)

  rows_made : (word : Lexeme) → IsTrue (is_word (codes "COUNT") word) → (ts us vs rest : List Lexeme) → Front (is_symbol (codes "(")) ts us → Front (is_symbol (codes "*")) us vs → Front (is_symbol (codes ")")) vs rest → IsPrimary Inner (count_rows (length rest)) (word ∷ ts) rest
  rows_made word w _ _ _ rest (front o _ f) (front s _ g) (front c _ h) = a_row_count word o s c rest w f g h

  rows_take : (word : Lexeme) (f : SetFunction) → set_function_of word ≡ Some f → (ts us vs : List Lexeme) → Front (is_symbol (codes "(")) ts us → Front (is_symbol (codes "*")) us vs → (x : Expression × List Lexeme) → rows_at f vs ≡ Some x → IsPrimary Inner x.0 (word ∷ ts) x.1
  unfolding rows_at
  rows_take word Count w ts us vs a b x e =
      let rest = bind_some (symbol_at (codes ")") vs) _ x e in
      subst (λ (y : Expression × List Lexeme). IsPrimary Inner y.0 (word ∷ ts) y.1) (some_same (count_rows (length rest.0), rest.0) x rest.2)
      (rows_made word (function_word word Count w) ts us vs rest.0 a b (one_takes (is_symbol (codes ")")) vs rest.0 rest.1))
  rows_take word Sum w ts us vs a b x e = absurd cc
  rows_take word Avg w ts us vs a b x e = absurd cc
  rows_take word Min w ts us vs a b x e = absurd cc
  rows_take word Max w ts us vs a b x e = absurd cc

  pub rows_are : (o s c : Lexeme) (rest : List Lexeme) → IsTrue (is_symbol (codes "(") o) → IsTrue (is_symbol (codes "*") s) → IsTrue (is_symbol (codes ")") c) → set_function_at inner Count (o ∷ s ∷ c ∷ rest) ≡ Some (count_rows (length rest), rest)
  unfolding set_function_at rows_at
  rows_are o s c rest f g h = rw (one_is (is_symbol (codes "(")) o (s ∷ c ∷ rest) f, one_is (is_symbol (codes "*")) s (c ∷ rest) g, one_is (is_symbol (codes ")")) c rest h) refl

  -- ---- of an argument

  function_made : (word : Lexeme) (f : SetFunction) → set_function_of word ≡ Some f → (e : Expression) (ts us vs ws rest : List Lexeme) → Front (is_symbol (codes "(")) ts us → IsOptionalAll us vs → Inner (expression e) vs ws → Front (is_symbol (codes ")")) ws rest
      → IsPrimary Inner (set_function (length rest) f e) (word ∷ ts) rest
  function_made word f w e _ us vs _ rest (front o _ g) all h (front c _ i) = a_set_function f e word o c us vs rest w g all h i

  argument_takes : (word : Lexeme) (f : SetFunction) → set_function_of word ≡ Some f → (ts us : List Lexeme) → Front (is_symbol (codes "(")) ts us → (x : Expression × List Lexeme) → argument_at inner f us ≡ Some x → IsPrimary Inner x.0 (word ∷ ts) x.1
  unfolding argument_at
  argument_takes word f w ts us opening x h =
      let e = bind_some (before_at inner (codes ")") (behind_all us)) _ x h in
      let vs = before_some inner (codes ")") (behind_all us) e.0 e.1 in
      subst (λ (y : Expression × List Lexeme). IsPrimary Inner y.0 (word ∷ ts) y.1) (some_same (set_function (length e.0.1) f e.0.0, e.0.1) x e.2)
      (function_made word f w e.0.0 ts us (behind_all us) vs.0 e.0.1 opening (all_takes us) (expression_takes Inner inner reads (behind_all us) (e.0.0, vs.0) vs.1) (one_takes (is_symbol (codes ")")) vs.0 e.0.1 vs.2))

  pub set_function_takes : (word : Lexeme) (f : SetFunction) → set_function_of word ≡ Some f → (ts : List Lexeme) (x : Expression × List Lexeme) → set_function_at inner f ts ≡ Some x → IsPrimary Inner x.0 (word ∷ ts) x.1
  unfolding set_function_at
  set_function_takes word f w ts x h =
      let us = bind_some (symbol_at (codes "(") ts) _ x h in
      let opening = one_takes (is_symbol (codes "(")) ts us.0 us.1 in
      elim (cases_option (symbol_at (codes "*") us.0)) [
        | inr vs ↦ rows_take word f w ts us.0 vs.0 opening (one_takes (is_symbol (codes "*")) us.0 vs.0 vs.1) x (rw vs.1 at us.2)
        | inl none ↦ argument_takes word f w ts us.0 opening x (rw none at us.2)
      ]

  pub set_function_is : (f : SetFunction) (e : Expression) (o c : Lexeme) (ts us rest : List Lexeme) → IsTrue (is_symbol (codes "(") o) → IsOptionalAll ts us → Inner (expression e) us (c ∷ rest) → IsTrue (is_symbol (codes ")") c) → set_function_at inner f (o ∷ ts) ≡ Some (set_function (length rest) f e, rest)
  unfolding set_function_at argument_at before_at
  set_function_is f e o c ts us rest g all h i =
      let begins = reads.begins (expression e) us (c ∷ rest) h in
      rw (
        one_is (is_symbol (codes "(")) o ts g,
        all_no_asterisk ts us all begins,
        all_is ts us all (starts_not (codes "ALL") refl refl us begins),
        expression_is Inner inner reads e us (c ∷ rest) h (closing_ends Inner inner reads c rest i),
        one_is (is_symbol (codes ")")) c rest i,
      ) refl
