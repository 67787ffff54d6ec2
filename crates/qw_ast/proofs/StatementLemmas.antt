-- The statements of a text: what the loops of src/statement.rt keep.
use Rattle.std.proofs.Common.{◌≡◌, ℕ, suc, ◌+◌, ◌-◌, ◌<◌, ◌≤◌, true, false, List, [], ◌∷◌, ◌++◌, length, map, take, drop, drop-cons, get_or, refl, sym, ap, ◌∙◌, arith, inl, inr, append_assoc}
use Rattle.std.specs.Prelude.{eqb}
use Rattle.std.specs.Borrow.{Bor}
use Rattle.std.proofs.lemmas.Bool.{cases_Bool, eqb-true, false≢true}
use Rattle.std.proofs.lemmas.List.{append-nil, length-map, take_more}
use Rattle.qw_token.specs.declared.token.Token.{Token}
use Rattle.qw_token.specs.Token.{Lexeme, lexeme, lexemes}
use Rattle.qw_ast.specs.SchemaGrammar.{is_semicolon, statements, before_first}
use Rattle.qw_ast.specs.Inner.Statements.{cut}

pub drop_next : {X : Type 0} (xs : List X) (i : ℕ) (d : X) → i < length xs → drop i xs ≡ get_or xs i d ∷ drop (i + 1) xs
drop_next xs i d lt =
    let next : suc i ≡ i + 1 = omega arith in
    drop-cons xs i d lt ∙ ap (λ k. get_or xs i d ∷ drop k xs) next

pub is_no_list : {X : Type 0} (xs : List X) → length xs ≤ 0 → xs ≡ []
is_no_list [] le = refl
is_no_list (x ∷ xs) le = absurd (omega (arith, le))

-- ---- the first statement

lexemes_push : (ts : List Token) (t : Token) → lexemes (ts ++ t ∷ []) ≡ lexemes ts ++ lexeme t ∷ []
lexemes_push [] t = refl
lexemes_push (u ∷ us) t = ap (λ x. lexeme u ∷ x) (lexemes_push us t)

take_next : {X : Type 0} (xs : List X) (i : ℕ) (d : X) → i < length xs → take (i + 1) xs ≡ take i xs ++ get_or xs i d ∷ []
take_next xs i d lt = take_more xs i d lt

-- the first statement stands before the others
pub statements_cut : (t : Lexeme) (ts : List Lexeme) → statements (t ∷ ts) ≡ (cut (t ∷ ts)).0 ∷ statements (cut (t ∷ ts)).1
unfolding statements
statements_cut t [] =
    elim (cases_Bool (is_semicolon t)) [
      | inl e ↦ rw e refl
      | inr e ↦ rw e refl
    ]
statements_cut t (u ∷ us) =
    elim (cases_Bool (is_semicolon t)) [
      | inl e ↦ rw e refl
      | inr e ↦ rw e (ap (before_first t) (statements_cut u us))
    ]

-- ---- all statements

pub statements_none : (ts : List Token) → true ≡ eqb (length ts) 0 → [] ≡ statements (lexemes ts)
unfolding statements
statements_none [] e = refl
statements_none (t ∷ ts) e = absurd (omega (arith, eqb-true (length (t ∷ ts)) 0 (sym e)))

pub statements_first : (ts first rest : List Token) → false ≡ eqb (length ts) 0 → (lexemes first, lexemes rest) ≡ cut (lexemes ts) → lexemes first ∷ statements (lexemes rest) ≡ statements (lexemes ts)
statements_first [] first rest e h = absurd (false≢true e)
statements_first (t ∷ ts) first rest e h =
    ap (λ (x : List Lexeme × List Lexeme). x.0 ∷ statements x.1) h ∙ sym (statements_cut (lexeme t) (lexemes ts))

cut_shorter : (t : Lexeme) (ts : List Lexeme) → length (cut (t ∷ ts)).1 ≤ length ts
cut_shorter t [] =
    elim (cases_Bool (is_semicolon t)) [
      | inl e ↦ rw e (omega arith)
      | inr e ↦ rw e (omega arith)
    ]
cut_shorter t (u ∷ us) =
    elim (cases_Bool (is_semicolon t)) [
      | inl e ↦ rw e (omega arith)
      | inr e ↦ rw e (omega (arith, cut_shorter u us))
    ]

pub statements_smaller : (ts first rest : List Token) → false ≡ eqb (length ts) 0 → (lexemes first, lexemes rest) ≡ cut (lexemes ts) → length rest < length ts
statements_smaller [] first rest e h = absurd (false≢true e)
statements_smaller (t ∷ ts) first rest e h =
    let same : length (lexemes rest) ≡ length (cut (lexeme t ∷ lexemes ts)).1 = ap (λ (x : List Lexeme × List Lexeme). length x.1) h in
    omega (arith, same, cut_shorter (lexeme t) (lexemes ts), length-map rest lexeme, length-map ts lexeme)

abbrev pub lexed : List (Bor (List Token)) → List (List Lexeme)
lexed ss = map (λ s. lexemes s.now) ss

lexed_push : (front : List (Bor (List Token))) (s : Bor (List Token)) → lexed (front ++ s ∷ []) ≡ lexed front ++ lexemes s.now ∷ []
lexed_push [] s = refl
lexed_push (f ∷ front) s = ap (λ x. lexemes f.now ∷ x) (lexed_push front s)

pub statements_goes_on : (front : List (Bor (List Token))) (s : Bor (List Token)) (ts rest : List Token) (all : List (List Lexeme)) → false ≡ eqb (length ts) 0 → (lexemes s.now, lexemes rest) ≡ cut (lexemes ts) → lexed front ++ statements (lexemes ts) ≡ all → lexed (front ++ s ∷ []) ++ statements (lexemes rest) ≡ all
statements_goes_on front s ts rest all e h before =
    ap (λ x. x ++ statements (lexemes rest)) (lexed_push front s)
    ∙ append_assoc (lexed front) (lexemes s.now ∷ []) (statements (lexemes rest))
    ∙ ap (λ x. lexed front ++ x) (statements_first ts s.now rest e h)
    ∙ before

pub statements_end : (front : List (Bor (List Token))) (ts : List Token) (all : List (List Lexeme)) → true ≡ eqb (length ts) 0 → lexed front ++ statements (lexemes ts) ≡ all → lexed front ≡ all
statements_end front ts all e before = sym (append-nil (lexed front)) ∙ ap (λ x. lexed front ++ x) (statements_none ts e) ∙ before
