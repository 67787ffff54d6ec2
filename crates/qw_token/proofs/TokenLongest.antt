-- What the token's kind leaves of a text is no longer than what any form that stands there leaves, so no such form is longer than the token.
use Rattle.std.proofs.Common.{Option, false, ◌≡◌, ℕ, ◌<◌, ◌≤◌, Bool, true, List, [], ◌∷◌, ◌++◌, length, Some, refl, sym, ap, subst, ◌∙◌, arith, inl, inr}
use Rattle.std.specs.Prelude.{IsTrue, ◌⊎◌}
use Rattle.std.specs.List.{AllByRecursion}
use Rattle.std.proofs.lemmas.Bool.{cases_Bool, cases_eq, ne_eqb, false≢true}
use Rattle.std.proofs.lemmas.List.{length-append}
use Rattle.std.proofs.lemmas.List.Elements.{recursion_from_All}
use Rattle.qw_token.specs.declared.token.Kind.{Kind}
use Rattle.qw_token.specs.declared.token.Kind.TheVariants.{Word, DelimitedIdentifier, CharacterString, Number, Symbol}
use Rattle.qw_token.specs.Token.{is_word_octet, is_number_octet, is_word_octet_or_point, is_double_symbol, IsSymbol, HasForm, token_goes_on, begins_with, Begins}
use Rattle.qw_token.specs.Inner.Lexer.{after_run, kind_at, after_quote, after_symbol}
use Rattle.qw_token.proofs.TokenLemmas.{after_run-shorter, Leaves, quote_leaves, symbol_is_plain, double_is_single, plain_kind, word_kind, number_kind, number_octet_is_word, all_weaker, word_passes, after_kind_of, behind_opening}

-- ---- what is left is no longer than what follows a shorter form

run_leaves : (test : ℕ → Bool) (front more : List ℕ) → AllByRecursion (λ b. test b ≡ true) front → length (after_run test (front ++ more)) ≤ length more
run_leaves test [] more passes = after_run-shorter test more
run_leaves test (b ∷ bs) more passes = rw (passes.0) (run_leaves test bs more passes.1)

pub left_behind : {o : Option (List ℕ)} {most : ℕ} (l : Leaves o most) (rest : List ℕ) → o ≡ Some rest → length rest ≤ most
left_behind l rest e =
    let both : Some l.rest ≡ Some rest = sym l.is ∙ e in
    let same : l.rest ≡ rest = cc in
    omega (arith, l.few, ap length same)

symbol_leaves : (octets more rest : List ℕ) → IsSymbol octets → after_symbol (octets ++ more) ≡ Some rest → length rest ≤ length more
symbol_leaves [] more rest s e = absurd s
symbol_leaves (b ∷ []) [] rest s e =
    let got : Some [] ≡ Some rest = rw s at e in
    let same : [] ≡ rest = cc in
    omega (arith, ap length same)
symbol_leaves (b ∷ []) (c ∷ more) rest s e =
    elim (cases_Bool (is_double_symbol b c)) [
      | inl h ↦
          let got : Some more ≡ Some rest = rw h at e in
          let same : more ≡ rest = cc in
          omega (arith, ap length same)
      | inr h ↦
          let got : Some (c ∷ more) ≡ Some rest = rw (h, s) at e in
          let same : c ∷ more ≡ rest = cc in
          omega (arith, ap length same)
    ]
symbol_leaves (b ∷ c ∷ []) more rest s e =
    let got : Some more ≡ Some rest = rw s at e in
    let same : more ≡ rest = cc in
    omega (arith, ap length same)
symbol_leaves (b ∷ c ∷ d ∷ bs) more rest s e = absurd s

-- ---- the kinds of the two

-- a symbol begins a text that only a symbol begins, or it is the point of a number
symbol_form_kind : (octets more : List ℕ) → IsSymbol octets → (kind_at (octets ++ more) ≡ Symbol) ⊎ (length octets ≡ 1)
symbol_form_kind [] more s = absurd s
symbol_form_kind (b ∷ []) more s = inr refl
symbol_form_kind (b ∷ c ∷ []) more s =
    let single = double_is_single b c s in
    let p = symbol_is_plain b single in
    elim (cases_eq b 46) [
      | inl e ↦ absurd (let none : is_double_symbol 46 c ≡ true = subst (λ x. is_double_symbol x c ≡ true) e s in false≢true none)
      | inr n ↦ inl (plain_kind b (c ∷ more) p.0 ∙ rw (p.1, ne_eqb b 46 n) refl)
    ]
symbol_form_kind (b ∷ c ∷ d ∷ bs) more s = absurd s

leaves : (kind : Kind) (octets more rest : List ℕ) → HasForm kind octets → after_kind_of kind (octets ++ more) ≡ Some rest → length rest ≤ length more
leaves Word octets more rest form e =
    let same : after_run is_word_octet (octets ++ more) ≡ rest = cc in
    omega (arith, ap length same, run_leaves is_word_octet octets more (word_passes octets form))
leaves DelimitedIdentifier octets more rest form e =
    left_behind (quote_leaves 34 form.0 more) rest (ap (after_quote 34) (sym (behind_opening 34 octets form.0 more form.2)) ∙ e)
leaves CharacterString octets more rest form e =
    left_behind (quote_leaves 39 form.0 more) rest (ap (after_quote 39) (sym (behind_opening 39 octets form.0 more form.1)) ∙ e)
leaves Number octets more rest form e =
    let same : after_run is_word_octet_or_point (octets ++ more) ≡ rest = cc in
    let passes = all_weaker (λ c. IsTrue (is_number_octet c)) (λ c. is_word_octet_or_point c ≡ true) number_octet_is_word octets (recursion_from_All (λ c. IsTrue (is_number_octet c)) octets form.digits_and_point) in
    omega (arith, ap length same, run_leaves is_word_octet_or_point octets more passes)
leaves Symbol octets more rest form e = symbol_leaves octets more rest form e

pub not_empty : (kind : Kind) (octets : List ℕ) → HasForm kind octets → 0 < length octets
not_empty Word [] form = absurd form
not_empty Word (b ∷ bs) form = omega arith
not_empty DelimitedIdentifier octets form = rw form.2 (omega arith)
not_empty CharacterString octets form = rw form.1 (omega arith)
not_empty Number [] form = absurd (omega (arith, form.some_digit))
not_empty Number (b ∷ bs) form = omega arith
not_empty Symbol [] form = absurd form
not_empty Symbol (b ∷ bs) form = omega arith

-- ---- no form is longer

module _ (kind : Kind) (text octets rest : List ℕ) (at : kind_at text ≡ kind) (left : after_kind_of kind text ≡ Some rest) (parts : text ≡ octets ++ rest) where
  same_kind : (other : Kind) (front more : List ℕ) → kind_at (front ++ more) ≡ other → HasForm other front → text ≡ front ++ more → length front ≤ length octets
  same_kind other front more k form cut =
      let kinds : kind ≡ other = sym at ∙ ap kind_at cut ∙ k in
      let e : after_kind_of other (front ++ more) ≡ Some rest = subst (λ (x : Kind). after_kind_of x (front ++ more) ≡ Some rest) kinds (ap (after_kind_of kind) (sym cut) ∙ left) in
      let few = leaves other front more rest form e in
      omega (arith, few, ap length cut, ap length parts, length-append front more, length-append octets rest)

  longest_at : 0 < length octets → (other : Kind) (front more : List ℕ) → HasForm other front → text ≡ front ++ more → length front ≤ length octets
  longest_at some Word front more form cut = same_kind Word front more (word_kind front more form) form cut
  longest_at some DelimitedIdentifier front more form cut = same_kind DelimitedIdentifier front more (rw form.2 refl) form cut
  longest_at some CharacterString front more form cut = same_kind CharacterString front more (rw form.1 refl) form cut
  longest_at some Number front more form cut = same_kind Number front more (number_kind front more form) form cut
  longest_at some Symbol front more form cut =
      elim (symbol_form_kind front more form) [ inl k ↦ same_kind Symbol front more k form cut | inr one ↦ omega (arith, one, some) ]

  -- what the kind takes of the text, where it has the form and the rest doesn't cut it off
  pub begins : HasForm kind octets → begins_with (token_goes_on kind) rest ≡ false → Begins text (record { kind = kind; octets = octets }) rest
  begins form ends = record { parts = parts; form = form; longest = λ other more cut form'. longest_at (not_empty kind octets form) other.kind other.octets more form' cut; ends = ends }
