-- What follows the one token at the front of a text, by its kind, and that it is the only one.
use Rattle.std.proofs.Common.{◌≡◌, ℕ, ◌+◌, ◌-◌, ◌<◌, ◌≤◌, true, false, cond, eqb, ltb, ◌||◌, ◌&&◌, List, [], ◌∷◌, ◌++◌, length, take, drop, Option, Some, None, refl, sym, ap, subst, ◌∙◌, append_assoc, arith, inl, inr}
use Rattle.std.specs.Prelude.{IsTrue}
use Rattle.std.specs.Char.{is_ascii_alphabetic, is_ascii_digit}
use Rattle.std.proofs.lemmas.Bool.{cases_Bool, cases_lt, lt-ltb, le-ltb, eqb-true, or_parts, false≢true}
use Rattle.std.proofs.lemmas.List.Elements.{recursion_from_All}
use Rattle.std.proofs.lemmas.List.{length-append, append_cancel_left}
use Rattle.qw_token.specs.declared.token.Kind.{Kind}
use Rattle.qw_token.specs.declared.token.Kind.TheVariants.{Word, DelimitedIdentifier, CharacterString, Number, Symbol}
use Rattle.qw_token.specs.Token.{Lexeme, is_word_octet, doubled, quoted, is_number_octet, is_word_octet_or_point, IsNumber, is_single_symbol, is_double_symbol, IsSymbol, begins_with, Begins}
use Rattle.qw_token.specs.Inner.Lexer.{after_run, kind_at, after_quote, after_symbol, IsAfter}
use Rattle.qw_token.proofs.TokenLemmas.{after_run_is, after_run_of, Closes, after_quote_is, quote_leaves, plain_kind, double_is_single, begins_kind, front_of, number_octet_is_word, all_weaker}
use Rattle.qw_token.proofs.TokenLongest.{begins, left_behind}

-- no token but a number is cut off
never : (rest : List ℕ) → begins_with (λ c. false) rest ≡ false
never [] = refl
never (c ∷ rest) = refl

-- ---- what follows a token of a given kind

pub data KindCase (b : ℕ) (bs : List ℕ) : Type 0 where
  is_word : is_ascii_alphabetic b ≡ true → kind_at (b ∷ bs) ≡ Word → KindCase b bs
  is_delimited : b ≡ 34 → kind_at (b ∷ bs) ≡ DelimitedIdentifier → KindCase b bs
  is_string : b ≡ 39 → kind_at (b ∷ bs) ≡ CharacterString → KindCase b bs
  is_number_case : kind_at (b ∷ bs) ≡ Number → KindCase b bs
  is_symbol_case : ((eqb b 46) && begins_with is_ascii_digit bs) ≡ false → kind_at (b ∷ bs) ≡ Symbol → KindCase b bs

kind_case : (b : ℕ) (bs : List ℕ) → KindCase b bs
kind_case b bs =
    elim (cases_Bool (is_ascii_alphabetic b)) [
      | inl h ↦ is_word h (rw h refl)
      | inr h ↦ elim (cases_Bool (eqb b 34)) [
        | inl k ↦ is_delimited (eqb-true b 34 k) (rw (h, k) refl)
        | inr k ↦ elim (cases_Bool (eqb b 39)) [
          | inl l ↦ is_string (eqb-true b 39 l) (rw (h, k, l) refl)
          | inr l ↦ elim (cases_Bool (is_ascii_digit b || ((eqb b 46) && begins_with is_ascii_digit bs))) [
            | inl m ↦ is_number_case (plain_kind b bs (h, k, l) ∙ rw m refl)
            | inr m ↦ is_symbol_case (or_parts (is_ascii_digit b) ((eqb b 46) && begins_with is_ascii_digit bs) m).1 (plain_kind b bs (h, k, l) ∙ rw m refl)
          ]
        ]
      ]
    ]

pub IsAfter-word : (text : List ℕ) → kind_at text ≡ Word → IsAfter Word text (Some (after_run is_word_octet text))
IsAfter-word [] e = absurd cc
IsAfter-word (b ∷ bs) e =
    elim (kind_case b bs) [
      | is_word h k ↦
          let run = after_run_is is_word_octet bs in
          let first : is_word_octet b ≡ true = rw h refl in
          let same : after_run is_word_octet (b ∷ bs) ≡ after_run is_word_octet bs = rw first refl in
          let parts : b ∷ bs ≡ (b ∷ run.front) ++ after_run is_word_octet bs = ap (λ (x : List ℕ). b ∷ x) run.parts in
          rw same (b ∷ run.front, begins Word (b ∷ bs) (b ∷ run.front) (after_run is_word_octet bs) k (ap (λ x. Some x) same) parts (h, run.passes) (never (after_run is_word_octet bs)))
      | is_delimited h k ↦ absurd cc
      | is_string h k ↦ absurd cc
      | is_number_case k ↦ absurd cc
      | is_symbol_case h k ↦ absurd cc
    ]

-- the text behind the opening quote of a token
behind_quote : (quote : ℕ) (bs octets value rest : List ℕ) → quote ∷ bs ≡ octets ++ rest → octets ≡ quoted quote value → bs ≡ doubled quote value ++ (quote ∷ rest)
behind_quote quote bs octets value rest parts form =
    let whole : quote ∷ bs ≡ quote ∷ (doubled quote value ++ (quote ∷ rest)) = parts ∙ ap (λ (x : List ℕ). x ++ rest) form ∙ ap (λ (x : List ℕ). quote ∷ x) (append_assoc (doubled quote value) (quote ∷ []) rest) in
    cc

in_quotes : (quote : ℕ) (bs rest : List ℕ) (k : Closes quote bs rest) → quote ∷ bs ≡ quoted quote k.value ++ rest
in_quotes quote bs rest k = ap (λ (x : List ℕ). quote ∷ x) (k.parts ∙ sym (append_assoc (doubled quote k.value) (quote ∷ []) rest))

-- no closing quote is left where none is found
none_left : (quote : ℕ) (value more : List ℕ) → None ≡ after_quote quote (doubled quote value ++ (quote ∷ more)) → ⊥
none_left quote value more e =
    let l = quote_leaves quote value more in
    let both : None ≡ Some l.rest = e ∙ l.is in
    cc

after_string_is : (bs : List ℕ) (o : Option (List ℕ)) → kind_at (39 ∷ bs) ≡ CharacterString → after_quote 39 bs ≡ o → IsAfter CharacterString (39 ∷ bs) o
after_string_is bs None kind e = λ octets rest b. none_left 39 b.form.0 rest (sym e ∙ ap (after_quote 39) (behind_quote 39 bs octets b.form.0 rest b.parts b.form.1))
after_string_is bs (Some rest) kind e =
    let k = after_quote_is 39 bs rest e in
    (quoted 39 k.value, begins CharacterString (39 ∷ bs) (quoted 39 k.value) rest kind e (in_quotes 39 bs rest k) (k.value, refl) (never rest))

pub IsAfter-string : (text : List ℕ) → kind_at text ≡ CharacterString → IsAfter CharacterString text (after_quote 39 (drop 1 text))
IsAfter-string [] e = absurd cc
IsAfter-string (b ∷ bs) e =
    elim (kind_case b bs) [
      | is_word h k ↦ absurd cc
      | is_delimited h k ↦ absurd cc
      | is_string h k ↦ subst (λ c. IsAfter CharacterString (c ∷ bs) (after_quote 39 bs)) (sym h) (after_string_is bs (after_quote 39 bs) (subst (λ c. kind_at (c ∷ bs) ≡ CharacterString) h k) refl)
      | is_number_case k ↦ absurd cc
      | is_symbol_case h k ↦ absurd cc
    ]

length-doubled : (quote : ℕ) (value : List ℕ) → length value ≤ length (doubled quote value)
length-doubled quote [] = omega arith
length-doubled quote (b ∷ bs) =
    let more = length-doubled quote bs in
    elim (cases_Bool (eqb b quote)) [ inl h ↦ rw h (omega arith) | inr h ↦ rw h (omega arith) ]

-- what is left behind a delimited identifier whose name has no characters isn't taken
abbrev pub named : List ℕ → Option (List ℕ) → Option (List ℕ)
named text None = None
named text (Some rest) = cond (ltb (length rest + 2) (length text)) (Some rest) None

after_delimited_is : (bs : List ℕ) (o : Option (List ℕ)) → kind_at (34 ∷ bs) ≡ DelimitedIdentifier → after_quote 34 bs ≡ o → IsAfter DelimitedIdentifier (34 ∷ bs) (named (34 ∷ bs) o)
after_delimited_is bs None kind e = λ octets rest b. none_left 34 b.form.0 rest (sym e ∙ ap (after_quote 34) (behind_quote 34 bs octets b.form.0 rest b.parts b.form.2))
after_delimited_is bs (Some rest) kind e =
    elim (cases_lt (length rest + 2) (length (34 ∷ bs))) [
      | inl long ↦
          let k = after_quote_is 34 bs rest e in
          let some : 0 < length k.value = elim k.value as (λ v. bs ≡ doubled 34 v ++ (34 ∷ rest) → 0 < length v) [ [] ↦ λ p. absurd (omega (arith, ap length p)) | x ∷ v ↦ λ p. omega arith ] k.parts in
          rw (lt-ltb (length rest + 2) (length (34 ∷ bs)) long)
          (quoted 34 k.value, begins DelimitedIdentifier (34 ∷ bs) (quoted 34 k.value) rest kind e (in_quotes 34 bs rest k) (k.value, some, refl) (never rest))
      | inr short ↦
          rw (le-ltb (length rest + 2) (length (34 ∷ bs)) short)
          (λ octets other b.
          let text = behind_quote 34 bs octets b.form.0 other b.parts b.form.2 in
          let few = left_behind (quote_leaves 34 b.form.0 other) rest (sym (ap (after_quote 34) text) ∙ e) in
          omega (arith, ap length text, few, length-append (doubled 34 b.form.0) (34 ∷ other), length-doubled 34 b.form.0, b.form.1))
    ]

pub IsAfter-delimited : (text : List ℕ) (o : Option (List ℕ)) → kind_at text ≡ DelimitedIdentifier → o ≡ after_quote 34 (drop 1 text) → IsAfter DelimitedIdentifier text (named text o)
IsAfter-delimited [] o e q = absurd cc
IsAfter-delimited (b ∷ bs) o e q =
    elim (kind_case b bs) [
      | is_word h k ↦ absurd cc
      | is_delimited h k ↦ subst (λ c. IsAfter DelimitedIdentifier (c ∷ bs) (named (c ∷ bs) o)) (sym h) (after_delimited_is bs o (subst (λ c. kind_at (c ∷ bs) ≡ DelimitedIdentifier) h k) (sym q))
      | is_string h k ↦ absurd cc
      | is_number_case k ↦ absurd cc
      | is_symbol_case h k ↦ absurd cc
    ]

number_is_run : (octets rest : List ℕ) → IsNumber octets → begins_with is_word_octet_or_point rest ≡ false → after_run is_word_octet_or_point (octets ++ rest) ≡ rest
number_is_run octets rest n ends =
    after_run_of is_word_octet_or_point octets rest (all_weaker (λ c. IsTrue (is_number_octet c)) (λ c. is_word_octet_or_point c ≡ true) number_octet_is_word octets (recursion_from_All (λ c. IsTrue (is_number_octet c)) octets n.digits_and_point)) ends

pub IsAfter-number : (text rest : List ℕ) → kind_at text ≡ Number → rest ≡ after_run is_word_octet_or_point text → IsNumber (take (length text - length rest) text) → IsAfter Number text (Some rest)
IsAfter-number text rest kind e n =
    let run = after_run_is is_word_octet_or_point text in
    let parts : text ≡ run.front ++ rest = rw e run.parts in
    let front = front_of text run.front rest parts in
    (run.front, begins Number text run.front rest kind (ap (λ x. Some x) (sym e)) parts (subst IsNumber front n) (rw e run.stops))

pub IsAfter-no_number : (text rest : List ℕ) → rest ≡ after_run is_word_octet_or_point text → (IsNumber (take (length text - length rest) text) → ⊥) → IsAfter Number text None
IsAfter-no_number text rest e n = λ octets other b.
    let same : rest ≡ other = e ∙ ap (after_run is_word_octet_or_point) b.parts ∙ number_is_run octets other b.form b.ends in
    let front = front_of text octets rest (rw same b.parts) in
    n (subst IsNumber (sym front) b.form)

-- ---- symbols

-- no symbol begins a text whose first octet is no symbol, or whose two first ones go on to what is none
no_single : (b : ℕ) (bs octets rest : List ℕ) → is_single_symbol b ≡ false → b ∷ bs ≡ octets ++ rest → IsSymbol octets → ⊥
no_single b bs [] rest e parts s = s
no_single b bs (c ∷ []) rest e parts s =
    let same : b ≡ c = cc in
    let got : is_single_symbol b ≡ true = ap is_single_symbol same ∙ s in
    false≢true (sym e ∙ got)
no_single b bs (c ∷ d ∷ []) rest e parts s =
    let same : b ≡ c = cc in
    let got : is_single_symbol b ≡ true = ap is_single_symbol same ∙ double_is_single c d s in
    false≢true (sym e ∙ got)
no_single b bs (c ∷ d ∷ f ∷ octets) rest e parts s = s

pub IsAfter-symbol : (text : List ℕ) → kind_at text ≡ Symbol → IsAfter Symbol text (after_symbol text)
IsAfter-symbol [] e = λ octets rest b. nothing octets rest b.parts b.form
  where
    nothing : (octets rest : List ℕ) → [] ≡ octets ++ rest → IsSymbol octets → ⊥
    nothing [] rest parts s = s
    nothing (b ∷ bs) rest parts s = cc
IsAfter-symbol (b ∷ []) e =
    elim (cases_Bool (is_single_symbol b)) [
      | inl h ↦ rw h (b ∷ [], begins Symbol (b ∷ []) (b ∷ []) [] e (rw h refl) refl h refl)
      | inr h ↦ rw h (λ octets rest t. no_single b [] octets rest h t.parts t.form)
    ]
IsAfter-symbol (b ∷ c ∷ bs) e =
    elim (cases_Bool (is_double_symbol b c)) [
      | inl h ↦ rw h (b ∷ c ∷ [], begins Symbol (b ∷ c ∷ bs) (b ∷ c ∷ []) bs e (rw h refl) refl h (never bs))
      | inr h ↦ elim (cases_Bool (is_single_symbol b)) [
        | inl l ↦ rw (h, l) (b ∷ [], begins Symbol (b ∷ c ∷ bs) (b ∷ []) (c ∷ bs) e (rw (h, l) refl) refl l refl)
        | inr l ↦ rw (h, l) (λ octets rest t. no_single b (c ∷ bs) octets rest l t.parts t.form)
      ]
    ]

-- ---- there is one token at the front of a text

lexeme_is : (t u : Lexeme) → t.kind ≡ u.kind → t.octets ≡ u.octets → t ≡ u
lexeme_is t u k o = λ i. record { kind = k i; octets = o i }

-- the longest front is one
pub Begins-unique : (text : List ℕ) (t u : Lexeme) (r s : List ℕ) → Begins text t r → Begins text u s → (t ≡ u) × (r ≡ s)
Begins-unique text t u r s b c =
    let less = b.longest u s c.parts c.form in
    let more = c.longest t r b.parts b.form in
    let same : length r ≡ length s = omega (arith, less, more, ap length b.parts, ap length c.parts, length-append t.octets r, length-append u.octets s) in
    let octets : t.octets ≡ u.octets = sym (front_of text t.octets r b.parts) ∙ ap (λ (n : ℕ). take (length text - n) text) same ∙ front_of text u.octets s c.parts in
    let rests = append_cancel_left t.octets r s (sym b.parts ∙ c.parts ∙ ap (λ (x : List ℕ). x ++ s) (sym octets)) in
    (lexeme_is t u (sym (begins_kind text t r b) ∙ begins_kind text u s c) octets, rests)

-- what its kind takes nothing of no token begins
pub none_begins : (text : List ℕ) → IsAfter (kind_at text) text None → (t : Lexeme) (after : List ℕ) → Begins text t after → ⊥
none_begins text none t after b = none t.octets after (subst (λ (k : Kind). Begins text (record { kind = k; octets = t.octets }) after) (sym (begins_kind text t after b)) b)
