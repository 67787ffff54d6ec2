-- A reader reads a rule exactly; and so it does for lists, results, dates and CASE, where it does for what stands inside.
use Rattle.std.proofs.Common.{◌≡◌, ℕ, ◌+◌, ◌<◌, ◌≤◌, Bool, true, false, ◌||◌, List, [], ◌∷◌, length, Option, Some, None, refl, sym, subst, ◌∙◌, arith, inl, inr}
use Rattle.std.specs.Prelude.{◌⊎◌, codes, IsTrue}
use Rattle.std.specs.Option.{option_map_or}
use Rattle.std.proofs.lemmas.Bool.{cases_Bool, false≢true}
use Rattle.qw_token.specs.Token.{Lexeme}
use Rattle.qw_token.specs.declared.token.Kind.TheVariants.{Word, Symbol}
use Rattle.qw_ast.specs.Grammar.{folded}
use Rattle.qw_ast.specs.declared.script.Sign.{Sign}
use Rattle.qw_ast.specs.ScriptGrammar.{is_word, is_symbol, is_number, is_string, is_integer, is_name, sign_of, function_of, set_function_of, appended, is_comma, Series, first, more, IsOperator, operator, IsNothing, nothing, AreFurther, IsOptionalAll, all_absent, all_there, IsOptionalNot, not_absent, not_there, IsPrecision, no_precision, precision, IsIntervalSign, interval_sign, IsDays, days, Dated, moved, IsDateString, date_string, IsDate}
use Rattle.qw_parse.specs.Inner.Parser.{is_there}
use Rattle.qw_parse.specs.Inner.Readers.{◌>>=◌, token_at, given, one_at, word_at, symbol_at, octets_if, series_at, append, further_at, behind_all, not_at, precision_at, interval_sign_at, days_at, date_string_at, move, date_at}
use Rattle.qw_parse.proofs.LoopLemmas.{bind_some, some_same, cases_option, Shortens, series_holds, series_is, series_shorter, series_begins}
use Rattle.qw_parse.proofs.TokenLemmas.{word_is, symbol_is, Front, front, one_takes, one_is, one_not, Found, found, token_takes, token_is, token_shortens, one_holds, octets_found, octets_are, octets_hold, strength, Stops, stops_at, strong_symbol, strong_word}

-- ---- how an expression or a condition begins

abbrev pub starts : Lexeme → Bool
starts t =
    (is_number t || is_string t) || (is_name t || ((is_symbol (codes "(") t || (is_symbol (codes "+") t || is_symbol (codes "-") t))
    || ((is_word (codes "DATE") t || is_word (codes "CASE") t) || (is_there (function_of t) || (is_word (codes "EXTRACT") t || (is_word (codes "NOT") t || is_there (set_function_of t)))))))

-- a word in upper case with which one begins, and that is no NOT
pub record BeginsAs (w : List ℕ) : Type 0 where
  pub folded_is : folded w ≡ w
  pub no_not : is_word (codes "NOT") (record { kind = Word; octets = w }) ≡ false
  pub begins : starts (record { kind = Word; octets = w }) ≡ true

-- the first token is such a one
unfoldable pub Starts : List Lexeme → Type 0
Starts [] = ⊥
Starts (t ∷ ts) = IsTrue (starts t)

pub starts_at : (t : Lexeme) (ts : List Lexeme) → IsTrue (starts t) → Starts (t ∷ ts)
unfolding Starts
starts_at t ts h = h

-- no word that begins none stands there
pub starts_not : (w : List ℕ) → folded w ≡ w → starts (record { kind = Word; octets = w }) ≡ false → (ts : List Lexeme) → Starts ts → word_at w ts ≡ None
unfolding Starts
starts_not w f fails [] h = absurd h
starts_not w f fails (t ∷ ts) h =
    elim (cases_Bool (is_word w t)) [
      | inl e ↦ absurd (
          let is = word_is w t e in
          let never : starts t ≡ false = rw (is.0, is.1) (rw f at fails) in
          false≢true (sym never ∙ h))
      | inr e ↦ one_not (is_word w) t ts e
    ]

pub starts_no_asterisk : (ts : List Lexeme) → Starts ts → symbol_at (codes "*") ts ≡ None
unfolding Starts
starts_no_asterisk [] h = absurd h
starts_no_asterisk (t ∷ ts) h =
    elim (cases_Bool (is_symbol (codes "*") t)) [
      | inl e ↦ absurd (let i = symbol_is (codes "*") t e in let never : starts t ≡ false = rw (i.0, i.1) refl in false≢true (sym never ∙ h))
      | inr e ↦ one_not (is_symbol (codes "*")) t ts e
    ]

-- ---- exactly

-- The reader reads the rule exactly, where what follows stops it; what is of the rule takes a token and begins as such.
pub record Exact {P : Type 0} (R : P → List Lexeme → List Lexeme → Type 0) (Ends : List Lexeme → Type 0) (read : List Lexeme → Option (P × List Lexeme)) : Type 0 where
  pub takes : (ts : List Lexeme) (x : P × List Lexeme) → read ts ≡ Some x → R x.0 ts x.1
  pub is : (p : P) (ts rest : List Lexeme) → R p ts rest → Ends rest → read ts ≡ Some (p, rest)
  pub shorter : (p : P) (ts rest : List Lexeme) → R p ts rest → length rest < length ts
  pub begins : (p : P) (ts rest : List Lexeme) → R p ts rest → Starts ts

pub exact_shortens : {P : Type 0} {R : P → List Lexeme → List Lexeme → Type 0} {Ends : List Lexeme → Type 0} {read : List Lexeme → Option (P × List Lexeme)} → Exact R Ends read → Shortens read
exact_shortens reads ts x e = reads.shorter x.0 ts x.1 (reads.takes ts x e)

-- ---- words

-- another word than one that stands there
pub other_word : (v w : List ℕ) (t : Lexeme) (rest : List Lexeme) → folded v ≡ v → is_word w (record { kind = Word; octets = v }) ≡ false → IsTrue (is_word v t) → word_at w (t ∷ rest) ≡ None
other_word v w t rest f e h = let is = word_is v t h in one_not (is_word w) t rest (rw (is.0, is.1) (rw f at e))

-- a word where a symbol stands
pub no_word : (s w : List ℕ) (t : Lexeme) (rest : List Lexeme) → IsTrue (is_symbol s t) → word_at w (t ∷ rest) ≡ None
no_word s w t rest h = let is = symbol_is s t h in one_not (is_word w) t rest (rw is.0 refl)

pub word_stops : (w : List ℕ) (n : ℕ) (t : Lexeme) (rest : List Lexeme) → strength (record { kind = Word; octets = w }) ≡ 0 → folded w ≡ w → 0 < n → IsTrue (is_word w t) → Stops n (t ∷ rest)
word_stops w n t rest e f some h = let s = strong_word w 0 t e f h in stops_at n t rest (omega (arith, s, some))

pub symbol_stops : (s : List ℕ) (n : ℕ) (t : Lexeme) (rest : List Lexeme) → strength (record { kind = Symbol; octets = s }) ≡ 0 → 0 < n → IsTrue (is_symbol s t) → Stops n (t ∷ rest)
symbol_stops s n t rest e some h = let z = strong_symbol s 0 t e h in stops_at n t rest (omega (arith, z, some))

-- ---- operators of one token

pub operator_takes : {O : Type 0} (meaning : Lexeme → Option O) (ts : List Lexeme) (x : O × List Lexeme) → token_at meaning ts ≡ Some x → IsOperator meaning x.0 ts x.1
operator_takes meaning ts x e = made meaning x.0 ts x.1 (token_takes meaning ts x e)
  where
    made : {O : Type 0} (meaning : Lexeme → Option O) (o : O) (ts rest : List Lexeme) → Found meaning o ts rest → IsOperator meaning o ts rest
    made meaning _ _ _ (found o t rest h) = operator o t rest h

pub operator_is : {O : Type 0} (meaning : Lexeme → Option O) (o : O) (ts rest : List Lexeme) → IsOperator meaning o ts rest → token_at meaning ts ≡ Some (o, rest)
operator_is meaning _ _ _ (operator o t rest h) = token_is meaning t rest o h

pub operator_shorter : {O : Type 0} (meaning : Lexeme → Option O) (o : O) (ts rest : List Lexeme) → IsOperator meaning o ts rest → length rest < length ts
operator_shorter meaning _ _ _ (operator o t rest h) = omega arith

pub operator_stops : {O : Type 0} (meaning : Lexeme → Option O) (n : ℕ) → ((t : Lexeme) (o : O) → meaning t ≡ Some o → strength t < n) → (o : O) (ts rest : List Lexeme) → IsOperator meaning o ts rest → Stops n ts
operator_stops meaning n weak _ _ _ (operator o t rest h) = stops_at n t rest (weak t o h)

-- ---- lists behind an operator of one token

-- the list is of nothing, or the tokens begin so
pub series_front : {O A B : Type 0} {Between : O → List Lexeme → List Lexeme → Type 0} {Item : B → List Lexeme → List Lexeme → Type 0} {joined : O → List A → B → List A} (Q : List Lexeme → Type 0) → ((o : O) (us vs : List Lexeme) → Between o us vs → Q us)
    → (xs : List A) (ts rest : List Lexeme) → Series IsNothing Between Item joined xs ts rest → ((xs ≡ []) × (ts ≡ rest)) ⊎ Q ts
series_front Q q _ _ _ (first _ _ _ (nothing rest)) = inl (refl, refl)
series_front Q q _ _ _ (more xs o x ts us vs rest h between item) =
    elim (series_front Q q xs ts us h) [
      | inl none ↦ inr (subst Q (sym none.1) (q o us vs between))
      | inr hit ↦ inr hit
    ]

abbrev Behind : {O A : Type 0} → (Lexeme → Option O) → (A → List Lexeme → List Lexeme → Type 0) → List A → List Lexeme → List Lexeme → Type 0
Behind meaning Item xs ts rest = Series IsNothing (IsOperator meaning) Item appended xs ts rest

-- nothing is given for no token
pub given_is : {A : Type 0} (ys : List A) (us vs : List Lexeme) → IsNothing ys us vs → given [] us ≡ Some (ys, vs)
given_is _ _ _ (nothing rest) = refl

module _ {O A : Type 0} (meaning : Lexeme → Option O) (Ends : List Lexeme → Type 0) {Item : A → List Lexeme → List Lexeme → Type 0} {read : List Lexeme → Option (A × List Lexeme)} (reads : Exact Item Ends read) where
  pub list_takes : (ts : List Lexeme) (x : List A × List Lexeme) → series_at (given []) (token_at meaning) read append ts ≡ Some x → Behind meaning Item x.0 ts x.1
  list_takes =
      series_holds (token_at meaning) read append (Behind meaning Item)
      (λ xs ys o b ts us vs rest h link item joins.
      subst (λ (y : List A). Behind meaning Item y ts rest) (some_same (appended o xs b) ys joins)
      (more xs o b ts us vs rest h (operator_takes meaning us (o, vs) link) (reads.takes vs (b, rest) item)))
      (given [])
      (λ ts x e. let same = some_same ([], ts) x e in subst (λ (y : List A × List Lexeme). Behind meaning Item y.0 ts y.1) same (first [] ts ts (nothing ts)))

  pub list_is : ((o : O) (us vs : List Lexeme) → IsOperator meaning o us vs → Ends us) → (xs : List A) (ts rest : List Lexeme) → Behind meaning Item xs ts rest → Ends rest → token_at meaning rest ≡ None → series_at (given []) (token_at meaning) read append ts ≡ Some (xs, rest)
  list_is stops xs ts rest h ends none =
      series_is (token_at meaning) read append (λ (ys : List A). ys) (λ (y : A). y) IsNothing (IsOperator meaning) Item appended Ends
      (λ o a c. refl)
      (operator_is meaning)
      reads.is
      (λ o c us vs ws between item. stops o us vs between)
      (token_shortens meaning) (exact_shortens reads)
      (given [])
      (λ ys us vs nothing_is ends. given_is ys us vs nothing_is)
      xs ts rest h ends none

  pub list_shorter : (xs : List A) (ts rest : List Lexeme) → Behind meaning Item xs ts rest → length rest ≤ length ts
  list_shorter xs ts rest h =
      let s = series_shorter 0 (λ ys us vs nothing_is. none_shorter ys us vs nothing_is) (operator_shorter meaning) reads.shorter xs ts rest h in
      omega (arith, s)
    where
      none_shorter : {A : Type 0} (ys : List A) (us vs : List Lexeme) → IsNothing ys us vs → length vs + 0 ≤ length us
      none_shorter _ _ _ (nothing rest) = omega arith

-- ---- commas

-- what holds where a comma stands
pub comma_is : (Q : List Lexeme → Type 0) → ((t : Lexeme) (rest : List Lexeme) → IsTrue (is_symbol (codes ",") t) → Q (t ∷ rest)) → (o : Unit {0}) (ts rest : List Lexeme) → IsOperator is_comma o ts rest → Q ts
comma_is Q holds _ _ _ (operator o t rest h) =
    elim (cases_Bool (is_symbol (codes ",") t)) [
      | inl e ↦ holds t rest e
      | inr e ↦ absurd (let none : None ≡ Some o = rw e at h in cc)
    ]

pub comma_stops : (o : Unit {0}) (ts rest : List Lexeme) → IsOperator is_comma o ts rest → Stops 1 ts
comma_stops = comma_is (Stops 1) (λ t rest h. symbol_stops (codes ",") 1 t rest refl (omega arith) h)

-- what a symbol isn't
pub no_comma : (s : List ℕ) (t : Lexeme) (rest : List Lexeme) → IsTrue (is_symbol s t) → is_comma (record { kind = Symbol; octets = s }) ≡ None → token_at is_comma (t ∷ rest) ≡ None
unfolding token_at
no_comma s t rest h e = let is = symbol_is s t h in rw (is.0, is.1) (rw e refl)

module _ {A : Type 0} {Item : A → List Lexeme → List Lexeme → Type 0} {read : List Lexeme → Option (A × List Lexeme)} (Ends : List Lexeme → Type 0) (reads : Exact Item Ends read) (comma : (o : Unit {0}) (ts rest : List Lexeme) → IsOperator is_comma o ts rest → Ends ts) where
  pub further_takes : (ts : List Lexeme) (x : List A × List Lexeme) → further_at read ts ≡ Some x → AreFurther Item x.0 ts x.1
  unfolding further_at
  further_takes ts x e = list_takes is_comma Ends reads ts x e

  pub further_is : (xs : List A) (ts rest : List Lexeme) → AreFurther Item xs ts rest → Ends rest → token_at is_comma rest ≡ None → further_at read ts ≡ Some (xs, rest)
  unfolding further_at
  further_is xs ts rest h ends none = list_is is_comma Ends reads comma xs ts rest h ends none

  pub further_shorter : (xs : List A) (ts rest : List Lexeme) → AreFurther Item xs ts rest → length rest ≤ length ts
  further_shorter xs ts rest h = list_shorter is_comma Ends reads xs ts rest h

  -- what ends an item follows the first of a list
  pub further_ends : (xs : List A) (ts rest : List Lexeme) → AreFurther Item xs ts rest → Ends rest → Ends ts
  further_ends xs ts rest h ends =
      elim (series_front Ends comma xs ts rest h) [
        | inl none ↦ subst Ends (sym none.1) ends
        | inr hit ↦ hit
      ]

  -- the items behind two words, or none
  pub clause_takes : (v w : List ℕ) (Is : List A → List Lexeme → List Lexeme → Type 0) → ((ts : List Lexeme) → Is [] ts ts)
      → ((x : A) (others : List A) (t u : Lexeme) (ts us rest : List Lexeme) → IsTrue (is_word v t) → IsTrue (is_word w u) → Item x ts us → AreFurther Item others us rest → Is (x ∷ others) (t ∷ u ∷ ts) rest)
      → (ts : List Lexeme) (x : List A × List Lexeme) → option_map_or (λ us. word_at w us >>= (λ vs. read vs >>= (λ y. further_at read y.1 >>= (λ others. Some (y.0 ∷ others.0, others.1))))) (word_at v ts) (Some ([], ts)) ≡ Some x → Is x.0 ts x.1
  clause_takes v w Is none some ts x e =
      let R = λ (y : List A × List Lexeme). Is y.0 ts y.1 in
      elim (cases_option (word_at v ts)) [
        | inl no_word ↦ subst R (some_same ([], ts) x (rw no_word at e)) (none ts)
        | inr us ↦ (
            let vs = bind_some (word_at w us.0) _ x (rw us.1 at e) in
            let y = bind_some (read vs.0) _ x vs.2 in
            let others = bind_some (further_at read y.0.1) _ x y.2 in
            subst R (some_same (y.0.0 ∷ others.0.0, others.0.1) x others.2)
            (one_holds (is_word v) (λ ws. Is (y.0.0 ∷ others.0.0) ws others.0.1) ts us.0
            (λ t f. one_holds (is_word w) (λ ws. Is (y.0.0 ∷ others.0.0) (t ∷ ws) others.0.1) us.0 vs.0
            (λ u g. some y.0.0 others.0.0 t u vs.0 y.0.1 others.0.1 f g (reads.takes vs.0 y.0 y.1) (further_takes y.0.1 others.0 others.1)) vs.1) us.1))
      ]

-- ---- names

-- a name, or two with a point between them
module _ {A : Type 0} (make : Option (List ℕ) → List ℕ → A) where
  abbrev names_at : List Lexeme → Option (A × List Lexeme)
  names_at ts =
      token_at (octets_if is_name) ts >>= (λ q. option_map_or (λ us. token_at (octets_if is_name) us >>= (λ t. Some (make (Some q.0) t.0, t.1))) (symbol_at (codes ".") q.1) (Some (make None q.0, q.1)))

  pub names_take : (Is : A → List Lexeme → List Lexeme → Type 0) → ((t : Lexeme) (rest : List Lexeme) → IsTrue (is_name t) → Is (make None t.octets) (t ∷ rest) rest)
      → ((q p t : Lexeme) (rest : List Lexeme) → IsTrue (is_name q) → IsTrue (is_symbol (codes ".") p) → IsTrue (is_name t) → Is (make (Some q.octets) t.octets) (q ∷ p ∷ t ∷ rest) rest)
      → (ts : List Lexeme) (x : A × List Lexeme) → names_at ts ≡ Some x → Is x.0 ts x.1
  names_take Is one two ts x e =
      let R = λ (y : A × List Lexeme). Is y.0 ts y.1 in
      let q = bind_some (token_at (octets_if is_name) ts) _ x e in
      elim (cases_option (symbol_at (codes ".") q.0.1)) [
        | inl none ↦ subst R (some_same (make None q.0.0, q.0.1) x (rw none at q.2)) (octets_hold is_name (λ octets us. Is (make None octets) us q.0.1) ts q.0 (λ t h. one t q.0.1 h) q.1)
        | inr us ↦ (
            let t = bind_some (token_at (octets_if is_name) us.0) _ x (rw us.1 at q.2) in
            subst R (some_same (make (Some q.0.0) t.0.0, t.0.1) x t.2)
            (octets_hold is_name (λ octets vs. Is (make (Some octets) t.0.0) vs t.0.1) ts q.0
            (λ u h. one_holds (is_symbol (codes ".")) (λ vs. Is (make (Some u.octets) t.0.0) (u ∷ vs) t.0.1) q.0.1 us.0
            (λ p f. octets_hold is_name (λ octets vs. Is (make (Some u.octets) octets) (u ∷ p ∷ vs) t.0.1) us.0 t.0 (λ v i. two u p v t.0.1 h f i) t.1) us.1) q.1))
      ]

  pub one_name : (t : Lexeme) (rest : List Lexeme) → IsTrue (is_name t) → symbol_at (codes ".") rest ≡ None → names_at (t ∷ rest) ≡ Some (make None t.octets, rest)
  one_name t rest h none = rw (token_is (octets_if is_name) t rest t.octets (octets_are is_name t h), none) refl

  pub two_names : (q p t : Lexeme) (rest : List Lexeme) → IsTrue (is_name q) → IsTrue (is_symbol (codes ".") p) → IsTrue (is_name t) → names_at (q ∷ p ∷ t ∷ rest) ≡ Some (make (Some q.octets) t.octets, rest)
  two_names q p t rest h f i =
      rw (token_is (octets_if is_name) q (p ∷ t ∷ rest) q.octets (octets_are is_name q h), one_is (is_symbol (codes ".")) p (t ∷ rest) f, token_is (octets_if is_name) t rest t.octets (octets_are is_name t i)) refl

-- ---- one of two words, or neither

pub words_take : (v w : List ℕ) (Is : Bool → List Lexeme → List Lexeme → Type 0) → ((ts : List Lexeme) → Is false ts ts) → ((t : Lexeme) (rest : List Lexeme) → IsTrue (is_word v t) → Is true (t ∷ rest) rest) → ((t : Lexeme) (rest : List Lexeme) → IsTrue (is_word w t) → Is false (t ∷ rest) rest)
    → (ts : List Lexeme) (x : Bool × List Lexeme) → option_map_or (λ rest. (true, rest)) (word_at v ts) (option_map_or (λ rest. (false, rest)) (word_at w ts) (false, ts)) ≡ x → Is x.0 ts x.1
words_take v w Is none first' second ts x e =
    let R = λ (y : Bool × List Lexeme). Is y.0 ts y.1 in
    elim (cases_option (word_at v ts)) [
      | inr us ↦ subst R (rw us.1 at e) (one_holds (is_word v) (λ vs. Is true vs us.0) ts us.0 (λ t h. first' t us.0 h) us.1)
      | inl no_first ↦ elim (cases_option (word_at w ts)) [
        | inr us ↦ subst R (rw (no_first, us.1) at e) (one_holds (is_word w) (λ vs. Is false vs us.0) ts us.0 (λ t h. second t us.0 h) us.1)
        | inl no_second ↦ subst R (rw (no_first, no_second) at e) (none ts)
      ]
    ]

-- ---- NOT

pub not_takes : (ts : List Lexeme) → IsOptionalNot (not_at ts).0 ts (not_at ts).1
unfolding not_at
not_takes ts =
    elim (cases_option (word_at (codes "NOT") ts)) [
      | inl e ↦ rw e (not_absent ts)
      | inr us ↦ rw us.1 (one_holds (is_word (codes "NOT")) (λ vs. IsOptionalNot true vs us.0) ts us.0 (λ t h. not_there t us.0 h) us.1)
    ]

pub not_is : (negated : Bool) (ts rest : List Lexeme) → IsOptionalNot negated ts rest → word_at (codes "NOT") rest ≡ None → not_at ts ≡ (negated, rest)
unfolding not_at
not_is _ _ _ (not_absent rest) none = rw none refl
not_is _ _ _ (not_there t rest h) none = rw (one_is (is_word (codes "NOT")) t rest h) refl

pub not_shorter : (negated : Bool) (ts rest : List Lexeme) → IsOptionalNot negated ts rest → length rest ≤ length ts
not_shorter _ _ _ (not_absent rest) = omega arith
not_shorter _ _ _ (not_there t rest h) = omega arith

-- ---- ALL

pub all_takes : (ts : List Lexeme) → IsOptionalAll ts (behind_all ts)
unfolding behind_all
all_takes ts =
    elim (cases_option (word_at (codes "ALL") ts)) [
      | inl none ↦ rw none (all_absent ts)
      | inr us ↦ rw us.1 (one_holds (is_word (codes "ALL")) (λ vs. IsOptionalAll vs us.0) ts us.0 (λ t h. all_there t us.0 h) us.1)
    ]

pub all_is : (ts rest : List Lexeme) → IsOptionalAll ts rest → word_at (codes "ALL") rest ≡ None → behind_all ts ≡ rest
unfolding behind_all
all_is _ _ (all_absent rest) none = rw none refl
all_is _ _ (all_there t rest h) none = rw (one_is (is_word (codes "ALL")) t rest h) refl

pub all_shorter : (ts rest : List Lexeme) → IsOptionalAll ts rest → length rest ≤ length ts
all_shorter _ _ (all_absent rest) = omega arith
all_shorter _ _ (all_there t rest h) = omega arith

-- no asterisk stands before what an expression begins with
pub all_no_asterisk : (ts rest : List Lexeme) → IsOptionalAll ts rest → Starts rest → symbol_at (codes "*") ts ≡ None
all_no_asterisk _ _ (all_absent rest) begins = starts_no_asterisk rest begins
all_no_asterisk _ _ (all_there t rest h) begins = let i = word_is (codes "ALL") t h in one_not (is_symbol (codes "*")) t rest (rw i.0 refl)

-- ---- dates

-- what follows a date that has no more intervals: no `(` and no sign before INTERVAL
pub record EndsDate (ts : List Lexeme) : Type 0 where
  pub no_brackets : symbol_at (codes "(") ts ≡ None
  pub no_interval : interval_sign_at ts ≡ None

precision_takes : (ts rest : List Lexeme) → precision_at ts ≡ Some rest → IsPrecision ts rest
unfolding precision_at
precision_takes ts rest e =
    elim (cases_option (symbol_at (codes "(") ts)) [
      | inl none ↦ (let same = some_same ts rest (rw none at e) in subst (IsPrecision ts) same (no_precision ts))
      | inr us ↦ (
          let vs = bind_some (one_at is_integer us.0) _ rest (rw us.1 at e) in
          made ts us.0 vs.0 rest (one_takes (is_symbol (codes "(")) ts us.0 us.1) (one_takes is_integer us.0 vs.0 vs.1) (one_takes (is_symbol (codes ")")) vs.0 rest vs.2))
    ]
  where
    made : (ts us vs rest : List Lexeme) → Front (is_symbol (codes "(")) ts us → Front is_integer us vs → Front (is_symbol (codes ")")) vs rest → IsPrecision ts rest
    made _ _ _ _ (front o _ a) (front n _ b) (front c rest d) = precision o n c rest a b d

precision_is : (ts rest : List Lexeme) → IsPrecision ts rest → symbol_at (codes "(") rest ≡ None → precision_at ts ≡ Some rest
unfolding precision_at
precision_is _ _ (no_precision rest) none = rw none refl
precision_is _ _ (precision opening n closing rest a b c) none =
    rw (one_is (is_symbol (codes "(")) opening (n ∷ closing ∷ rest) a, one_is is_integer n (closing ∷ rest) b, one_is (is_symbol (codes ")")) closing rest c) refl

precision_shorter : (ts rest : List Lexeme) → IsPrecision ts rest → length rest ≤ length ts
precision_shorter _ _ (no_precision rest) = omega arith
precision_shorter _ _ (precision opening n closing rest a b c) = omega arith

sign_takes : (ts : List Lexeme) (x : Sign × List Lexeme) → interval_sign_at ts ≡ Some x → IsIntervalSign x.0 ts x.1
unfolding interval_sign_at
sign_takes ts x e =
    let s = bind_some (token_at sign_of ts) _ x e in
    let w = bind_some (word_at (codes "INTERVAL") s.0.1) _ x s.2 in
    subst (λ (y : Sign × List Lexeme). IsIntervalSign y.0 ts y.1) (some_same (s.0.0, w.0) x w.2)
    (made s.0.0 ts s.0.1 w.0 (token_takes sign_of ts s.0 s.1) (one_takes (is_word (codes "INTERVAL")) s.0.1 w.0 w.1))
  where
    made : (s : Sign) (ts us rest : List Lexeme) → Found sign_of s ts us → Front (is_word (codes "INTERVAL")) us rest → IsIntervalSign s ts rest
    made _ _ _ _ (found s t _ a) (front w rest b) = interval_sign s t w rest a b

sign_is : (s : Sign) (ts rest : List Lexeme) → IsIntervalSign s ts rest → interval_sign_at ts ≡ Some (s, rest)
unfolding interval_sign_at
sign_is _ _ _ (interval_sign s t word rest a b) = rw (token_is sign_of t (word ∷ rest) s a, one_is (is_word (codes "INTERVAL")) word rest b) refl

sign_shorter : (s : Sign) (ts rest : List Lexeme) → IsIntervalSign s ts rest → length rest < length ts
sign_shorter _ _ _ (interval_sign s t word rest a b) = omega arith

pub sign_shortens : Shortens interval_sign_at
sign_shortens ts x e = sign_shorter x.0 ts x.1 (sign_takes ts x e)

days_takes : (ts : List Lexeme) (x : List ℕ × List Lexeme) → days_at ts ≡ Some x → IsDays x.0 ts x.1
unfolding days_at
days_takes ts x e =
    let s = bind_some (token_at (octets_if is_string) ts) _ x e in
    let w = bind_some (word_at (codes "DAY") s.0.1) _ x s.2 in
    let p = bind_some (precision_at w.0) _ x w.2 in
    subst (λ (y : List ℕ × List Lexeme). IsDays y.0 ts y.1) (some_same (s.0.0, p.0) x p.2)
    (made s.0.0 ts s.0.1 w.0 p.0 (token_takes (octets_if is_string) ts s.0 s.1) (one_takes (is_word (codes "DAY")) s.0.1 w.0 w.1) (precision_takes w.0 p.0 p.1))
  where
    made : (d : List ℕ) (ts us vs rest : List Lexeme) → Found (octets_if is_string) d ts us → Front (is_word (codes "DAY")) us vs → IsPrecision vs rest → IsDays d ts rest
    made _ _ _ vs rest (found d t _ a) (front w _ b) p =
        let o = octets_found is_string t d a in
        subst (λ octets. IsDays octets (t ∷ w ∷ vs) rest) o.1 (days t w vs rest o.0 b p)

days_is : (d : List ℕ) (ts rest : List Lexeme) → IsDays d ts rest → symbol_at (codes "(") rest ≡ None → days_at ts ≡ Some (d, rest)
unfolding days_at
days_is _ _ _ (days t day ts rest a b c) none =
    rw (token_is (octets_if is_string) t (day ∷ ts) t.octets (octets_are is_string t a), one_is (is_word (codes "DAY")) day ts b, precision_is ts rest c none) refl

days_shorter : (d : List ℕ) (ts rest : List Lexeme) → IsDays d ts rest → length rest < length ts
days_shorter _ _ _ (days t day ts rest a b c) = let p = precision_shorter ts rest c in omega (arith, p)

pub days_shortens : Shortens days_at
days_shortens ts x e = days_shorter x.0 ts x.1 (days_takes ts x e)

date_string_takes : (ts : List Lexeme) (x : Dated × List Lexeme) → date_string_at ts ≡ Some x → IsDateString x.0 ts x.1
unfolding date_string_at
date_string_takes ts x e =
    let w = bind_some (word_at (codes "DATE") ts) _ x e in
    let s = bind_some (token_at (octets_if is_string) w.0) _ x w.2 in
    subst (λ (y : Dated × List Lexeme). IsDateString y.0 ts y.1) (some_same (record { string = s.0.0; intervals = [] }, s.0.1) x s.2)
    (made s.0.0 ts w.0 s.0.1 (one_takes (is_word (codes "DATE")) ts w.0 w.1) (token_takes (octets_if is_string) w.0 s.0 s.1))
  where
    made : (d : List ℕ) (ts us rest : List Lexeme) → Front (is_word (codes "DATE")) ts us → Found (octets_if is_string) d us rest → IsDateString (record { string = d; intervals = [] }) ts rest
    made _ _ _ _ (front w _ a) (found d t rest b) =
        let o = octets_found is_string t d b in
        subst (λ octets. IsDateString (record { string = octets; intervals = [] }) (w ∷ t ∷ rest) rest) o.1 (date_string w t rest a o.0)

date_string_is : (d : Dated) (ts rest : List Lexeme) → IsDateString d ts rest → date_string_at ts ≡ Some (d, rest)
unfolding date_string_at
date_string_is _ _ _ (date_string word t rest a b) =
    rw (one_is (is_word (codes "DATE")) word (t ∷ rest) a, token_is (octets_if is_string) t rest t.octets (octets_are is_string t b)) refl

date_string_shorter : (d : Dated) (ts rest : List Lexeme) → IsDateString d ts rest → length rest + 1 ≤ length ts
date_string_shorter _ _ _ (date_string word t rest a b) = omega arith

pub date_takes : (ts : List Lexeme) (x : Dated × List Lexeme) → date_at ts ≡ Some x → IsDate x.0 ts x.1
unfolding date_at
date_takes =
    series_holds interval_sign_at days_at move IsDate
    (λ d d' s o ts us vs rest h link item joins.
    subst (λ (y : Dated). IsDate y ts rest) (some_same (moved s d o) d' joins)
    (more d s o ts us vs rest h (sign_takes us (s, vs) link) (days_takes vs (o, rest) item)))
    date_string_at
    (λ ts x e. first x.0 ts x.1 (date_string_takes ts x e))

interval_no_brackets : (s : Sign) (ts rest : List Lexeme) → IsIntervalSign s ts rest → symbol_at (codes "(") ts ≡ None
interval_no_brackets _ _ _ (interval_sign s t word rest a b) =
    elim (cases_Bool (is_symbol (codes "(") t)) [
      | inl e ↦ absurd (let is = symbol_is (codes "(") t e in let none : None ≡ Some s = rw (is.0, is.1) at a in cc)
      | inr e ↦ one_not (is_symbol (codes "(")) t (word ∷ rest) e
    ]

pub date_is : (d : Dated) (ts rest : List Lexeme) → IsDate d ts rest → EndsDate rest → date_at ts ≡ Some (d, rest)
unfolding date_at
date_is d ts rest h ends =
    series_is interval_sign_at days_at move (λ (x : Dated). x) (λ (x : List ℕ). x) IsDateString IsIntervalSign IsDays moved (λ us. symbol_at (codes "(") us ≡ None)
    (λ o a c. refl)
    sign_is
    days_is
    (λ s c us vs ws between item. interval_no_brackets s us vs between)
    sign_shortens days_shortens
    date_string_at
    (λ x us vs h _. date_string_is x us vs h)
    d ts rest h ends.no_brackets ends.no_interval

pub date_shorter : (d : Dated) (ts rest : List Lexeme) → IsDate d ts rest → length rest < length ts
date_shorter d ts rest h = let s = series_shorter 1 date_string_shorter sign_shorter days_shorter d ts rest h in omega (arith, s)

-- a date begins with DATE
abbrev pub BeginsDate : List Lexeme → Type 0
BeginsDate ts = (us : List Lexeme) × Front (is_word (codes "DATE")) ts us

pub date_begins : (d : Dated) (ts rest : List Lexeme) → IsDate d ts rest → BeginsDate ts
date_begins d ts rest h = series_begins BeginsDate string_begins d ts rest h
  where
    string_begins : (d : Dated) (ts rest : List Lexeme) → IsDateString d ts rest → BeginsDate ts
    string_begins _ _ _ (date_string word t rest a b) = (t ∷ rest, front word (t ∷ rest) a)
