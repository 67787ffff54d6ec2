-- What tokens are, and which go on with an expression or a condition.
use Rattle.std.proofs.Common.{◌≡◌, ℕ, ◌<◌, ◌≤◌, Bool, true, false, cond, ◌||◌, List, [], ◌∷◌, length, Option, Some, None, refl, subst, arith, inl, inr}
use Rattle.std.specs.Prelude.{◌⊎◌, codes, IsTrue, if◌then◌else◌}
use Rattle.std.specs.Str.{bytes_eq}
use Rattle.std.proofs.lemmas.Bool.{and_parts, cases_Bool}
use Rattle.std.proofs.lemmas.Slice.Eq.{bytes_eq-Decides}
use Rattle.qw_token.specs.declared.token.Kind.{Kind}
use Rattle.qw_token.specs.declared.token.Kind.TheVariants.{Word, DelimitedIdentifier, CharacterString, Number, Symbol}
use Rattle.qw_token.specs.Token.{Lexeme}
use Rattle.qw_ast.specs.Grammar.{folded}
use Rattle.qw_ast.specs.ScriptGrammar.{is_word_kind, is_symbol_kind, is_number_kind, is_string_kind, is_word, is_symbol, is_number, is_string, is_name}
use Rattle.qw_parse.specs.Inner.Readers.{token_at, one_at, octets_if}
use Rattle.qw_parse.proofs.LoopLemmas.{bind_some, some_same, Shortens}

-- ---- kinds

-- of which kind what passes a test of kinds is
record Kinds (k : Kind) : Type 0 where
  pub word : is_word_kind k ≡ true → k ≡ Word
  pub symbol : is_symbol_kind k ≡ true → k ≡ Symbol
  pub number : is_number_kind k ≡ true → k ≡ Number
  pub string : is_string_kind k ≡ true → k ≡ CharacterString

kinds : (k : Kind) → Kinds k
kinds Word = record { word = λ e. refl; symbol = λ e. absurd cc; number = λ e. absurd cc; string = λ e. absurd cc }
kinds DelimitedIdentifier = record { word = λ e. absurd cc; symbol = λ e. absurd cc; number = λ e. absurd cc; string = λ e. absurd cc }
kinds CharacterString = record { word = λ e. absurd cc; symbol = λ e. absurd cc; number = λ e. absurd cc; string = λ e. refl }
kinds Number = record { word = λ e. absurd cc; symbol = λ e. absurd cc; number = λ e. refl; string = λ e. absurd cc }
kinds Symbol = record { word = λ e. absurd cc; symbol = λ e. refl; number = λ e. absurd cc; string = λ e. absurd cc }

pub number_kind : (t : Lexeme) → is_number t ≡ true → t.kind ≡ Number
number_kind t e = (kinds t.kind).number e

pub string_kind : (t : Lexeme) → is_string t ≡ true → t.kind ≡ CharacterString
string_kind t e = (kinds t.kind).string e

pub word_is : (w : List ℕ) (t : Lexeme) → IsTrue (is_word w t) → (t.kind ≡ Word) × (folded t.octets ≡ w)
word_is w t e =
    let parts = and_parts (is_word_kind t.kind) (bytes_eq (folded t.octets) w) e in
    ((kinds t.kind).word parts.0, (bytes_eq-Decides (folded t.octets) w).0 parts.1)

pub symbol_is : (s : List ℕ) (t : Lexeme) → IsTrue (is_symbol s t) → (t.kind ≡ Symbol) × (t.octets ≡ s)
symbol_is s t e =
    let parts = and_parts (is_symbol_kind t.kind) (bytes_eq t.octets s) e in
    ((kinds t.kind).symbol parts.0, (bytes_eq-Decides t.octets s).0 parts.1)

-- ---- the first token

-- the tokens begin with one that passes the test
pub data Front (test : Lexeme → Bool) : List Lexeme → List Lexeme → Type 0 where
  front : (t : Lexeme) (rest : List Lexeme) → IsTrue (test t) → Front test (t ∷ rest) rest

pub one_takes : (test : Lexeme → Bool) (ts rest : List Lexeme) → one_at test ts ≡ Some rest → Front test ts rest
unfolding one_at
one_takes test [] rest e = absurd cc
one_takes test (t ∷ ts) rest e =
    elim (cases_Bool (test t)) [
      | inl h ↦ subst (Front test (t ∷ ts)) (some_same ts rest (rw h at e)) (front t ts h)
      | inr h ↦ absurd (let none : None ≡ Some rest = rw h at e in cc)
    ]

pub one_is : (test : Lexeme → Bool) (t : Lexeme) (rest : List Lexeme) → IsTrue (test t) → one_at test (t ∷ rest) ≡ Some rest
unfolding one_at
one_is test t rest h = rw h refl

pub one_not : (test : Lexeme → Bool) (t : Lexeme) (rest : List Lexeme) → test t ≡ false → one_at test (t ∷ rest) ≡ None
unfolding one_at
one_not test t rest h = rw h refl

pub one_none : (test : Lexeme → Bool) → one_at test [] ≡ None
unfolding one_at
one_none test = refl

-- what holds where the first token passes holds
pub one_holds : (test : Lexeme → Bool) (Q : List Lexeme → Type 0) (ts rest : List Lexeme) → ((t : Lexeme) → IsTrue (test t) → Q (t ∷ rest)) → one_at test ts ≡ Some rest → Q ts
one_holds test Q ts rest holds e = of_front ts rest holds (one_takes test ts rest e)
  where
    of_front : (us vs : List Lexeme) → ((t : Lexeme) → IsTrue (test t) → Q (t ∷ vs)) → Front test us vs → Q us
    of_front _ _ holds' (front t vs h) = holds' t h

-- the tokens begin with one in which this is found
pub data Found {A : Type 0} (find : Lexeme → Option A) : A → List Lexeme → List Lexeme → Type 0 where
  found : (a : A) (t : Lexeme) (rest : List Lexeme) → find t ≡ Some a → Found find a (t ∷ rest) rest

pub token_takes : {A : Type 0} (find : Lexeme → Option A) (ts : List Lexeme) (x : A × List Lexeme) → token_at find ts ≡ Some x → Found find x.0 ts x.1
unfolding token_at
token_takes find [] x e = absurd cc
token_takes {A = A} find (t ∷ ts) x e =
    let a = bind_some (find t) (λ y. Some (y, ts)) x e in
    subst (λ (y : A × List Lexeme). Found find y.0 (t ∷ ts) y.1) (some_same (a.0, ts) x a.2) (found a.0 t ts a.1)

found_shorter : {A : Type 0} (find : Lexeme → Option A) (a : A) (ts rest : List Lexeme) → Found find a ts rest → length rest < length ts
found_shorter find _ _ _ (found a t rest h) = omega arith

pub token_is : {A : Type 0} (find : Lexeme → Option A) (t : Lexeme) (rest : List Lexeme) (a : A) → find t ≡ Some a → token_at find (t ∷ rest) ≡ Some (a, rest)
unfolding token_at
token_is find t rest a e = rw e refl

pub token_not : {A : Type 0} (find : Lexeme → Option A) (t : Lexeme) (rest : List Lexeme) → find t ≡ None → token_at find (t ∷ rest) ≡ None
unfolding token_at
token_not find t rest e = rw e refl

pub token_none : {A : Type 0} (find : Lexeme → Option A) → token_at find [] ≡ None
unfolding token_at
token_none find = refl

pub token_shortens : {A : Type 0} (find : Lexeme → Option A) → Shortens (token_at find)
token_shortens find ts x e = found_shorter find x.0 ts x.1 (token_takes find ts x e)

pub octets_found : (test : Lexeme → Bool) (t : Lexeme) (octets : List ℕ) → octets_if test t ≡ Some octets → IsTrue (test t) × (t.octets ≡ octets)
octets_found test t octets e =
    elim (cases_Bool (test t)) [
      | inl h ↦ (h, some_same t.octets octets (rw h at e))
      | inr h ↦ absurd (let none : None ≡ Some octets = rw h at e in cc)
    ]

pub octets_are : (test : Lexeme → Bool) (t : Lexeme) → IsTrue (test t) → octets_if test t ≡ Some t.octets
octets_are test t h = rw h refl

-- what holds of the octets of a first token that passes holds of those that are found
pub octets_hold : (test : Lexeme → Bool) (Q : List ℕ → List Lexeme → Type 0) (ts : List Lexeme) (x : List ℕ × List Lexeme) → ((t : Lexeme) → IsTrue (test t) → Q t.octets (t ∷ x.1)) → token_at (octets_if test) ts ≡ Some x → Q x.0 ts
octets_hold test Q ts x holds e = of_found x.0 ts x.1 holds (token_takes (octets_if test) ts x e)
  where
    of_found : (n : List ℕ) (us vs : List Lexeme) → ((t : Lexeme) → IsTrue (test t) → Q t.octets (t ∷ vs)) → Found (octets_if test) n us vs → Q n us
    of_found _ _ _ holds' (found n t vs h) = let o = octets_found test t n h in subst (λ octets. Q octets (t ∷ vs)) o.1 (holds' t o.0)

pub choose : {A : Type 0} (b : Bool) (p q : Option A) (x : A) → cond b p q ≡ Some x → ((b ≡ true) × (p ≡ Some x)) ⊎ ((b ≡ false) × (q ≡ Some x))
choose true p q x e = inl (refl, e)
choose false p q x e = inr (refl, e)

-- what holds of what the first of some tests tells holds of what they tell
pub told_or : {A : Type 0} (R : A → Type 0) (b : Bool) (a k : A) (o : Option A) → cond b (Some a) o ≡ Some k → (b ≡ true → R a) → (o ≡ Some k → R k) → R k
told_or R b a k o e one more =
    elim (choose b (Some a) o k e) [
      | inl is ↦ subst R (some_same a k is.1) (one is.0)
      | inr other ↦ more other.1
    ]

-- ---- how strongly a token goes on with what stands before it: 0 where it doesn't

abbrev pub strength : Lexeme → ℕ
strength t =
    if is_name t then 0
    else (if is_symbol (codes ".") t || is_symbol (codes "(") t then 7
    else (if is_symbol (codes "*") t || is_symbol (codes "/") t then 6
    else (if is_symbol (codes "+") t || is_symbol (codes "-") t then 5
    else (if (is_symbol (codes "=") t || is_symbol (codes "<>") t) || ((is_symbol (codes "<") t || is_symbol (codes "<=") t) || (is_symbol (codes ">") t || is_symbol (codes ">=") t)) then 4
    else (if (is_word (codes "IS") t || is_word (codes "NOT") t) || (is_word (codes "BETWEEN") t || (is_word (codes "IN") t || is_word (codes "LIKE") t)) then 3
    else (if is_word (codes "AND") t then 2
    else (if is_word (codes "OR") t then 1
    else 0)))))))

-- no token that strong follows
unfoldable pub Stops : ℕ → List Lexeme → Type 0
Stops n [] = Unit {0}
Stops n (t ∷ ts) = strength t < n

pub stops_at : (n : ℕ) (t : Lexeme) (ts : List Lexeme) → strength t < n → Stops n (t ∷ ts)
unfolding Stops
stops_at n t ts h = h

pub stops_none : (n : ℕ) → Stops n []
unfolding Stops
stops_none n = tt

pub stops_weaker : (n m : ℕ) (ts : List Lexeme) → n ≤ m → Stops n ts → Stops m ts
unfolding Stops
stops_weaker n m [] le h = tt
stops_weaker n m (t ∷ ts) le h = omega (arith, le, h)

pub stops_one : (n : ℕ) (test : Lexeme → Bool) → ((t : Lexeme) → IsTrue (test t) → n ≤ strength t) → (ts : List Lexeme) → Stops n ts → one_at test ts ≡ None
unfolding Stops
stops_one n test strong [] h = one_none test
stops_one n test strong (t ∷ ts) h =
    elim (cases_Bool (test t)) [
      | inl e ↦ absurd (let s = strong t e in omega (arith, s, h))
      | inr e ↦ one_not test t ts e
    ]

pub stops_token : {A : Type 0} (n : ℕ) (find : Lexeme → Option A) → ((t : Lexeme) (a : A) → find t ≡ Some a → n ≤ strength t) → (ts : List Lexeme) → Stops n ts → token_at find ts ≡ None
unfolding Stops
stops_token n find strong [] h = token_none find
stops_token n find strong (t ∷ ts) h = token_not find t ts (none (find t) refl)
  where
    none : (o : Option _) → find t ≡ o → find t ≡ None
    none None e = e
    none (Some a) e = absurd (let s = strong t a e in omega (arith, s, h))

-- a word or a symbol is as strong as it is

pub strong_word : (w : List ℕ) (n : ℕ) (t : Lexeme) → strength (record { kind = Word; octets = w }) ≡ n → folded w ≡ w → IsTrue (is_word w t) → strength t ≡ n
strong_word w n t e f h = let is = word_is w t h in rw (is.0, is.1) (rw f at e)

pub strong_symbol : (s : List ℕ) (n : ℕ) (t : Lexeme) → strength (record { kind = Symbol; octets = s }) ≡ n → IsTrue (is_symbol s t) → strength t ≡ n
strong_symbol s n t e h = let is = symbol_is s t h in rw (is.0, is.1) e
