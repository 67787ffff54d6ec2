-- Tokens that match terminals, one and many, are what is read as them.
use Rattle.std.proofs.Common.{◌≡◌, ℕ, zero, suc, get_or, ◌<◌, ◌≤◌, Bool, true, false, cond, ◌&&◌, not, List, [], ◌∷◌, ◌++◌, length, Option, Some, None, refl, sym, ap, subst, ◌∙◌, arith, inl, inr}
use Rattle.std.specs.Prelude.{◌⊎◌, ◌↔◌, Contains, nat_eq}
use Rattle.std.specs.Bool.{Decides}
use Rattle.std.specs.List.{AllZip, list_any}
use Rattle.std.specs.Str.{bytes_eq}
use Rattle.std.specs.Str.Parse.{digits_value}
use Rattle.std.proofs.lemmas.Bool.{cases_Bool, or_left, or_right, not-true, false≢true}
use Rattle.std.proofs.lemmas.Bool.Decides.{Decides-and, Decides-or, Decides-eqb}
use Rattle.std.proofs.lemmas.Map.Views.{Contains-from_any}
use Rattle.std.proofs.lemmas.Slice.Eq.{bytes_eq-Decides}
use Rattle.qw_token.specs.declared.token.Kind.{Kind}
use Rattle.qw_token.specs.declared.token.Kind.TheVariants.{Word, DelimitedIdentifier, CharacterString, Number, Symbol}
use Rattle.qw_token.specs.Token.{Lexeme}
use Rattle.qw_types.specs.Digits.{are_digits}
use Rattle.qw_ast.specs.Grammar.{folded, name_of, reserved, IsReserved, Terminal, key_word, regular, identifier, symbol, unsigned, digits, Matches}
use Rattle.qw_schema.specs.Inner.Parser.{◌>>=◌, is_word, is_delimited, is_identifier, is_reserved, matches, terminal_at, fixed_at}

-- ---- options

pub bind_some : {A B : Type 0} (r : Option A) (f : A → Option B) (y : B) → (r >>= f) ≡ Some y → (x : A) × (r ≡ Some x) × (f x ≡ Some y)
bind_some (Some x) f y e = (x, refl, e)
bind_some None f y e = absurd cc

pub guard_some : {A : Type 0} (b : Bool) (x y : A) → cond b (Some x) None ≡ Some y → (b ≡ true) × (x ≡ y)
guard_some true x y e = (refl, cc)
guard_some false x y e = absurd cc

pub cases_option : {A : Type 0} (o : Option A) → (o ≡ None) ⊎ ((x : A) × (o ≡ Some x))
cases_option None = inl refl
cases_option (Some x) = inr (x, refl)

pub none_not_some : {A : Type 0} (o : Option A) (x : A) → o ≡ None → o ≡ Some x → ⊥
none_not_some o x none some = cc

pub some_same : {A : Type 0} (x y : A) → Some x ≡ Some y → x ≡ y
some_same x y e = cc

-- ---- whether a token matches a terminal

pub is_word-Decides : (k : Kind) → Decides (is_word k) (k ≡ Word)
is_word-Decides Word = (λ e. refl, λ e. refl)
is_word-Decides DelimitedIdentifier = (λ e. cc, λ e. cc)
is_word-Decides CharacterString = (λ e. cc, λ e. cc)
is_word-Decides Number = (λ e. cc, λ e. cc)
is_word-Decides Symbol = (λ e. cc, λ e. cc)

pub is_delimited-Decides : (k : Kind) → Decides (is_delimited k) (k ≡ DelimitedIdentifier)
is_delimited-Decides Word = (λ e. cc, λ e. cc)
is_delimited-Decides DelimitedIdentifier = (λ e. refl, λ e. refl)
is_delimited-Decides CharacterString = (λ e. cc, λ e. cc)
is_delimited-Decides Number = (λ e. cc, λ e. cc)
is_delimited-Decides Symbol = (λ e. cc, λ e. cc)

pub any_from_contains : (words : List (List ℕ)) (name : List ℕ) → Contains words name → list_any (bytes_eq name) words ≡ true
any_from_contains words name h = any_at words name h.0 h.1 h.2
  where
    any_at : (words : List (List ℕ)) (name : List ℕ) (k : ℕ) → k < length words → get_or words k name ≡ name → list_any (bytes_eq name) words ≡ true
    any_at [] name k lt e = absurd (omega arith)
    any_at (w ∷ ws) name zero lt e = or_left (bytes_eq name w) (list_any (bytes_eq name) ws) ((bytes_eq-Decides name w).1 (sym e))
    any_at (w ∷ ws) name (suc k) lt e = or_right (bytes_eq name w) (list_any (bytes_eq name) ws) (any_at ws name k (omega arith) e)

pub not_reserved-Decides : (name : List ℕ) → Decides (not (is_reserved name)) (IsReserved name → ⊥)
not_reserved-Decides name = (
  λ e r. false≢true (sym (not-true (is_reserved name) e) ∙ any_from_contains reserved name r),
  λ h. elim (cases_Bool (is_reserved name)) [
    | inl e ↦ absurd (h (Contains-from_any (λ x y. (bytes_eq-Decides x y).0) name reserved e))
    | inr e ↦ rw e refl
  ],
)

pub is_identifier-Decides : (t : Lexeme) → Decides (is_identifier t) (((t.kind ≡ Word) × (IsReserved (folded t.octets) → ⊥)) ⊎ (t.kind ≡ DelimitedIdentifier))
is_identifier-Decides t =
    Decides-or (is_word t.kind && not (is_reserved (folded t.octets))) (is_delimited t.kind)
    (Decides-and (is_word t.kind) (not (is_reserved (folded t.octets))) (is_word-Decides t.kind) (not_reserved-Decides (folded t.octets)))
    (is_delimited-Decides t.kind)

pub matches-Decides : (p : Terminal) (t : Lexeme) → Decides (matches p t) (Matches p t)
matches-Decides (key_word word) t = bytes_eq-Decides (folded t.octets) word
matches-Decides (regular name) t =
    let parts = Decides-and (is_word t.kind) (bytes_eq (folded t.octets) name && not (is_reserved name)) (is_word-Decides t.kind)
    (Decides-and (bytes_eq (folded t.octets) name) (not (is_reserved name)) (bytes_eq-Decides (folded t.octets) name) (not_reserved-Decides name)) in
    (λ e. let h = parts.0 e in (h.0, h.1.0, h.1.1), λ h. parts.1 (h.0, (h.1, h.2)))
matches-Decides (identifier name) t =
    Decides-and (is_identifier t) (bytes_eq (name_of t.octets) name) (is_identifier-Decides t) (bytes_eq-Decides (name_of t.octets) name)
matches-Decides (symbol octets) t = bytes_eq-Decides t.octets octets
matches-Decides (unsigned n) t =
    Decides-and (are_digits t.octets) (nat_eq (digits_value 10 t.octets) n) (λ e. e, λ e. e) (Decides-eqb (digits_value 10 t.octets) n)
matches-Decides (digits octets) t =
    Decides-and (are_digits t.octets) (bytes_eq t.octets octets) (λ e. e, λ e. e) (bytes_eq-Decides t.octets octets)

-- ---- one terminal

-- the tokens begin with one of this sort, and rest follows
pub record TakesOne (P : Lexeme → Type 0) (ts rest : List Lexeme) : Type 0 where
  pub token : Lexeme
  pub parts : ts ≡ token ∷ rest
  pub matches : P token

terminal_takes : (p : Terminal) (ts rest : List Lexeme) → terminal_at p ts ≡ Some rest → TakesOne (Matches p) ts rest
unfolding terminal_at
terminal_takes p [] rest e = absurd cc
terminal_takes p (t ∷ ts) rest e =
    let g = guard_some (matches p t) ts rest e in
    record { token = t; parts = ap (λ (x : List Lexeme). t ∷ x) g.1; matches = (matches-Decides p t).0 g.0 }

terminal_again : (p : Terminal) (t : Lexeme) (rest : List Lexeme) → Matches p t → terminal_at p (t ∷ rest) ≡ Some rest
unfolding terminal_at
terminal_again p t rest h = rw ((matches-Decides p t).1 h) refl

-- what matches the terminal is read, and nothing else
pub terminal_exactly : (p : Terminal) (ts rest : List Lexeme) → (terminal_at p ts ≡ Some rest) ↔ TakesOne (Matches p) ts rest
terminal_exactly p ts rest = (
  terminal_takes p ts rest,
  λ one. ap (terminal_at p) one.parts ∙ terminal_again p one.token rest one.matches,
)

not_terminal : (p : Terminal) (t : Lexeme) (rest : List Lexeme) → (Matches p t → ⊥) → terminal_at p (t ∷ rest) ≡ None
unfolding terminal_at
not_terminal p t rest h =
    elim (cases_Bool (matches p t)) [
      | inl e ↦ absurd (h ((matches-Decides p t).0 e))
      | inr e ↦ rw e refl
    ]

-- the first token doesn't match the terminal where it matches one that no token matches beside that
pub other_than : (p q : Terminal) (ts rest : List Lexeme) → TakesOne (Matches q) ts rest → ((t : Lexeme) → Matches q t → Matches p t → ⊥) → terminal_at p ts ≡ None
other_than p q ts rest one h = ap (terminal_at p) one.parts ∙ not_terminal p one.token rest (h one.token one.matches)

pub takes_shorter : (P : Lexeme → Type 0) (ts rest : List Lexeme) → TakesOne P ts rest → length rest < length ts
takes_shorter P ts rest one =
    let e : length ts ≡ suc (length rest) = ap (λ (x : List Lexeme). length x) one.parts in
    omega (arith, e)

-- ---- a row of terminals

-- the tokens begin with some that match the terminals, and rest follows
abbrev pub Fronts : List Terminal → List Lexeme → List Lexeme → Type 0
Fronts [] ts rest = ts ≡ rest
Fronts (p ∷ ps) ts rest = (after : List Lexeme) × TakesOne (Matches p) ts after × Fronts ps after rest

pub fronts_append : (ps qs : List Terminal) (ts mid rest : List Lexeme) → Fronts ps ts mid → Fronts qs mid rest → Fronts (ps ++ qs) ts rest
fronts_append [] qs ts mid rest h more = subst (λ x. Fronts qs x rest) (sym h) more
fronts_append (p ∷ ps) qs ts mid rest h more = (h.0, h.1, fronts_append ps qs h.0 mid rest h.2 more)

pub fronts_split : (ps qs : List Terminal) (ts rest : List Lexeme) → Fronts (ps ++ qs) ts rest → (mid : List Lexeme) × Fronts ps ts mid × Fronts qs mid rest
fronts_split [] qs ts rest h = (ts, refl, h)
fronts_split (p ∷ ps) qs ts rest h = let more = fronts_split ps qs h.0 rest h.2 in (more.0, (h.0, h.1, more.1), more.2)

fronts_all : (ps : List Terminal) (ts : List Lexeme) → Fronts ps ts [] → AllZip Matches ps ts
fronts_all [] ts h = subst (AllZip Matches []) (sym h) tt
fronts_all (p ∷ ps) ts h = subst (AllZip Matches (p ∷ ps)) (sym h.1.parts) (h.1.matches, fronts_all ps h.0 h.2)

all_fronts : (ps : List Terminal) (ts : List Lexeme) → AllZip Matches ps ts → Fronts ps ts []
all_fronts [] [] h = refl
all_fronts [] (t ∷ ts) h = absurd h
all_fronts (p ∷ ps) [] h = absurd h
all_fronts (p ∷ ps) (t ∷ ts) h = (ts, record { token = t; parts = refl; matches = h.0 }, all_fronts ps ts h.1)

-- the whole matches the terminals
pub fronts_whole : (ps : List Terminal) (ts : List Lexeme) → Fronts ps ts [] ↔ AllZip Matches ps ts
fronts_whole ps ts = (fronts_all ps ts, all_fronts ps ts)

-- what matches them is read, and nothing else
pub fixed_exactly : (ps : List Terminal) (ts rest : List Lexeme) → (fixed_at ps ts ≡ Some rest) ↔ Fronts ps ts rest
fixed_exactly [] ts rest = (λ e. some_same ts rest e, λ e. ap (λ (x : List Lexeme). Some x) e)
fixed_exactly (p ∷ ps) ts rest = (
  λ e.
      let a = bind_some (terminal_at p ts) (λ after. fixed_at ps after) rest e in
      (a.0, (terminal_exactly p ts a.0).0 a.1, (fixed_exactly ps a.0 rest).0 a.2),
  λ h. rw ((terminal_exactly p ts h.0).1 h.1) ((fixed_exactly ps h.0 rest).1 h.2),
)

fronts_no_longer : (ps : List Terminal) (ts rest : List Lexeme) → Fronts ps ts rest → length rest ≤ length ts
fronts_no_longer [] ts rest h = let e : length ts ≡ length rest = ap (λ (x : List Lexeme). length x) h in omega (arith, e)
fronts_no_longer (p ∷ ps) ts rest h = omega (arith, takes_shorter (Matches p) ts h.0 h.1, fronts_no_longer ps h.0 rest h.2)

pub fronts_shorter : (ps : List Terminal) (ts rest : List Lexeme) → 0 < length ps → Fronts ps ts rest → length rest < length ts
fronts_shorter [] ts rest some h = absurd (omega (arith, some))
fronts_shorter (p ∷ ps) ts rest some h = omega (arith, takes_shorter (Matches p) ts h.0 h.1, fronts_no_longer ps h.0 rest h.2)
