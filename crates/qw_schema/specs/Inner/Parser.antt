-- Mirrors the readers of src/parse/form.rt, and the test of literal.rt. A reader answers what it found and the tokens behind that. Each way to put readers together has its lemma in proofs/FormLemmas and
-- proofs/ListLemmas.
use Rattle.std.specs.Prelude.{ℕ, zero, suc, ◌^◌, nat_lt, nat_eq, Bool, true, false, ◌&&◌, ◌||◌, not, List, [], ◌∷◌, ◌++◌, length, ℤ, pos, codes, Option, Some, None, if◌then◌else◌}
use Rattle.std.specs.List.{list_any}
use Rattle.std.specs.Option.{option_map_or}
use Rattle.std.specs.Str.{bytes_eq}
use Rattle.std.specs.Str.Parse.{digits_value}
use Rattle.qw_token.specs.declared.token.Kind.{Kind}
use Rattle.qw_token.specs.declared.token.Kind.TheVariants.{Word, DelimitedIdentifier}
use Rattle.qw_types.specs.Digits.{are_digits}
use Rattle.qw_token.specs.Token.{Lexeme}
use Rattle.qw_ast.specs.Grammar.{folded, name_of, reserved, Terminal, key_word, regular, identifier, symbol, unsigned, digits}

-- the next step, where there is a value
infixl 10 ◌>>=◌
abbrev pub ◌>>=◌ : {A B : Type 0} → Option A → (A → Option B) → Option B
(Some x) >>= f = f x
None >>= f = None

-- whether the kind is that of words
abbrev pub is_word : Kind → Bool
is_word Word = true
is_word _ = false

-- whether the name is a reserved word
abbrev pub is_reserved : List ℕ → Bool
is_reserved name = list_any (bytes_eq name) reserved

-- whether the kind is that of delimited identifiers
abbrev pub is_delimited : Kind → Bool
is_delimited DelimitedIdentifier = true
is_delimited _ = false

-- whether the token is an identifier
abbrev pub is_identifier : Lexeme → Bool
is_identifier t = (is_word t.kind && not (is_reserved (folded t.octets))) || is_delimited t.kind

-- whether the token matches the terminal
abbrev pub matches : Terminal → Lexeme → Bool
matches (key_word word) t = bytes_eq (folded t.octets) word
matches (regular name) t = is_word t.kind && (bytes_eq (folded t.octets) name && not (is_reserved name))
matches (identifier name) t = is_identifier t && bytes_eq (name_of t.octets) name
matches (symbol octets) t = bytes_eq t.octets octets
matches (unsigned n) t = are_digits t.octets && nat_eq (digits_value 10 t.octets) n
matches (digits octets) t = are_digits t.octets && bytes_eq t.octets octets

-- ---- readers of one token

-- the tokens behind one that matches the terminal
unfoldable pub terminal_at : Terminal → List Lexeme → Option (List Lexeme)
terminal_at terminal [] = None
terminal_at terminal (t ∷ ts) = if matches terminal t then Some ts else None

-- what is found in the first token, and the tokens behind it
unfoldable pub token_at : {A : Type 0} → (Lexeme → Option A) → List Lexeme → Option (A × List Lexeme)
token_at find [] = None
token_at find (t ∷ ts) = do
  x ← find t
  Some (x, ts)

-- the name that a regular identifier is, in upper case
abbrev pub regular_of : Lexeme → Option (List ℕ)
regular_of t = if is_word t.kind && not (is_reserved (folded t.octets)) then Some (folded t.octets) else None

-- the name that an identifier is
abbrev pub identifier_of : Lexeme → Option (List ℕ)
identifier_of t = if is_identifier t then Some (name_of t.octets) else None

-- the number that digits are
abbrev pub number_of : Lexeme → Option ℕ
number_of t = if are_digits t.octets then Some (digits_value 10 t.octets) else None

-- the digits, if they are such
abbrev pub digits_of : Lexeme → Option (List ℕ)
digits_of t = if are_digits t.octets then Some t.octets else None

-- the number that digits are, if it fits
abbrev pub literal_of : List ℕ → Option ℤ
literal_of octets =
    if are_digits octets && nat_lt (digits_value 10 octets) (10 ^ 18)
    then Some (pos (digits_value 10 octets))
    else None

-- ---- ways to put readers together

-- the tokens behind some that match the terminals
abbrev pub fixed_at : List Terminal → List Lexeme → Option (List Lexeme)
fixed_at [] ts = Some ts
fixed_at (terminal ∷ terminals) ts = terminal_at terminal ts >>= (λ rest. fixed_at terminals rest)

-- what is read behind the terminals
abbrev pub behind_at : {A : Type 0} → List Terminal → (List Lexeme → Option (A × List Lexeme)) → List Lexeme → Option (A × List Lexeme)
behind_at terminals read ts = fixed_at terminals ts >>= (λ rest. read rest)

-- what is read before the terminals
abbrev pub before_at : {A : Type 0} → (List Lexeme → Option (A × List Lexeme)) → List Terminal → List Lexeme → Option (A × List Lexeme)
before_at read terminals ts = do
  x ← read ts
  rest ← fixed_at terminals x.1
  Some (x.0, rest)

-- what the two read, one behind the other
abbrev pub both_at : {A B : Type 0} → (List Lexeme → Option (A × List Lexeme)) → (List Lexeme → Option (B × List Lexeme)) → List Lexeme → Option ((A × B) × List Lexeme)
both_at first second ts = do
  x ← first ts
  y ← second x.1
  Some ((x.0, y.0), y.1)

-- what is made of what is read
abbrev pub made_at : {A B : Type 0} → (A → B) → (List Lexeme → Option (A × List Lexeme)) → List Lexeme → Option (B × List Lexeme)
made_at make read ts = do
  x ← read ts
  Some (make x.0, x.1)

-- what the first reads behind the terminal, or where that isn't there what the second reads
abbrev pub optional_at : {A : Type 0} → Terminal → (List Lexeme → Option (A × List Lexeme)) → (List Lexeme → Option (A × List Lexeme)) → List Lexeme → Option (A × List Lexeme)
optional_at terminal first second ts = option_map_or (λ rest. first rest) (terminal_at terminal ts) (second ts)

-- x, and no token for it
abbrev pub given : {A : Type 0} → A → List Lexeme → Option (A × List Lexeme)
given x ts = Some (x, ts)

-- what the second reads behind what the first read
abbrev pub then_at : {A B : Type 0} → (List Lexeme → Option (A × List Lexeme)) → (A → List Lexeme → Option (B × List Lexeme)) → List Lexeme → Option (B × List Lexeme)
then_at first second ts = do
  x ← first ts
  second x.0 x.1

-- a comma
abbrev pub comma : Terminal
comma = symbol (codes ",")

-- what is read, behind other items
abbrev pub behind : {A : Type 0} → List A → Option (List A × List Lexeme) → Option (List A × List Lexeme)
behind front None = None
behind front (Some read) = Some (front ++ read.0, read.1)

-- the items that stand behind a comma each, and the tokens behind those; only for fewer than `most` of them
unfoldable pub further_within : {A : Type 0} → ℕ → (List Lexeme → Option (A × List Lexeme)) → List Lexeme → Option (List A × List Lexeme)
further_within zero read ts = None
further_within (suc most) read ts =
    option_map_or
    (λ after. read after >>= (λ first. behind (first.0 ∷ []) (further_within most read first.1)))
    (terminal_at comma ts)
    (Some ([], ts))

-- the same for any number: there are fewer items than tokens
abbrev pub further : {A : Type 0} → (List Lexeme → Option (A × List Lexeme)) → List Lexeme → Option (List A × List Lexeme)
further read ts = further_within (suc (length ts)) read ts

-- the items, with a comma between each two, and the tokens behind the list
unfoldable pub list_at : {A : Type 0} → (List Lexeme → Option (A × List Lexeme)) → List Lexeme → Option (List A × List Lexeme)
list_at read ts = do
  first ← read ts
  behind (first.0 ∷ []) (further read first.1)

-- whether no token is left
abbrev pub is_none : List Lexeme → Bool
is_none [] = true
is_none (t ∷ ts) = false

-- what is read of all tokens
abbrev pub all_of : {A : Type 0} → (List Lexeme → Option (A × List Lexeme)) → List Lexeme → Option A
all_of read ts = do
  x ← read ts
  if is_none x.1 then Some x.0 else None

-- ---- the rules of the grammar

-- a regular identifier
unfoldable pub regular_at : List Lexeme → Option (List ℕ × List Lexeme)
regular_at ts = token_at regular_of ts

-- digits
unfoldable pub digits_at : List Lexeme → Option (List ℕ × List Lexeme)
digits_at ts = token_at digits_of ts
