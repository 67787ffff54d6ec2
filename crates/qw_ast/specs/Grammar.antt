-- What the forms of a schema are made of (ISO/IEC 9075:1992, 5.2 "token", 5.3 "literal", 5.4 "identifier"). They are in SchemaGrammar.
use Rattle.std.specs.Prelude.{◌≡◌, ℕ, if◌then◌else◌, IsTrue, List, [], ◌∷◌, ◌++◌, ◌⊎◌, map, ◌==◌, codes, Contains}
use Rattle.std.specs.Char.{to_ascii_uppercase}
use Rattle.std.specs.Str.Parse.{digits_value}
use Rattle.qw_token.specs.declared.token.Kind.TheVariants.{Word, DelimitedIdentifier}
use Rattle.qw_types.specs.Digits.{are_digits}
use Rattle.qw_types.specs.Octets.{double_quote}
use Rattle.qw_token.specs.Token.{Lexeme, begins_with}
use Rattle.qw_ast.specs.Quoted.{unquoted}

-- with each ASCII letter in upper case
abbrev pub folded : List ℕ → List ℕ
folded octets = map to_ascii_uppercase octets

-- the words that are no regular identifiers
abbrev pub reserved : List (List ℕ)
reserved =
    codes "ALL" ∷ codes "AND" ∷ codes "AS" ∷ codes "ASC" ∷ codes "AVG" ∷ codes "BETWEEN" ∷ codes "BY" ∷ codes "CASE" ∷
    codes "COALESCE" ∷ codes "COUNT" ∷ codes "CREATE" ∷ codes "CROSS" ∷ codes "DATE" ∷ codes "DEC" ∷ codes "DECIMAL" ∷
    codes "DESC" ∷ codes "DISTINCT" ∷ codes "ELSE" ∷ codes "END" ∷ codes "EXCEPT" ∷ codes "EXISTS" ∷ codes "EXTRACT" ∷
    codes "FALSE" ∷ codes "FROM" ∷ codes "FULL" ∷ codes "GROUP" ∷ codes "HAVING" ∷ codes "IN" ∷ codes "INNER" ∷
    codes "INT" ∷ codes "INTEGER" ∷ codes "INTERSECT" ∷ codes "INTERVAL" ∷ codes "IS" ∷ codes "JOIN" ∷ codes "LEFT" ∷
    codes "LIKE" ∷ codes "MAX" ∷ codes "MIN" ∷ codes "NATURAL" ∷ codes "NOT" ∷ codes "NULL" ∷ codes "NULLIF" ∷
    codes "NUMERIC" ∷ codes "ON" ∷ codes "OR" ∷ codes "ORDER" ∷ codes "OUTER" ∷ codes "RIGHT" ∷ codes "SELECT" ∷
    codes "SUM" ∷ codes "TABLE" ∷ codes "THEN" ∷ codes "TRUE" ∷ codes "UNION" ∷ codes "UNKNOWN" ∷ codes "USING" ∷
    codes "VARCHAR" ∷ codes "WHEN" ∷ codes "WHERE" ∷ []

-- one of the reserved words
abbrev pub IsReserved : List ℕ → Type 0
IsReserved name = Contains reserved name

-- The name that an identifier is (5.2, 5.4): a delimited one is kept as it is written, a regular one in upper case.
abbrev pub name_of : List ℕ → List ℕ
name_of octets = if begins_with (λ b. b == double_quote) octets then unquoted double_quote octets else folded octets

-- what a form is made of: a key word, a regular identifier of this name, one that may be delimited, a symbol, an unsigned integer
-- by its value, or by its digits
pub data Terminal : Type 0 where
  key_word : List ℕ → Terminal
  regular : List ℕ → Terminal
  identifier : List ℕ → Terminal
  symbol : List ℕ → Terminal
  unsigned : ℕ → Terminal
  digits : List ℕ → Terminal

-- the token matches the terminal
abbrev pub Matches : Terminal → Lexeme → Type 0
Matches (key_word word) t = folded t.octets ≡ word
Matches (regular name) t = (t.kind ≡ Word) × (folded t.octets ≡ name) × (IsReserved name → ⊥)
Matches (identifier name) t =
    (((t.kind ≡ Word) × (IsReserved (folded t.octets) → ⊥)) ⊎ (t.kind ≡ DelimitedIdentifier)) × (name_of t.octets ≡ name)
Matches (symbol octets) t = t.octets ≡ octets
Matches (unsigned n) t = IsTrue (are_digits t.octets) × (digits_value 10 t.octets ≡ n)
Matches (digits octets) t = IsTrue (are_digits t.octets) × (t.octets ≡ octets)

-- each of the forms behind a comma
abbrev pub behind_commas : List (List Terminal) → List Terminal
behind_commas [] = []
behind_commas (form ∷ forms) = symbol (codes ",") ∷ (form ++ behind_commas forms)

-- the forms, with a comma between each two
abbrev pub separated : List (List Terminal) → List Terminal
separated [] = []
separated (form ∷ forms) = form ++ behind_commas forms
