-- The forms of a schema (ISO/IEC 9075:1992, 6.1 "data type", 11.3 "table definition", 11.4 "column definition"). A form is the
-- list of the terminals that stand for a part of the schema; the part is told without its limits.
use Rattle.std.specs.Prelude.{ℕ, suc, ◌-◌, ◌<◌, Bool, true, false, ◌&&◌, ◌||◌, nat_le, nat_lt, if◌then◌else◌, List, [], ◌∷◌, ◌++◌, length, take, codes}
use Rattle.std.specs.List.{AllZip}
use Rattle.std.specs.Str.{bytes_eq}
use Rattle.qw_types.specs.declared.schema.Column.{Column}
use Rattle.qw_types.specs.declared.schema.Table.{Table}
use Rattle.qw_types.specs.declared.value.Ty.{Ty}
use Rattle.qw_types.specs.declared.value.Ty.TheVariants.{Integer, Decimal, Date, Varchar}
use Rattle.qw_token.specs.Token.{Lexeme}
use Rattle.qw_ast.specs.Grammar.{folded, Terminal, key_word, regular, identifier, symbol, unsigned, Matches, separated}

-- ---- the grammar

-- a word of the exact numeric types that have sizes
pub data IsDecimalWord : List ℕ → Type 0 where
  word_decimal : IsDecimalWord (codes "DECIMAL")
  word_dec : IsDecimalWord (codes "DEC")
  word_numeric : IsDecimalWord (codes "NUMERIC")

-- a data type (6.1), and a form of it; a scale that isn't there is 0
pub data IsDataType : Ty → List Terminal → Type 0 where
  integer : IsDataType Integer (key_word (codes "INTEGER") ∷ [])
  int : IsDataType Integer (key_word (codes "INT") ∷ [])
  decimal : (word : List ℕ) (precision : ℕ) → IsDecimalWord word → IsDataType (Decimal precision 0) (key_word word ∷ symbol (codes "(") ∷ unsigned precision ∷ symbol (codes ")") ∷ [])
  decimal_scaled : (word : List ℕ) (precision scale : ℕ) → IsDecimalWord word → IsDataType (Decimal precision scale) (key_word word ∷ symbol (codes "(") ∷ unsigned precision ∷ symbol (codes ",") ∷ unsigned scale ∷ symbol (codes ")") ∷ [])
  date : IsDataType Date (key_word (codes "DATE") ∷ [])
  varchar : (n : ℕ) → IsDataType (Varchar n) (key_word (codes "VARCHAR") ∷ symbol (codes "(") ∷ unsigned n ∷ symbol (codes ")") ∷ [])

-- a column definition (11.4), and a form of it
pub data IsColumnDefinition : Column → List Terminal → Type 0 where
  nullable : (name : List ℕ) (ty : Ty) (form : List Terminal) → IsDataType ty form → IsColumnDefinition (record { name = name; ty = ty; not_null = false }) (identifier name ∷ form)
  not_null : (name : List ℕ) (ty : Ty) (form : List Terminal) → IsDataType ty form → IsColumnDefinition (record { name = name; ty = ty; not_null = true }) (identifier name ∷ (form ++ key_word (codes "NOT") ∷ key_word (codes "NULL") ∷ []))

-- a table definition (11.3), and a form of it: one column or more, with a comma between each two
pub data IsTableDefinition : Table → List Terminal → Type 0 where
  table : (name : List ℕ) (columns : List Column) (forms : List (List Terminal)) → 0 < length columns → AllZip IsColumnDefinition columns forms
      → IsTableDefinition (record { name = name; columns = columns })
      (key_word (codes "CREATE") ∷ key_word (codes "TABLE") ∷ regular name ∷ symbol (codes "(") ∷ (separated forms ++ symbol (codes ")") ∷ []))

-- The tokens are those of a form of this table definition.
pub record IsTableOf (tokens : List Lexeme) (table : Table) : Type 0 where
  pub form : List Terminal
  pub definition : IsTableDefinition table form
  pub follows : AllZip Matches form tokens

-- ---- the statements of a text

-- a `;`
abbrev pub is_semicolon : Lexeme → Bool
is_semicolon t = bytes_eq t.octets (codes ";")

-- with the token before the first statement
abbrev pub before_first : Lexeme → List (List Lexeme) → List (List Lexeme)
before_first t [] = (t ∷ []) ∷ []
before_first t (statement ∷ statements) = (t ∷ statement) ∷ statements

-- The statements: the tokens before each `;`, and those behind the last one if there are any.
unfoldable pub statements : List Lexeme → List (List Lexeme)
statements [] = []
statements (t ∷ ts) = if is_semicolon t then [] ∷ statements ts else before_first t (statements ts)

-- ---- how deep brackets are nested

-- a `(`, or the key word CASE
abbrev pub opens : Lexeme → Bool
opens t = bytes_eq t.octets (codes "(") || bytes_eq (folded t.octets) (codes "CASE")

-- a `)`, or the key word END
abbrev pub closes : Lexeme → Bool
closes t = bytes_eq t.octets (codes ")") || bytes_eq (folded t.octets) (codes "END")

-- what is open behind the token, where so much was open before it
abbrev pub depth_behind : ℕ → Lexeme → ℕ
depth_behind depth t = if opens t then suc depth else (if closes t then depth - 1 else depth)

-- what is open behind the tokens
abbrev pub depth_after : ℕ → List Lexeme → ℕ
depth_after depth [] = depth
depth_after depth (t ∷ ts) = depth_after (depth_behind depth t) ts

-- More than 32 are open behind some token of the statement.
abbrev pub IsTooDeep : List Lexeme → Type 0
IsTooDeep ts = (count : ℕ) × (32 < depth_after 0 (take count ts))

-- Whether more than 32 are open behind some token, where so much was open before. From 0 it decides IsTooDeep.
unfoldable pub exceeds : ℕ → List Lexeme → Bool
exceeds depth [] = false
exceeds depth (t ∷ ts) = nat_lt 32 (depth_behind depth t) || exceeds (depth_behind depth t) ts

-- ---- sizes

-- Whether a type has sizes that are taken: a precision of 1 to 18, a scale that is no greater, a length of 1 to 1,000. The
-- standard leaves the greatest of each to the implementation (6.1).
abbrev pub is_sized : Ty → Bool
is_sized Integer = true
is_sized (Decimal precision scale) = (nat_le 1 precision && nat_le precision 18) && nat_le scale precision
is_sized Date = true
is_sized (Varchar n) = nat_le 1 n && nat_le n 1000
