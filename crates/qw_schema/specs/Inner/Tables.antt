-- Mirrors the readers of src/parse/table.rt. Each makes what it answers of a type by `make`.
use Rattle.std.specs.Prelude.{ℕ, Bool, true, false, ◌||◌, List, [], ◌∷◌, codes, Option, Some, None, if◌then◌else◌}
use Rattle.std.specs.Str.{bytes_eq}
use Rattle.qw_types.specs.declared.value.Ty.{Ty}
use Rattle.qw_types.specs.declared.value.Ty.TheVariants as types
use Rattle.qw_token.specs.Token.{Lexeme}
use Rattle.qw_ast.specs.Grammar.{folded, key_word, symbol}
use Rattle.qw_ast.specs.SchemaGrammar.{is_sized}
use Rattle.qw_ast.specs.declared.tree.ColumnDefinition.{ColumnDefinition}
use Rattle.qw_schema.specs.declared.parse.table.TypeWord.{TypeWord}
use Rattle.qw_schema.specs.declared.parse.table.TypeWord.TheVariants.{Integer, Decimal, Date, Varchar}
use Rattle.qw_schema.specs.Inner.Parser.{token_at, given, then_at, behind_at, before_at, both_at, made_at, optional_at, list_at, comma, regular_at, identifier_of, number_of}

-- the type, if its sizes are taken
abbrev pub sized : Ty → Option Ty
sized ty = if is_sized ty then Some ty else None

-- what the word says of a type
abbrev pub type_word_of : List ℕ → Option TypeWord
type_word_of word =
    if bytes_eq word (codes "INTEGER") || bytes_eq word (codes "INT") then Some Integer
    else (if bytes_eq word (codes "DECIMAL") || (bytes_eq word (codes "DEC") || bytes_eq word (codes "NUMERIC")) then Some Decimal
    else (if bytes_eq word (codes "DATE") then Some Date
    else (if bytes_eq word (codes "VARCHAR") then Some Varchar
    else None)))

unfoldable pub type_word_at : List Lexeme → Option (TypeWord × List Lexeme)
type_word_at ts = token_at (λ (t : Lexeme). type_word_of (folded t.octets)) ts

-- an identifier
unfoldable pub identifier_at : List Lexeme → Option (List ℕ × List Lexeme)
identifier_at ts = token_at identifier_of ts

-- a number with no point
unfoldable pub number_at : List Lexeme → Option (ℕ × List Lexeme)
number_at ts = token_at number_of ts

-- a scale, or 0 where there is none
unfoldable pub scale_at : List Lexeme → Option (ℕ × List Lexeme)
scale_at ts = optional_at comma number_at (given 0) ts

-- the sizes of an exact numeric type
unfoldable pub decimal_at : {T : Type 0} → (Ty → T) → List Lexeme → Option (T × List Lexeme)
decimal_at make ts =
    made_at (λ (x : ℕ × ℕ). make (types.Decimal x.0 x.1)) (behind_at (symbol (codes "(") ∷ []) (both_at number_at (before_at scale_at (symbol (codes ")") ∷ [])))) ts

-- the length of a character type
unfoldable pub varchar_at : {T : Type 0} → (Ty → T) → List Lexeme → Option (T × List Lexeme)
varchar_at make ts =
    made_at (λ (x : ℕ). make (types.Varchar x)) (behind_at (symbol (codes "(") ∷ []) (before_at number_at (symbol (codes ")") ∷ []))) ts

-- what stands behind the word of a type
abbrev pub sizes_at : {T : Type 0} → (Ty → T) → TypeWord → List Lexeme → Option (T × List Lexeme)
sizes_at make Integer = given (make types.Integer)
sizes_at make Decimal = decimal_at make
sizes_at make Date = given (make types.Date)
sizes_at make Varchar = varchar_at make

-- a data type
unfoldable pub type_at : {T : Type 0} → (Ty → T) → List Lexeme → Option (T × List Lexeme)
type_at make ts = then_at type_word_at (sizes_at make) ts

-- NOT NULL or nothing
unfoldable pub nullability_at : List Lexeme → Option (Bool × List Lexeme)
nullability_at ts = optional_at (key_word (codes "NOT")) (behind_at (key_word (codes "NULL") ∷ []) (given true)) (given false) ts

-- a column definition
unfoldable pub column_at : {T : Type 0} → (Ty → T) → List Lexeme → Option ((List ℕ × (T × Bool)) × List Lexeme)
column_at make ts = both_at identifier_at (both_at (type_at make) nullability_at) ts

-- CREATE TABLE table (
unfoldable pub table_at : List Lexeme → Option (List ℕ × List Lexeme)
table_at ts =
    behind_at (key_word (codes "CREATE") ∷ key_word (codes "TABLE") ∷ []) (before_at regular_at (symbol (codes "(") ∷ [])) ts

-- a table definition
unfoldable pub create_table_at : {T : Type 0} → (Ty → T) → List Lexeme → Option ((List ℕ × List (List ℕ × (T × Bool))) × List Lexeme)
create_table_at make ts = both_at table_at (before_at (list_at (column_at make)) (symbol (codes ")") ∷ [])) ts

-- what is read of a column
abbrev pub read_of : ColumnDefinition → List ℕ × (Option Ty × Bool)
read_of c = (c.name, (c.ty, c.not_null))
