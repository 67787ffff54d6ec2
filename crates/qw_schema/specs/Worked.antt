-- The tokens of the worked cases: table definitions (ISO/IEC 9075:1992, 11.3) with columns of several types.
use Rattle.std.specs.Prelude.{ℕ, zero, suc, false, true, List, [], ◌∷◌, ◌++◌, codes}
use Rattle.qw_types.specs.declared.schema.Column.{Column}
use Rattle.qw_types.specs.declared.schema.Table.{Table}
use Rattle.qw_types.specs.declared.value.Ty.{Ty}
use Rattle.qw_types.specs.declared.value.Ty.TheVariants as ty
use Rattle.qw_token.specs.Token.{Lexeme}
use Rattle.qw_token.specs.declared.token.Kind.TheVariants.{Number, Symbol, Word}

abbrev pub word : List ℕ → Lexeme
word text = record { kind = Word; octets = text }

abbrev pub number : List ℕ → Lexeme
number text = record { kind = Number; octets = text }

abbrev pub sign : List ℕ → Lexeme
sign text = record { kind = Symbol; octets = text }

-- CREATE TABLE name (columns)
abbrev pub create_table : (name : List ℕ) → (columns : List Lexeme) → List Lexeme
create_table name columns = word (codes "CREATE") ∷ word (codes "table") ∷ word name ∷ sign (codes "(") ∷ (columns ++ sign (codes ")") ∷ [])

-- name INT, name VARCHAR(n), name DEC(p, s)
abbrev pub int_column : (name : List ℕ) → List Lexeme
int_column name = word name ∷ word (codes "INT") ∷ []

abbrev pub text_column : (name n : List ℕ) → List Lexeme
text_column name n = word name ∷ word (codes "VARCHAR") ∷ sign (codes "(") ∷ number n ∷ sign (codes ")") ∷ []

abbrev pub decimal_column : (name p s : List ℕ) → List Lexeme
decimal_column name p s = word name ∷ word (codes "DEC") ∷ sign (codes "(") ∷ number p ∷ sign (codes ",") ∷ number s ∷ sign (codes ")") ∷ []

-- A VARCHAR(0), so many times and once more, with commas
abbrev pub alike_columns : ℕ → List Lexeme
alike_columns zero = text_column (codes "A") (codes "0")
alike_columns (suc n) = text_column (codes "A") (codes "0") ++ sign (codes ",") ∷ alike_columns n

-- a column that may be null
abbrev pub nullable : (name : List ℕ) → Ty → Column
nullable name type = record { name = name; ty = type; not_null = false }

-- CREATE TABLE item (id INT NOT NULL, Price DEC(9,2), SOLD DATE, LABEL VARCHAR(20)), and the table
abbrev pub item_tokens : List Lexeme
item_tokens = create_table (codes "item")
    (int_column (codes "id") ++ word (codes "NOT") ∷ word (codes "NULL") ∷ sign (codes ",") ∷ decimal_column (codes "Price") (codes "9") (codes "2") ++ sign (codes ",") ∷ word (codes "SOLD") ∷ word (codes "DATE") ∷ sign (codes ",") ∷ text_column (codes "LABEL") (codes "20"))

abbrev pub item_table : Table
item_table = record {
  name = codes "ITEM";
  columns = record { name = codes "ID"; ty = ty.Integer; not_null = true } ∷ nullable (codes "PRICE") (ty.Decimal 9 2) ∷ nullable (codes "SOLD") ty.Date ∷ nullable (codes "LABEL") (ty.Varchar 20) ∷ [];
}

-- CREATE TABLE T (A INT); CREATE TABLE U (A INT); and the tables
abbrev pub two_tokens : List Lexeme
two_tokens = create_table (codes "T") (int_column (codes "A")) ++ sign (codes ";") ∷ create_table (codes "U") (int_column (codes "A")) ++ sign (codes ";") ∷ []

abbrev pub two_tables : List Table
two_tables = record { name = codes "T"; columns = nullable (codes "A") ty.Integer ∷ [] } ∷ record { name = codes "U"; columns = nullable (codes "A") ty.Integer ∷ [] } ∷ []

-- CREATE TABLE T (A DEC(18,18), B VARCHAR(1000)), and the table
abbrev pub greatest_tokens : List Lexeme
greatest_tokens = create_table (codes "T") (decimal_column (codes "A") (codes "18") (codes "18") ++ sign (codes ",") ∷ text_column (codes "B") (codes "1000"))

abbrev pub greatest_table : Table
greatest_table = record { name = codes "T"; columns = nullable (codes "A") (ty.Decimal 18 18) ∷ nullable (codes "B") (ty.Varchar 1000) ∷ [] }
