-- The columns and the queries of the worked cases, whose rows are those of `WorkedRows` in qw_scalar.
use Rattle.std.specs.Prelude.{ℕ, ◌+◌, ◌*◌, ℤ, pos, true, false, List, [], ◌∷◌}
use Rattle.qw_types.specs.declared.schema.ColumnType.{ColumnType}
use Rattle.qw_types.specs.declared.value.Ty.{Ty}
use Rattle.qw_types.specs.declared.value.Ty.TheVariants as type
use Rattle.qw_types.specs.declared.value.Val.{Val}
use Rattle.qw_types.specs.declared.value.Val.TheVariants.{Null, Num, Date, Text}
use Rattle.qw_scalar.specs.declared.comparison.Comparison.{Comparison}
use Rattle.qw_scalar.specs.declared.comparison.Comparison.TheVariants.{Equal, Greater}
use Rattle.qw_scalar.specs.declared.expression.Operator.TheVariants.{Add, Divide, Subtract}
use Rattle.qw_scalar.specs.Expression.{Condition, Expression, arithmetic, column, comparison, number}
use Rattle.qw_scalar.specs.WorkedRows.{ink, pen}
use Rattle.qw_meaning.specs.Select.{Entry, Source, Specification, alone}

-- a column that may be null, and one that is NOT NULL
abbrev pub nullable : Ty → ColumnType
nullable type = record { ty = type; not_null = false }

abbrev pub required : Ty → ColumnType
required type = record { ty = type; not_null = true }

-- ITEM, the first table of the schema; NOTE (ITEM INTEGER NOT NULL, RATE DECIMAL(3, 1)), the second
abbrev pub item_entry : Entry
item_entry = record { table = 0; columns = required type.Integer ∷ nullable (type.Decimal 9 2) ∷ nullable type.Date ∷ nullable (type.Varchar 20) ∷ [] }

abbrev pub note_entry : Entry
note_entry = record { table = 1; columns = required type.Integer ∷ nullable (type.Decimal 3 1) ∷ [] }

-- a table of one INTEGER column A
abbrev pub numbers : Entry
numbers = record { table = 0; columns = nullable type.Integer ∷ [] }

-- SELECT A FROM T WHERE A op n
abbrev pub where_compared : Comparison → ℤ → Specification
where_compared op n = record {
  sources = alone numbers ∷ [];
  conjuncts = comparison op (column 0 type.Integer) (number n 0) ∷ [];
  items = column 0 type.Integer ∷ [];
}

-- SELECT columns FROM T WHERE B = 5, over INTEGERs A, B and C
abbrev pub where_second_is_five : (items : List Expression) → Specification
where_second_is_five items = record {
  sources = alone (record { table = 0; columns = nullable type.Integer ∷ nullable type.Integer ∷ nullable type.Integer ∷ [] }) ∷ [];
  conjuncts = comparison Equal (column 1 type.Integer) (number (pos 5) 0) ∷ [];
  items = items;
}

-- ITEM JOIN NOTE ON a = b
abbrev pub item_joined : (a b : Expression) → Source
item_joined a b = record { first = item_entry; joins = record { entry = note_entry; outer = false; on = comparison Equal a b ∷ [] } ∷ [] }

-- tables of one INTEGER column: A and B of 1, 1 and null, NOTHING of no row; then ITEM
abbrev pub one_column : (table : ℕ) → Entry
one_column table = record { table = table; columns = nullable type.Integer ∷ [] }

abbrev pub ones : List (List Val)
ones = (Num (pos 1) ∷ []) ∷ (Num (pos 1) ∷ []) ∷ (Null ∷ []) ∷ []

abbrev pub items_table : List (List Val)
items_table =
    (Num (pos 1) ∷ Num (pos 1000) ∷ Date (pos 19980902) ∷ Text pen ∷ [])
    ∷ (Num (pos 2) ∷ Null ∷ Date (pos 19980903) ∷ Text ink ∷ [])
    ∷ (Num (pos 3) ∷ Num (pos 50) ∷ Null ∷ Text pen ∷ [])
    ∷ []

abbrev pub four_tables : List (List (List Val))
four_tables = ones ∷ ones ∷ [] ∷ items_table ∷ []

abbrev pub items_entry : Entry
items_entry = record item_entry { table = 3 }

-- A JOIN B ON A.K = B.K, from entry number `first` on
abbrev pub a_joined_b : (first : ℕ) → Source
a_joined_b first = record {
  first = one_column 0;
  joins = record { entry = one_column 1; outer = false; on = comparison Equal (column (64 * first) type.Integer) (column (64 * (first + 1)) type.Integer) ∷ [] } ∷ [];
}

-- A LEFT JOIN table ON condition
abbrev pub a_left_joined_b : (table : ℕ) → Condition → Source
a_left_joined_b table on = record { first = one_column 0; joins = record { entry = one_column table; outer = true; on = on ∷ [] } ∷ [] }

-- 10 / (i - 1) > 6, of an INTEGER column
abbrev pub quotient_above_six : (i : ℕ) → Condition
quotient_above_six i =
    comparison Greater (arithmetic Divide (number (pos 10) 0) (arithmetic Subtract (column i type.Integer) (number (pos 1) 0))) (number (pos 6) 0)

-- i = j + 1, of INTEGER columns
abbrev pub is_next : (i j : ℕ) → Condition
is_next i j = comparison Equal (column i type.Integer) (arithmetic Add (column j type.Integer) (number (pos 1) 0))
