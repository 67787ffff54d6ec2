-- The grouped queries of the worked cases, over the tables of `WorkedQueries` in qw_meaning.
use Rattle.std.specs.Prelude.{ℕ, pos, neg_ℤ, false, true, List, [], ◌∷◌}
use Rattle.qw_types.specs.declared.value.Ty.TheVariants as type
use Rattle.qw_types.specs.declared.value.Val.{Val}
use Rattle.qw_types.specs.declared.value.Val.TheVariants.{Num}
use Rattle.qw_scalar.specs.declared.expression.Operator.TheVariants.{Divide, Subtract}
use Rattle.qw_scalar.specs.Expression.{Condition, Expression, arithmetic, column, number}
use Rattle.qw_meaning.specs.Select.{Entry, alone}
use Rattle.qw_meaning.specs.WorkedQueries.{items_entry, one_column, required}
use Rattle.qw_grouped.specs.Grouped.{Grouped, SetFunction}
use Rattle.qw_grouped.specs.Whole.{Whole, grouped}
use Rattle.qw_grouped.specs.declared.query.GroupedColumn.{GroupedColumn}
use Rattle.qw_grouped.specs.declared.set_function.SetFunctionKind.{SetFunctionKind}
use Rattle.qw_grouped.specs.declared.set_function.SetFunctionKind.TheVariants.{CountRows}

-- COUNT(*), and a set function of an argument
abbrev pub count_rows : SetFunction
count_rows = record { kind = CountRows; argument = number (pos 1) 0 }

abbrev pub applied_to : SetFunctionKind → Expression → SetFunction
applied_to kind argument = record { kind = kind; argument = argument }

-- columns of ITEM, the first entry
abbrev pub id : Expression
id = column 0 type.Integer

abbrev pub price : Expression
price = column 1 (type.Decimal 9 2)

abbrev pub label : Expression
label = column 3 (type.Varchar 20)

-- GROUP BY ID, GROUP BY LABEL, GROUP BY PRICE
abbrev pub by_id : GroupedColumn
by_id = record { number = 0; ty = type.Integer }

abbrev pub by_price : GroupedColumn
by_price = record { number = 1; ty = type.Decimal 9 2 }

abbrev pub by_label : GroupedColumn
by_label = record { number = 3; ty = type.Varchar 20 }

-- columns of the grouped table: an INTEGER, a count, a text
abbrev pub integer_at : ℕ → Expression
integer_at i = column i type.Integer

abbrev pub number_at : (scale i : ℕ) → Expression
number_at scale i = column i (type.Decimal 18 scale)

abbrev pub label_at : ℕ → Expression
label_at i = column i (type.Varchar 20)

-- FROM ITEM WHERE conjuncts GROUP BY columns HAVING having
abbrev pub of_items : List Condition → List GroupedColumn → List SetFunction → (having : List Condition) → List Expression → Grouped
of_items conjuncts columns functions having items = record {
  sources = alone items_entry ∷ [];
  conjuncts = conjuncts;
  columns = columns;
  functions = functions;
  having = having;
  items = items;
}

-- NOTHING, of one column X and no row, and T, of one column A: the first of the tables
abbrev pub of_first_column : (table : ℕ) → List GroupedColumn → List SetFunction → List Expression → Grouped
of_first_column table columns functions items = record {
  sources = alone (one_column table) ∷ [];
  conjuncts = [];
  columns = columns;
  functions = functions;
  having = [];
  items = items;
}

-- W (V DECIMAL(18, 0) NOT NULL), and its rows: twice the greatest number, and its negative
abbrev pub large_numbers : Entry
large_numbers = record { table = 0; columns = required (type.Decimal 18 0) ∷ [] }

abbrev pub of_large_numbers : List SetFunction → (having : List Condition) → List Expression → Grouped
of_large_numbers functions having items = record {
  sources = alone large_numbers ∷ [];
  conjuncts = [];
  columns = [];
  functions = functions;
  having = having;
  items = items;
}

abbrev pub greatest_twice : List (List Val)
greatest_twice = (Num (pos 999999999999999999) ∷ []) ∷ (Num (pos 999999999999999999) ∷ []) ∷ []

abbrev pub with_negative : List (List Val)
with_negative = (Num (pos 999999999999999999) ∷ []) ∷ (Num (pos 999999999999999999) ∷ []) ∷ (Num (neg_ℤ (pos 999999999999999999)) ∷ []) ∷ []

-- 10 / (e - 1), of a whole number
abbrev pub quotient : Expression → Expression
quotient e = arithmetic Divide (number (pos 10) 0) (arithmetic Subtract e (number (pos 1) 0))

abbrev pub all_of : Grouped → Whole
all_of query = record { body = grouped query; distinct = false }

abbrev pub distinct_of : Grouped → Whole
distinct_of query = record { body = grouped query; distinct = true }
