-- A table and grouped queries over it, of worked cases.
use Rattle.std.specs.Prelude.{ℕ, true, false, List, [], ◌∷◌, Option, Some, None, codes}
use Rattle.qw_types.specs.declared.schema.Table.{Table}
use Rattle.qw_types.specs.declared.value.Ty.TheVariants as type
use Rattle.qw_scalar.specs.declared.comparison.Comparison.TheVariants.{Equal}
use Rattle.qw_ast.specs.Syntax.{Expression, column, number, Condition, comparison, SelectItem, all_columns, items, Reference, Select}
use Rattle.qw_typer.specs.Worked.{alone, table}

-- T (D INTEGER, N VARCHAR(10), E DECIMAL(18, 14), F DECIMAL(18, 15))
abbrev pub one_table : List Table
one_table = record {
  name = codes "T";
  columns = record { name = codes "D"; ty = type.Integer; not_null = false }
      ∷ record { name = codes "N"; ty = type.Varchar 10; not_null = false }
      ∷ record { name = codes "E"; ty = type.Decimal 18 14; not_null = false }
      ∷ record { name = codes "F"; ty = type.Decimal 18 15; not_null = false }
      ∷ [];
} ∷ []

-- a column by its name alone
abbrev pub named : List ℕ → Expression
named name = column None name

-- items without names
abbrev pub list_of : List Expression → List SelectItem
list_of [] = []
list_of (e ∷ es) = record { value = e; name = None } ∷ list_of es

abbrev pub by : List ℕ → Reference
by name = record { qualifier = None; name = name }

-- SELECT es FROM T GROUP BY references HAVING having
abbrev pub from_t : List Expression → List Reference → Option Condition → Select
from_t es references having = record { distinct = false; selected = items (list_of es); sources = alone (table (codes "t")) ∷ []; filter = None; grouping = references; having = having; order = [] }

-- SELECT * FROM T GROUP BY references
abbrev pub all_by : List Reference → Select
all_by references = record { distinct = false; selected = all_columns; sources = alone (table (codes "t")) ∷ []; filter = None; grouping = references; having = None; order = [] }

-- SELECT D FROM T WHERE filter
abbrev pub where_t : Condition → Select
where_t filter = record { distinct = false; selected = items (list_of (named (codes "d") ∷ [])); sources = alone (table (codes "t")) ∷ []; filter = Some filter; grouping = []; having = None; order = [] }

-- e = 1
abbrev pub is_one : Expression → Condition
is_one e = comparison Equal e (number (codes "1"))

-- the query with DISTINCT
abbrev pub once : Select → Select
once s = record { distinct = true; selected = s.selected; sources = s.sources; filter = s.filter; grouping = s.grouping; having = s.having; order = s.order }
