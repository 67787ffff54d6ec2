-- DISTINCT as groups (ISO/IEC 9075:1992, 7.9): the rows of a select list, each once, are the keys of a table of groups over all its columns, without set
-- functions.
use Rattle.std.specs.Prelude.{ℕ, ◌+◌, List, [], ◌∷◌, map}
use Rattle.qw_scalar.specs.Expression.{Expression}
use Rattle.qw_scalar.specs.Typing.{kind_of}
use Rattle.qw_meaning.specs.Select.{Specification}
use Rattle.qw_grouped.specs.Grouped.{Grouped, expression_of_column, widest}
use Rattle.qw_grouped.specs.declared.query.GroupedColumn.{GroupedColumn}

-- a column for each item, numbered from one on, of the greatest type of the item's kind
abbrev pub distinct_columns : (number : ℕ) → List Expression → List GroupedColumn
distinct_columns n [] = []
distinct_columns n (e ∷ items) = record { number = n; ty = widest (kind_of e) } ∷ distinct_columns (n + 1) items

-- What is behind the rows of the select list: each key makes a row of its own values. Its columns are numbered as those of the grouped table.
abbrev pub distinct_grouping : Specification → Grouped
distinct_grouping query = record {
  sources = query.sources;
  conjuncts = query.conjuncts;
  columns = distinct_columns 0 query.items;
  functions = [];
  having = [];
  items = map expression_of_column (distinct_columns 0 query.items);
}
