-- What a query, grouped or not, with DISTINCT or without (ISO/IEC 9075:1992, 7.7, 7.8, 7.9), promises of the module that it is compiled to: its
-- outcome, and bounds on a run's instructions and pages. They are told of the well placed plan of what reaches GROUP BY, or of the query itself,
-- and of the tables of groups and of distinct rows behind it.
use Rattle.std.specs.Prelude.{ℕ, ◌+◌, ◌-◌, ◌*◌, ◌/◌, max, if◌then◌else◌, List, length, map, Option}
use Rattle.qw_types.specs.declared.kind.Kind.{Kind}
use Rattle.qw_types.specs.declared.value.Val.{Val}
use Rattle.qw_linear.specs.Memory.{page}
use Rattle.qw_scalar.specs.Expression.{Expression}
use Rattle.qw_scalar.specs.Typing.{kind_of}
use Rattle.qw_meaning.specs.Select.{Specification, entries_of}
use Rattle.qw_grouped.specs.Grouped.{front}
use Rattle.qw_grouped.specs.Whole.{Body, Whole, grouped, if_distinct, plain, sources_in, whole_outcome}
use Rattle.qw_algebra.specs.Node.{node_flow}
use Rattle.qw_pipe.specs.General.{general_hashing}
use Rattle.qw_pipe.specs.Octets as joins
use Rattle.qw_map.specs.Layout.{row_size}
use Rattle.qw_promise.specs.Promise.{Promise}
use Rattle.qw_compile.specs.PlannedQueries.{kept_by, placed, planned_units}
use Rattle.qw_whole.specs.GroupTables.{distinct_octets, distinct_size, distinct_units, group_octets, group_size, group_units, rows_behind}

-- the select list
abbrev pub items_in : Body → List Expression
items_in (plain specification) = specification.items
items_in (grouped query) = query.items

-- the query that is planned: itself, or what reaches GROUP BY
abbrev pub planned_in : Body → Specification
planned_in (plain specification) = specification
planned_in (grouped query) = front query

-- the rows of a query by its plan
abbrev pub planned_rows : Specification → (tables : List (List (List Val))) → List (List Val)
planned_rows specification tables = (node_flow tables (placed specification)).rows

-- the rows that the select list makes, of all rows and groups that raise nothing by themselves
abbrev pub body_rows : Body → (tables : List (List (List Val))) → List (List Val)
body_rows (plain specification) tables = planned_rows specification tables
body_rows (grouped query) tables = rows_behind query (planned_rows (front query) tables)

-- ---- instructions

-- the rows of the result
abbrev pub result_rows : Whole → (tables : List (List (List Val))) → List (List Val)
result_rows query tables = if_distinct query.distinct (body_rows query.body tables)

-- up to the rows that the select list makes
abbrev pub body_units : Body → (tables : List (List (List Val))) → ℕ
body_units (plain specification) tables = planned_units specification tables
body_units (grouped query) tables = planned_units (front query) tables + group_units general_hashing query (planned_rows (front query) tables)

-- and with the table of distinct rows
abbrev pub units_before : Whole → (tables : List (List (List Val))) → ℕ
units_before query tables =
    if query.distinct then body_units query.body tables + distinct_units general_hashing (body_rows query.body tables) else body_units query.body tables

abbrev pub whole_units : Whole → (tables : List (List (List Val))) → ℕ
whole_units query tables = units_before query tables + length (result_rows query tables)

-- ---- pages

-- What tables take of pages: how many there are, the octets of all directories and entries, and those of the greatest entry.
pub record Taken : Type 0 where
  pub tables : ℕ
  pub octets : ℕ
  pub greatest : ℕ

abbrev pub one_more : Taken → (octets size : ℕ) → Taken
one_more taken octets size = record { tables = taken.tables + 1; octets = taken.octets + octets; greatest = max size taken.greatest }

-- by the tables of a plan's joins
abbrev pub taken_by_joins : Specification → (tables : List (List (List Val))) → Taken
taken_by_joins specification tables = record {
  tables = joins.table_count (placed specification);
  octets = joins.table_octets (kept_by specification) tables (placed specification);
  greatest = joins.greatest_entry (kept_by specification) (placed specification);
}

-- what the tables of a body take: by those of its plan's joins, and where it is grouped by that of the groups
abbrev pub taken_by_body : Body → (tables : List (List (List Val))) → Taken
taken_by_body (plain specification) tables = taken_by_joins specification tables
taken_by_body (grouped query) tables =
    one_more (taken_by_joins (front query) tables) (group_octets query (planned_rows (front query) tables)) (group_size query)

-- what all tables of a query take: by those of its body, and with DISTINCT by that of the distinct rows
abbrev pub taken : Whole → (tables : List (List (List Val))) → Taken
taken query tables =
    if query.distinct
    then one_more (taken_by_body query.body tables) (distinct_octets (length (items_in query.body)) (body_rows query.body tables)) (distinct_size (length (items_in query.body)))
    else taken_by_body query.body tables

-- The most pages that a run holds, or asks for with those held, where tables take so much and there are so many result rows of so many cells. No
-- entry and no row spans pages, so a page wastes less than the greatest of them, and all pages but the first and the last are filled to more than a
-- page less that. A directory may waste a page before it and one behind.
abbrev pub pages_for : Taken → (rows cells : ℕ) → ℕ
pages_for t rows cells = 2 + 2 * t.tables + (t.octets + rows * row_size cells) / (page - max (row_size cells) t.greatest)

abbrev pub whole_pages : Whole → (tables : List (List (List Val))) → ℕ
whole_pages query tables = pages_for (taken query tables) (length (result_rows query tables)) (length (items_in query.body))

-- ---- the promise

abbrev pub cells_of : Whole → List (Option Kind)
cells_of query = map kind_of (items_in query.body)

abbrev pub promise_of_whole : Whole → Promise
promise_of_whole query = record {
  entries = entries_of (sources_in query.body);
  cells = cells_of query;
  outcome = whole_outcome query;
  units = whole_units query;
  pages = whole_pages query;
}
