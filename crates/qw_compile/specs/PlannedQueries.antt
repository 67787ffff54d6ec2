-- What a query specification (ISO/IEC 9075:1992, 7.9) promises of the module that it is compiled to: its outcome, and
-- bounds on a run's instructions and pages, which are told of its well placed plan.
use Rattle.std.specs.Prelude.{ℕ, ◌+◌, ◌-◌, ◌*◌, ◌/◌, max, nat_eq, Bool, true, not, ◌||◌, List, [], ◌++◌, length, map}
use Rattle.std.specs.List.{filter, flat_map, list_any, range_with_len}
use Rattle.qw_types.specs.declared.value.Val.{Val}
use Rattle.qw_linear.specs.Memory.{page}
use Rattle.qw_scalar.specs.Expression.{Condition, Expression}
use Rattle.qw_scalar.specs.Typing.{kind_of}
use Rattle.qw_meaning.specs.Outcome.{outcome}
use Rattle.qw_meaning.specs.Select.{Specification, conjuncts_on, entries_of}
use Rattle.qw_algebra.specs.Columns.{condition_names_only, names_only}
use Rattle.qw_algebra.specs.Node.{Node, node_flow}
use Rattle.qw_algebra.specs.Written.{written}
use Rattle.qw_rewrite.specs.Probe.{keyed}
use Rattle.qw_rewrite.specs.Sift.{sifted}
use Rattle.qw_pipe.specs.General.{general_hashing}
use Rattle.qw_pipe.specs.Octets.{greatest_entry, table_count, table_octets}
use Rattle.qw_pipe.specs.Units.{units_of}
use Rattle.qw_map.specs.Layout.{row_size}
use Rattle.qw_promise.specs.Promise.{Promise}

-- the plan of a query, each conjunct at its place and each join by its keys
abbrev pub placed : Specification → Node
placed query = keyed true (sifted true [] (written query))

-- ---- instructions

-- What the plan takes: the rows of each scan, what its joins' tables take, and the octets of the texts that are compared, the greatest comparison of
-- a step at each row or pair that reaches it.
abbrev pub planned_units : Specification → List (List (List Val)) → ℕ
planned_units query tables = units_of general_hashing tables (placed query)

-- The units of a run are those of the plan and the rows of the result.
abbrev pub units : Specification → List (List (List Val)) → ℕ
units query tables = planned_units query tables + length (node_flow tables (placed query)).rows

-- ---- pages

-- an expression names this column
abbrev pub names : ℕ → Expression → Bool
names i e = not (names_only (λ j. not (nat_eq j i)) e)

abbrev pub condition_names : ℕ → Condition → Bool
condition_names i c = not (condition_names_only (λ j. not (nat_eq j i)) c)

-- an expression of the query does: of an ON, of WHERE or of the select list
abbrev pub reads : Specification → ℕ → Bool
reads query i = list_any (condition_names i) (conjuncts_on query.sources ++ query.conjuncts) || list_any (names i) query.items

-- of the 64 columns of each of these entries of FROM, those that are read
abbrev pub columns_read : Specification → (entries : List ℕ) → List ℕ
columns_read query entries = filter (reads query) (flat_map (λ entry. range_with_len (64 * entry) 64) entries)

-- how many columns of some entries the entries of a hash table keep
abbrev pub kept_by : Specification → (entries : List ℕ) → ℕ
kept_by query entries = length (columns_read query entries)

-- the octets of the greatest entry or result row
abbrev pub greatest : Specification → ℕ
greatest query = max (row_size (length query.items)) (greatest_entry (kept_by query) (placed query))

-- the octets of all directories, entries and result rows
abbrev pub stored : Specification → (tables : List (List (List Val))) → ℕ
stored query tables = table_octets (kept_by query) tables (placed query) + length (node_flow tables (placed query)).rows * row_size (length query.items)

-- The most pages that a run holds, or asks for with those held. No entry and no row spans pages, so a page wastes less than the greatest of them,
-- and all pages but the first and the last are filled to more than a page less that. A directory may waste a page before it and one behind.
abbrev pub page_bound : Specification → List (List (List Val)) → ℕ
page_bound query tables = 2 + 2 * table_count (placed query) + stored query tables / (page - greatest query)

abbrev pub promise_of : Specification → Promise
promise_of query = record {
  entries = entries_of query.sources;
  cells = map kind_of query.items;
  outcome = outcome query;
  units = units query;
  pages = page_bound query;
}
