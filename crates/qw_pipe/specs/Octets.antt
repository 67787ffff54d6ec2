-- What the tables of a plan's joins hold, each of the rows of the join's right side. An entry has a cell for each field of the key and for each column
-- that is kept of these rows; how many those are of some entries of FROM is a parameter.
use Rattle.std.specs.Prelude.{ℕ, ◌+◌, ◌*◌, max, List, length}
use Rattle.qw_types.specs.declared.value.Val.{Val}
use Rattle.qw_layout.specs.Row.{entry_size}
use Rattle.qw_algebra.specs.Columns.{entries_below}
use Rattle.qw_algebra.specs.Node.{Node, scan, filter, join, project, node_flow}

abbrev pub entry_octets : (kept : List ℕ → ℕ) → (right : Node) → (keys : List ℕ) → ℕ
entry_octets kept right keys = entry_size (length keys) (kept (entries_below right)) 0

-- how many tables a plan has
abbrev pub table_count : Node → ℕ
table_count (scan entry table) = 0
table_count (filter conjuncts below) = table_count below
table_count (join outer left right on keys) = table_count left + table_count right + 1
table_count (project below items) = table_count below

-- the octets of the greatest entry
abbrev pub greatest_entry : (kept : List ℕ → ℕ) → Node → ℕ
greatest_entry kept (scan entry table) = 0
greatest_entry kept (filter conjuncts below) = greatest_entry kept below
greatest_entry kept (join outer left right on keys) = max (entry_octets kept right keys) (max (greatest_entry kept left) (greatest_entry kept right))
greatest_entry kept (project below items) = greatest_entry kept below

-- those of all directories, 4,096 each, and entries
abbrev pub table_octets : (kept : List ℕ → ℕ) → (tables : List (List (List Val))) → Node → ℕ
table_octets kept tables (scan entry table) = 0
table_octets kept tables (filter conjuncts below) = table_octets kept tables below
table_octets kept tables (join outer left right on keys) =
    table_octets kept tables left + table_octets kept tables right + (4096 + length (node_flow tables right).rows * entry_octets kept right keys)
table_octets kept tables (project below items) = table_octets kept tables below
