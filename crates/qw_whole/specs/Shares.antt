-- The units of a grouped query behind the rows that reach GROUP BY, told apart: what each row takes as it comes, and each group at the end; and
-- those of a row that reaches DISTINCT.
use Rattle.std.specs.Prelude.{ℕ, ◌+◌, nat_eq, if◌then◌else◌, List, length, sum_by}
use Rattle.qw_types.specs.Value.{text_octets}
use Rattle.qw_types.specs.declared.value.Val.{Val}
use Rattle.qw_meaning.specs.Flow.{each, kept, rows_given}
use Rattle.qw_grouped.specs.Grouped.{Grouped, kinds_of}
use Rattle.qw_grouped.specs.Groups.{Group, group_row, key_of}
use Rattle.qw_pipe.specs.Units.{Hashing, made_units, tested_units}
use Rattle.qw_whole.specs.GroupTables.{chosen_units, group_keys, read_units, unraised}

-- the entries in the slot of a key, each one with the octets of the key's texts
abbrev pub met_units : Hashing → (entries : List (List Val)) → List Val → ℕ
met_units h entries key = sum_by (λ other. if nat_eq (h.slot (length entries) other) (h.slot (length entries) key) then 1 + text_octets key else 0) entries

-- what a row with this key takes of a table: the octets that are folded, and the entries that it meets
abbrev pub key_share : Hashing → (entries : List (List Val)) → List Val → ℕ
key_share h entries key = h.folded key + met_units h entries key

-- a row's, among all rows
abbrev pub row_share : Hashing → Grouped → (rows : List (List Val)) → List Val → ℕ
row_share h query rows row =
    key_share h (group_keys (length query.columns) rows) (key_of (length query.columns) row) + chosen_units (length query.columns) (kinds_of query.functions) row

-- of rows of the grouped table what HAVING and the select list take
abbrev pub behind_units : Grouped → List (List Val) → ℕ
behind_units query rows = tested_units query.having rows + made_units query.items (each (kept query.having) (unraised rows)).rows

-- a group's
abbrev pub group_share : Grouped → Group → ℕ
group_share query group =
    read_units (kinds_of query.functions) + behind_units query (rows_given (group_row (length query.columns) (kinds_of query.functions) group))
