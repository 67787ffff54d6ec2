-- What the hash table of a grouped query, and that of DISTINCT, take (ISO/IEC 9075:1992, 7.7, 7.9): units by which instructions are bounded, and
-- octets. An entry has a group's key and an area for each set function; a distinct row is a key without set functions.
use Rattle.std.specs.Prelude.{◌≡◌, ℕ, ◌+◌, ◌*◌, max, nat_eq, Bool, true, false, if◌then◌else◌, List, [], ◌∷◌, map, length, sum_by, slice_get, Ok}
use Rattle.std.specs.List.{list_any}
use Rattle.qw_types.specs.Value.{text_octets}
use Rattle.qw_types.specs.declared.value.Val.{Val}
use Rattle.qw_layout.specs.Row.{entry_size}
use Rattle.qw_scalar.specs.Evaluation.{cell_of}
use Rattle.qw_meaning.specs.Flow.{Flow, each, kept}
use Rattle.qw_grouped.specs.Grouped.{Grouped, kinds_of}
use Rattle.qw_grouped.specs.Groups.{Group, behind_front, grouped_table, groups, key_of, once, values_at}
use Rattle.qw_grouped.specs.SetFunctions.{set_function_value}
use Rattle.qw_grouped.specs.declared.set_function.SetFunctionKind.{SetFunctionKind}
use Rattle.qw_grouped.specs.declared.set_function.SetFunctionKind.TheVariants.{CountRows, Count, Sum, Avg, Min, Max}
use Rattle.qw_pipe.specs.Units.{Hashing, made_units, tested_units}

-- ---- a table

-- Rows with these keys are put into a table, which at last has an entry for each of these: its entries; the octets that are folded of each row's
-- key; the slots of its directory, which are walked once; and of each row and each entry in the row's slot one, with the octets of the texts in the
-- row's key. While rows come there are no more entries in a slot than at last.
abbrev pub table_units : Hashing → (entries keys : List (List Val)) → ℕ
table_units h entries keys =
    length entries + sum_by h.folded keys + h.slots (length entries)
    + sum_by (λ key. sum_by (λ other. if nat_eq (h.slot (length entries) other) (h.slot (length entries) key) then 1 + text_octets key else 0) entries) keys

-- a directory of 4,096 octets and entries
abbrev pub table_octets : (size entries : ℕ) → ℕ
table_octets size entries = 4096 + entries * size

-- ---- set functions

abbrev pub chooses : SetFunctionKind → Bool
chooses CountRows = false
chooses Count = false
chooses Sum = false
chooses Avg = false
chooses Min = true
chooses Max = true

abbrev pub is_average : SetFunctionKind → Bool
is_average CountRows = false
is_average Count = false
is_average Sum = false
is_average Avg = true
is_average Min = false
is_average Max = false

-- the octets of the text at a place of a row, 0 of a value that is none
abbrev pub octets_at : (place : ℕ) → List Val → ℕ
octets_at place row = text_octets (cell_of (slice_get row place) ∷ [])

-- At a row MIN and MAX compare its text with the one that they have chosen of the rows before, no further than the shorter one goes: at most its own
-- octets. Of several set functions, the arguments of which begin at this place, the greatest counts.
abbrev pub chosen_units : (place : ℕ) → List SetFunctionKind → List Val → ℕ
chosen_units place [] row = 0
chosen_units place (f ∷ functions) row = max (if chooses f then octets_at place row else 0) (chosen_units (place + 1) functions row)

-- what it takes at a group to read the values of its set functions: 128 units where one is an average, whose quotient takes at most 16 turns
abbrev pub read_units : List SetFunctionKind → ℕ
read_units functions = if list_any is_average functions then 128 else 0

-- values of set functions over rows, the first of whose arguments stands at this place
abbrev pub AreValues : (place : ℕ) → List SetFunctionKind → (rows : List (List Val)) → List Val → Type 0
AreValues place [] rows [] = Unit {0}
AreValues place [] rows (v ∷ values) = ⊥
AreValues place (f ∷ functions) rows [] = ⊥
AreValues place (f ∷ functions) rows (v ∷ values) = (set_function_value f (values_at place rows) ≡ Ok v) × AreValues (place + 1) functions rows values

-- ---- a grouped query, behind the rows that reach GROUP BY

abbrev pub group_keys : (columns : ℕ) → List (List Val) → List (List Val)
group_keys columns rows = map (λ (g : Group). g.key) (groups columns rows)

abbrev pub group_size : Grouped → ℕ
group_size query = entry_size (length query.columns) 0 (length query.functions)

-- The groups of all rows that reach GROUP BY, and what comes of them. Where an exception was raised no group is formed; bounds count them even so.
abbrev pub unraised : List (List Val) → Flow (List Val)
unraised rows = record { rows = rows; codes = [] }

abbrev pub all_groups : Grouped → List (List Val) → Flow (List Val)
all_groups query rows = grouped_table (length query.columns) (kinds_of query.functions) (unraised rows)

abbrev pub rows_behind : Grouped → List (List Val) → List (List Val)
rows_behind query rows = (behind_front query (unraised rows)).rows

-- The table of the groups; what MIN and MAX compare at each row; what reading its values takes at each group; HAVING at each of the groups, and the
-- select list at each that it keeps.
abbrev pub group_units : Hashing → Grouped → List (List Val) → ℕ
group_units h query rows =
    table_units h (group_keys (length query.columns) rows) (map (key_of (length query.columns)) rows)
    + sum_by (chosen_units (length query.columns) (kinds_of query.functions)) rows
    + length (groups (length query.columns) rows) * read_units (kinds_of query.functions)
    + tested_units query.having (all_groups query rows).rows
    + made_units query.items (each (kept query.having) (all_groups query rows)).rows

abbrev pub group_octets : Grouped → List (List Val) → ℕ
group_octets query rows = table_octets (group_size query) (length (groups (length query.columns) rows))

-- ---- DISTINCT

-- the table whose keys are the rows
abbrev pub distinct_units : Hashing → List (List Val) → ℕ
distinct_units h rows = table_units h (once rows) rows

abbrev pub distinct_size : (items : ℕ) → ℕ
distinct_size items = entry_size items 0 0

abbrev pub distinct_octets : (items : ℕ) → List (List Val) → ℕ
distinct_octets items rows = table_octets (distinct_size items) (length (once rows))
