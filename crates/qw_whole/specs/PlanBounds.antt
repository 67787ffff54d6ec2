-- The bounds of a run of a whole query's plan: units by which instructions are bounded, and pages (ISO/IEC 9075:1992, 7.4 to 7.9). A row, a pair or a
-- group that raises an exception goes no further, and all others count, also where an exception keeps groups from being formed. Set operations (7.10)
-- will count what both sides take, and but for UNION ALL a table besides, whose entries are the distinct rows of both and which each of these meets.
use Rattle.std.specs.Prelude.{ℕ, ◌+◌, ◌*◌, Bool, ◌||◌, List, [], ◌++◌, map, length, sum_by}
use Rattle.std.specs.List.{filter as kept_of, flat_map, list_any, range_with_len}
use Rattle.qw_types.specs.declared.value.Val.{Val}
use Rattle.qw_layout.specs.Row.{entry_size}
use Rattle.qw_scalar.specs.Expression.{Expression}
use Rattle.qw_meaning.specs.Flow.{each, kept}
use Rattle.qw_grouped.specs.Groups.{groups, key_of, once}
use Rattle.qw_algebra.specs.Node.{Node, filter, join, node_flow, project, scan}
use Rattle.qw_rewrite.specs.Placed.{conjuncts_of}
use Rattle.qw_pipe.specs.Octets as joins
use Rattle.qw_pipe.specs.Units.{Hashing, made_units, tested_units, units_of}
use Rattle.qw_plan.specs.Plan.{Plan, rows, stage}
use Rattle.qw_plan.specs.Stages.{Stage, distinct, group, show, stage_flow}
use Rattle.qw_plan.specs.Widths.{plan_width}
use Rattle.qw_compile.specs.PlannedQueries.{condition_names, names}
use Rattle.qw_whole.specs.GroupTables.{chosen_units, distinct_units, group_keys, read_units, table_octets, table_units, unraised}
use Rattle.qw_whole.specs.WholePromises.{Taken, one_more, pages_for}

-- the rows that are counted
abbrev pub plan_rows : (tables : List (List (List Val))) → Plan → List (List Val)
plan_rows tables (rows node) = (node_flow tables node).rows
plan_rows tables (stage s below) = (stage_flow s (unraised (plan_rows tables below))).rows

-- ---- instructions

-- A table of the groups; what MIN and MAX compare at each row; what reading its values takes at each group. HAVING at each row, and the select list at
-- each that it keeps. A table of the distinct rows.
abbrev pub stage_units : Hashing → Stage → List (List Val) → ℕ
stage_units h (group columns functions) rs =
    table_units h (group_keys columns rs) (map (key_of columns) rs) + sum_by (chosen_units columns functions) rs + length (groups columns rs) * read_units functions
stage_units h (show having items) rs = tested_units having rs + made_units items (each (kept having) (unraised rs)).rows
stage_units h distinct rs = distinct_units h rs

-- up to the rows that the plan makes, which count where they are the result's
abbrev pub plan_units : Hashing → (tables : List (List (List Val))) → Plan → ℕ
plan_units h tables (rows node) = units_of h tables node
plan_units h tables (stage s below) = plan_units h tables below + stage_units h s (plan_rows tables below)

-- ---- pages

-- the items of all lists of a plan
abbrev pub lists_of : Node → List Expression
lists_of (scan entry table) = []
lists_of (filter conjuncts below) = lists_of below
lists_of (join outer left right on keys) = lists_of left ++ lists_of right
lists_of (project below items) = lists_of below ++ items

-- an expression of a plan names this column: of a conjunct, or of a list
abbrev pub reads_in : Node → ℕ → Bool
reads_in node i = list_any (condition_names i) (conjuncts_of node) || list_any (names i) (lists_of node)

-- of the 64 columns of each of these entries of FROM, how many a plan reads: so many the entries of a join's table keep
abbrev pub columns_kept : Node → (entries : List ℕ) → ℕ
columns_kept node entries = length (kept_of (reads_in node) (flat_map (λ entry. range_with_len (64 * entry) 64) entries))

-- with one table more, of so many entries of this size
abbrev pub with_entries : Taken → (entries size : ℕ) → Taken
with_entries taken entries size = one_more taken (table_octets size entries) size

-- with the table of a stage, over rows of this width
abbrev pub with_stage : Stage → (width : ℕ) → List (List Val) → Taken → Taken
with_stage (group columns functions) width rs taken = with_entries taken (length (groups columns rs)) (entry_size columns 0 (length functions))
with_stage (show having items) width rs taken = taken
with_stage distinct width rs taken = with_entries taken (length (once rs)) (entry_size width 0 0)

abbrev pub plan_taken : (tables : List (List (List Val))) → Plan → Taken
plan_taken tables (rows node) = record {
  tables = joins.table_count node;
  octets = joins.table_octets (columns_kept node) tables node;
  greatest = joins.greatest_entry (columns_kept node) node;
}
plan_taken tables (stage s below) = with_stage s (plan_width below) (plan_rows tables below) (plan_taken tables below)

abbrev pub plan_pages : (tables : List (List (List Val))) → Plan → ℕ
plan_pages tables plan = pages_for (plan_taken tables plan) (length (plan_rows tables plan)) (plan_width plan)
