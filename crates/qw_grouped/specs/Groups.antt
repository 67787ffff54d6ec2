-- Groups, and the grouped table (ISO/IEC 9075:1992, 7.7, 7.8; 3.1 for what is distinct: two nulls aren't). A row that reaches GROUP BY has the
-- values of the grouped columns, so many as there are, and behind them those of the arguments of the set functions.
use Rattle.std.specs.Prelude.{ℕ, zero, suc, ◌+◌, not, List, [], ◌∷◌, ◌++◌, map, length, take, slice_get, Result, Ok}
use Rattle.std.specs.List.{filter}
use Rattle.qw_types.specs.Arithmetic.{◌>>=◌}
use Rattle.qw_types.specs.ValueOrder.{is_same_row}
use Rattle.qw_types.specs.declared.code.Code.{Code}
use Rattle.qw_types.specs.declared.value.Val.{Val}
use Rattle.qw_scalar.specs.Evaluation.{cell_of}
use Rattle.qw_meaning.specs.Flow.{Flow, each, kept, selected}
use Rattle.qw_meaning.specs.Outcome.{flow}
use Rattle.qw_grouped.specs.Grouped.{Grouped, front, kinds_of}
use Rattle.qw_grouped.specs.SetFunctions.{set_function_value}
use Rattle.qw_grouped.specs.declared.set_function.SetFunctionKind.{SetFunctionKind}

-- of rows that aren't distinct the first
abbrev pub once : List (List Val) → List (List Val)
once [] = []
once (row ∷ rows) = row ∷ filter (λ other. not (is_same_row row other)) (once rows)

-- the values of the grouped columns
abbrev pub key_of : (columns : ℕ) → List Val → List Val
key_of columns row = take columns row

-- each key once, in the order of the first row that has it
abbrev pub keys : (columns : ℕ) → List (List Val) → List (List Val)
keys columns rows = once (map (key_of columns) rows)

-- the rows whose key isn't distinct from this one
abbrev pub members : (columns : ℕ) → (key : List Val) → List (List Val) → List (List Val)
members columns key rows = filter (λ row. is_same_row key (key_of columns row)) rows

pub record Group : Type 0 where
  pub key : List Val
  pub rows : List (List Val)

-- One group for each key; without GROUP BY all rows are one group, also where there is no row (7.7, 7.8, 7.9).
abbrev pub groups : (columns : ℕ) → List (List Val) → List Group
groups zero rows = record { key = []; rows = rows } ∷ []
groups (suc columns) rows = map (λ key. record { key = key; rows = members (suc columns) key rows }) (keys (suc columns) rows)

-- where an exception was raised no group is formed
abbrev pub groups_unless : List Code → (columns : ℕ) → List (List Val) → List Group
groups_unless [] columns rows = groups columns rows
groups_unless (code ∷ codes) columns rows = []

abbrev pub formed : (columns : ℕ) → Flow (List Val) → Flow Group
formed columns flow = record { rows = groups_unless flow.codes columns flow.rows; codes = flow.codes }

-- the values at a place of rows
abbrev pub values_at : (place : ℕ) → List (List Val) → List Val
values_at place rows = map (λ row. cell_of (slice_get row place)) rows

-- what set functions come to over rows that have the argument of the first of them at this place, from left to right
abbrev pub function_values : (place : ℕ) → List SetFunctionKind → List (List Val) → Result (List Val) Code
function_values place [] rows = Ok []
function_values place (f ∷ functions) rows =
    set_function_value f (values_at place rows) >>= (λ value. function_values (place + 1) functions rows >>= (λ values. Ok (value ∷ values)))

-- a group as a row of the grouped table: its key, and behind it the values of the set functions
abbrev pub group_row : (columns : ℕ) → List SetFunctionKind → Group → Result (List (List Val)) Code
group_row columns functions group = function_values columns functions group.rows >>= (λ values. Ok ((group.key ++ values) ∷ []))

abbrev pub grouped_table : (columns : ℕ) → List SetFunctionKind → Flow (List Val) → Flow (List Val)
grouped_table columns functions flow = each (group_row columns functions) (formed columns flow)

-- GROUP BY, HAVING and the select list, behind what reaches them
abbrev pub behind_front : Grouped → Flow (List Val) → Flow (List Val)
behind_front query before = each (selected query.items) (each (kept query.having) (grouped_table (length query.columns) (kinds_of query.functions) before))

abbrev pub grouped_flow : Grouped → List (List (List Val)) → Flow (List Val)
grouped_flow query tables = behind_front query (flow (front query) tables)
