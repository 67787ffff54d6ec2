-- What flows from clause to clause of a query specification: rows, and the exceptions raised so far (ISO/IEC 9075:1992, 7.6, 7.9, 22.1).
-- FROM begins it; each clause after it is a function from such flows to such flows.
use Rattle.std.specs.Prelude.{if◌then◌else◌, List, [], ◌∷◌, ◌++◌, Result, Ok, Err}
use Rattle.std.specs.List.{flat_map}
use Rattle.qw_types.specs.Arithmetic.{◌>>=◌}
use Rattle.qw_types.specs.declared.code.Code.{Code}
use Rattle.qw_types.specs.declared.value.Val.{Val}
use Rattle.qw_scalar.specs.Conjuncts.{passes}
use Rattle.qw_scalar.specs.Evaluation.{Environment, value_of, at_row}
use Rattle.qw_scalar.specs.Expression.{Condition, Expression}

pub record Flow (R : Type 0) : Type 0 where
  pub rows : List R
  pub codes : List Code

-- what came of one row: rows, or the exception that it raised
abbrev pub given : {R : Type 0} → Result (List R) Code → Flow R
given (Ok rows) = record { rows = rows; codes = [] }
given (Err code) = record { rows = []; codes = code ∷ [] }

abbrev pub rows_given : {R : Type 0} → Result (List R) Code → List R
rows_given result = (given result).rows

abbrev pub codes_given : {R : Type 0} → Result (List R) Code → List Code
codes_given result = (given result).codes

-- A clause that makes a flow of each row by itself. Its exceptions are added to those raised before.
abbrev pub spread : {A B : Type 0} → (A → Flow B) → Flow A → Flow B
spread work flow = record {
  rows = flat_map (λ row. (work row).rows) flow.rows;
  codes = flow.codes ++ flat_map (λ row. (work row).codes) flow.rows;
}

-- one of which a row that raises goes no further
abbrev pub each : {A B : Type 0} → (A → Result (List B) Code) → Flow A → Flow B
each work flow = spread (λ row. given (work row)) flow

-- ON and WHERE keep a row exactly where their conjuncts pass (7.5, 7.6)
abbrev pub kept : List Condition → List Val → Result (List (List Val)) Code
kept conjuncts row = passes conjuncts (at_row row) >>= (λ passed. Ok (if passed then row ∷ [] else []))

-- the values of a select list, from left to right
abbrev pub values_of : List Expression → Environment → Result (List Val) Code
values_of [] env = Ok []
values_of (item ∷ items) env = value_of item env >>= (λ value. values_of items env >>= (λ values. Ok (value ∷ values)))

-- the select list makes one row of each (7.9)
abbrev pub selected : List Expression → List Val → Result (List (List Val)) Code
selected items row = values_of items (at_row row) >>= (λ values. Ok (values ∷ []))
