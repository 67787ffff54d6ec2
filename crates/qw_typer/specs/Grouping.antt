-- What groups a query: the columns of its GROUP BY and its set functions; and their faults (ISO/IEC 9075:1992, 6.4, 6.5, 7.7 to 7.9). What is said
-- here of a column or a set function that has a fault means nothing, and only makes the meaning total.
use Rattle.std.specs.Prelude.{ℕ, ◌==◌, pos, nat_lt, Bool, not, ◌&&◌, if◌then◌else◌, List, [], ◌∷◌, ◌++◌, length, map, Option, Some, None, is_none, codes, unwrap_or}
use Rattle.std.specs.List.{flat_map, list_any}
use Rattle.qw_types.specs.declared.value.Ty.TheVariants as type
use Rattle.qw_scalar.specs.Expression as meaning
use Rattle.qw_grouped.specs.Grouped as group
use Rattle.qw_grouped.specs.Grouped.{type_of_function}
use Rattle.qw_grouped.specs.declared.query.GroupedColumn.{GroupedColumn}
use Rattle.qw_grouped.specs.declared.set_function.SetFunctionKind.{SetFunctionKind}
use Rattle.qw_grouped.specs.declared.set_function.SetFunctionKind.TheVariants as kind
use Rattle.qw_ast.specs.declared.script.SetFunction.{SetFunction}
use Rattle.qw_ast.specs.declared.script.SetFunction.TheVariants.{Count, Sum, Avg, Min, Max}
use Rattle.qw_ast.specs.Syntax.{column, Reference, Select}
use Rattle.qw_typer.specs.declared.fault.FaultKind.TheVariants.{NotGrouped, TooManyFunctions}
use Rattle.qw_typer.specs.Faults.{Fault, argument_faults, fault_where, faults, first_token, function_word, or_own, reference_faults}
use Rattle.qw_typer.specs.Functions.{Written, counted, applied, functions_in}
use Rattle.qw_typer.specs.Meant.{Entry, FunctionColumn, column_grouped, Grouping, Scope, meant, ungrouped}

-- GROUP BY, HAVING and a set function each group a query (7.8, 7.9)
abbrev pub is_grouped : Select → Bool
is_grouped s = not (length s.grouping == 0 && (is_none s.having && length (functions_in s) == 0))

-- ---- GROUP BY (7.7)

abbrev pub as_grouped : meaning.Expression → GroupedColumn
as_grouped (meaning.column i ty) = record { number = i; ty = ty }
as_grouped _ = record { number = 0; ty = type.Integer }

-- each is the column of FROM that its reference means
abbrev pub columns_grouped : List Entry → List Reference → List GroupedColumn
columns_grouped entries references = map (λ (r : Reference). as_grouped (meant (ungrouped entries) (column r.qualifier r.name))) references

abbrev pub columns_faults : List Entry → List Reference → List Fault
columns_faults entries references = flat_map (λ (r : Reference). reference_faults entries r.qualifier r.name) references

-- ---- set functions (6.5)

abbrev pub kind_of_function : SetFunction → SetFunctionKind
kind_of_function Count = kind.Count
kind_of_function Sum = kind.Sum
kind_of_function Avg = kind.Avg
kind_of_function Min = kind.Min
kind_of_function Max = kind.Max

-- COUNT(*) has no argument, and the number 1 stands in its place
abbrev pub rows_counted : group.SetFunction
rows_counted = record { kind = kind.CountRows; argument = meaning.number (pos 1) 0 }

-- an argument is over FROM
abbrev pub function_of : List Entry → Written → group.SetFunction
function_of entries (counted place) = rows_counted
function_of entries (applied place f a) = record { kind = kind_of_function f; argument = meant (ungrouped entries) a }

abbrev pub function_faults : List Entry → Written → List Fault
function_faults entries (counted place) = []
function_faults entries (applied place f a) = or_own (faults (ungrouped entries) a) (argument_faults (first_token a) f (meant (ungrouped entries) a))

abbrev pub functions_faults : List Entry → List Written → List Fault
functions_faults entries written = flat_map (function_faults entries) written

-- the word of the first
abbrev pub first_word : List Written → List ℕ
first_word [] = []
first_word (counted place ∷ others) = codes "COUNT"
first_word (applied place f a ∷ others) = function_word f

-- at most 128, a limit of this implementation
abbrev pub many_faults : List Written → List Fault
many_faults written = fault_where (nat_lt 128 (length written)) TooManyFunctions (first_word written)

-- where there is neither a column nor a set function there is one group alone, of which COUNT(*) is kept
abbrev pub or_rows : List GroupedColumn → List group.SetFunction → List group.SetFunction
or_rows [] [] = rows_counted ∷ []
or_rows [] (f ∷ fs) = f ∷ fs
or_rows (c ∷ cs) fs = fs

-- ---- the grouped table (7.7 to 7.9)

abbrev pub place_of_function : Written → ℕ
place_of_function (counted place) = place
place_of_function (applied place f a) = place

abbrev pub function_column : List Entry → Written → FunctionColumn
function_column entries w = record { place = place_of_function w; ty = type_of_function (function_of entries w) }

abbrev pub grouping_of : List Entry → Select → Grouping
grouping_of entries s = record { columns = columns_grouped entries s.grouping; functions = map (function_column entries) (functions_in s) }

-- what the select list and HAVING are over
abbrev pub scope_behind : List Entry → Select → Scope
scope_behind entries s = record { entries = entries; grouping = if is_grouped s then Some (grouping_of entries s) else None }

-- the faults of GROUP BY and of the set functions, of which a query that isn't grouped has none
abbrev pub grouping_faults : List Entry → Select → List Fault
grouping_faults entries s = columns_faults entries s.grouping ++ (functions_faults entries (functions_in s) ++ many_faults (functions_in s))

-- ---- `*` over it (7.9)

-- each column of FROM as a reference to it means it
abbrev pub starred : Option Grouping → List meaning.Expression → List meaning.Expression
starred None columns = columns
starred (Some grouping) columns = map (λ (e : meaning.Expression). unwrap_or (column_grouped grouping e) meaning.null) columns

-- whether some of them aren't grouped
abbrev pub has_ungrouped : Grouping → List meaning.Expression → Bool
has_ungrouped grouping columns = list_any (λ (e : meaning.Expression). is_none (column_grouped grouping e)) columns

-- One fault, however many they are. It is that of the `*`: the text says no column's name there.
abbrev pub starred_faults : Option Grouping → List meaning.Expression → List Fault
starred_faults None columns = []
starred_faults (Some grouping) columns = fault_where (has_ungrouped grouping columns) NotGrouped (codes "*")
