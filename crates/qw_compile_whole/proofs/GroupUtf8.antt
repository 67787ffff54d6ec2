-- The texts that reach the groups of a query, and those that MIN and MAX choose of them, are UTF-8, as the texts of tables and of literals are.
use Rattle.std.proofs.Common.{◌≡◌, ℕ, zero, suc, ◌+◌, Bool, true, false, if◌then◌else◌, IsUtf8, ℤ, pos, ◌*ℤ◌, int_div, List, [], ◌∷◌, ◌++◌, map, length, Result, Ok, Err, IfOk, slice_get, subst}
use Rattle.std.specs.List.{AllByRecursion}
use Rattle.std.specs.List.Sorted.{IsPermutation}
use Rattle.std.specs.Ordering.{is_ge, is_le}
use Rattle.std.proofs.ByRecursion.{all_shuffled}
use Rattle.qw_types.specs.Arithmetic.{◌>>=◌, checked}
use Rattle.qw_types.specs.Value.{IsSized}
use Rattle.qw_types.specs.ValueOrder.{is_same_row, value_order}
use Rattle.qw_types.specs.declared.code.Code.{Code}
use Rattle.qw_types.specs.declared.schema.ColumnType.{ColumnType}
use Rattle.qw_types.specs.declared.value.Val.{Val}
use Rattle.qw_scalar.specs.Evaluation.{as_number, cell_of}
use Rattle.qw_leaves.specs.Leaves.{HasLeaves, OfText}
use Rattle.qw_meaning.specs.Outcome.{flow}
use Rattle.qw_meaning.specs.Select.{AreOfEntries, Entry, entries_of}
use Rattle.qw_grouped.specs.Grouped.{Grouped, IsGrouped, arguments_of, expression_of_column, front, kinds_of}
use Rattle.qw_grouped.specs.Groups.{function_values, key_of, members, values_at}
use Rattle.qw_grouped.specs.SetFunctions.{average_value, greater, greatest, greatest_value, is_not_null, least, least_value, lesser, not_null, set_function_value, sum_value, total}
use Rattle.qw_grouped.specs.declared.query.GroupedColumn.{GroupedColumn}
use Rattle.qw_grouped.specs.declared.set_function.SetFunctionKind.{SetFunctionKind}
use Rattle.qw_grouped.specs.declared.set_function.SetFunctionKind.TheVariants.{CountRows, Count, Sum, Avg, Min, Max}
use Rattle.qw_grouped.proofs.Lists.{all_filter}
use Rattle.qw_meaning.proofs.ListLemmas.{all_map, all_more}
use Rattle.qw_scalar.specs.Typing.{IsUtf8Value}
use Rattle.qw_compile_whole.proofs.HeldRows.{IsHeldRow, row_utf8, rows_held}

-- ---- set functions

either_utf8 : (v w : Val) (b : Bool) → IsUtf8Value v → IsUtf8Value w → IsUtf8Value (if b then v else w)
either_utf8 v w true h g = h
either_utf8 v w false h g = g

least_utf8 : (v : Val) (values : List Val) → IsUtf8Value v → AllByRecursion IsUtf8Value values → IsUtf8Value (least v values)
least_utf8 v [] h g = h
least_utf8 v (w ∷ values) h g = least_utf8 (lesser v w) values (either_utf8 v w (is_le (value_order v w)) h g.0) g.1

greatest_utf8 : (v : Val) (values : List Val) → IsUtf8Value v → AllByRecursion IsUtf8Value values → IsUtf8Value (greatest v values)
greatest_utf8 v [] h g = h
greatest_utf8 v (w ∷ values) h g = greatest_utf8 (greater v w) values (either_utf8 v w (is_ge (value_order v w)) h g.0) g.1

least_of : (values : List Val) → AllByRecursion IsUtf8Value values → IsUtf8Value (least_value values)
least_of [] h = tt
least_of (v ∷ values) h = least_utf8 v values h.0 h.1

greatest_of : (values : List Val) → AllByRecursion IsUtf8Value values → IsUtf8Value (greatest_value values)
greatest_of [] h = tt
greatest_of (v ∷ values) h = greatest_utf8 v values h.0 h.1

number_utf8 : (r : Result ℤ Code) → IfOk (as_number r) IsUtf8Value
number_utf8 (Ok v) = tt
number_utf8 (Err code) = tt

sum_utf8 : (values : List Val) → IfOk (sum_value values) IsUtf8Value
sum_utf8 [] = tt
sum_utf8 (v ∷ values) = number_utf8 (checked (total (v ∷ values)))

average_utf8 : (values : List Val) → IfOk (average_value values) IsUtf8Value
average_utf8 [] = tt
average_utf8 (v ∷ values) = number_utf8 (checked (int_div (total (v ∷ values) *ℤ pos 10000) (pos (length (v ∷ values)))))

function_utf8 : (f : SetFunctionKind) (values : List Val) → AllByRecursion IsUtf8Value values → IfOk (set_function_value f values) IsUtf8Value
function_utf8 CountRows values h = tt
function_utf8 Count values h = tt
function_utf8 Sum values h = sum_utf8 (not_null values)
function_utf8 Avg values h = average_utf8 (not_null values)
function_utf8 Min values h = least_of (not_null values) (all_filter IsUtf8Value is_not_null values h)
function_utf8 Max values h = greatest_of (not_null values) (all_filter IsUtf8Value is_not_null values h)

pub cell_utf8 : (place : ℕ) (row : List Val) → AllByRecursion IsUtf8Value row → IsUtf8Value (cell_of (slice_get row place))
cell_utf8 place [] h = tt
cell_utf8 zero (v ∷ row) h = h.0
cell_utf8 (suc place) (v ∷ row) h = cell_utf8 place row h.1

pub functions_utf8 : (functions : List SetFunctionKind) (place : ℕ) (rows : List (List Val)) → AllByRecursion (AllByRecursion IsUtf8Value) rows → IfOk (function_values place functions rows) (AllByRecursion IsUtf8Value)
functions_utf8 [] place rows h = tt
functions_utf8 (f ∷ functions) place rows h =
    both (set_function_value f (values_at place rows)) (function_values (place + 1) functions rows)
    (function_utf8 f (values_at place rows) (all_map (AllByRecursion IsUtf8Value) IsUtf8Value (λ row. cell_of (slice_get row place)) rows (λ row r. cell_utf8 place row r) h))
    (functions_utf8 functions (place + 1) rows h)
  where
    both : (r : Result Val Code) (q : Result (List Val) Code) → IfOk r IsUtf8Value → IfOk q (AllByRecursion IsUtf8Value) → IfOk (r >>= (λ value. q >>= (λ values. Ok (value ∷ values)))) (AllByRecursion IsUtf8Value)
    both (Ok v) (Ok vs) x y = (x, y)
    both (Ok v) (Err code) x y = tt
    both (Err code) q x y = tt

-- ---- what reaches the groups

module _ (query : Grouped) (whole : IsGrouped query) (tables : List (List (List Val))) (loaded : AreOfEntries (entries_of query.sources) tables)
    (sized : AllByRecursion (λ (e : Entry). AllByRecursion (λ (c : ColumnType). IsSized c.ty) e.columns) (entries_of query.sources)) (texts : AllByRecursion (HasLeaves (OfText IsUtf8)) (arguments_of query.functions)) where
  all_texts : (columns : List GroupedColumn) → AllByRecursion (HasLeaves (OfText IsUtf8)) (map expression_of_column columns ++ arguments_of query.functions)
  all_texts [] = texts
  all_texts (c ∷ columns) = (tt, all_texts columns)

  pub rows_utf8 : AllByRecursion (AllByRecursion IsUtf8Value) (flow (front query) tables).rows
  rows_utf8 = all_more (IsHeldRow (front query).items) (AllByRecursion IsUtf8Value) (flow (front query) tables).rows (λ row h. row_utf8 (front query).items row h) (rows_held (front query) tables whole.front loaded sized (all_texts query.columns))

  -- of these rows, in any order
  pub values_utf8 : (rows : List (List Val)) → IsPermutation (flow (front query) tables).rows rows → (key vs : List Val) → function_values (length query.columns) (kinds_of query.functions) (members (length query.columns) key rows) ≡ Ok vs → AllByRecursion IsUtf8Value vs
  values_utf8 rows same key vs come =
      let all = all_shuffled (AllByRecursion IsUtf8Value) (flow (front query) tables).rows rows same rows_utf8 in
      let mine = all_filter (AllByRecursion IsUtf8Value) (λ row. is_same_row key (key_of (length query.columns) row)) rows all in
      subst (λ (r : Result (List Val) Code). IfOk r (AllByRecursion IsUtf8Value)) come (functions_utf8 (kinds_of query.functions) (length query.columns) (members (length query.columns) key rows) mine)

  -- and of all of them
  pub alone_utf8 : (rows : List (List Val)) → IsPermutation (flow (front query) tables).rows rows → (vs : List Val) → function_values (length query.columns) (kinds_of query.functions) rows ≡ Ok vs → AllByRecursion IsUtf8Value vs
  alone_utf8 rows same vs come =
      let all = all_shuffled (AllByRecursion IsUtf8Value) (flow (front query) tables).rows rows same rows_utf8 in
      subst (λ (r : Result (List Val) Code). IfOk r (AllByRecursion IsUtf8Value)) come (functions_utf8 (kinds_of query.functions) (length query.columns) rows all)
