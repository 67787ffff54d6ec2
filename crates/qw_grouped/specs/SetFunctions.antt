-- What a set function comes to over the values of its argument at the rows of a group (ISO/IEC 9075:1992, 6.5 "set function specification";
-- 22.1 for the code).
use Rattle.std.specs.Prelude.{◌^◌, Bool, true, false, if◌then◌else◌, ℤ, pos, ◌+ℤ◌, ◌*ℤ◌, int_div, List, [], ◌∷◌, length, Result, Ok}
use Rattle.std.specs.List.{filter}
use Rattle.std.specs.Ordering.{is_ge, is_le}
use Rattle.qw_types.specs.Arithmetic.{checked}
use Rattle.qw_types.specs.ValueOrder.{value_order}
use Rattle.qw_types.specs.declared.code.Code.{Code}
use Rattle.qw_types.specs.declared.value.Val.{Val}
use Rattle.qw_types.specs.declared.value.Val.TheVariants.{Null, Num, Date, Text}
use Rattle.qw_scalar.specs.Evaluation.{as_number}
use Rattle.qw_grouped.specs.declared.set_function.SetFunctionKind.{SetFunctionKind}
use Rattle.qw_grouped.specs.declared.set_function.SetFunctionKind.TheVariants.{CountRows, Count, Sum, Avg, Min, Max}

abbrev pub is_not_null : Val → Bool
is_not_null Null = false
is_not_null (Num v) = true
is_not_null (Date d) = true
is_not_null (Text t) = true

-- the values that aren't null, in their order
abbrev pub not_null : List Val → List Val
not_null values = filter is_not_null values

-- The number that a value is. SUM and AVG are of numbers alone; what is said of others only makes them total.
abbrev pub number_in : Val → ℤ
number_in Null = pos 0
number_in (Num v) = v
number_in (Date d) = pos 0
number_in (Text t) = pos 0

-- the exact sum
abbrev pub total : List Val → ℤ
total [] = pos 0
total (v ∷ values) = number_in v +ℤ total values

-- of two values the least, and the greatest: numbers at one scale, dates as they follow one another, texts by octets (8.2)
abbrev pub lesser : Val → Val → Val
lesser v w = if is_le (value_order v w) then v else w

abbrev pub greater : Val → Val → Val
greater v w = if is_ge (value_order v w) then v else w

-- and of one and those that follow it
abbrev pub least : Val → List Val → Val
least v [] = v
least v (w ∷ values) = least (lesser v w) values

abbrev pub greatest : Val → List Val → Val
greatest v [] = v
greatest v (w ∷ values) = greatest (greater v w) values

-- The exact sum at the argument's scale, of no value null. Only what the whole sum is may be out of range.
abbrev pub sum_value : List Val → Result Val Code
sum_value [] = Ok Null
sum_value (v ∷ values) = as_number (checked (total (v ∷ values)))

-- The exact sum over their number, of no value null. Scale and truncation are the implementation's: four digits more behind the point than
-- the argument has, and truncated toward zero.
abbrev pub average_value : List Val → Result Val Code
average_value [] = Ok Null
average_value (v ∷ values) = as_number (checked (int_div (total (v ∷ values) *ℤ pos (10 ^ 4)) (pos (length (v ∷ values)))))

abbrev pub least_value : List Val → Val
least_value [] = Null
least_value (v ∷ values) = least v values

abbrev pub greatest_value : List Val → Val
greatest_value [] = Null
greatest_value (v ∷ values) = greatest v values

-- COUNT(*) counts all rows; each other one leaves the nulls out, and then COUNT counts, and SUM, AVG, MIN and MAX of no value are null.
abbrev pub set_function_value : SetFunctionKind → (values : List Val) → Result Val Code
set_function_value CountRows values = Ok (Num (pos (length values)))
set_function_value Count values = Ok (Num (pos (length (not_null values))))
set_function_value Sum values = sum_value (not_null values)
set_function_value Avg values = average_value (not_null values)
set_function_value Min values = Ok (least_value (not_null values))
set_function_value Max values = Ok (greatest_value (not_null values))
