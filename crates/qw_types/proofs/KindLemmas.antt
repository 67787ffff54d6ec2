-- A value of a type, of a column or of a row of columns is one of their kinds.
use Rattle.std.proofs.Common.{◌<◌, ◌≤◌, ◌^◌, ℕ, ℤ, pos, negsuc, ◌≤ℤ◌, List, [], ◌∷◌, map, unsigned_abs, IsTrue, Bool, arith}
use Rattle.std.specs.List.{AllByRecursion, AllZip}
use Rattle.std.proofs.lemmas.Int.{ints}
use Rattle.std.proofs.Math.Nat.{pow-le-pow_right}
use Rattle.qw_types.specs.Arithmetic.{fits}
use Rattle.qw_types.specs.Calendar.{days_of}
use Rattle.qw_types.specs.Kind.{IsDateNumber, IsOfKind, IsRowOf, type_kind}
use Rattle.qw_types.specs.Value.{IsDay, IsOfColumn, IsOfType, IsOfTypeOrNull, IsSized}
use Rattle.qw_types.specs.declared.schema.Column.{Column}
use Rattle.qw_types.specs.declared.value.Ty.{Ty}
use Rattle.qw_types.specs.declared.value.Ty.TheVariants as ty
use Rattle.qw_types.specs.declared.value.Val.{Val}
use Rattle.qw_types.specs.declared.value.Val.TheVariants as val

-- a number of fewer than 19 digits fits
few_fit : (number : ℤ) → unsigned_abs number < 10 ^ 18 → IsTrue (fits number)
few_fit number few = grind arith

integer_fits : (number : ℤ) → negsuc 2147483647 ≤ℤ number → number ≤ℤ pos 2147483647 → IsTrue (fits number)
integer_fits (pos m) least greatest = few_fit (pos m) (omega (arith, ints, greatest))
integer_fits (negsuc m) least greatest = few_fit (negsuc m) (omega (arith, ints, least))

decimal_fits : (number : ℤ) (precision : ℕ) → precision ≤ 18 → unsigned_abs number < 10 ^ precision → IsTrue (fits number)
decimal_fits number precision short few =
    let most : 10 ^ precision ≤ 10 ^ 18 = pow-le-pow_right (omega arith) short in
    few_fit number (omega (arith, few, most))

pub month_short : (year month : ℕ) → days_of year month ≤ 31
month_short year month = grind arith

pub day_number : (number : ℤ) → IsDay number → IsDateNumber number
day_number number is =
    let there = is.there in
    let short = month_short is.year is.month in
    rw is.packed_is (omega (arith, ints, there.first_year, there.first_month, there.first_day), omega (arith, ints, there.last_year, there.last_month, there.last_day, short))

pub typed_of_kind : (type : Ty) (value : Val) → IsSized type → IsOfType type value → IsOfKind (type_kind type) value
typed_of_kind type val.Null sized of = tt
typed_of_kind ty.Integer (val.Num number) sized of = integer_fits number of.0 of.1
typed_of_kind (ty.Decimal precision scale) (val.Num number) sized of = decimal_fits number precision sized.1 of
typed_of_kind ty.Date (val.Num number) sized of = absurd of
typed_of_kind (ty.Varchar limit) (val.Num number) sized of = absurd of
typed_of_kind ty.Integer (val.Date number) sized of = absurd of
typed_of_kind (ty.Decimal precision scale) (val.Date number) sized of = absurd of
typed_of_kind ty.Date (val.Date number) sized of = of
typed_of_kind (ty.Varchar limit) (val.Date number) sized of = absurd of
typed_of_kind ty.Integer (val.Text octets) sized of = absurd of
typed_of_kind (ty.Decimal precision scale) (val.Text octets) sized of = absurd of
typed_of_kind ty.Date (val.Text octets) sized of = absurd of
typed_of_kind (ty.Varchar limit) (val.Text octets) sized of = tt

pub stored_of_kind : (type : Ty) (not_null : Bool) (value : Val) → IsSized type → IsOfTypeOrNull type not_null value → IsOfKind (type_kind type) value
stored_of_kind type not_null val.Null sized of = tt
stored_of_kind type not_null (val.Num number) sized of = typed_of_kind type (val.Num number) sized of
stored_of_kind type not_null (val.Date number) sized of = typed_of_kind type (val.Date number) sized of
stored_of_kind type not_null (val.Text octets) sized of = typed_of_kind type (val.Text octets) sized of

pub column_of_kind : (column : Column) (value : Val) → IsSized column.ty → IsOfColumn column value → IsOfKind (type_kind column.ty) value
column_of_kind column value sized of = stored_of_kind column.ty column.not_null value sized of

pub row_of_kinds : (columns : List Column) (row : List Val) → AllByRecursion (λ (c : Column). IsSized c.ty) columns → AllZip IsOfColumn columns row
    → IsRowOf (map (λ (c : Column). type_kind c.ty) columns) row
row_of_kinds [] [] sized of = tt
row_of_kinds [] (value ∷ row) sized of = absurd of
row_of_kinds (column ∷ columns) [] sized of = absurd of
row_of_kinds (column ∷ columns) (value ∷ row) sized of = (column_of_kind column value sized.0 of.0, row_of_kinds columns row sized.1 of.1)
