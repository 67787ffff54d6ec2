-- Which values a type and a column have.
use Rattle.std.specs.Prelude.{◌≡◌, ℕ, pos, negsuc, ℤ, ◌≤◌, ◌≤ℤ◌, ◌<◌, ◌+◌, ◌/◌, ◌%◌, ◌^◌, nat_le, ◌&&◌, Bool, false, unsigned_abs, length, List, [], ◌∷◌, Option, slice_get, IsUtf8, chars}
use Rattle.std.specs.Option.{option_and_then}
use Rattle.qw_types.specs.Calendar.{IsDate, days_of, packed}
use Rattle.qw_types.specs.declared.schema.Column.{Column}
use Rattle.qw_types.specs.declared.value.Ty.{Ty}
use Rattle.qw_types.specs.declared.value.Ty.TheVariants as ty
use Rattle.qw_types.specs.declared.value.Val.{Val}
use Rattle.qw_types.specs.declared.value.Val.TheVariants as val

-- a day of the calendar, as the number year * 10000 + month * 100 + day
pub record IsDay (number : ℤ) : Type 0 where
  pub year : ℕ
  pub month : ℕ
  pub day : ℕ
  pub there : IsDate year month day
  pub packed_is : number ≡ pos (packed year month day)

-- whether a number is one
abbrev pub is_day : ℤ → Bool
is_day (pos n) =
    let year = n / 10000 in
    let month = n / 100 % 100 in
    let day = n % 100 in
    (nat_le 1 year && nat_le year 9999) && ((nat_le 1 month && nat_le month 12) && (nat_le 1 day && nat_le day (days_of year month)))
is_day (negsuc n) = false

-- a text of at most so many characters: UTF-8, whose characters are Unicode scalar values
pub record IsTextOf (length_limit : ℕ) (octets : List ℕ) : Type 0 where
  pub utf8 : IsUtf8 octets
  pub short : length (chars octets) ≤ length_limit

-- A value of the type that isn't null (ISO/IEC 9075:1992, 4.4, 4.5, 4.2): an INTEGER is from -2^31 to 2^31 - 1 (its
-- precision is the implementation's), a DECIMAL has at most as many digits as its precision says.
abbrev pub IsOfType : Ty → Val → Type 0
IsOfType ty.Integer (val.Num number) = (negsuc 2147483647 ≤ℤ number) × (number ≤ℤ pos 2147483647)
IsOfType (ty.Decimal precision scale) (val.Num number) = unsigned_abs number < 10 ^ precision
IsOfType ty.Date (val.Date number) = IsDay number
IsOfType (ty.Varchar limit) (val.Text octets) = IsTextOf limit octets
IsOfType _ _ = ⊥

-- a value of a type, or null where that isn't forbidden
abbrev pub IsOfTypeOrNull : Ty → (not_null : Bool) → Val → Type 0
IsOfTypeOrNull type not_null val.Null = not_null ≡ false
IsOfTypeOrNull type not_null (val.Num number) = IsOfType type (val.Num number)
IsOfTypeOrNull type not_null (val.Date number) = IsOfType type (val.Date number)
IsOfTypeOrNull type not_null (val.Text octets) = IsOfType type (val.Text octets)

-- a value of a column: null where the column isn't declared NOT NULL, else a value of its type (11.4)
abbrev pub IsOfColumn : Column → Val → Type 0
IsOfColumn column value = IsOfTypeOrNull column.ty column.not_null value

-- A type of a size that it may have: a DECIMAL's precision is from 1 to 18 and its scale at most that, a VARCHAR's length is
-- from 1 to 1,000 (6.1 leaves the greatest ones to the implementation).
abbrev pub IsSized : Ty → Type 0
IsSized ty.Integer = Unit {0}
IsSized (ty.Decimal precision scale) = (1 ≤ precision) × (precision ≤ 18) × (scale ≤ precision)
IsSized ty.Date = Unit {0}
IsSized (ty.Varchar limit) = (1 ≤ limit) × (limit ≤ 1000)

-- the scale of a type: the digits after the point of its numbers, 0 where they are whole or its values are no numbers (4.4)
abbrev pub type_scale : Ty → ℕ
type_scale ty.Integer = 0
type_scale (ty.Decimal precision scale) = scale
type_scale ty.Date = 0
type_scale (ty.Varchar limit) = 0

-- a type of numbers
abbrev pub IsNumeric : Ty → Type 0
IsNumeric ty.Integer = Unit {0}
IsNumeric (ty.Decimal precision scale) = Unit {0}
IsNumeric ty.Date = ⊥
IsNumeric (ty.Varchar limit) = ⊥

-- the octets of the texts among values, all together
abbrev pub text_octets : List Val → ℕ
text_octets [] = 0
text_octets (val.Null ∷ values) = text_octets values
text_octets (val.Num number ∷ values) = text_octets values
text_octets (val.Date number ∷ values) = text_octets values
text_octets (val.Text octets ∷ values) = length octets + text_octets values

-- the value of a column in a row, both counted from 0
abbrev pub value_of : List (List Val) → ℕ → ℕ → Option Val
value_of rows row column = option_and_then (λ values. slice_get values column) (slice_get rows row)
