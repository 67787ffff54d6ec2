-- The kinds of values (ISO/IEC 9075:1992, 4.1 "Data types"): numbers (4.4), dates (4.5), texts (4.2).
use Rattle.std.specs.Prelude.{ℤ, pos, ◌≤ℤ◌, IsTrue, List}
use Rattle.std.specs.List.{AllZip}
use Rattle.qw_types.specs.Arithmetic.{fits}
use Rattle.qw_types.specs.Value.{IsDay}
use Rattle.qw_types.specs.declared.kind.Kind.{Kind}
use Rattle.qw_types.specs.declared.kind.Kind.TheVariants as kind
use Rattle.qw_types.specs.declared.value.Ty.{Ty}
use Rattle.qw_types.specs.declared.value.Ty.TheVariants as type
use Rattle.qw_types.specs.declared.value.Val.{Val}
use Rattle.qw_types.specs.declared.value.Val.TheVariants as val

-- the kind of a type's values
abbrev pub type_kind : Ty → Kind
type_kind type.Integer = kind.Number 0
type_kind (type.Decimal p s) = kind.Number s
type_kind type.Date = kind.Date
type_kind (type.Varchar n) = kind.Text

-- from 0001-01-01 to 9999-12-31, as year * 10000 + month * 100 + day: the numbers that days lie between
abbrev pub IsDateNumber : ℤ → Type 0
IsDateNumber d = (pos 10101 ≤ℤ d) × (d ≤ℤ pos 99991231)

-- a value of a kind; null is of every kind, a number has at most 18 digits, and a date is a day of the calendar
abbrev pub IsOfKind : Kind → Val → Type 0
IsOfKind k val.Null = Unit {0}
IsOfKind (kind.Number s) (val.Num v) = IsTrue (fits v)
IsOfKind (kind.Number s) (val.Date d) = ⊥
IsOfKind (kind.Number s) (val.Text t) = ⊥
IsOfKind kind.Date (val.Num v) = ⊥
IsOfKind kind.Date (val.Date d) = IsDay d
IsOfKind kind.Date (val.Text t) = ⊥
IsOfKind kind.Text (val.Num v) = ⊥
IsOfKind kind.Text (val.Date d) = ⊥
IsOfKind kind.Text (val.Text t) = Unit {0}

-- a row has a value of each kind, in their order
abbrev pub IsRowOf : List Kind → List Val → Type 0
IsRowOf kinds row = AllZip IsOfKind kinds row
