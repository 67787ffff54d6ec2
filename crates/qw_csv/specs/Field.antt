-- What one field of a table file stands for (RFC 4180, and the literals of ISO/IEC 9075:1992, 5.3, for its text).
use Rattle.std.specs.Prelude.{◌≡◌, ◌<◌, ℕ, ℤ, List, [], ◌∷◌, length, Bool, true, false, Option, Some, None, chars, IsUtf8, option_map}
use Rattle.std.specs.Borrow.{Bor}
use Rattle.std.specs.Str.{bytes_eq}
use Rattle.qw_types.specs.DateText.{ShowsDate}
use Rattle.qw_types.specs.Numeral.{IsNumberFault, IsNumberOf}
use Rattle.qw_types.specs.Value.{IsTextOf}
use Rattle.qw_types.specs.declared.schema.Column.{Column}
use Rattle.qw_types.specs.declared.numeral.FieldFault.TheVariants.{NotDate}
use Rattle.qw_types.specs.declared.value.Ty.{Ty}
use Rattle.qw_types.specs.declared.value.Ty.TheVariants as ty
use Rattle.qw_types.specs.declared.value.Val.{Val}
use Rattle.qw_types.specs.declared.value.Val.TheVariants as val
use Rattle.qw_csv.specs.declared.cell.Cell.{Cell}
use Rattle.qw_csv.specs.declared.cell.Cell.TheVariants as cell
use Rattle.qw_csv.specs.declared.cell.CellFault.{CellFault}
use Rattle.qw_csv.specs.declared.cell.CellFault.TheVariants as fault

-- the value of a cell
abbrev pub val_of : Cell → Val
val_of cell.Null = val.Null
val_of (cell.Num number) = val.Num number
val_of (cell.Date number) = val.Date number
val_of (cell.Text octets) = val.Text octets.now

-- a field that is judged by a type stands for a value of it: a number or a date that it shows, or its octets as a text
abbrev pub IsTypedFieldOf : Ty → List ℕ → Val → Type 0
IsTypedFieldOf ty.Integer field (val.Num number) = IsNumberOf ty.Integer field number
IsTypedFieldOf (ty.Decimal precision scale) field (val.Num number) = IsNumberOf (ty.Decimal precision scale) field number
IsTypedFieldOf ty.Date field (val.Date number) = ShowsDate field number
IsTypedFieldOf (ty.Varchar limit) field (val.Text octets) = (octets ≡ field) × IsTextOf limit octets
IsTypedFieldOf _ field _ = ⊥

-- an empty one stands for null where the column isn't NOT NULL, else for the empty text in a column of texts
abbrev pub IsEmptyFieldOf : Ty → (not_null : Bool) → Val → Type 0
IsEmptyFieldOf type false val.Null = Unit {0}
IsEmptyFieldOf (ty.Varchar limit) true (val.Text octets) = octets ≡ []
IsEmptyFieldOf _ _ _ = ⊥

-- where a text stands for null: the field that is this text does so in a column that isn't NOT NULL, and any other one, also an empty one, is judged by the type
abbrev pub IsMarkedFieldOf : (marked : Bool) → Column → List ℕ → Val → Type 0
IsMarkedFieldOf true column field value = (column.not_null ≡ false) × (value ≡ val.Null)
IsMarkedFieldOf false column field value = IsTypedFieldOf column.ty field value

-- A field stands for a value of a column. What stands for null is a text of its own, which the field has to be octet for octet, or, where there is
-- no such text, the empty field. Whether the field stood between quotes plays no part: its octets are those between them.
abbrev pub IsFieldOf : (null : Option (List ℕ)) → Column → List ℕ → Val → Type 0
IsFieldOf None column [] value = IsEmptyFieldOf column.ty column.not_null value
IsFieldOf None column (octet ∷ octets) value = IsTypedFieldOf column.ty (octet ∷ octets) value
IsFieldOf (Some null) column field value = IsMarkedFieldOf (bytes_eq field null) column field value

-- why a field that is judged by a type stands for no value of it
abbrev pub IsTypedFault : Ty → List ℕ → CellFault → Type 0
IsTypedFault ty.Integer field (fault.Form why) = IsNumberFault ty.Integer field why
IsTypedFault (ty.Decimal precision scale) field (fault.Form why) = IsNumberFault (ty.Decimal precision scale) field why
IsTypedFault ty.Date field (fault.Form why) = (why ≡ NotDate) × ((number : ℤ) → ShowsDate field number → ⊥)
IsTypedFault (ty.Varchar limit) field fault.NotUtf8 = IsUtf8 field → ⊥
IsTypedFault (ty.Varchar limit) field fault.TextTooLong = IsUtf8 field × (limit < length (chars field))
IsTypedFault _ field _ = ⊥

-- an empty one does where the column is NOT NULL, and none of texts
abbrev pub IsEmptyFault : Ty → (not_null : Bool) → CellFault → Type 0
IsEmptyFault ty.Integer true fault.NullForbidden = Unit {0}
IsEmptyFault (ty.Decimal precision scale) true fault.NullForbidden = Unit {0}
IsEmptyFault ty.Date true fault.NullForbidden = Unit {0}
IsEmptyFault _ _ _ = ⊥

-- and where a text stands for null: the field that is this text does in a column that is NOT NULL, and any other one as the type judges it
abbrev pub IsMarkedFault : (marked : Bool) → Column → List ℕ → CellFault → Type 0
IsMarkedFault true column field why = (column.not_null ≡ true) × (why ≡ fault.NullForbidden)
IsMarkedFault false column field why = IsTypedFault column.ty field why

-- why a field stands for no value of a column
abbrev pub IsFieldFault : (null : Option (List ℕ)) → Column → List ℕ → CellFault → Type 0
IsFieldFault None column [] why = IsEmptyFault column.ty column.not_null why
IsFieldFault None column (octet ∷ octets) why = IsTypedFault column.ty (octet ∷ octets) why
IsFieldFault (Some null) column field why = IsMarkedFault (bytes_eq field null) column field why

-- the octets that are lent, if any are
abbrev pub lent : Option (Bor (List ℕ)) → Option (List ℕ)
lent octets = option_map (λ x. x.now) octets
