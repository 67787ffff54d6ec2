-- Mirrors how `storage::Values` keeps the values of a column.
use Rattle.std.specs.Prelude.{◌≡◌, ◌≤◌, ◌-◌, ℕ, pos, List, [], ◌∷◌, Bool, true, false, Option, Some, None, length, map, take, drop, if◌then◌else◌}
use Rattle.std.specs.Str.{bytes_eq}
use Rattle.std.specs.List.{AllByRecursion}
use Rattle.qw_types.specs.DateText.{ShowsDate}
use Rattle.qw_types.specs.Numeral.{IsNumberOf}
use Rattle.qw_types.specs.Value.{IsTextOf}
use Rattle.qw_types.specs.declared.value.Ty.{Ty}
use Rattle.qw_types.specs.declared.value.Ty.TheVariants as ty
use Rattle.qw_types.specs.declared.value.Val.{Val}
use Rattle.qw_types.specs.declared.value.Val.TheVariants as val
use Rattle.qw_types.specs.Contents.{IsOfColumnType}
use Rattle.qw_csv.specs.declared.storage.Cells.{Cells}
use Rattle.qw_csv.specs.declared.storage.Cells.TheVariants as cells
use Rattle.qw_types.specs.declared.schema.ColumnType.{ColumnType}
use Rattle.qw_csv.specs.declared.storage.Values.{Values}

-- texts of which the first starts here
abbrev pub texts_from : ℕ → (ends octets : List ℕ) → List (List ℕ)
texts_from start [] octets = []
texts_from start (end ∷ ends) octets = take (end - start) (drop start octets) ∷ texts_from end ends octets

-- the ends rise, and the last is the end of all
abbrev pub AreEnds : ℕ → List ℕ → ℕ → Type 0
AreEnds start [] total = start ≡ total
AreEnds start (end ∷ ends) total = (start ≤ end) × (end ≤ total) × AreEnds end ends total

-- what stands in the place of a value
abbrev pub placed : Ty → Val → Val
placed type (val.Num number) = val.Num number
placed type (val.Date number) = val.Date number
placed type (val.Text octets) = val.Text octets
placed ty.Date val.Null = val.Date (pos 0)
placed (ty.Varchar limit) val.Null = val.Text []
placed ty.Integer val.Null = val.Num (pos 0)
placed (ty.Decimal precision scale) val.Null = val.Num (pos 0)

-- what stands in the places of all
abbrev pub plain_values : Cells → List Val
plain_values (cells.Integers numbers) = map val.Num numbers.items
plain_values (cells.Decimals numbers) = map val.Num numbers.items
plain_values (cells.Dates numbers) = map val.Date numbers.items
plain_values (cells.Texts texts) = map val.Text (texts_from 0 texts.ends.items texts.octets.items)

-- a text that isn't empty, in the octets of a field
abbrev pub IsWrittenText : Ty → List ℕ → List ℕ → Type 0
IsWrittenText (ty.Varchar limit) field octets = (octets ≡ field) × (1 ≤ length field) × IsTextOf limit octets
IsWrittenText _ field octets = ⊥

-- a number or a date that a field shows, or a text that it is
abbrev pub IsLiteralOf : Ty → List ℕ → Val → Type 0
IsLiteralOf type field val.Null = ⊥
IsLiteralOf type field (val.Num number) = IsNumberOf type field number
IsLiteralOf type field (val.Date number) = (type ≡ ty.Date) × ShowsDate field number
IsLiteralOf type field (val.Text octets) = IsWrittenText type field octets

-- cells of a type
abbrev pub AreCellsOf : Ty → Cells → Type 0
AreCellsOf ty.Integer (cells.Integers numbers) = Unit {0}
AreCellsOf (ty.Decimal precision scale) (cells.Decimals numbers) = Unit {0}
AreCellsOf ty.Date (cells.Dates numbers) = Unit {0}
AreCellsOf (ty.Varchar limit) (cells.Texts texts) = AreEnds 0 texts.ends.items (length texts.octets.items)
AreCellsOf _ _ = ⊥

-- values, null where so flagged
abbrev pub with_nulls : List Val → List Bool → List Val
with_nulls [] flags = []
with_nulls (value ∷ values) [] = value ∷ values
with_nulls (value ∷ values) (null ∷ flags) = (if null then val.Null else value) ∷ with_nulls values flags

-- whether a value is null
abbrev pub is_null : Val → Bool
is_null val.Null = true
is_null (val.Num number) = false
is_null (val.Date number) = false
is_null (val.Text octets) = false

-- a column has flags where it may be null, one for each value
abbrev pub AreFlags : (not_null : Bool) → ℕ → List Bool → Type 0
AreFlags true count flags = flags ≡ []
AreFlags false count flags = length flags ≡ count

-- the values of a column
abbrev pub values_in : Values → List Val
values_in kept = with_nulls (plain_values kept.cells) kept.nulls.items

-- what is kept is a column's of the type
pub record AreKept (type : ColumnType) (kept : Values) : Type 0 where
  pub form : AreCellsOf type.ty kept.cells
  pub flags : AreFlags type.not_null (length (plain_values kept.cells)) kept.nulls.items
  pub typed : AllByRecursion (IsOfColumnType type) (values_in kept)
  pub blank : plain_values kept.cells ≡ map (placed type.ty) (values_in kept)

-- whether a field is the text that stands for null, where one does
abbrev pub is_marked : Option (List ℕ) → List ℕ → Bool
is_marked None field = false
is_marked (Some null) field = bytes_eq field null
