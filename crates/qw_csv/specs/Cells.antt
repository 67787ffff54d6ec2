-- What the values of one column are as they are kept: numbers, or texts one after another, without any mark of nulls.
use Rattle.std.specs.Prelude.{◌≡◌, ◌+◌, ℕ, ℤ, pos, List, [], ◌∷◌, ◌++◌, Some, length, map, take, slice_get, slice_index_or}
use Rattle.qw_types.specs.Value.{text_octets}
use Rattle.qw_types.specs.declared.value.Ty.{Ty}
use Rattle.qw_types.specs.declared.value.Ty.TheVariants as ty
use Rattle.qw_types.specs.declared.value.Val.{Val}
use Rattle.qw_types.specs.declared.value.Val.TheVariants as val
use Rattle.qw_csv.specs.declared.column_cells.ColumnCells.{ColumnCells}
use Rattle.qw_csv.specs.declared.column_cells.ColumnCells.TheVariants as cells

-- the values of a column, by its index counted from 0, in the order of the rows
abbrev pub values_of : List (List Val) → (column : ℕ) → List Val
values_of rows column = map (λ row. slice_index_or row column val.Null) rows

-- the number that stands in the place of a value: 0 for null and for a text
abbrev pub number_in : Val → ℤ
number_in val.Null = pos 0
number_in (val.Num number) = number
number_in (val.Date number) = number
number_in (val.Text octets) = pos 0

-- the octets that stand there: none but of a text
abbrev pub octets_in : Val → List ℕ
octets_in val.Null = []
octets_in (val.Num number) = []
octets_in (val.Date number) = []
octets_in (val.Text octets) = octets

-- the octets of texts one after another
abbrev pub octets_together : List Val → List ℕ
octets_together [] = []
octets_together (value ∷ values) = octets_in value ++ octets_together values

-- the octets of texts one after another, and where each text ends among them
pub record AreTexts (ends octets : List ℕ) (values : List Val) : Type 0 where
  pub many : length ends ≡ length values
  pub each : (row end : ℕ) → slice_get ends row ≡ Some end → end ≡ text_octets (take (row + 1) values)
  pub together : octets ≡ octets_together values

-- cells of a type for these values
abbrev pub AreCellsFor : Ty → ColumnCells → List Val → Type 0
AreCellsFor ty.Integer (cells.Short numbers) values = numbers.now ≡ map number_in values
AreCellsFor (ty.Decimal precision scale) (cells.Long numbers) values = numbers.now ≡ map number_in values
AreCellsFor ty.Date (cells.Short numbers) values = numbers.now ≡ map number_in values
AreCellsFor (ty.Varchar limit) (cells.Texts ends octets) values = AreTexts ends.now octets.now values
AreCellsFor _ _ _ = ⊥
