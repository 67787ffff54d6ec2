-- Tables whose columns are all INTEGERs that can't be null, and the kinds of the rows of any table.
use Rattle.std.proofs.Common.{◌≡◌, ◌<◌, ℕ, zero, suc, List, [], ◌∷◌, ◌++◌, length, map, Option, Some, None, refl, subst, arith}
use Rattle.std.specs.List.{AllByRecursion, AllZip}
use Rattle.std.specs.Prelude.{slice_get}
use Rattle.qw_types.specs.Kind.{IsRowOf, type_kind}
use Rattle.qw_types.specs.Schema.{AreColumns}
use Rattle.qw_types.specs.Value.{IsOfType, IsOfTypeOrNull, IsSized}
use Rattle.qw_types.specs.declared.schema.Column.{Column}
use Rattle.qw_types.specs.declared.schema.Table.{Table}
use Rattle.qw_types.specs.declared.value.Ty.TheVariants.{Integer}
use Rattle.qw_types.specs.declared.value.Val.{Val}
use Rattle.qw_types.specs.declared.value.Val.TheVariants as val
use Rattle.qw_types.proofs.KindLemmas.{column_of_kind}
use Rattle.qw_types.specs.Contents.{AreLoaded, Contents, IsOfColumnType, column_type}
use Rattle.qw_csv.specs.Contents.{AreIntegerColumns, AreIntegers, IsIntegerRow, integer_column}
use Rattle.qw_types.specs.declared.schema.ColumnType.{ColumnType}
use Rattle.qw_csv.specs.Loading.{ArePartsOf, AreRecordsOf, IsPartOf, IsRecordOf, Loads, LoadsParts}
use Rattle.qw_csv.proofs.PushLemmas.{field_of_column}

-- each of them
pub column_there : (columns : List ColumnType) (index : ℕ) → AreIntegerColumns columns → index < length columns → slice_get columns index ≡ Some integer_column
column_there [] index are lt = absurd (omega arith)
column_there (column ∷ columns) zero are lt = cc are.0
column_there (column ∷ columns) (suc index) are lt = column_there columns index are.1 (omega arith)

-- of the columns of a table
pub integer_columns : (columns : List Column) → AreIntegers columns → AreIntegerColumns (map column_type columns)
integer_columns [] are = tt
integer_columns (column ∷ columns) are = (rw (are.0.0, are.0.1) refl, integer_columns columns are.1)

-- a value of such a column is an INTEGER
integer_value : (column : ColumnType) (value : Val) → column ≡ integer_column → IsOfTypeOrNull column.ty column.not_null value → IsOfType Integer value
integer_value column val.Null is of = absurd (let h = rw is at of in cc h)
integer_value column (val.Num number) is of = rw is at of
integer_value column (val.Date number) is of = rw is at of
integer_value column (val.Text octets) is of = rw is at of

-- and a row of them
pub integer_row : (columns : List ColumnType) (row : List Val) → AreIntegerColumns columns → AllZip IsOfColumnType columns row → IsIntegerRow (length columns) row
integer_row [] [] are of = (refl, tt)
integer_row [] (value ∷ row) are of = absurd of
integer_row (column ∷ columns) [] are of = absurd of
integer_row (column ∷ columns) (value ∷ row) are of =
    let rest = integer_row columns row are.1 of.1 in
    (cc rest.0, (integer_value column value are.0 of.0, rest.1))

pub integer_rows : (columns : List ColumnType) (rows : List (List Val)) → AreIntegerColumns columns → AllByRecursion (AllZip IsOfColumnType columns) rows → AllByRecursion (IsIntegerRow (length columns)) rows
integer_rows columns [] are of = tt
integer_rows columns (row ∷ rows) are of = (integer_row columns row are of.0, integer_rows columns rows are of.1)

-- a row that is loaded of columns is one of their kinds
loaded_row : (columns : List Column) (row : List Val) → AllByRecursion (λ (c : Column). IsSized c.ty) columns → AllZip IsOfColumnType (map column_type columns) row
    → IsRowOf (map (λ (c : Column). type_kind c.ty) columns) row
loaded_row [] [] sized of = tt
loaded_row [] (value ∷ row) sized of = absurd of
loaded_row (column ∷ columns) [] sized of = absurd of
loaded_row (column ∷ columns) (value ∷ row) sized of = (column_of_kind column value sized.0 of.0, loaded_row columns row sized.1 of.1)

loaded_rows : (columns : List Column) (rows : List (List Val)) → AllByRecursion (λ (c : Column). IsSized c.ty) columns → AllByRecursion (AllZip IsOfColumnType (map column_type columns)) rows
    → AllByRecursion (IsRowOf (map (λ (c : Column). type_kind c.ty) columns)) rows
loaded_rows columns [] sized of = tt
loaded_rows columns (row ∷ rows) sized of = (loaded_row columns row sized of.0, loaded_rows columns rows sized of.1)

pub loaded_of_kinds : (columns : List Column) (contents : Contents) → AreColumns columns → contents.columns ≡ map column_type columns → AreLoaded contents
    → AllByRecursion (IsRowOf (map (λ (c : Column). type_kind c.ty) columns)) contents.rows
loaded_of_kinds columns contents are is loaded =
    loaded_rows columns contents.rows are.sized (subst (λ (types : List ColumnType). AllByRecursion (AllZip IsOfColumnType types) contents.rows) is loaded.typed)

-- a row that a file stands for has a value of each column
read_row : (null : Option (List ℕ)) (columns : List Column) (fields : List (List ℕ)) (row : List Val) → IsRecordOf null columns fields row → AllZip IsOfColumnType (map column_type columns) row
read_row null [] [] [] is = tt
read_row null [] [] (value ∷ row) is = absurd is
read_row null [] (field ∷ fields) row is = absurd is
read_row null (column ∷ columns) [] row is = absurd is
read_row null (column ∷ columns) (field ∷ fields) [] is = absurd is
read_row null (column ∷ columns) (field ∷ fields) (value ∷ row) is = (field_of_column null column field value is.0, read_row null columns fields row is.1)

read_rows : (null : Option (List ℕ)) (columns : List Column) (records : List (List (List ℕ))) (rows : List (List Val)) → AreRecordsOf null columns records rows → AllByRecursion (AllZip IsOfColumnType (map column_type columns)) rows
read_rows null columns [] [] are = tt
read_rows null columns [] (row ∷ rows) are = absurd are
read_rows null columns (fields ∷ records) [] are = absurd are
read_rows null columns (fields ∷ records) (row ∷ rows) are = (read_row null columns fields row are.0, read_rows null columns records rows are.1)

pub part_of_columns : (table : Table) (null : Option (List ℕ)) (bytes : List ℕ) (rows : List (List Val)) → IsPartOf table null bytes rows → AllByRecursion (AllZip IsOfColumnType (map column_type table.columns)) rows
part_of_columns table null bytes rows part = read_rows null table.columns part.records rows part.each

pub loaded_of_columns : (table : Table) (bytes : List ℕ) (rows : List (List Val)) → Loads table bytes rows → AllByRecursion (AllZip IsOfColumnType (map column_type table.columns)) rows
loaded_of_columns table bytes rows loads = part_of_columns table None bytes rows loads.0

-- and so has one that a file in parts stands for
all_both : {X : Type 0} (P : X → Type 0) (xs ys : List X) → AllByRecursion P xs → AllByRecursion P ys → AllByRecursion P (xs ++ ys)
all_both P [] ys first later = later
all_both P (x ∷ xs) ys first later = (first.0, all_both P xs ys first.1 later)

rows_of_columns : (table : Table) (null : Option (List ℕ)) (parts : List (List ℕ)) (rows : List (List Val)) → ArePartsOf table null parts rows
    → AllByRecursion (AllZip IsOfColumnType (map column_type table.columns)) rows
rows_of_columns table null [] rows none = rw none tt
rows_of_columns table null (bytes ∷ parts) rows (first, later, is, part, rest) =
    rw is (all_both (AllZip IsOfColumnType (map column_type table.columns)) first later (part_of_columns table null bytes first part) (rows_of_columns table null parts later rest))

pub parts_of_columns : (table : Table) (null : Option (List ℕ)) (parts : List (List ℕ)) (rows : List (List Val)) → LoadsParts table null parts rows
    → AllByRecursion (AllZip IsOfColumnType (map column_type table.columns)) rows
parts_of_columns table null parts rows loads = rows_of_columns table null parts rows loads.each
