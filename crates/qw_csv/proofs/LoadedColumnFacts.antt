-- Laws of the columns of a table, one by one.
use Rattle.std.proofs.Common.{◌≡◌, ◌+◌, refl, ap, ℕ, zero, suc, List, [], ◌∷◌, length, Some, arith}
use Rattle.std.specs.Prelude.{slice_get}
use Rattle.qw_types.specs.declared.schema.ColumnType.{ColumnType}
use Rattle.qw_types.specs.declared.value.Val.{Val}
use Rattle.qw_csv.specs.Cells.{values_of}
use Rattle.qw_csv.specs.LoadedColumn.{ColumnContents, columns_from}

-- as many as there are types
pub length-columns_from : (types : List ColumnType) (first : ℕ) (rows : List (List Val)) → length (columns_from types first rows) ≡ length types
length-columns_from [] first rows = refl
length-columns_from (type ∷ types) first rows = ap suc (length-columns_from types (suc first) rows)

-- one of them
pub columns_from-at : (types : List ColumnType) (first : ℕ) (rows : List (List Val)) (k : ℕ) (type : ColumnType) → slice_get types k ≡ Some type
    → slice_get (columns_from types first rows) k ≡ Some (record { type = type; values = values_of rows (first + k) })
columns_from-at [] first rows k type is = absurd (cc is)
columns_from-at (t ∷ types) first rows zero type is =
    let e : t ≡ type = cc is in
    let here : first + 0 ≡ first = omega arith in
    rw (here, e) refl
columns_from-at (t ∷ types) first rows (suc k) type is =
    let next : suc first + k ≡ first + suc k = omega arith in
    rw next at (columns_from-at types (suc first) rows k type is)

-- what one of them is
pub column_of : (types : List ColumnType) (first : ℕ) (rows : List (List Val)) (k : ℕ) (column : ColumnContents) → slice_get (columns_from types first rows) k ≡ Some column
    → (slice_get types k ≡ Some column.type) × (column.values ≡ values_of rows (first + k))
column_of [] first rows k column is = absurd (cc is)
column_of (type ∷ types) first rows zero column is =
    let e : record { type = type; values = values_of rows first } ≡ column = cc is in
    let here : first + 0 ≡ first = omega arith in
    rw (here, ← e) (refl, refl)
column_of (type ∷ types) first rows (suc k) column is =
    let next : suc first + k ≡ first + suc k = omega arith in
    rw next at (column_of types (suc first) rows k column is)
