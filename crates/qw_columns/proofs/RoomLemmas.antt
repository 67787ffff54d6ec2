-- The values of a column, and how many octets they take.
use Rattle.std.proofs.Common.{◌≡◌, ◌≤◌, ◌<◌, ◌+◌, ◌*◌, refl, ap, ℕ, zero, suc, Bool, List, [], ◌∷◌, length, take, Some, arith}
use Rattle.std.specs.Prelude.{slice_get, slice_index_or}
use Rattle.std.specs.List.{AllByRecursion, AllZip}
use Rattle.std.proofs.lemmas.List.{length-map}
use Rattle.std.proofs.lemmas.Option.{get_or_from_slice_get}
use Rattle.qw_types.specs.Contents.{AreLoaded, Contents, IsOfColumnType}
use Rattle.qw_types.specs.Value.{IsOfTypeOrNull, IsSized, text_octets, value_of}
use Rattle.qw_types.specs.declared.schema.ColumnType.{ColumnType}
use Rattle.qw_types.specs.declared.value.Ty.{Ty}
use Rattle.qw_types.specs.declared.value.Ty.TheVariants as ty
use Rattle.qw_types.specs.declared.value.Val.{Val}
use Rattle.qw_types.specs.declared.value.Val.TheVariants as val
use Rattle.qw_types.proofs.TextLaws.{texts_short}
use Rattle.qw_csv.specs.Cells.{octets_in}
use Rattle.qw_map.specs.Columns.{column_values, values_size}

-- ---- the values of a column

pub length-column_values : (rows : List (List Val)) (column : ℕ) → length (column_values rows column) ≡ length rows
length-column_values rows column = length-map rows (λ (row : List Val). slice_index_or row column val.Null)

-- the value of a row stands among them
pub in_column : (rows : List (List Val)) (row column : ℕ) (value : Val) → value_of rows row column ≡ Some value → slice_get (column_values rows column) row ≡ Some value
in_column [] row column value is = cc is
in_column (first ∷ rows) zero column value is = ap Some (get_or_from_slice_get first column value val.Null is)
in_column (first ∷ rows) (suc row) column value is = in_column rows row column value is

-- a value of a row is of its column's type
typed_value : (columns : List ColumnType) (row : List Val) (k : ℕ) (type : ColumnType) → slice_get columns k ≡ Some type → AllZip IsOfColumnType columns row
    → IsOfColumnType type (slice_index_or row k val.Null)
typed_value [] row k type is typed = absurd (cc is)
typed_value (c ∷ columns) [] k type is typed = absurd typed
typed_value (c ∷ columns) (value ∷ row) zero type is typed = let e : c ≡ type = cc is in rw (← e) typed.0
typed_value (c ∷ columns) (value ∷ row) (suc k) type is typed = typed_value columns row k type is typed.1

pub column_typed : (columns : List ColumnType) (rows : List (List Val)) (k : ℕ) (type : ColumnType) → slice_get columns k ≡ Some type
    → AllByRecursion (AllZip IsOfColumnType columns) rows → AllByRecursion (IsOfColumnType type) (column_values rows k)
column_typed columns [] k type is typed = tt
column_typed columns (row ∷ rows) k type is typed = (typed_value columns row k type is typed.0, column_typed columns rows k type is typed.1)

-- ---- octets of texts

-- with one more text
pub text_octets-more : (values : List Val) (row : ℕ) (value : Val) → slice_get values row ≡ Some value
    → text_octets (take (suc row) values) ≡ text_octets (take row values) + length (octets_in value)
text_octets-more [] row value is = absurd (cc is)
text_octets-more (val.Null ∷ values) zero value is = let e : val.Null ≡ value = cc is in rw (← e) refl
text_octets-more (val.Num n ∷ values) zero value is = let e : val.Num n ≡ value = cc is in rw (← e) refl
text_octets-more (val.Date n ∷ values) zero value is = let e : val.Date n ≡ value = cc is in rw (← e) refl
text_octets-more (val.Text t ∷ values) zero value is = let e : val.Text t ≡ value = cc is in rw (← e) (omega arith)
text_octets-more (val.Null ∷ values) (suc row) value is = text_octets-more values row value is
text_octets-more (val.Num n ∷ values) (suc row) value is = text_octets-more values row value is
text_octets-more (val.Date n ∷ values) (suc row) value is = text_octets-more values row value is
text_octets-more (val.Text t ∷ values) (suc row) value is = omega (arith, text_octets-more values row value is)

-- columns without texts
none_octets : (ty : Ty) (not_null : Bool) (values : List Val) → ((octets : List ℕ) → IsOfTypeOrNull ty not_null (val.Text octets) → ⊥)
    → AllByRecursion (IsOfTypeOrNull ty not_null) values → text_octets values ≡ 0
none_octets ty not_null [] none are = refl
none_octets ty not_null (val.Null ∷ values) none are = none_octets ty not_null values none are.1
none_octets ty not_null (val.Num n ∷ values) none are = none_octets ty not_null values none are.1
none_octets ty not_null (val.Date n ∷ values) none are = none_octets ty not_null values none are.1
none_octets ty not_null (val.Text t ∷ values) none are = absurd (none t are.0)

-- a loaded table's column whose type is none of texts
pub no_octets : (contents : Contents) (k : ℕ) (type : ColumnType) → AreLoaded contents → slice_get contents.columns k ≡ Some type → ((limit : ℕ) → type.ty ≡ ty.Varchar limit → ⊥)
    → text_octets (column_values contents.rows k) ≡ 0
no_octets contents k type loaded is other =
    none_octets type.ty type.not_null (column_values contents.rows k) (no_text type.ty type.not_null other) (column_typed contents.columns contents.rows k type is loaded.typed)
  where
    no_text : (ty' : Ty) (not_null : Bool) → ((limit : ℕ) → ty' ≡ ty.Varchar limit → ⊥) → (octets : List ℕ) → IsOfTypeOrNull ty' not_null (val.Text octets) → ⊥
    no_text ty.Integer not_null other octets h = h
    no_text (ty.Decimal precision scale) not_null other octets h = h
    no_text ty.Date not_null other octets h = h
    no_text (ty.Varchar limit) not_null other octets h = other limit refl

-- a column of any type
pub few_octets : (ty : Ty) (not_null : Bool) (values : List Val) → IsSized ty → AllByRecursion (IsOfTypeOrNull ty not_null) values
    → text_octets values ≤ 4000 * length values
few_octets ty.Integer not_null values sized are = omega (arith, none_octets ty.Integer not_null values (λ t h. h) are)
few_octets (ty.Decimal precision scale) not_null values sized are = omega (arith, none_octets (ty.Decimal precision scale) not_null values (λ t h. h) are)
few_octets ty.Date not_null values sized are = omega (arith, none_octets ty.Date not_null values (λ t h. h) are)
few_octets (ty.Varchar limit) not_null values sized are = texts_short limit not_null values sized.1 are

-- a type of a loaded table's column is of a size that it may have
pub sized_at : (columns : List ColumnType) (k : ℕ) (type : ColumnType) → slice_get columns k ≡ Some type → AllByRecursion (λ (column : ColumnType). IsSized column.ty) columns
    → IsSized type.ty
sized_at [] k type is sized = absurd (cc is)
sized_at (c ∷ columns) zero type is sized = let e : c ≡ type = cc is in rw (← e) sized.0
sized_at (c ∷ columns) (suc k) type is sized = sized_at columns k type is sized.1

-- what a list has at an index
pub there : {X : Type 0} → (xs : List X) (k : ℕ) → k < length xs → (x : X) × (slice_get xs k ≡ Some x)
there [] k lt = absurd (omega arith)
there (x ∷ xs) zero lt = (x, refl)
there (x ∷ xs) (suc k) lt = there xs k (omega arith)

-- the texts of a column of a loaded table
pub loaded_octets : (contents : Contents) (k : ℕ) → AreLoaded contents → k < length contents.columns
    → text_octets (column_values contents.rows k) ≤ 4000000000
loaded_octets contents k loaded lt =
    let found = there contents.columns k lt in
    let most = few_octets found.0.ty found.0.not_null (column_values contents.rows k) (sized_at contents.columns k found.0 found.1 loaded.sized)
    (column_typed contents.columns contents.rows k found.0 found.1 loaded.typed) in
    omega (arith, loaded.few, length-column_values contents.rows k, most)

-- the values, or the offsets of texts, of a million rows; where they are 8 octets each there are no texts
pub few_values : (ty : Ty) (rows : ℕ) → rows ≤ 1000000 → values_size ty rows ≤ 8000000
few_values ty.Integer rows few = omega arith
few_values (ty.Decimal precision scale) rows few = omega arith
few_values ty.Date rows few = omega arith
few_values (ty.Varchar limit) rows few = omega arith
