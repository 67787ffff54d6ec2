-- Rows that are kept column by column.
use Rattle.std.proofs.Common.{◌≡◌, ◌≤◌, ◌<◌, ◌∙◌, ℕ, zero, suc, List, [], ◌∷◌, ◌++◌, length, refl, sym, ap, arith, length-append, Option, Some, ⊎_elim, subst}
use Rattle.std.specs.Prelude.{IsTrue, nat_eq, slice_get, slice_index_or}
use Rattle.std.specs.List.{AllByRecursion, AllZip}
use Rattle.std.specs.Option.{option_and_then}
use Rattle.std.proofs.lemmas.Bool.{cases_lt}
use Rattle.std.proofs.lemmas.Bool.Decides.{nat_tests}
use Rattle.qw_types.specs.Value.{value_of}
use Rattle.qw_types.specs.declared.value.Val.{Val}
use Rattle.qw_types.specs.declared.value.Val.TheVariants.{Null}
use Rattle.qw_types.specs.Contents.{AreLoaded, IsOfColumnType}
use Rattle.qw_types.specs.declared.schema.ColumnType.{ColumnType}
use Rattle.qw_csv.specs.declared.storage.Values.{Values}
use Rattle.qw_csv.specs.Inner.Rows.{AreAllKept, AreStored, row_in, rows_in}
use Rattle.qw_csv.specs.Inner.Storage.{AreKept, values_in}
use Rattle.qw_csv.proofs.StorageLemmas.{all_push}

-- ---- lists

get_front : {X : Type 0} (xs : List X) (x : X) (i : ℕ) → i < length xs → slice_get (xs ++ x ∷ []) i ≡ slice_get xs i
get_front [] x i lt = absurd (omega arith)
get_front (y ∷ xs) x zero lt = refl
get_front (y ∷ xs) x (suc i) lt = get_front xs x i (omega arith)

get_last : {X : Type 0} (xs : List X) (x : X) (i : ℕ) → i ≡ length xs → slice_get (xs ++ x ∷ []) i ≡ Some x
get_last [] x zero is = refl
get_last [] x (suc i) is = absurd (omega (arith, is))
get_last (y ∷ xs) x zero is = absurd (omega (arith, is))
get_last (y ∷ xs) x (suc i) is = get_last xs x i (omega (arith, is))

pub index_front : (xs : List Val) (x : Val) (i : ℕ) → i < length xs → slice_index_or (xs ++ x ∷ []) i Null ≡ slice_index_or xs i Null
index_front [] x i lt = absurd (omega arith)
index_front (y ∷ xs) x zero lt = refl
index_front (y ∷ xs) x (suc i) lt = index_front xs x i (omega arith)

pub index_last : (xs : List Val) (x : Val) (i : ℕ) → i ≡ length xs → slice_index_or (xs ++ x ∷ []) i Null ≡ x
index_last [] x zero is = refl
index_last [] x (suc i) is = absurd (omega (arith, is))
index_last (y ∷ xs) x zero is = absurd (omega (arith, is))
index_last (y ∷ xs) x (suc i) is = index_last xs x i (omega (arith, is))

all_at : (P : Val → Type 0) (xs : List Val) (i : ℕ) → AllByRecursion P xs → i < length xs → P (slice_index_or xs i Null)
all_at P [] i all lt = absurd (omega arith)
all_at P (x ∷ xs) zero all lt = all.0
all_at P (x ∷ xs) (suc i) all lt = all_at P xs i all.1 (omega arith)

-- ---- rows

pub length-rows_in : (count : ℕ) (columns : List Values) → length (rows_in count columns) ≡ count
unfolding rows_in
length-rows_in zero columns = refl
length-rows_in (suc count) columns = length-append (rows_in count columns) (row_in count columns ∷ []) ∙ omega (arith, length-rows_in count columns)

pub row_there : (count row : ℕ) (columns : List Values) → row < count → slice_get (rows_in count columns) row ≡ Some (row_in row columns)
unfolding rows_in
row_there zero row columns lt = absurd (omega arith)
row_there (suc count) row columns lt = ⊎_elim
    (λ (before : row < count). get_front (rows_in count columns) (row_in count columns) row (omega (arith, before, length-rows_in count columns)) ∙ row_there count row columns before)
    (λ (past : count ≤ row). let same : row ≡ count = omega arith in rw same (get_last (rows_in count columns) (row_in count columns) count (sym (length-rows_in count columns))))
    (cases_lt row count)

-- a row's value is its column's
pub value_there : (columns : List Values) (column row : ℕ) (kept : Values) → slice_get columns column ≡ Some kept → slice_get (row_in row columns) column ≡ Some (slice_index_or (values_in kept) row Null)
value_there [] column row kept is = cc is
value_there (k ∷ columns) zero row kept is = cc is
value_there (k ∷ columns) (suc column) row kept is = value_there columns column row kept is

-- and a value that is found in a column is found in its row
pub found : (count : ℕ) (columns : List Values) (row column : ℕ) (kept : Values) (value : Val) → row < count → slice_get columns column ≡ Some kept
    → slice_get (values_in kept) row ≡ Some value → value_of (rows_in count columns) row column ≡ Some value
found count columns row column kept value lt there is =
    ap (λ (o : Option (List Val)). option_and_then (λ values. slice_get values column) o) (row_there count row columns lt)
    ∙ value_there columns column row kept there ∙ ap (λ (v : Val). Some v) (index_is (values_in kept) row value is)
  where
    index_is : (values : List Val) (i : ℕ) (v : Val) → slice_get values i ≡ Some v → slice_index_or values i Null ≡ v
    index_is [] i v e = cc e
    index_is (w ∷ values) zero v e = cc e
    index_is (w ∷ values) (suc i) v e = index_is values i v e

-- a column is kept by its type
pub record Column (count : ℕ) (type : ColumnType) (columns : List Values) (column : ℕ) : Type 0 where
  pub kept : Values
  pub there : slice_get columns column ≡ Some kept
  pub valid : AreKept type kept
  pub long : length (values_in kept) ≡ count

pub column_there : (count : ℕ) (types : List ColumnType) (columns : List Values) (column : ℕ) (type : ColumnType) → AreAllKept count types columns → slice_get types column ≡ Some type → Column count type columns column
column_there count [] [] column type all is = cc is
column_there count [] (k ∷ columns) column type all is = absurd all
column_there count (k ∷ types) [] column type all is = absurd all
column_there count (k ∷ types) (kept ∷ columns) zero type all is = let e : k ≡ type = cc is in record { kept = kept; there = refl; valid = subst (λ (x : ColumnType). AreKept x kept) e all.0; long = all.1 }
column_there count (k ∷ types) (kept ∷ columns) (suc column) type all is =
    let h = column_there count types columns column type all.2 is in record { kept = h.kept; there = h.there; valid = h.valid; long = h.long }

pub same_width : (count : ℕ) (types : List ColumnType) (columns : List Values) → AreAllKept count types columns → length columns ≡ length types
same_width count [] [] all = refl
same_width count [] (k ∷ columns) all = absurd all
same_width count (k ∷ types) [] all = absurd all
same_width count (k ∷ types) (kept ∷ columns) all = ap (λ (n : ℕ). suc n) (same_width count types columns all.2)

-- ---- what the rows are

typed_row : (count row : ℕ) (types : List ColumnType) (columns : List Values) → row < count → AreAllKept count types columns → AllZip IsOfColumnType types (row_in row columns)
typed_row count row [] [] lt all = tt
typed_row count row [] (k ∷ columns) lt all = absurd all
typed_row count row (k ∷ types) [] lt all = absurd all
typed_row count row (k ∷ types) (kept ∷ columns) lt (valid, long, rest) =
    (all_at (IsOfColumnType k) (values_in kept) row valid.typed (omega (arith, lt, long)), typed_row count row types columns lt rest)

typed_rows : (count some : ℕ) (types : List ColumnType) (columns : List Values) → some ≤ count → AreAllKept count types columns → AllByRecursion (AllZip IsOfColumnType types) (rows_in some columns)
unfolding rows_in
typed_rows count zero types columns le all = tt
typed_rows count (suc some) types columns le all =
    all_push (AllZip IsOfColumnType types) (rows_in some columns) (row_in some columns) (typed_rows count some types columns (omega arith) all) (typed_row count some types columns (omega arith) all)

pub stored_loaded : (count : ℕ) (types : List ColumnType) (columns : List Values) → AreStored count types columns → AreLoaded (record { columns = types; rows = rows_in count columns })
stored_loaded count types columns h = record {
  some = h.some;
  narrow = h.narrow;
  sized = h.sized;
  few = rw (length-rows_in count columns) h.few;
  typed = typed_rows count count types columns (omega arith) h.kept;
}

pub no_rows : (count : ℕ) (columns : List Values) → (IsTrue (nat_eq count 0) → rows_in count columns ≡ []) × (rows_in count columns ≡ [] → IsTrue (nat_eq count 0))
unfolding rows_in
no_rows zero columns = (λ h. refl, λ h. refl)
no_rows (suc count) columns = (λ h. absurd (more h), λ h. absurd (none_of h))
  where
    more : IsTrue (nat_eq (suc count) 0) → ⊥
    more h = grind (arith, nat_tests)

    none_of : rows_in count columns ++ row_in count columns ∷ [] ≡ [] → ⊥
    none_of h = let e : length (rows_in count columns ++ row_in count columns ∷ []) ≡ 0 = ap length h in omega (arith, e, length-append (rows_in count columns) (row_in count columns ∷ []))

-- a column that is found is kept by some type
pub column_found : (count : ℕ) (types : List ColumnType) (columns : List Values) (column : ℕ) (kept : Values) → AreAllKept count types columns → slice_get columns column ≡ Some kept
    → ((type : ColumnType) × AreKept type kept) × (length (values_in kept) ≡ count)
column_found count [] [] column kept all is = cc is
column_found count [] (k ∷ columns) column kept all is = absurd all
column_found count (k ∷ types) [] column kept all is = absurd all
column_found count (k ∷ types) (v ∷ columns) zero kept all is = let e : v ≡ kept = cc is in rw (← e) ((k, all.0), all.1)
column_found count (k ∷ types) (v ∷ columns) (suc column) kept all is = column_found count types columns column kept all.2 is
