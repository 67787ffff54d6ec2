-- Where the columns of tables stand, one after another.
use Rattle.std.proofs.Common.{◌≡◌, ◌+◌, ◌∙◌, refl, sym, ap, ap₂, ℕ, zero, suc, List, [], ◌∷◌, ◌++◌, length, map, take, Some, arith, subst}
use Rattle.std.specs.Prelude.{slice_get}
use Rattle.std.proofs.lemmas.List.{map-append}
use Rattle.std.specs.List.{AllByRecursion}
use Rattle.qw_types.specs.Contents.{Contents}
use Rattle.qw_types.specs.declared.schema.ColumnType.{ColumnType}
use Rattle.qw_types.specs.declared.value.Val.{Val}
use Rattle.qw_map.specs.Columns.{column_end, column_values, columns_end, placed_at, placed_columns, placed_tables, tables_end}
use Rattle.qw_map.specs.declared.layout.Placed.{Placed}

-- ---- lists, element by element

pub take-more : {X : Type 0} → (xs : List X) (k : ℕ) (x : X) → slice_get xs k ≡ Some x → take (suc k) xs ≡ take k xs ++ x ∷ []
take-more [] k x is = absurd (cc is)
take-more (y ∷ xs) zero x is = let e : y ≡ x = cc is in rw e refl
take-more (y ∷ xs) (suc k) x is = ap (λ (zs : List _). y ∷ zs) (take-more xs k x is)

pub all-more : {X : Type 0} (P : X → Type 0) → (xs : List X) (k : ℕ) (x : X) → slice_get xs k ≡ Some x → P x → AllByRecursion P (take k xs)
    → AllByRecursion P (take (suc k) xs)
all-more P [] k x is here are = absurd (cc is)
all-more P (y ∷ xs) zero x is here are = let e : y ≡ x = cc is in (subst P (sym e) here, tt)
all-more P (y ∷ xs) (suc k) x is here are = (are.0, all-more P xs k x is here are.1)

pub map-more : {A B : Type 0} (f : A → B) → (xs : List A) (x : A) (ys : List B) (k : ℕ) (y : B) → map f xs ≡ take k ys → slice_get ys k ≡ Some y → f x ≡ y
    → map f (xs ++ x ∷ []) ≡ take (suc k) ys
map-more f xs x ys k y front is same =
    let last : map f (x ∷ []) ≡ y ∷ [] = ap (λ z. z ∷ []) same in
    map-append f xs (x ∷ []) ∙ ap₂ (λ (ps qs : List _). ps ++ qs) front last ∙ sym (take-more ys k y is)

-- ---- the columns of a table

-- the first columns and one more
pub columns_end-more : (at : ℕ) (columns : List ColumnType) (first : ℕ) (rows : List (List Val)) (k : ℕ) (type : ColumnType) → slice_get columns k ≡ Some type
    → columns_end at (take (suc k) columns) first rows
    ≡ column_end type.not_null (placed_at (columns_end at (take k columns) first rows) type.ty (column_values rows (first + k)))
columns_end-more at [] first rows k type is = absurd (cc is)
columns_end-more at (c ∷ columns) first rows zero type is =
    let e : c ≡ type = cc is in
    let here : first + 0 ≡ first = omega arith in
    rw (here, e) refl
columns_end-more at (c ∷ columns) first rows (suc k) type is =
    let next : suc first + k ≡ first + suc k = omega arith in
    rw next at (columns_end-more (column_end c.not_null (placed_at at c.ty (column_values rows first))) columns (suc first) rows k type is)

-- where one of them stands
pub placed_columns-at : (at : ℕ) (columns : List ColumnType) (first : ℕ) (rows : List (List Val)) (k : ℕ) (type : ColumnType) → slice_get columns k ≡ Some type
    → slice_get (placed_columns at columns first rows) k ≡ Some (placed_at (columns_end at (take k columns) first rows) type.ty (column_values rows (first + k)))
placed_columns-at at [] first rows k type is = absurd (cc is)
placed_columns-at at (c ∷ columns) first rows zero type is =
    let e : c ≡ type = cc is in
    let here : first + 0 ≡ first = omega arith in
    rw (here, e) refl
placed_columns-at at (c ∷ columns) first rows (suc k) type is =
    let next : suc first + k ≡ first + suc k = omega arith in
    rw next at (placed_columns-at (column_end c.not_null (placed_at at c.ty (column_values rows first))) columns (suc first) rows k type is)

pub length-placed_columns : (at : ℕ) (columns : List ColumnType) (first : ℕ) (rows : List (List Val)) → length (placed_columns at columns first rows) ≡ length columns
length-placed_columns at [] first rows = refl
length-placed_columns at (c ∷ columns) first rows =
    ap suc (length-placed_columns (column_end c.not_null (placed_at at c.ty (column_values rows first))) columns (suc first) rows)

-- ---- tables

pub tables_end-more : (at : ℕ) (tables : List Contents) (k : ℕ) (table : Contents) → slice_get tables k ≡ Some table
    → tables_end at (take (suc k) tables) ≡ columns_end (tables_end at (take k tables)) table.columns 0 table.rows
tables_end-more at [] k table is = absurd (cc is)
tables_end-more at (t ∷ tables) zero table is = let e : t ≡ table = cc is in rw e refl
tables_end-more at (t ∷ tables) (suc k) table is = tables_end-more (columns_end at t.columns 0 t.rows) tables k table is

pub placed_tables-at : (at : ℕ) (tables : List Contents) (k : ℕ) (table : Contents) → slice_get tables k ≡ Some table
    → slice_get (placed_tables at tables) k ≡ Some (placed_columns (tables_end at (take k tables)) table.columns 0 table.rows)
placed_tables-at at [] k table is = absurd (cc is)
placed_tables-at at (t ∷ tables) zero table is = let e : t ≡ table = cc is in rw e refl
placed_tables-at at (t ∷ tables) (suc k) table is = placed_tables-at (columns_end at t.columns 0 t.rows) tables k table is

pub length-placed_tables : (at : ℕ) (tables : List Contents) → length (placed_tables at tables) ≡ length tables
length-placed_tables at [] = refl
length-placed_tables at (t ∷ tables) = ap suc (length-placed_tables (columns_end at t.columns 0 t.rows) tables)

-- the end of one more column, from what was computed of it
pub next_end : (at : ℕ) (columns : List ColumnType) (rows : List (List Val)) (k : ℕ) (type : ColumnType) (before end : ℕ) (placed : Placed) → slice_get columns k ≡ Some type
    → before ≡ columns_end at (take k columns) 0 rows → placed ≡ placed_at before type.ty (column_values rows k) → end ≡ column_end type.not_null placed
    → end ≡ columns_end at (take (suc k) columns) 0 rows
next_end at columns rows k type before end placed is begins stands ends =
    let zero_first : 0 + k ≡ k = omega arith in
    ends ∙ ap (λ (p : Placed). column_end type.not_null p) stands
    ∙ ap (λ (b : ℕ). column_end type.not_null (placed_at b type.ty (column_values rows k))) begins
    ∙ sym (rw zero_first at (columns_end-more at columns 0 rows k type is))

-- where one more column stands, from what was computed of it
pub placed_more : (at : ℕ) (columns : List ColumnType) (rows : List (List Val)) (k : ℕ) (type : ColumnType) (before : ℕ) (placed : Placed) → slice_get columns k ≡ Some type
    → before ≡ columns_end at (take k columns) 0 rows → placed ≡ placed_at before type.ty (column_values rows k)
    → take (suc k) (placed_columns at columns 0 rows) ≡ take k (placed_columns at columns 0 rows) ++ placed ∷ []
placed_more at columns rows k type before placed is begins stands =
    let zero_first : 0 + k ≡ k = omega arith in
    let where_it_is = rw zero_first at (placed_columns-at at columns 0 rows k type is) in
    let same : placed_at (columns_end at (take k columns) 0 rows) type.ty (column_values rows k) ≡ placed =
    ap (λ (b : ℕ). placed_at b type.ty (column_values rows k)) (sym begins) ∙ sym stands in
    take-more (placed_columns at columns 0 rows) k placed (where_it_is ∙ ap (λ (p : Placed). Some p) same)
