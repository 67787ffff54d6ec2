-- The first columns of a table, and the first of several tables.
use Rattle.std.proofs.Common.{◌≡◌, ◌≤◌, ◌<◌, ◌+◌, ◌∙◌, sym, ap, subst, ⊎_elim, ℕ, zero, suc, Bool, List, [], ◌∷◌, length, take, Some, arith}
use Rattle.std.specs.Prelude.{slice_get}
use Rattle.std.proofs.lemmas.Bool.{cases_lt}
use Rattle.std.proofs.lemmas.List.{take-take}
use Rattle.std.proofs.lemmas.Option.{slice_get_within}
use Rattle.qw_types.specs.Contents.{Contents}
use Rattle.qw_types.specs.declared.schema.ColumnType.{ColumnType}
use Rattle.qw_types.specs.declared.value.Ty.{Ty}
use Rattle.qw_types.specs.declared.value.Val.{Val}
use Rattle.qw_linear.specs.Memory.{SameBelow}
use Rattle.qw_map.specs.Columns.{Holds, HoldsColumn, HoldsTable, areas_of, column_end, column_values, columns_end, columns_start, map_of, placed_at, placed_columns, tables_end}
use Rattle.qw_map.specs.declared.layout.Placed.{Placed}
use Rattle.qw_map.proofs.AccessLemmas.{lies-within}
use Rattle.qw_map.proofs.ColumnLemmas.{LieBetween, column-kept, columns-end-above, placed-between, tables-end-above}
use Rattle.qw_columns.proofs.PlaceLemmas.{columns_end-more, length-placed_columns, length-placed_tables, placed_columns-at, placed_tables-at, tables_end-more}

-- ---- one after another

-- the first columns end before all of them do
pub columns_end-within : (at : ℕ) (columns : List ColumnType) (first : ℕ) (rows : List (List Val)) (k : ℕ) → columns_end at (take k columns) first rows ≤ columns_end at columns first rows
columns_end-within at columns first rows zero = columns-end-above at columns first rows
columns_end-within at [] first rows (suc k) = omega arith
columns_end-within at (c ∷ columns) first rows (suc k) =
    columns_end-within (column_end c.not_null (placed_at at c.ty (column_values rows first))) columns (suc first) rows k

pub columns_end-rises : (at : ℕ) (columns : List ColumnType) (first : ℕ) (rows : List (List Val)) (j k : ℕ) → j ≤ k
    → columns_end at (take j columns) first rows ≤ columns_end at (take k columns) first rows
columns_end-rises at columns first rows j k le = rw take-take at (columns_end-within at (take k columns) first rows j)

pub tables_end-within : (at : ℕ) (tables : List Contents) (k : ℕ) → tables_end at (take k tables) ≤ tables_end at tables
tables_end-within at tables zero = tables-end-above at tables
tables_end-within at [] (suc k) = omega arith
tables_end-within at (t ∷ tables) (suc k) = tables_end-within (columns_end at t.columns 0 t.rows) tables k

pub tables_end-rises : (at : ℕ) (tables : List Contents) (j k : ℕ) → j ≤ k → tables_end at (take j tables) ≤ tables_end at (take k tables)
tables_end-rises at tables j k le = rw take-take at (tables_end-within at (take k tables) j)

-- what a map that was made of a table says of a column
pub place_of : (at : ℕ) (table : Contents) (placed : List Placed) (k : ℕ) (type : ColumnType) → placed ≡ placed_columns at table.columns 0 table.rows
    → slice_get table.columns k ≡ Some type
    → slice_get placed k ≡ Some (placed_at (columns_end at (take k table.columns) 0 table.rows) type.ty (column_values table.rows k))
place_of at table placed k type is found =
    let zero_first : 0 + k ≡ k = omega arith in
    rw (is) (rw zero_first at (placed_columns-at at table.columns 0 table.rows k type found))

-- what an index past the end would read
abbrev pub nowhere : Placed
nowhere = record { values = 0; octets = 0; size = 0; nulls = 0; rows = 0 }

-- and where it ends
pub place_end : (at : ℕ) (table : Contents) (k : ℕ) (type : ColumnType) → slice_get table.columns k ≡ Some type
    → column_end type.not_null (placed_at (columns_end at (take k table.columns) 0 table.rows) type.ty (column_values table.rows k))
    ≡ columns_end at (take (suc k) table.columns) 0 table.rows
place_end at table k type found =
    let zero_first : 0 + k ≡ k = omega arith in
    sym (rw zero_first at (columns_end-more at table.columns 0 table.rows k type found))

-- ---- what stands below an address stays

pub column_stays : (before after : List ℕ) (limit at : ℕ) (ty : Ty) (not_null : Bool) (placed : Placed) (values : List Val) → SameBelow before after limit
    → length before ≤ length after → placed ≡ placed_at at ty values → column_end not_null placed ≤ limit → HoldsColumn before ty not_null placed values
    → HoldsColumn after ty not_null placed values
column_stays before after limit at ty not_null placed values same longer is ends holds =
    let between : LieBetween at (column_end not_null placed) (areas_of ty not_null placed) =
    subst (λ (p : Placed). LieBetween at (column_end not_null p) (areas_of ty not_null p)) (sym is) (placed-between at ty not_null values) in
    column-kept before after longer not_null placed values ty holds
    (λ k inside. same k (let bounds = lies-within (areas_of ty not_null placed) at (column_end not_null placed) between k inside in omega (arith, bounds.1, ends)))

pub table_stays : (before after : List ℕ) (limit at : ℕ) (placed : List Placed) (table : Contents) → SameBelow before after limit → length before ≤ length after
    → placed ≡ placed_columns at table.columns 0 table.rows → columns_end at table.columns 0 table.rows ≤ limit → HoldsTable before placed table → HoldsTable after placed table
table_stays before after limit at placed table same longer is ends holds = record {
  many = holds.many;
  each = λ k column one found there.
      let here = place_of at table placed k column is found in
      let this : one ≡ placed_at (columns_end at (take k table.columns) 0 table.rows) column.ty (column_values table.rows k) = cc (there, here) in
      let end = ap (column_end column.not_null) this ∙ place_end at table k column found in
      let within = columns_end-within at table.columns 0 table.rows (suc k) in
      column_stays before after limit (columns_end at (take k table.columns) 0 table.rows) column.ty column.not_null one (column_values table.rows k) same longer this
      (omega (arith, end, within, ends)) (holds.each k column one found there);
}

-- ---- one more column

-- the first columns stand
pub record HoldsColumns (memory : List ℕ) (placed : List Placed) (table : Contents) (count : ℕ) : Type 0 where
  pub each : (k : ℕ) (column : ColumnType) (one : Placed) → k < count → slice_get table.columns k ≡ Some column → slice_get placed k ≡ Some one
      → HoldsColumn memory column.ty column.not_null one (column_values table.rows k)

pub columns_none : (memory : List ℕ) (placed : List Placed) (table : Contents) → HoldsColumns memory placed table 0
columns_none memory placed table = record { each = λ k column one lt found there. absurd (omega arith) }

pub columns_more : (before after : List ℕ) (at : ℕ) (placed : List Placed) (table : Contents) (count : ℕ) → SameBelow before after (columns_end at (take count table.columns) 0 table.rows)
    → length before ≤ length after → placed ≡ placed_columns at table.columns 0 table.rows → HoldsColumns before placed table count
    → ((column : ColumnType) (one : Placed) → slice_get table.columns count ≡ Some column → slice_get placed count ≡ Some one
    → HoldsColumn after column.ty column.not_null one (column_values table.rows count))
    → HoldsColumns after placed table (suc count)
columns_more before after at placed table count same longer is first last = record { each = each }
  where
    at_last : (k : ℕ) (column : ColumnType) (one : Placed) → k ≡ count → slice_get table.columns k ≡ Some column → slice_get placed k ≡ Some one
        → HoldsColumn after column.ty column.not_null one (column_values table.rows k)
    at_last k column one same_k found there = rw same_k (last column one (rw same_k at found) (rw same_k at there))

    each : (k : ℕ) (column : ColumnType) (one : Placed) → k < suc count → slice_get table.columns k ≡ Some column → slice_get placed k ≡ Some one
        → HoldsColumn after column.ty column.not_null one (column_values table.rows k)
    each k column one lt found there = ⊎_elim
        (λ (earlier : k < count).
        let here = place_of at table placed k column is found in
        let this : one ≡ placed_at (columns_end at (take k table.columns) 0 table.rows) column.ty (column_values table.rows k) = cc (there, here) in
        let end = ap (column_end column.not_null) this ∙ place_end at table k column found in
        let within = columns_end-rises at table.columns 0 table.rows (suc k) count earlier in
        column_stays before after (columns_end at (take count table.columns) 0 table.rows) (columns_end at (take k table.columns) 0 table.rows) column.ty column.not_null one
        (column_values table.rows k) same longer this (omega (arith, end, within)) (first.each k column one earlier found there))
        (λ (past : count ≤ k). at_last k column one (omega arith) found there)
        (cases_lt k count)

-- all columns
pub columns_all : (memory : List ℕ) (at : ℕ) (placed : List Placed) (table : Contents) (count : ℕ) → length table.columns ≤ count
    → placed ≡ placed_columns at table.columns 0 table.rows → HoldsColumns memory placed table count → HoldsTable memory placed table
columns_all memory at placed table count all is first = record {
  many = ap length is ∙ length-placed_columns at table.columns 0 table.rows;
  each = λ k column one found there.
      first.each k column one (let inside = slice_get_within table.columns k column found in omega (arith, inside, all)) found there;
}

-- ---- one more table

-- what the map of tables says of one of them
pub columns_of : (tables : List Contents) (map : List (List Placed)) (k : ℕ) (table : Contents) → map ≡ map_of tables → slice_get tables k ≡ Some table
    → slice_get map k ≡ Some (placed_columns (tables_end columns_start (take k tables)) table.columns 0 table.rows)
columns_of tables map k table is found = rw (is) (placed_tables-at columns_start tables k table found)

-- the first tables are held
pub record HoldsTables (map : List (List Placed)) (memory : List ℕ) (tables : List Contents) (count : ℕ) : Type 0 where
  pub each : (k : ℕ) (table : Contents) (columns : List Placed) → k < count → slice_get tables k ≡ Some table → slice_get map k ≡ Some columns
      → HoldsTable memory columns table

pub tables_none : (map : List (List Placed)) (memory : List ℕ) (tables : List Contents) → HoldsTables map memory tables 0
tables_none map memory tables = record { each = λ k table columns lt found there. absurd (omega arith) }

pub tables_more : (before after : List ℕ) (map : List (List Placed)) (tables : List Contents) (count : ℕ) → SameBelow before after (tables_end columns_start (take count tables))
    → length before ≤ length after → map ≡ map_of tables → HoldsTables map before tables count
    → ((table : Contents) (columns : List Placed) → slice_get tables count ≡ Some table → slice_get map count ≡ Some columns → HoldsTable after columns table)
    → HoldsTables map after tables (suc count)
tables_more before after map tables count same longer is first last = record { each = each }
  where
    at_last : (k : ℕ) (table : Contents) (columns : List Placed) → k ≡ count → slice_get tables k ≡ Some table → slice_get map k ≡ Some columns → HoldsTable after columns table
    at_last k table columns same_k found there = last table columns (rw same_k at found) (rw same_k at there)

    each : (k : ℕ) (table : Contents) (columns : List Placed) → k < suc count → slice_get tables k ≡ Some table → slice_get map k ≡ Some columns → HoldsTable after columns table
    each k table columns lt found there = ⊎_elim
        (λ (earlier : k < count).
        let here = columns_of tables map k table is found in
        let this : columns ≡ placed_columns (tables_end columns_start (take k tables)) table.columns 0 table.rows = cc (there, here) in
        let end = tables_end-more columns_start tables k table found in
        let within = tables_end-rises columns_start tables (suc k) count earlier in
        table_stays before after (tables_end columns_start (take count tables)) (tables_end columns_start (take k tables)) columns table same longer this
        (omega (arith, end, within)) (first.each k table columns earlier found there))
        (λ (past : count ≤ k). at_last k table columns (omega arith) found there)
        (cases_lt k count)

pub tables_all : (map : List (List Placed)) (memory : List ℕ) (tables : List Contents) (count : ℕ) → length tables ≤ count → map ≡ map_of tables
    → HoldsTables map memory tables count → Holds (map_of tables) memory tables
tables_all map memory tables count all is first = record {
  many = length-placed_tables columns_start tables;
  each = λ k table columns found there.
      first.each k table columns (let inside = slice_get_within tables k table found in omega (arith, inside, all)) found (rw (is) there);
}

pub stands_of : (tables : List Contents) (map : List (List Placed)) (k : ℕ) (table : Contents) (columns : List Placed) → map ≡ map_of tables → slice_get tables k ≡ Some table
    → slice_get map k ≡ Some columns → columns ≡ placed_columns (tables_end columns_start (take k tables)) table.columns 0 table.rows
stands_of tables map k table columns is found there = let here = columns_of tables map k table is found in cc (there, here)
