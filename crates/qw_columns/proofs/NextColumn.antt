-- The columns of a table as they come, one after another, and where each stands.
use Rattle.std.proofs.Common.{◌≡◌, ◌≤◌, ◌+◌, ◌∙◌, sym, ap, subst, ℕ, suc, List, length, take, Some, arith}
use Rattle.std.specs.Prelude.{slice_get, slice_index_or}
use Rattle.std.proofs.lemmas.Option.{get_or_from_slice_get}
use Rattle.qw_types.specs.Contents.{Contents}
use Rattle.qw_types.specs.declared.schema.ColumnType.{ColumnType}
use Rattle.qw_types.specs.declared.value.Val.{Val}
use Rattle.qw_csv.specs.LoadedColumn.{ColumnContents}
use Rattle.qw_csv.proofs.LoadedColumnFacts.{column_of, length-columns_from}
use Rattle.qw_linear.specs.Memory.{SameBelow}
use Rattle.qw_map.specs.Columns.{HoldsColumn, column_end, column_values, columns_end, placed_at}
use Rattle.qw_map.specs.declared.layout.Placed.{Placed}
use Rattle.qw_columns.specs.Inner.Writing.{AreColumnsAt}
use Rattle.qw_columns.proofs.PlaceLemmas.{length-placed_columns}
use Rattle.qw_columns.proofs.TableFacts.{HoldsColumns, columns_more, place_end, place_of}

-- a column of a table, and where it stands
pub record NextColumn (at : ℕ) (table : Contents) (placed : List Placed) (k : ℕ) (column : ColumnContents) (one : Placed) : Type 0 where
  pub found : slice_get table.columns k ≡ Some column.type
  pub values : column.values ≡ column_values table.rows k
  pub there : slice_get placed k ≡ Some one
  pub stands : one ≡ placed_at (columns_end at (take k table.columns) 0 table.rows) column.type.ty column.values
  pub end : column_end column.type.not_null one ≡ columns_end at (take (suc k) table.columns) 0 table.rows

pub next_column : (at : ℕ) (table : Contents) (columns : List ColumnContents) (placed : List Placed) (index k : ℕ) (column : ColumnContents) (other : Placed)
    → AreColumnsAt at table columns placed → index ≡ k → slice_get columns k ≡ Some column → NextColumn at table placed k column (slice_index_or placed index other)
next_column at table columns placed index k column other are same is =
    let start = columns_end at (take k table.columns) 0 table.rows in
    let zero_first : 0 + k ≡ k = omega arith in
    let h = column_of table.columns 0 table.rows k column (ap (λ (cs : List ColumnContents). slice_get cs k) (sym are.columns_are) ∙ is) in
    let values : column.values ≡ column_values table.rows k = rw zero_first at h.1 in
    let there = place_of at table placed k column.type are.placed_are h.0 in
    let stands : slice_index_or placed index other ≡ placed_at start column.type.ty (column_values table.rows k) = rw same (get_or_from_slice_get placed k _ other there) in
    record {
      found = h.0;
      values = values;
      there = there ∙ ap (λ (p : Placed). Some p) (sym stands);
      stands = stands ∙ ap (λ (vs : List Val). placed_at start column.type.ty vs) (sym values);
      end = ap (column_end column.type.not_null) stands ∙ place_end at table k column.type h.0;
    }

-- as many places as there are columns
pub as_many : (at : ℕ) (table : Contents) (columns : List ColumnContents) (placed : List Placed) → AreColumnsAt at table columns placed
    → (length columns ≡ length table.columns) × (length placed ≡ length columns)
as_many at table columns placed are =
    let wide = ap length are.columns_are ∙ length-columns_from table.columns 0 table.rows in
    let long = ap length are.placed_are ∙ length-placed_columns at table.columns 0 table.rows in
    (wide, long ∙ sym wide)

-- one more column stands
pub column_more : (before after : List ℕ) (at : ℕ) (table : Contents) (columns : List ColumnContents) (placed : List Placed) (k : ℕ) (column : ColumnContents) (one : Placed)
    → AreColumnsAt at table columns placed → NextColumn at table placed k column one → SameBelow before after one.values → length before ≤ length after
    → HoldsColumns before placed table k → HoldsColumn after column.type.ty column.type.not_null one column.values → HoldsColumns after placed table (suc k)
column_more before after at table columns placed k column one are next same longer first holds =
    let start = ap (λ (p : Placed). p.values) next.stands in
    columns_more before after at placed table k (λ n lt. same n (omega (arith, lt, start))) longer are.placed_are first
    (λ type place is here.
    let this : column.type ≡ type = cc (next.found, is) in
    let that : one ≡ place = cc (next.there, here) in
    subst (λ (t : ColumnType). HoldsColumn after t.ty t.not_null place (column_values table.rows k)) this
    (subst (λ (p : Placed). HoldsColumn after column.type.ty column.type.not_null p (column_values table.rows k)) that
    (subst (λ (vs : List Val). HoldsColumn after column.type.ty column.type.not_null one vs) next.values holds)))
