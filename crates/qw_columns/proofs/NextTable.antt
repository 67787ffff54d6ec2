-- The tables as they come, one after another, and where the columns of each stand.
use Rattle.std.proofs.Common.{◌≡◌, ◌∙◌, sym, ap, ℕ, zero, suc, List, [], ◌∷◌, length, map, take, Some, refl}
use Rattle.std.specs.Prelude.{slice_get}
use Rattle.std.specs.Global.{Vec}
use Rattle.std.proofs.lemmas.List.{length-map}
use Rattle.qw_types.specs.Contents.{Contents}
use Rattle.qw_csv.specs.LoadedColumn.{ColumnContents, columns_of}
use Rattle.qw_map.specs.Columns.{columns_end, columns_start, map_of, tables_end}
use Rattle.qw_map.specs.declared.layout.Placed.{Placed}
use Rattle.qw_columns.specs.Inner.Writing.{AreColumnsAt, AreColumnsOf}
use Rattle.qw_columns.proofs.PlaceLemmas.{tables_end-more}
use Rattle.qw_columns.proofs.TableFacts.{stands_of}

-- a table, its columns, and where they stand
pub record NextTable (loaded : List Contents) (k : ℕ) (columns : List ColumnContents) (placed : List Placed) : Type 0 where
  pub table : Contents
  pub found : slice_get loaded k ≡ Some table
  pub are : AreColumnsAt (tables_end columns_start (take k loaded)) table columns placed
  pub end : tables_end columns_start (take (suc k) loaded) ≡ columns_end (tables_end columns_start (take k loaded)) table.columns 0 table.rows

-- the table whose columns stand at an index
table_of : (tables : List (Vec ColumnContents)) (loaded : List Contents) (k : ℕ) (columns : Vec ColumnContents) → AreColumnsOf tables loaded → slice_get tables k ≡ Some columns
    → (table : Contents) × (slice_get loaded k ≡ Some table) × (columns.items ≡ columns_of table)
table_of [] loaded k columns are is = absurd (cc is)
table_of (first ∷ tables) [] k columns are is = absurd (cc are)
table_of (first ∷ tables) (table ∷ loaded) zero columns are is =
    let this : first ≡ columns = cc is in
    let same : first.items ≡ columns_of table = cc are in
    (table, refl, ap (λ (v : Vec ColumnContents). v.items) (sym this) ∙ same)
table_of (first ∷ tables) (table ∷ loaded) (suc k) columns are is = table_of tables loaded k columns (cc are) is

pub next_table : (tables : List (Vec ColumnContents)) (loaded : List Contents) (map : List (List Placed)) (index k : ℕ) (columns : Vec ColumnContents) (placed : List Placed)
    → AreColumnsOf tables loaded → map ≡ map_of loaded → index ≡ k → slice_get tables k ≡ Some columns → slice_get map index ≡ Some placed → NextTable loaded k columns.items placed
next_table tables loaded map index k columns placed are is same here there =
    let h = table_of tables loaded k columns are here in
    record {
      table = h.0;
      found = h.1;
      are = record { columns_are = h.2; placed_are = stands_of loaded map k h.0 placed is h.1 (rw same at there) };
      end = tables_end-more columns_start loaded k h.0 h.1;
    }

-- as many lists of columns as there are tables
pub length-columns_of : (tables : List (Vec ColumnContents)) (loaded : List Contents) → AreColumnsOf tables loaded → length tables ≡ length loaded
length-columns_of tables loaded are = sym (length-map tables (λ (v : Vec ColumnContents). v.items)) ∙ ap length are ∙ length-map loaded columns_of
