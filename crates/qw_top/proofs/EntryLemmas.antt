-- Entries of FROM that are over tables of the schema: what their columns keep, and what they are in the tables' rows.
use Rattle.std.proofs.Common.{◌≡◌, ◌∙◌, ℕ, zero, suc, ◌≤◌, List, [], ◌∷◌, Some, refl, sym, subst, length, ap, map}
use Rattle.std.specs.Prelude.{slice_get}
use Rattle.std.specs.List.{AllByRecursion}
use Rattle.std.proofs.lemmas.List.{length-map}
use Rattle.std.proofs.lemmas.Option.{none-some, same_Some}
use Rattle.qw_types.specs.Contents.{Contents, column_type, rows_of}
use Rattle.qw_types.specs.Schema.{AreColumns}
use Rattle.qw_types.specs.Value.{IsSized}
use Rattle.qw_types.specs.declared.schema.Column.{Column}
use Rattle.qw_types.specs.declared.schema.ColumnType.{ColumnType}
use Rattle.qw_types.specs.declared.schema.Table.{Table}
use Rattle.qw_meaning.specs.Select.{AreOfEntries, Entry, IsOfEntry}
use Rattle.qw_map.specs.declared.layout.Used.{Used}
use Rattle.qw_promise.specs.Compiled.{IsUsedOf}
use Rattle.qw_emit.specs.Alike.{AreAlike}
use Rattle.qw_bench.specs.Bench.{IsColumnIn, rows_in_tables}
use Rattle.qw_top.specs.Inner.Queries.{IsEntryOver}
use Rattle.qw_top.specs.Inner.Stages.{AreContentsOf, IsContentsOf}
use Rattle.qw_top.proofs.EachLemmas.{all_at, all_contains}

-- ---- what their columns keep

sized_types : (columns : List Column) → AllByRecursion (λ (c : Column). IsSized c.ty) columns → AllByRecursion (λ (c : ColumnType). IsSized c.ty) (map column_type columns)
sized_types [] all = tt
sized_types (column ∷ columns) all = (all.0, sized_types columns all.1)

-- the limits of their tables' columns
module _ (schema : List Table) (limits : AllByRecursion (λ (table : Table). AreColumns table.columns) schema) where
  pub some_columns : (entries : List Entry) → AllByRecursion (IsEntryOver schema) entries → AllByRecursion (λ (e : Entry). 1 ≤ length e.columns) entries
  some_columns [] all = tt
  some_columns (entry ∷ entries) (over, all) =
      let kept = all_at (λ (table : Table). AreColumns table.columns) schema entry.table over.table limits over.there in
      (rw (over.columns_are, length-map over.table.columns column_type) kept.some, some_columns entries all)

  pub sized_columns : (entries : List Entry) → AllByRecursion (IsEntryOver schema) entries → AllByRecursion (λ (e : Entry). AllByRecursion (λ (c : ColumnType). IsSized c.ty) e.columns) entries
  sized_columns [] all = tt
  sized_columns (entry ∷ entries) (over, all) =
      let kept = all_at (λ (table : Table). AreColumns table.columns) schema entry.table over.table limits over.there in
      (rw over.columns_are (sized_types over.table.columns kept.sized), sized_columns entries all)

-- entries over one table have the same columns
pub are_alike : (schema : List Table) (entries : List Entry) → AllByRecursion (IsEntryOver schema) entries → AreAlike entries
are_alike schema entries all a b here there same =
    let over = all_contains (IsEntryOver schema) entries a all here in
    let other = all_contains (IsEntryOver schema) entries b all there in
    let table : over.table ≡ other.table = same_Some over.table other.table (sym over.there ∙ ap (λ (n : ℕ). slice_get schema n) same ∙ other.there) in
    over.columns_are ∙ ap (λ (t : Table). map column_type t.columns) table ∙ sym other.columns_are

-- ---- what they are in the tables' rows

-- the rows of a table of the schema
contents_at : (schema : List Table) (tables : List Contents) (n : ℕ) (table : Table) → AreContentsOf schema tables → slice_get schema n ≡ Some table →
    (one : Contents) × (slice_get tables n ≡ Some one) × IsContentsOf table one
contents_at [] tables n table are found = absurd (none-some table found)
contents_at (first ∷ schema) [] n table are found = absurd are
contents_at (first ∷ schema) (one ∷ tables) zero table are found =
    let same : first ≡ table = cc in (one, refl, subst (λ (t : Table). IsContentsOf t one) same are.0)
contents_at (first ∷ schema) (one ∷ tables) (suc n) table are found = contents_at schema tables n table are.1 found

-- a column of an entry is one of the tables'
column_in : (schema : List Table) (tables : List Contents) (entries : List Entry) (u : Used) → AreContentsOf schema tables → AllByRecursion (IsEntryOver schema) entries → IsUsedOf entries u → IsColumnIn tables u
column_in schema tables entries u are all (entry, among, table_is, column_is) =
    let over = all_contains (IsEntryOver schema) entries entry all among in
    let one = contents_at schema tables entry.table over.table are over.there in (
      one.0,
      record { ty = u.ty; not_null = u.not_null },
      ap (λ (n : ℕ). slice_get tables n) (sym table_is) ∙ one.1,
      ap (λ (cs : List ColumnType). slice_get cs u.column) (one.2.columns ∙ sym over.columns_are) ∙ column_is,
      refl,
      refl,
    )

pub columns_in : (schema : List Table) (tables : List Contents) (entries : List Entry) (used : List Used) → AreContentsOf schema tables → AllByRecursion (IsEntryOver schema) entries →
    AllByRecursion (IsUsedOf entries) used → AllByRecursion (IsColumnIn tables) used
columns_in schema tables entries [] are over all = tt
columns_in schema tables entries (u ∷ used) are over all = (column_in schema tables entries u are over all.0, columns_in schema tables entries used are over all.1)

rows_there : (tables : List Contents) (n : ℕ) (one : Contents) → slice_get tables n ≡ Some one → rows_of (rows_in_tables tables) n ≡ one.rows
rows_there [] n one found = absurd (none-some one found)
rows_there (first ∷ tables) zero one found = ap (λ (c : Contents). c.rows) (same_Some first one found)
rows_there (first ∷ tables) (suc n) one found = rows_there tables n one found

-- the rows of an entry's table are of its columns
entry_loaded : (schema : List Table) (tables : List Contents) (entry : Entry) → AreContentsOf schema tables → IsEntryOver schema entry → IsOfEntry (rows_in_tables tables) entry
entry_loaded schema tables entry are over =
    let one = contents_at schema tables entry.table over.table are over.there in
    let rows : rows_of (rows_in_tables tables) entry.table ≡ one.0.rows = rows_there tables entry.table one.0 one.1 in
    record { few = rw rows one.2.few; typed = rw (rows, over.columns_are) one.2.typed }

pub entries_loaded : (schema : List Table) (tables : List Contents) (entries : List Entry) → AreContentsOf schema tables → AllByRecursion (IsEntryOver schema) entries → AreOfEntries entries (rows_in_tables tables)
entries_loaded schema tables [] are all = tt
entries_loaded schema tables (entry ∷ entries) are all = (entry_loaded schema tables entry are all.0, entries_loaded schema tables entries are all.1)
