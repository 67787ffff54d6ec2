-- What a list of columns or of tables keeps (ISO/IEC 9075:1992, 11.3 and 11.4).
use Rattle.std.specs.Prelude.{◌≢◌, ◌≤◌, ℕ, List, [], ◌∷◌, length, map}
use Rattle.std.specs.List.{AllByRecursion}
use Rattle.qw_types.specs.declared.schema.Column.{Column}
use Rattle.qw_types.specs.declared.schema.Table.{Table}
use Rattle.qw_types.specs.Limits.{most_columns, most_tables}
use Rattle.qw_types.specs.Value.{IsSized}

-- no name comes twice
abbrev pub AreDistinct : List (List ℕ) → Type 0
AreDistinct [] = Unit {0}
AreDistinct (name ∷ names) = AllByRecursion (λ other. name ≢ other) names × AreDistinct names

-- the columns of a table, each of a type of a size that it may have
pub record AreColumns (columns : List Column) : Type 0 where
  pub some : 1 ≤ length columns
  pub few : length columns ≤ most_columns
  pub distinct : AreDistinct (map (λ (c : Column). c.name) columns)
  pub sized : AllByRecursion (λ (c : Column). IsSized c.ty) columns

-- the tables of a schema
pub record AreTables (tables : List Table) : Type 0 where
  pub some : 1 ≤ length tables
  pub few : length tables ≤ most_tables
  pub distinct : AreDistinct (map (λ (t : Table). t.name) tables)
