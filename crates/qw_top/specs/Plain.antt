-- What a table's file stands for where the words have neither parts of tables nor a text for null.
use Rattle.std.specs.Prelude.{◌≡◌, ℕ, List, None, map}
use Rattle.qw_types.specs.Contents.{Contents, column_type}
use Rattle.qw_types.specs.declared.schema.Table.{Table}
use Rattle.qw_csv.specs.Loading.{IsFirstFault, Loads}
use Rattle.qw_csv.specs.declared.loading.LoadFault.{LoadFault}
use Rattle.qw_top.specs.FileNames.{table_file_of}
use Rattle.qw_top.specs.Limits.{most_table_octets}
use Rattle.qw_top.specs.Top.{Files, IsFile, Names}

-- the names of such words
abbrev pub plain_names : (schema folder queries : List ℕ) → Names
plain_names schema folder queries = record { schema = schema; folder = folder; queries = queries; null = None; parts = None }

-- the file of a table in this folder stands for these rows
pub record IsPlainTable (files : Files) (folder : List ℕ) (table : Table) (contents : Contents) : Type 0 where
  pub bytes : List ℕ
  pub file : IsFile files (table_file_of folder table.name) most_table_octets bytes
  pub loads : Loads table bytes contents.rows
  pub columns : contents.columns ≡ map column_type table.columns

-- and this is its first fault
abbrev pub IsPlainFault : Files → (folder : List ℕ) → Table → LoadFault → Type 0
IsPlainFault files folder table fault = (bytes : List ℕ) × IsFile files (table_file_of folder table.name) most_table_octets bytes × IsFirstFault table bytes fault
