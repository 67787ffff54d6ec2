use Rattle.std.proofs.Common.{◌≡◌, ℕ, List, map}
use Rattle.std.specs.Prelude.{Result, Ok, Err}
use Rattle.std.specs.Result.{IfOk}
use Rattle.qw_types.specs.Contents.{Contents, column_type}
use Rattle.qw_types.specs.declared.schema.Table.{Table}
use Rattle.qw_csv.specs.Loading.{Loads}
use Rattle.qw_csv.specs.declared.loading.LoadFault.{LoadFault}
use Rattle.qw_csv.proofs.ColumnLaws.{loaded_of_columns}
use Rattle.qw_top.specs.Inner.Stages.{IsContentsOf}
use Rattle.qw_tests.proofs.tables.loaded_of.Goals as goal

contents_loaded : (table : Table) (file : List ℕ) (loaded : Result Contents LoadFault) → IfOk loaded (λ (one : Contents). Loads table file one.rows) →
    IfOk loaded (λ (one : Contents). one.columns ≡ map column_type table.columns) → IfOk loaded (λ (one : Contents). IsContentsOf table one)
contents_loaded table file (Ok one) loads columns = record { columns = columns; few = loads.1; typed = loaded_of_columns table file one.rows loads }
contents_loaded table file (Err fault) loads columns = tt

pub returns : goal.returns
returns c = contents_loaded c.args.table.now c.args.file.now c.load.result c.load.ensures.rows c.load.ensures.columns
