-- Mirrors the functions of `top::inputs`: why each of them stops.
use Rattle.std.specs.Prelude.{◌≡◌, ◌⊎◌, ℕ, List, ◌∷◌, ◌++◌, Option, Some}
use Rattle.std.specs.String.{string_bytes}
use Rattle.qw_types.specs.Contents.{Contents}
use Rattle.qw_types.specs.declared.schema.Table.{Table}
use Rattle.qw_csv.specs.declared.loading.LoadFault.{LoadFault}
use Rattle.qw_schema.specs.declared.parse.SchemaFault.{SchemaFault}
use Rattle.qw_schema.specs.Parse.{IsRefused}
use Rattle.qw_parse.specs.Script.{IsScriptRefused}
use Rattle.qw_parse.specs.declared.fault.ParseFault.{ParseFault}
use Rattle.qw_typer.specs.declared.fault.TypeFault.{TypeFault}
use Rattle.qw_top.specs.declared.stop.Stop.{Stop}
use Rattle.qw_top.specs.declared.stop.Stop.TheVariants.{NoMemory}
use Rattle.qw_top.specs.declared.table_file.TableFault.{TableFault}
use Rattle.qw_top.specs.declared.table_file.TableFault.TheVariants.{TooLong, Unread, Content, NoMemory as Wanted}
use Rattle.qw_top.specs.Causes.{Cause, schema_too_long, schema_refused, table_too_long, table_refused, queries_too_long, queries_refused, queries_mistyped}
use Rattle.qw_top.specs.FileNames.{told_part}
use Rattle.qw_top.specs.Limits.{most_text_octets}
use Rattle.qw_top.specs.Top.{Files, IsFaultyPart, IsFile, IsLongPart, IsMistyped, IsTableFile, IsTooLong, Names, TablesAre}
use Rattle.qw_top.specs.Inner.Stop.{StopsBy, StopsFor, failed_at}

-- the schema file of this name is refused for this cause
abbrev pub IsNoSchema : Files → List ℕ → Cause → Type 0
IsNoSchema files name cause = ((cause ≡ schema_too_long) × IsTooLong files name most_text_octets)
    ⊎ ((fault : SchemaFault) × (text : List ℕ) × (cause ≡ schema_refused fault) × IsFile files name most_text_octets text × IsRefused text fault)

-- the files of a table are refused for this cause
abbrev pub IsNoTable : Files → Names → Table → Cause → Type 0
IsNoTable files names table cause =
    ((part : ℕ) × (cause ≡ table_too_long table (told_part names.parts part)) × IsLongPart files names table part)
    ⊎ ((part : ℕ) × (fault : LoadFault) × (cause ≡ table_refused table (told_part names.parts part) fault) × IsFaultyPart files names table part fault)

-- the queries file of this name is refused for this cause
abbrev pub IsNoScript : Files → List ℕ → List Table → Cause → Type 0
IsNoScript files name schema cause = ((cause ≡ queries_too_long) × IsTooLong files name most_text_octets)
    ⊎ ((fault : ParseFault) × (text : List ℕ) × (cause ≡ queries_refused fault) × IsFile files name most_text_octets text × IsScriptRefused text fault)
    ⊎ ((fault : TypeFault) × (text : List ℕ) × (cause ≡ queries_mistyped fault) × IsFile files name most_text_octets text × IsMistyped schema text fault)

-- how a run stops at a table whose files aren't loaded, where each table has so many parts
abbrev pub StopsForTable : (parts : Option ℕ) → Table → TableFault → Stop → Type 0
StopsForTable parts table (TooLong part) stop = StopsFor (table_too_long table (told_part parts part)) stop
StopsForTable parts table (Unread name) stop = failed_at stop ≡ Some (string_bytes name)
StopsForTable parts table (Content part fault) stop = StopsFor (table_refused table (told_part parts part) fault) stop
StopsForTable parts table Wanted stop = stop ≡ NoMemory

-- the reading of a table's files stopped
abbrev pub StopsAtTable : Files → Names → Table → Stop → Type 0
StopsAtTable files names table stop = StopsBy (IsNoTable files names table) (IsTableFile files names table.name) stop

-- the reading of the table files stopped at the files of one of them, those before it being accepted, or for want of memory
abbrev pub StopsAtTables : Files → Names → List Table → Stop → Type 0
StopsAtTables files names schema stop = (stop ≡ NoMemory)
    ⊎ ((before : List Table) × (table : Table) × (behind : List Table) × (contents : List Contents) × (schema ≡ before ++ table ∷ behind)
    × TablesAre files names before contents × StopsAtTable files names table stop)
