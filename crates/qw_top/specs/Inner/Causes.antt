-- Mirrors `causes::Cause`.
use Rattle.qw_top.specs.declared.causes.Cause.{Cause as Told}
use Rattle.qw_top.specs.declared.causes.Cause.TheVariants as told
use Rattle.qw_top.specs.Causes.{Cause, schema_too_long, schema_refused, table_too_long, table_refused, queries_too_long, queries_refused, queries_mistyped, no_statement, module_too_long, module_refused, total_pages}

-- the cause that it is
abbrev pub cause_of : Told → Cause
cause_of told.SchemaTooLong = schema_too_long
cause_of (told.Schema fault) = schema_refused fault.now
cause_of (told.TableTooLong table part) = table_too_long table.now part
cause_of (told.Table table part fault) = table_refused table.now part fault.now
cause_of told.QueriesTooLong = queries_too_long
cause_of (told.Queries fault) = queries_refused fault.now
cause_of (told.Mistyped fault) = queries_mistyped fault.now
cause_of (told.NoStatement statement) = no_statement statement
cause_of told.ModuleTooLong = module_too_long
cause_of (told.Module fault) = module_refused fault.now
cause_of (told.TotalPages need) = total_pages need
