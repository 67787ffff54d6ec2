-- The number that the program ends with.
use Rattle.std.specs.Prelude.{ℕ}
use Rattle.qw_top.specs.declared.status.Status.{Status}
use Rattle.qw_top.specs.declared.status.Status.TheVariants.{Done, Raised, WordsRefused, SchemaRefused, TableFileRefused, QueriesRefused, ReadFailed, WriteFailed, PageLimitMet, NoMemory, StepLimitMet, TotalPages}

-- the number of a status
abbrev pub exit_code : Status → ℕ
exit_code Done = 0
exit_code Raised = 1
exit_code WordsRefused = 2
exit_code SchemaRefused = 3
exit_code TableFileRefused = 4
exit_code QueriesRefused = 5
exit_code ReadFailed = 6
exit_code WriteFailed = 7
exit_code PageLimitMet = 8
exit_code NoMemory = 9
exit_code StepLimitMet = 10
exit_code TotalPages = 11
