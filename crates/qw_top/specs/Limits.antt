-- The limits of files, and those of a run.
use Rattle.std.specs.Prelude.{ℕ}
use Rattle.qw_command_line.specs.Words.{RunOptions}
use Rattle.qw_bench.specs.declared.bench.Limits.{Limits}

-- octets of a schema file, and of a queries file
abbrev pub most_text_octets : ℕ
most_text_octets = 1048576

-- octets of a table file
abbrev pub most_table_octets : ℕ
most_table_octets = 268435456

-- octets of the file of a module
abbrev pub most_module_octets : ℕ
most_module_octets = 67108864

-- what each query of a run may use
abbrev pub limits_of : RunOptions → Limits
limits_of options = record { pages = options.pages; steps = options.steps }
