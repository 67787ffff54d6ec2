-- The words of `run` that the worked cases speak of.
use Rattle.std.specs.Prelude.{ℕ, List, ◌∷◌, Option, None, codes}
use Rattle.clap.specs.Words.{Text}
use Rattle.qw_command_line.specs.Words.{Names, RunOptions, Reading, command, default_options, run, reading}

-- `run` of the files `s`, `d` and `q`, and more words
abbrev pub run_with : List Text → Reading
run_with words = reading (codes "run" ∷ codes "s" ∷ codes "d" ∷ codes "q" ∷ words)

-- these files, where no text stands for null, and table files aren't in parts
abbrev pub names : Names
names = record { schema = codes "s"; folder = codes "d"; queries = codes "q"; null = None; parts = None }

-- `run` of them with options
abbrev pub runs : RunOptions → Reading
runs options = command (run names options)

-- these files, and what table files are read by
abbrev pub with_files : Option Text → Option ℕ → Reading
with_files null parts = command (run (record names { null = null; parts = parts }) default_options)
