-- The words of the program `qwasm-layout`: those of the command `compile` without its name, and what they are read as.
use Rattle.std.specs.Prelude.{true, List, [], ◌∷◌, codes}
use Rattle.clap.specs.Words.{App, Row, Text, fault_of, matches_of, new_app}
use Rattle.clap.specs.Simple.{on_top}
use Rattle.clap.specs.Kinds.{Kinds}
use Rattle.qw_command_line.specs.Words.{Reading, no_command, read_compile, with_statement}

-- the words come without the program's own name
abbrev pub bare_layout_program : App
bare_layout_program = on_top (λ s. record s { no_binary_name = true }) (new_app (codes "qwasm-layout"))

-- `qwasm-layout SCHEMA QUERIES --statement K`
abbrev pub layout_program : App
layout_program = with_statement bare_layout_program

-- Words at which clap finds nothing wrong are read as those of `compile`; where it finds any, they are those of no command.
abbrev pub read_layout_taken : Kinds → (matches : List Row) → Reading
read_layout_taken [] matches = read_compile matches
read_layout_taken (kind ∷ kinds) matches = no_command

-- how its words are read: as those of `compile`, of these files and this statement
unfoldable pub layout_reading : List Text → Reading
layout_reading words = read_layout_taken (fault_of layout_program words) (matches_of layout_program words)
