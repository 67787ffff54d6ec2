-- Mirrors `read::value`, `read::number_of`, `read::options_of`, `read::null_of`, `read::parts_of`, `read::run_words` and `read::gen_words`: how what they
-- return is read on.
use Rattle.std.specs.Prelude.{◌≡◌, ℕ, List, Option, Some, None, Result, Ok, Err}
use Rattle.std.specs.Borrow.{Bor}
use Rattle.qw_command_line.specs.Read.{names_of, options_of, text_of}
use Rattle.qw_command_line.specs.Words.{Reading, RunOptions, command, gen, run, out_of_range}
use Rattle.qw_command_line.specs.declared.command.Number.{Number}
use Rattle.qw_command_line.specs.declared.command.GenWords.{GenWords}
use Rattle.qw_command_line.specs.declared.command.RunOptions.{RunOptions as ReadOptions}
use Rattle.qw_command_line.specs.declared.command.RunWords.{RunWords}
use Rattle.qw_command_line.specs.declared.command.WordsFault.{WordsFault}
use Rattle.qw_command_line.specs.declared.command.WordsFault.TheVariants.{Refused, OutOfRange, NoMemory}

-- the value is what was found, or there is none; where memory is wanted nothing is said
abbrev pub IsValue : Result (Bor (List ℕ)) WordsFault → (found : Option (List ℕ)) → Type 0
IsValue (Ok value) found = found ≡ Some value.now
IsValue (Err (Refused text)) found = found ≡ None
IsValue (Err (OutOfRange number)) found = ⊥
IsValue (Err NoMemory) found = Unit {0}

-- the words are refused, or memory is wanted
abbrev pub IsRefusal : WordsFault → Type 0
IsRefusal (Refused text) = Unit {0}
IsRefusal (OutOfRange number) = ⊥
IsRefusal NoMemory = Unit {0}

-- what a number is read as, or the one that is out of its range
abbrev pub number_read : Result ℕ Number → (ℕ → Reading) → Reading
number_read (Ok value) read = read value
number_read (Err number) read = out_of_range number

-- what options are read as, or the number that is out of its range
abbrev pub options_read : Result ReadOptions Number → (RunOptions → Reading) → Reading
options_read (Ok options) read = read (options_of options)
options_read (Err number) read = out_of_range number

-- what the words of `gen` are read as, or the number that is out of its range
abbrev pub gen_read : Result GenWords Number → Reading
gen_read (Ok words) = command (gen words.seed words.rows (options_of words.options))
gen_read (Err number) = out_of_range number

-- what the text that stands for null is read as, or the number of its octets that is out of its range
abbrev pub null_read : Result (Option (Bor (List ℕ))) Number → (Option (List ℕ) → Reading) → Reading
null_read (Ok text) read = read (text_of text)
null_read (Err number) read = out_of_range number

-- what the number of parts is read as, or the number that is out of its range
abbrev pub parts_read : Result (Option ℕ) Number → (Option ℕ → Reading) → Reading
parts_read (Ok parts) read = read parts
parts_read (Err number) read = out_of_range number

-- what the words of `run` are read as, or the number that is out of its range
abbrev pub run_read : Result RunWords Number → Reading
run_read (Ok words) = command (run (names_of words) (options_of words.options))
run_read (Err number) = out_of_range number
