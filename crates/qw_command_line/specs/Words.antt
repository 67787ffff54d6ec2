-- The words of the command line: the program's commands in the terms of the crate `clap`, and the words that are read as one of them.
use Rattle.std.specs.Prelude.{ℕ, ◌&&◌, nat_le, Bool, true, false, if◌then◌else◌, List, [], ◌∷◌, length, Option, Some, None, codes}
use Rattle.std.specs.Option.{option_map_or}
use Rattle.std.specs.Str.{bytes_eq}
use Rattle.std.specs.Str.Parse.{digits_value}
use Rattle.clap.specs.Words.{App, Row, Rule, Text, fault_of, first_of, new_app, new_rule, subcommand_of, with_rule, with_subcommand}
use Rattle.clap.specs.Simple.{on_top}
use Rattle.clap.specs.Kinds.{Kinds}
use Rattle.clap.specs.declared.builder.action.ArgAction.TheVariants.{SetTrue}
use Rattle.qw_types.specs.Digits.{are_digits}
use Rattle.qw_command_line.specs.declared.command.Number.{Number}
use Rattle.qw_command_line.specs.declared.command.Number.TheVariants.{Quantum, Pages, Steps, Statement, Seed, Rows, Null, Parts}

-- ---- the numbers that words give

-- the name of a number, which is that of its option or of its place
abbrev pub name_of : Number → Text
name_of Quantum = codes "quantum"
name_of Pages = codes "pages"
name_of Steps = codes "steps"
name_of Statement = codes "statement"
name_of Seed = codes "SEED"
name_of Rows = codes "ROWS"
name_of Null = codes "null"
name_of Parts = codes "parts"

-- its least value
abbrev pub least_of : Number → ℕ
least_of Quantum = 1
least_of Pages = 1
least_of Steps = 1
least_of Statement = 1
least_of Seed = 0
least_of Rows = 0
least_of Null = 1
least_of Parts = 1

-- its greatest value
abbrev pub most_of : Number → ℕ
most_of Quantum = 1000000000
most_of Pages = 65535
most_of Steps = 999999999999999999
most_of Statement = 64
most_of Seed = 18446744073709551615
most_of Rows = 100000
most_of Null = 100
most_of Parts = 999

-- whether a number is in its range
abbrev pub is_in_range : Number → ℕ → Bool
is_in_range number value = nat_le (least_of number) value && nat_le value (most_of number)

-- its value by a word, which is one or more digits and in its range
abbrev pub value_in_range : Number → Text → Option ℕ
value_in_range number word =
    let value = digits_value 10 word in
    if are_digits word && is_in_range number value then Some value else None

-- ---- the program in clap's terms

-- a place among a command's words, which has to be filled
abbrev pub place : Text → Rule
place name = record (new_rule name) { required = true }

-- the option `--NAME`, with a value, for which help has one name
abbrev pub option : (name : Text) → Rule
option name = record (new_rule name) { long = Some name; value_names = 1 }

-- the option `--statement`, which has to be given
abbrev pub statement_option : Rule
statement_option = record (option (name_of Statement)) { required = true }

-- the option `--stats`, which has no value
abbrev pub stats_option : Rule
stats_option = record (new_rule (codes "stats")) { long = Some (codes "stats"); action = Some SetTrue }

-- `run SCHEMA DIR QUERIES`
abbrev pub bare_run_app : App
bare_run_app = with_rule (with_rule (with_rule (new_app (codes "run")) (place (codes "SCHEMA"))) (place (codes "DIR"))) (place (codes "QUERIES"))

-- `.. [--quantum N] [--pages N] [--steps N] [--stats]`
abbrev pub with_run_options : App → App
with_run_options app = with_rule (with_rule (with_rule (with_rule app (option (name_of Quantum))) (option (name_of Pages))) (option (name_of Steps))) stats_option

-- `.. [--null TEXT] [--parts N]`
abbrev pub with_file_options : App → App
with_file_options app = with_rule (with_rule app (option (name_of Null))) (option (name_of Parts))

-- `run SCHEMA DIR QUERIES [--quantum N] [--pages N] [--steps N] [--stats] [--null TEXT] [--parts N]`
abbrev pub run_app : App
run_app = with_file_options (with_run_options bare_run_app)

-- `.. SCHEMA QUERIES --statement K`
abbrev pub with_statement : App → App
with_statement app = with_rule (with_rule (with_rule app (place (codes "SCHEMA"))) (place (codes "QUERIES"))) statement_option

-- `compile SCHEMA QUERIES --statement K`
abbrev pub compile_app : App
compile_app = with_statement (new_app (codes "compile"))

-- `check MODULE`
abbrev pub check_app : App
check_app = with_rule (new_app (codes "check")) (place (codes "MODULE"))

-- `gen SEED ROWS`
abbrev pub bare_gen_app : App
bare_gen_app = with_rule (with_rule (new_app (codes "gen")) (place (name_of Seed))) (place (name_of Rows))

-- `gen SEED ROWS [--quantum N] [--pages N] [--steps N] [--stats]`
abbrev pub gen_app : App
gen_app = with_run_options bare_gen_app

-- one of the commands has to be given, and the words come without the program's own name
abbrev pub bare_app : App
bare_app = on_top (λ s. record s { no_binary_name = true; subcommand_required = true }) (new_app (codes "qwasm"))

abbrev pub program : App
program = with_subcommand (with_subcommand (with_subcommand (with_subcommand bare_app run_app.top) compile_app.top) check_app.top) gen_app.top

-- ---- words that are read

-- What `run` is given: the schema file, the folder of the table files, the queries file, the text that stands for null in table files, if one does, and
-- how many parts the file of each table has, if it is in parts.
pub record Names : Type 0 where
  pub schema : Text
  pub folder : Text
  pub queries : Text
  pub null : Option Text
  pub parts : Option ℕ

-- What `run` and `gen` are given beside their input: how many pages a query may hold, how many instructions it may run, how many of them a turn has, and
-- whether counts of what was used are written.
pub record RunOptions : Type 0 where
  pub pages : ℕ
  pub steps : ℕ
  pub quantum : ℕ
  pub counts : Bool

-- those where no word says otherwise
abbrev pub default_options : RunOptions
default_options = record { pages = 128; steps = 999999999999999999; quantum = 10000; counts = false }

-- the files of `compile`
pub record TextNames : Type 0 where
  pub schema : Text
  pub queries : Text

-- A command, with what it is given: `run` its files and options; `compile` the number of a statement too, counted from 1; `check` the file of a module;
-- `gen` the seed and the number of rows of generated input, and options.
pub data Command : Type 0 where
  run : Names → RunOptions → Command
  compile : TextNames → (statement : ℕ) → Command
  check : (file : Text) → Command
  gen : (seed rows : ℕ) → RunOptions → Command

-- How words are read: as a command; as those of one but for this number, whose word isn't digits or is out of its range; as those of no command.
pub data Reading : Type 0 where
  command : Command → Reading
  out_of_range : Number → Reading
  no_command : Reading

-- what the value of a place or an option is read as, which has to be among the matches
abbrev pub with_value : List Row → (id : Text) → (Text → Reading) → Reading
with_value rows id read = option_map_or read (first_of id rows) no_command

-- what the word of a number is read as
abbrev pub with_number : Number → (word : Text) → (ℕ → Reading) → Reading
with_number number word read = option_map_or read (value_in_range number word) (out_of_range number)

-- what a number is read as that may be left out, for another then
abbrev pub with_option : List Row → Number → (otherwise : ℕ) → (ℕ → Reading) → Reading
with_option rows number otherwise read = option_map_or (λ word. with_number number word read) (first_of (name_of number) rows) (read otherwise)

-- whether an option without a value was given, which clap says by this text
abbrev pub is_given : List Row → (id : Text) → Bool
is_given rows id = option_map_or (λ text. bytes_eq text (codes "true")) (first_of id rows) false

-- what the options of a run are read as, of which the first that is out of its range is told
abbrev pub with_options : List Row → (RunOptions → Reading) → Reading
with_options rows read = with_option rows Quantum default_options.quantum (λ quantum. with_option rows Pages default_options.pages (λ pages.
    with_option rows Steps default_options.steps (λ steps.
    read (record { pages = pages; steps = steps; quantum = quantum; counts = is_given rows (codes "stats") }))))

-- what the text that stands for null is read as, which may be left out, by how many octets it has
abbrev pub with_null : List Row → (Option Text → Reading) → Reading
with_null rows read = option_map_or (λ text. if is_in_range Null (length text) then read (Some text) else out_of_range Null) (first_of (name_of Null) rows) (read None)

-- what the number of parts is read as, which may be left out
abbrev pub with_parts : List Row → (Option ℕ → Reading) → Reading
with_parts rows read = option_map_or (λ word. with_number Parts word (λ parts. read (Some parts))) (first_of (name_of Parts) rows) (read None)

-- the options of `run`, by the words for its places
abbrev pub run_with : List Row → (schema folder queries : Text) → Reading
run_with rows schema folder queries = with_options rows (λ options. with_null rows (λ null. with_parts rows (λ parts.
    command (run (record { schema = schema; folder = folder; queries = queries; null = null; parts = parts }) options))))

-- the matches of `run`
abbrev pub read_run : List Row → Reading
read_run rows = with_value rows (codes "SCHEMA") (λ schema. with_value rows (codes "DIR") (λ folder. with_value rows (codes "QUERIES") (λ queries.
    run_with rows schema folder queries)))

-- those of `compile`
abbrev pub read_compile : List Row → Reading
read_compile rows = with_value rows (codes "SCHEMA") (λ schema. with_value rows (codes "QUERIES") (λ queries. with_value rows (codes "statement") (λ word.
    with_number Statement word (λ statement. command (compile (record { schema = schema; queries = queries }) statement)))))

-- those of `check`
abbrev pub read_check : List Row → Reading
read_check rows = with_value rows (codes "MODULE") (λ file. command (check file))

-- those of `gen`, by the words for its seed and its rows
abbrev pub gen_with : List Row → (seed rows : Text) → Reading
gen_with matches seed rows = with_number Seed seed (λ seed. with_number Rows rows (λ rows. with_options matches (λ options. command (gen seed rows options))))

abbrev pub read_gen : List Row → Reading
read_gen matches = with_value matches (name_of Seed) (λ seed. with_value matches (name_of Rows) (λ rows. gen_with matches seed rows))

-- the matches of the command of this name
abbrev pub read_as : (name : Text) → List Row → Reading
read_as name rows =
    if bytes_eq name (codes "run") then read_run rows
    else (if bytes_eq name (codes "compile") then read_compile rows
    else (if bytes_eq name (codes "check") then read_check rows
    else (if bytes_eq name (codes "gen") then read_gen rows else no_command)))

-- the command that was entered, if any was
abbrev pub read_entered : Option (Text × List Row) → Reading
read_entered entered = option_map_or (λ p. read_as p.0 p.1) entered no_command

-- The same of words at which clap finds nothing wrong, by the kinds of its faults; where it finds any, the words are those of no command.
abbrev pub read_taken : Kinds → (entered : Option (Text × List Row)) → Reading
read_taken [] entered = read_entered entered
read_taken (kind ∷ kinds) entered = no_command

-- how the words are read
unfoldable pub reading : List Text → Reading
reading words = read_taken (fault_of program words) (subcommand_of program words)
