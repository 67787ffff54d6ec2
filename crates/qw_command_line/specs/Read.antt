-- What `read` returns of the words of the command line.
use Rattle.std.specs.Prelude.{◌≡◌, Option, Result, Ok, Err, option_map}
use Rattle.std.specs.Borrow.{Bor}
use Rattle.clap.specs.Words.{Text}
use Rattle.qw_command_line.specs.Words.{Command, Names, RunOptions, TextNames, run, compile, check, gen, Reading, command, out_of_range, no_command}
use Rattle.qw_command_line.specs.declared.command.CompileWords.{CompileWords}
use Rattle.qw_command_line.specs.declared.command.RunOptions.{RunOptions as ReadOptions}
use Rattle.qw_command_line.specs.declared.command.RunWords.{RunWords}
use Rattle.qw_command_line.specs.declared.command.Command.{Command as Read}
use Rattle.qw_command_line.specs.declared.command.Command.TheVariants.{Run, Compile, Check, Gen}
use Rattle.qw_command_line.specs.declared.command.WordsFault.{WordsFault}
use Rattle.qw_command_line.specs.declared.command.WordsFault.TheVariants.{Refused, OutOfRange, NoMemory}

-- the text that is lent, if one is
abbrev pub text_of : Option (Bor Text) → Option Text
text_of text = option_map (λ x. x.now) text

-- the names that words which were read give, and what table files are read by
abbrev pub names_of : RunWords → Names
names_of words = record { schema = words.schema.now; folder = words.folder.now; queries = words.queries.now; null = text_of words.null; parts = words.parts }

-- the options that were read
abbrev pub options_of : ReadOptions → RunOptions
options_of options = record { pages = options.pages; steps = options.steps; quantum = options.quantum; counts = options.counts }

abbrev pub texts_of : CompileWords → TextNames
texts_of words = record { schema = words.schema.now; queries = words.queries.now }

-- the command that was read
abbrev pub command_of : Read → Command
command_of (Run words) = run (names_of words) (options_of words.options)
command_of (Compile words) = compile (texts_of words) words.statement
command_of (Check file) = check file.now
command_of (Gen words) = gen words.seed words.rows (options_of words.options)

-- words that are read so give this answer; where memory is wanted nothing is said
abbrev pub Answers : Reading → Result Read WordsFault → Type 0
Answers reading (Ok read) = reading ≡ command (command_of read)
Answers reading (Err (Refused text)) = reading ≡ no_command
Answers reading (Err (OutOfRange number)) = reading ≡ out_of_range number
Answers reading (Err NoMemory) = Unit {0}

-- the same of words that tell a statement, as `compile` has them
abbrev pub AnswersStatement : Reading → Result CompileWords WordsFault → Type 0
AnswersStatement reading (Ok words) = reading ≡ command (compile (texts_of words) words.statement)
AnswersStatement reading (Err (Refused text)) = reading ≡ no_command
AnswersStatement reading (Err (OutOfRange number)) = reading ≡ out_of_range number
AnswersStatement reading (Err NoMemory) = Unit {0}
