-- What the noting of a stop and of words leaves.
use Rattle.std.specs.Prelude.{◌≡◌, ◌⊎◌, ℕ, List, Option}
use Rattle.std.specs.String.{string_bytes}
use Rattle.qw_io.specs.Faults.{IsCounted}
use Rattle.qw_top.specs.declared.status.Status.{Status}
use Rattle.qw_top.specs.declared.status.Status.TheVariants.{Done, WordsRefused, ReadFailed, WriteFailed, NoMemory}
use Rattle.qw_top.specs.declared.stop.Stop.{Stop}
use Rattle.qw_top.specs.declared.stop.Stop.TheVariants.{Refused, Unread, NoMemory as NoMemoryLeft}
use Rattle.qw_command_line.specs.declared.command.WordsFault.{WordsFault}
use Rattle.qw_command_line.specs.declared.command.WordsFault.TheVariants as words
use Rattle.qw_top.specs.Causes.{line_of_cause, number_out_of_range}
use Rattle.qw_top.specs.Notes.{NotesLine, read_fault_line, want_of_memory_line}
use Rattle.qw_top.specs.Output.{TookFront, with_text}
use Rattle.qw_top.specs.Inner.Stop.{octets_of, refusal_status}

-- what is noted of a stop, and how the run ends then
abbrev pub NotesStop : Stop → (result : Status) → (old new : Option (List ℕ)) → Type 0
NotesStop (Refused refusal line) result old new = NotesLine (string_bytes line) (refusal_status refusal) result old new
NotesStop (Unread name) result old new = NotesLine (read_fault_line (octets_of name)) ReadFailed result old new
NotesStop NoMemoryLeft result old new = NotesLine want_of_memory_line NoMemory result old new

-- the name of such a file, where a fault was counted between these two counts
abbrev pub IsUnread : (named : List ℕ → Type 0) → (before after : ℕ) → (name : List ℕ) → Type 0
IsUnread named before after name = named name × IsCounted before after

-- what is noted of words that aren't read
abbrev pub NotesWords : WordsFault → (result : Status) → (old new : Option (List ℕ)) → Type 0
NotesWords (words.Refused text) result old new = NotesLine (string_bytes text) WordsRefused result old new
NotesWords (words.OutOfRange number) result old new = NotesLine (line_of_cause (number_out_of_range number)) WordsRefused result old new
NotesWords words.NoMemory result old new = NotesLine want_of_memory_line NoMemory result old new

-- How the writing of a text ended that is all that a command writes: it was taken whole, and nothing was noted; or a front of it was
-- taken, and a front of the line on memory.
abbrev pub AnswersText : (text : List ℕ) → (result : Status) → (old new noted_old noted_new : Option (List ℕ)) → Type 0
AnswersText text result old new noted_old noted_new = ((result ≡ Done) × (new ≡ with_text old text) × (noted_new ≡ noted_old))
    ⊎ (((result ≡ WriteFailed) ⊎ (result ≡ NoMemory)) × TookFront old new text × TookFront noted_old noted_new want_of_memory_line)
