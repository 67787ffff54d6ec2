-- The lines that say what went wrong outside, and what the noting of a line leaves.
use Rattle.std.specs.Prelude.{◌≡◌, ◌⊎◌, ℕ, List, ◌++◌, Option, codes}
use Rattle.qw_top.specs.Output.{TookFront, with_text}
use Rattle.qw_top.specs.declared.status.Status.{Status}
use Rattle.qw_top.specs.declared.status.Status.TheVariants.{WriteFailed, NoMemory}

-- a file of this name couldn't be read
abbrev pub read_fault_line : List ℕ → List ℕ
read_fault_line name = codes "read fault: " ++ name ++ codes "\n"

-- there was no memory left
abbrev pub want_of_memory_line : List ℕ
want_of_memory_line = codes "want of memory\n"

-- a word of the command line isn't UTF-8
abbrev pub words_not_utf8_line : List ℕ
words_not_utf8_line = codes "words: not utf-8\n"

-- The line was taken, and the run ends as it would; or a front of it was, and the run ends with what kept the rest from
-- being written.
abbrev pub NotesLine : List ℕ → (status result : Status) → (old new : Option (List ℕ)) → Type 0
NotesLine line status result old new =
    ((result ≡ status) × (new ≡ with_text old line))
    ⊎ (((result ≡ WriteFailed) ⊎ (result ≡ NoMemory)) × TookFront old new line)
