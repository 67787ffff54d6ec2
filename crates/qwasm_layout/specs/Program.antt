-- What a run of the program leaves.
use Rattle.std.specs.Prelude.{◌≡◌, ◌≢◌, ◌⊎◌, ℕ, List, Option, Bool, IsTrue, None}
use Rattle.std.specs.Process.{exit_status}
use Rattle.std.specs.declared.process.ExitCode.{ExitCode}
use Rattle.qw_command_line.specs.LayoutWords.{layout_reading}
use Rattle.qw_io.specs.Faults.{IsCounted}
use Rattle.qw_top.specs.Call.{ExplainsBy, NotesBy}
use Rattle.qw_top.specs.LayoutCall.{LayoutLeavesBy}
use Rattle.qw_top.specs.Notes.{NotesLine, want_of_memory_line}
use Rattle.qw_top.specs.Output.{with_text}
use Rattle.qw_top.specs.Status.{exit_code}
use Rattle.qw_top.specs.Top.{Files}
use Rattle.qw_top.specs.declared.status.Status.{Status}
use Rattle.qw_top.specs.declared.status.Status.TheVariants.{ReadFailed, WriteFailed, NoMemory}

-- What the outside tells of itself: how many faults the files, the sink of the text and the notes' sink have counted; the name of the last
-- file at fault; and what the sinks have taken.
pub record Outside : Type 0 where
  pub file_faults : ℕ
  pub fault_name : Option (List ℕ)
  pub out_faults : ℕ
  pub taken : Option (List ℕ)
  pub note_faults : ℕ
  pub noted : Option (List ℕ)

abbrev pub outside : (file_faults : ℕ) (fault_name : Option (List ℕ)) (out_faults : ℕ) (taken : Option (List ℕ)) (note_faults : ℕ) (noted : Option (List ℕ)) → Outside
outside file_faults fault_name out_faults taken note_faults noted =
    record { file_faults = file_faults; fault_name = fault_name; out_faults = out_faults; taken = taken; note_faults = note_faults; noted = noted }

-- The program ended with the number of a status that the words and the files explain; and with what it tells of the statement, and the notes, of a
-- call with that status. It is that of a write that failed exactly where one was counted; that of a read that failed only where one was counted,
-- and where one was it is that, or that of a write that failed or of want of memory. Where the notes' sink takes no memory, want of memory is
-- noted whole.
pub record HasTold (files : Files) (words : List (List ℕ)) (notes_take_memory : Bool) (before after : Outside) (code : ExitCode) : Type 0 where
  pub status : Status
  pub number : exit_status code ≡ exit_code status
  pub explained : ExplainsBy files (layout_reading words) None status
  pub left : LayoutLeavesBy files (layout_reading words) status before.taken after.taken
  pub noted : NotesBy files (layout_reading words) after.fault_name status before.noted after.noted
  pub noted_whole : (IsTrue notes_take_memory → ⊥) → status ≡ NoMemory → after.noted ≡ with_text before.noted want_of_memory_line
  pub read_fault : status ≡ ReadFailed → IsCounted before.file_faults after.file_faults
  pub no_read_fault : status ≢ ReadFailed → status ≢ WriteFailed → status ≢ NoMemory → after.file_faults ≡ before.file_faults
  pub write_fault : status ≡ WriteFailed → IsCounted before.out_faults after.out_faults ⊎ IsCounted before.note_faults after.note_faults
  pub no_write_fault : status ≢ WriteFailed → (after.out_faults ≡ before.out_faults) × (after.note_faults ≡ before.note_faults)

-- The program ended with the number of a status where the words could not be had, of which a line says why: it is this status, or that of
-- what kept the line from being written.
pub record HasEndedWithout (line : List ℕ) (would : Status) (faults_before faults_after : ℕ) (noted_before noted_after : Option (List ℕ)) (code : ExitCode) : Type 0 where
  pub status : Status
  pub number : exit_status code ≡ exit_code status
  pub noted : NotesLine line would status noted_before noted_after
  pub write_fault : status ≡ WriteFailed → IsCounted faults_before faults_after
  pub no_write_fault : status ≢ WriteFailed → faults_after ≡ faults_before
