-- What is noted where a file is named only behind a fault that was counted, and where none can be.
use Rattle.std.proofs.Common.{ℕ, List, Option, inl, inr}
use Rattle.qw_top.specs.Causes.{Cause}
use Rattle.qw_top.specs.Delivered.{CommandNotes, IsLine}
use Rattle.qw_top.specs.declared.status.Status.{Status}
use Rattle.qw_top.specs.declared.status.Status.TheVariants.{Done, WordsRefused, SchemaRefused, TableFileRefused, QueriesRefused, ReadFailed, WriteFailed, Raised, PageLimitMet, NoMemory, StepLimitMet, TotalPages}
use Rattle.qw_top.specs.declared.stop.Stop.{Stop}
use Rattle.qw_top.specs.declared.stop.Stop.TheVariants.{Refused, Unread, NoMemory as NoMemoryLeft}
use Rattle.qw_top.specs.Inner.Noted.{IsUnread}
use Rattle.qw_top.specs.Inner.Shelves.{Counts, Told}
use Rattle.qw_top.specs.Inner.Stop.{StopsBy, failed_at}

module _ (settles : Cause → Type 0) (named : List ℕ → Type 0) where
  -- a command stops as a file couldn't be read only where its fault was counted
  pub stops_counted : (before after : Told) (stop : Stop) → StopsBy settles named stop → Counts (failed_at stop) before after → StopsBy settles (IsUnread named before.faults after.faults) stop
  stops_counted before after (Refused refusal line) why counts = why
  stops_counted before after (Unread file) why counts = (why, counts.0)
  stops_counted before after NoMemoryLeft why counts = tt

module _ (settles : Cause → Type 0) (named other : List ℕ → Type 0) (weaker : (name : List ℕ) → named name → other name) where
  line_weaker : (line : List ℕ) → IsLine settles named line → IsLine settles other line
  line_weaker line (inl wanted) = inl wanted
  line_weaker line (inr (inl (name, is, text))) = inr (inl (name, weaker name is, text))
  line_weaker line (inr (inr cause)) = inr (inr cause)

  -- more files may be named
  pub notes_weaker : (fault_name : Option (List ℕ)) (status : Status) (old new : Option (List ℕ)) → CommandNotes settles named fault_name status old new → CommandNotes settles other fault_name status old new
  notes_weaker fault_name ReadFailed old new (name, is, last, took) = (name, weaker name is, last, took)
  notes_weaker fault_name NoMemory old new (line, is, front) = (line, line_weaker line is, front)
  notes_weaker fault_name WriteFailed old new (line, is, front) = (line, line_weaker line is, front)
  notes_weaker fault_name Done old new notes = notes
  notes_weaker fault_name Raised old new notes = notes
  notes_weaker fault_name PageLimitMet old new notes = notes
  notes_weaker fault_name StepLimitMet old new notes = notes
  notes_weaker fault_name WordsRefused old new notes = notes
  notes_weaker fault_name SchemaRefused old new notes = notes
  notes_weaker fault_name TableFileRefused old new notes = notes
  notes_weaker fault_name QueriesRefused old new notes = notes
  notes_weaker fault_name TotalPages old new notes = notes

module _ (settles : Cause → Type 0) (fault_name other : Option (List ℕ)) where
  -- where no file can be named, it's all one which file the last fault was at
  pub notes_no_file : (status : Status) (old new : Option (List ℕ)) → CommandNotes settles (λ name. ⊥) fault_name status old new → CommandNotes settles (λ name. ⊥) other status old new
  notes_no_file ReadFailed old new (name, is, last, took) = absurd is
  notes_no_file NoMemory old new notes = notes
  notes_no_file WriteFailed old new notes = notes
  notes_no_file Done old new notes = notes
  notes_no_file Raised old new notes = notes
  notes_no_file PageLimitMet old new notes = notes
  notes_no_file StepLimitMet old new notes = notes
  notes_no_file WordsRefused old new notes = notes
  notes_no_file SchemaRefused old new notes = notes
  notes_no_file TableFileRefused old new notes = notes
  notes_no_file QueriesRefused old new notes = notes
  notes_no_file TotalPages old new notes = notes
