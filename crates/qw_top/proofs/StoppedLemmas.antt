-- What is noted and how a command ends where it stopped.
use Rattle.std.proofs.Common.{◌≡◌, ◌⊎◌, ℕ, zero, List, [], Option, Some, None, Result, Ok, Err, inl, inr, refl, sym, subst, length, ap, ◌∙◌, arith}
use Rattle.std.specs.Prelude.{IfErr, IfSome, OnErr, OnOk}
use Rattle.std.specs.String.{string_bytes}
use Rattle.std.proofs.lemmas.List.{append-nil, take_all}
use Rattle.qw_io.specs.declared.fault.IoFault.{IoFault}
use Rattle.qw_io.specs.declared.fault.IoFault.TheVariants.{Failed, NoMemory as NoMemoryToWrite}
use Rattle.qw_top.specs.Causes.{Cause, line_of_cause, status_of_cause, words_refused, number_out_of_range, schema_too_long, schema_refused, table_too_long, table_refused, queries_too_long, queries_refused, queries_mistyped, no_statement, module_too_long, module_refused, total_pages}
use Rattle.qw_top.specs.Delivered.{CommandNotes, IsLine}
use Rattle.qw_top.specs.Notes.{NotesLine, read_fault_line, want_of_memory_line}
use Rattle.qw_top.specs.Output.{TookFront, with_text}
use Rattle.qw_top.specs.Top.{IsFault}
use Rattle.qw_top.specs.declared.status.Status.{Status}
use Rattle.qw_top.specs.declared.status.Status.TheVariants.{ReadFailed, WriteFailed, NoMemory}
use Rattle.qw_top.specs.declared.stop.Stop.{Stop}
use Rattle.qw_top.specs.declared.stop.Stop.TheVariants.{Refused, Unread, NoMemory as NoMemoryLeft}
use Rattle.qw_top.specs.Inner.Noted.{NotesStop}
use Rattle.qw_top.specs.Inner.Shelves.{Counts, Told}
use Rattle.qw_top.specs.Inner.Sinks.{write_fault_of}
use Rattle.qw_top.specs.Inner.Stop.{StopsAs, StopsBy, StopsFor, failed_at, octets_of, refusal_status}

-- ---- fronts of a text

-- a text that was taken whole is a front of itself, and so is nothing
pub TookFront-whole : (old new : Option (List ℕ)) (text : List ℕ) → new ≡ with_text old text → TookFront old new text
TookFront-whole old new text took = (length text, omega arith, took ∙ ap (λ front. with_text old front) (sym (take_all (length text) text (omega arith))))

with_nothing : (taken : Option (List ℕ)) → taken ≡ with_text taken []
with_nothing None = refl
with_nothing (Some bytes) = ap Some (sym (append-nil bytes))

pub TookFront-none : (taken : Option (List ℕ)) (text : List ℕ) → TookFront taken taken text
TookFront-none taken text = (zero, omega arith, with_nothing taken)

-- ---- a line

-- a line is noted as the writing of its text went
pub line_noted : (line text : List ℕ) (r : Result (Unit {0}) IoFault) (status result : Status) (old new : Option (List ℕ)) → text ≡ line → OnOk r (new ≡ with_text old text) → OnErr r (TookFront old new text) →
    OnOk r (result ≡ status) → IfErr r (λ fault. result ≡ write_fault_of fault) → NotesLine line status result old new
line_noted line text (Ok x) status result old new is took front ends cut = inl (ends, took ∙ ap (λ t. with_text old t) is)
line_noted line text (Err Failed) status result old new is took front ends cut = inr (inl cut, subst (TookFront old new) is front)
line_noted line text (Err NoMemoryToWrite) status result old new is took front ends cut = inr (inr cut, subst (TookFront old new) is front)

-- ---- how a command ends

-- the end is a fault of the outside or want of memory, or as the line says
line_end : (line : List ℕ) (status result : Status) (old new : Option (List ℕ)) → NotesLine line status result old new → (result ≡ status) ⊎ IsFault result
line_end line status result old new (inl (is, took)) = inl is
line_end line status result old new (inr (inl is, front)) = inr (subst IsFault (sym is) tt)
line_end line status result old new (inr (inr is, front)) = inr (subst IsFault (sym is) tt)

either_fault : (status result : Status) → IsFault status → (result ≡ status) ⊎ IsFault result → IsFault result
either_fault status result fault (inl is) = subst IsFault (sym is) fault
either_fault status result fault (inr other) = other

module _ (settles : Cause → Type 0) (named : List ℕ → Type 0) where
  -- it ends for a cause that is settled, or with a fault
  pub stopped_ends : (stop : Stop) (result : Status) (old new : Option (List ℕ)) → StopsBy settles named stop → NotesStop stop result old new →
      ((cause : Cause) × settles cause × (result ≡ status_of_cause cause)) ⊎ IsFault result
  stopped_ends (Refused refusal line) result old new (cause, why, for) noted =
      elim (line_end (string_bytes line) (refusal_status refusal) result old new noted) [
        | inl is ↦ inl (cause, why, is ∙ for.0)
        | inr fault ↦ inr fault
      ]
  stopped_ends (Unread file) result old new why noted = inr (either_fault ReadFailed result tt (line_end (read_fault_line (octets_of file)) ReadFailed result old new noted))
  stopped_ends NoMemoryLeft result old new why noted = inr (either_fault NoMemory result tt (line_end want_of_memory_line NoMemory result old new noted))

  -- a line that was cut short, or one that memory is wanted
  pub cut_short : (fault_name : Option (List ℕ)) (line : List ℕ) (result : Status) (old new : Option (List ℕ)) → IsLine settles named line →
      (result ≡ WriteFailed) ⊎ (result ≡ NoMemory) → TookFront old new line → CommandNotes settles named fault_name result old new
  cut_short fault_name line result old new is (inl failed) front = subst (λ (s : Status). CommandNotes settles named fault_name s old new) (sym failed) (line, is, front)
  cut_short fault_name line result old new is (inr wanted) front = subst (λ (s : Status). CommandNotes settles named fault_name s old new) (sym wanted) (line, is, front)

  pub want_noted : (fault_name : Option (List ℕ)) (result : Status) (old new : Option (List ℕ)) → NotesLine want_of_memory_line NoMemory result old new →
      CommandNotes settles named fault_name result old new
  want_noted fault_name result old new (inl (is, took)) =
      cut_short fault_name want_of_memory_line result old new (inl refl) (inr is) (TookFront-whole old new want_of_memory_line took)
  want_noted fault_name result old new (inr (ends, front)) = cut_short fault_name want_of_memory_line result old new (inl refl) ends front

  -- the line of a cause was noted whole
  pub cause_noted : (fault_name : Option (List ℕ)) (cause : Cause) (old new : Option (List ℕ)) → settles cause →
      new ≡ with_text old (line_of_cause cause) → CommandNotes settles named fault_name (status_of_cause cause) old new
  cause_noted fault_name words_refused old new settled took = (words_refused, settled, refl, took)
  cause_noted fault_name (number_out_of_range number) old new settled took = (number_out_of_range number, settled, refl, took)
  cause_noted fault_name schema_too_long old new settled took = (schema_too_long, settled, refl, took)
  cause_noted fault_name (schema_refused fault) old new settled took = (schema_refused fault, settled, refl, took)
  cause_noted fault_name (table_too_long table number) old new settled took = (table_too_long table number, settled, refl, took)
  cause_noted fault_name (table_refused table number fault) old new settled took = (table_refused table number fault, settled, refl, took)
  cause_noted fault_name queries_too_long old new settled took = (queries_too_long, settled, refl, took)
  cause_noted fault_name (queries_refused fault) old new settled took = (queries_refused fault, settled, refl, took)
  cause_noted fault_name (queries_mistyped fault) old new settled took = (queries_mistyped fault, settled, refl, took)
  cause_noted fault_name (no_statement statement) old new settled took = (no_statement statement, settled, refl, took)
  cause_noted fault_name module_too_long old new settled took = (module_too_long, settled, refl, took)
  cause_noted fault_name (module_refused fault) old new settled took = (module_refused fault, settled, refl, took)
  cause_noted fault_name (total_pages need) old new settled took = (total_pages need, settled, refl, took)

  pub stopped_noted : (before after : Told) (stop : Stop) (result : Status) (old new : Option (List ℕ)) → StopsBy settles named stop → Counts (failed_at stop) before after →
      NotesStop stop result old new → CommandNotes settles named after.fault_name result old new
  stopped_noted before after (Refused refusal line) result old new (cause, why, for) counts (inl (is, took)) =
      subst (λ (s : Status). CommandNotes settles named after.fault_name s old new) (sym (is ∙ for.0))
      (cause_noted after.fault_name cause old new why (took ∙ ap (λ text. with_text old text) for.1))
  stopped_noted before after (Refused refusal line) result old new (cause, why, for) counts (inr (ends, front)) =
      cut_short after.fault_name (string_bytes line) result old new (inr (inr (cause, why, for.1))) ends front
  stopped_noted before after (Unread file) result old new is_named counts (inl (is, took)) =
      subst (λ (s : Status). CommandNotes settles named after.fault_name s old new) (sym is) (octets_of file, is_named, counts.1, took)
  stopped_noted before after (Unread file) result old new is_named counts (inr (ends, front)) =
      cut_short after.fault_name (read_fault_line (octets_of file)) result old new (inr (inl (octets_of file, is_named, refl))) ends front
  stopped_noted before after NoMemoryLeft result old new why counts noted = want_noted after.fault_name result old new noted

  name_of_last : (fault_name : Option (List ℕ)) (name : List ℕ) → named name → IfSome fault_name (λ last. last ≡ name) → IfSome fault_name named
  name_of_last None name is_named is = tt
  name_of_last (Some last) name is_named is = subst named (sym is) is_named

  -- a fault that the shelf counted is at a file that the command may read
  pub fault_named : (before after : Told) (stop : Stop) → StopsBy settles named stop → Counts (failed_at stop) before after →
      (after.faults ≡ before.faults → ⊥) → IfSome after.fault_name named
  fault_named before after (Refused refusal line) why counts more = absurd (more counts.0)
  fault_named before after (Unread file) is_named counts more = name_of_last after.fault_name (octets_of file) is_named counts.1
  fault_named before after NoMemoryLeft why counts more = absurd (more counts.0)

-- where memory was wanted no fault was counted
pub want_uncounted : (before after : Told) (stop : Stop) → stop ≡ NoMemoryLeft → Counts (failed_at stop) before after → after.faults ≡ before.faults
want_uncounted before after (Refused refusal line) is counts = counts.0
want_uncounted before after (Unread file) is counts = cc
want_uncounted before after NoMemoryLeft is counts = counts.0

-- ---- stages of a command

module _ (settles : Cause → Type 0) (named : List ℕ → Type 0) where
  -- a stage that reads the file of one name stopped for a reason that is one of the command's
  pub stage_stops : (reason : Cause → Type 0) (name : List ℕ) (stop : Stop) → ((cause : Cause) → reason cause → settles cause) → named name → StopsAs reason name stop → StopsBy settles named stop
  stage_stops reason name (Refused refusal line) settle is_named (cause, holds, is) = (cause, settle cause holds, is)
  stage_stops reason name (Unread file) settle is_named is = subst named (sym is) is_named
  stage_stops reason name NoMemoryLeft settle is_named stops = tt

  -- it stopped for this cause
  pub cause_stops : (cause : Cause) (stop : Stop) → settles cause → StopsFor cause stop → StopsBy settles named stop
  cause_stops cause (Refused refusal line) settled stops = (cause, settled, stops)
  cause_stops cause (Unread file) settled stops = absurd stops
  cause_stops cause NoMemoryLeft settled stops = tt

  pub memory_stops : (stop : Stop) → stop ≡ NoMemoryLeft → StopsBy settles named stop
  memory_stops stop is = subst (StopsBy settles named) (sym is) tt
