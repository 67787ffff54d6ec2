-- What a run leaves and notes where it has a report.
use Rattle.std.proofs.Common.{◌≡◌, ◌⊎◌, ℕ, ◌<◌, List, Option, Some, Result, Ok, Err, inl, inr, refl, sym, subst, length, ap, ◌∙◌}
use Rattle.std.specs.Prelude.{Bool, true, false, if◌then◌else◌, IfErr, IsSome, OnErr, OnOk}
use Rattle.std.specs.List.{list_any}
use Rattle.qw_io.specs.Faults.{IsCounted}
use Rattle.qw_io.specs.declared.fault.IoFault.{IoFault}
use Rattle.qw_io.specs.declared.fault.IoFault.TheVariants.{Failed, NoMemory as NoMemoryToWrite}
use Rattle.qw_map.specs.Turns.{End}
use Rattle.qw_bench.specs.Bench.{end_in, released_in}
use Rattle.qw_bench.specs.Standing.{Standing}
use Rattle.qw_top.specs.Causes.{Cause}
use Rattle.qw_top.specs.Delivered.{CommandNotes, LeavesBench, Reports, RunLeaves, ShowsEnds, ends_below, is_exception, is_pages, is_steps, status_of_ends}
use Rattle.qw_command_line.specs.Words.{RunOptions}
use Rattle.qw_top.specs.Limits.{limits_of}
use Rattle.qw_top.specs.Notes.{NotesLine, want_of_memory_line}
use Rattle.qw_top.specs.Output.{TookFront, with_text}
use Rattle.qw_top.specs.Top.{Asked, Files, Names, RunExplains}
use Rattle.qw_top.specs.declared.status.Status.{Status}
use Rattle.qw_top.specs.declared.status.Status.TheVariants.{Done, ReadFailed, WriteFailed, Raised, PageLimitMet, StepLimitMet, NoMemory}
use Rattle.qw_top.specs.Inner.Reports.{AreBlocks}
use Rattle.qw_top.specs.Inner.Sinks.{CountsWrite, write_fault_of}
use Rattle.qw_top.specs.Inner.Stages.{HasAsked, IsReport, Ran, Writes}
use Rattle.qw_top.proofs.RunLemmas.{exception_raised, many_instances, pages_met, shows_run, some_report, steps_met, unreleased}
use Rattle.qw_top.proofs.StoppedLemmas.{TookFront-none, TookFront-whole}

-- ---- a report

-- A run over files: what they ask for was run, and this is its report, which was written so.
pub record Delivered (options : RunOptions) (files : Files) (names : Names) (b : Standing) (result : Status) (old new : Option (List ℕ)) : Type 0 where
  pub report : List ℕ
  pub status : Status
  pub reports : Reports options files names b report status
  pub writes : Writes status result old new report

pub delivered : (options : RunOptions) (files : Files) (names : Names) (queries : List Asked) (b : Standing) (result : Status) (old new : Option (List ℕ)) → HasAsked (limits_of options) options.quantum files names queries b →
    ((ran : Ran queries b) → (report : List ℕ) × ShowsEnds options.counts ran.tables queries b 0 report × Writes (status_of_ends (ends_below b (length queries))) result old new report) →
    Delivered options files names b result old new
delivered options files names queries b result old new asked writes =
    let written = writes (record { limits = limits_of options; quantum = options.quantum; tables = asked.tables; run = asked.run }) in
    record {
      report = written.0;
      status = status_of_ends (ends_below b (length queries));
      reports = record {
        schema = asked.schema;
        tables = asked.tables;
        queries = queries;
        asks = asked.asks;
        run = asked.run;
        shows = written.1;
        status_is = refl;
      };
      writes = written.2;
    }

-- ---- a bench that has run queries

module _ (queries : List Asked) (b : Standing) (ran : Ran queries b) where
  pub ran_many : length queries ≡ length b.shared.instances
  ran_many = sym (many_instances ran.limits ran.quantum ran.tables queries b ran.run)

  pub ran_ended : (k : ℕ) → k < length queries → IsSome (end_in b.shared k)
  ran_ended k within = ran.run.ended k within

  pub ran_held : (k : ℕ) → released_in b.shared k ≡ false
  ran_held k = unreleased ran.limits ran.quantum ran.tables queries b ran.run k

  pub ran_shows : (counts : Bool) (text : List ℕ) → AreBlocks counts queries b 0 text → ShowsEnds counts ran.tables queries b 0 text
  ran_shows counts text are = shows_run counts ran.limits ran.quantum ran.tables queries b ran.run text are

  pub ran_status : (status : Status) → status ≡ status_of_ends (ends_below b (length b.shared.instances)) → status ≡ status_of_ends (ends_below b (length queries))
  ran_status status is = is ∙ ap (λ (n : ℕ). status_of_ends (ends_below b n)) (many_instances ran.limits ran.quantum ran.tables queries b ran.run)

  pub ran_report : (counts : Bool) → (report : List ℕ) × ShowsEnds counts ran.tables queries b 0 report
  ran_report counts = some_report counts ran.limits ran.quantum ran.tables queries b ran.run

pub is_report : (counts : Bool) (queries : List Asked) (b : Standing) (text : List ℕ) (status : Status) → AreBlocks counts queries b 0 text → status ≡ status_of_ends (ends_below b (length b.shared.instances)) →
    IsReport counts queries b text status
is_report counts queries b text status are is = λ ran. (ran_shows queries b ran counts text are, ran_status queries b ran status is)

-- an end of a run whose report was written is explained
module _ (options : RunOptions) (files : Files) (names : Names) (b : Standing) (report : List ℕ) (status : Status) (r : Reports options files names b report status) where
  reports_pages : status ≡ PageLimitMet → RunExplains (limits_of options) files names (Some b) PageLimitMet
  reports_pages is =
      let met = pages_met (limits_of options) options.quantum r.tables r.queries b r.run (sym r.status_is ∙ is) in
      (r.schema, r.tables, r.queries, met.0, r.asks, r.run.room, met.1, met.2)

  reports_steps : status ≡ StepLimitMet → RunExplains (limits_of options) files names (Some b) StepLimitMet
  reports_steps is =
      let met = steps_met (limits_of options) options.quantum r.tables r.queries b r.run (sym r.status_is ∙ is) in
      (b, refl, r.schema, r.tables, r.queries, met.0, met.1, r.asks, r.run.room, met.2, met.3)

  reports_raised : status ≡ Raised → RunExplains (limits_of options) files names (Some b) Raised
  reports_raised is =
      let met = exception_raised (limits_of options) options.quantum r.tables r.queries b r.run (sym r.status_is ∙ is) in
      (r.schema, r.tables, r.queries, met.0, r.asks, r.run.room, met.1, met.2)

  written_explained : (result : Status) (old new : Option (List ℕ)) → Writes status result old new report → RunExplains (limits_of options) files names (Some b) result
  written_explained Done old new writes = (r.schema, r.tables, r.queries, r.asks, r.run.room)
  written_explained Raised old new writes = reports_raised writes.0
  written_explained PageLimitMet old new writes = reports_pages writes.0
  written_explained StepLimitMet old new writes = reports_steps writes.0
  written_explained WriteFailed old new writes = tt
  written_explained NoMemory old new writes = tt
  written_explained _ old new writes = absurd writes

  written_left : (result : Status) (old new : Option (List ℕ)) → Writes status result old new report → RunLeaves options files names result (Some b) old new
  written_left Done old new writes = (b, report, status, refl, r, writes)
  written_left Raised old new writes = (b, report, status, refl, r, writes)
  written_left PageLimitMet old new writes = (b, report, status, refl, r, writes)
  written_left StepLimitMet old new writes = (b, report, status, refl, r, writes)
  written_left WriteFailed old new writes = inr (b, report, status, refl, r, writes)
  written_left NoMemory old new writes = inr (b, report, status, refl, r, writes)
  written_left _ old new writes = absurd writes

  cut_left : (result : Status) (old new : Option (List ℕ)) → TookFront old new report → (result ≡ WriteFailed) ⊎ (result ≡ NoMemory) → RunLeaves options files names result (Some b) old new
  cut_left result old new front (inl is) = subst (λ (s : Status). RunLeaves options files names s (Some b) old new) (sym is) (inr (b, report, status, refl, r, front))
  cut_left result old new front (inr is) = subst (λ (s : Status). RunLeaves options files names s (Some b) old new) (sym is) (inr (b, report, status, refl, r, front))

-- however the writing of a report ended, a front of it was taken
written_front : (status result : Status) (old new : Option (List ℕ)) (report : List ℕ) → Writes status result old new report → TookFront old new report
written_front status Done old new report (is, took) = TookFront-whole old new report took
written_front status Raised old new report (is, took) = TookFront-whole old new report took
written_front status PageLimitMet old new report (is, took) = TookFront-whole old new report took
written_front status StepLimitMet old new report (is, took) = TookFront-whole old new report took
written_front status WriteFailed old new report front = front
written_front status NoMemory old new report front = front
written_front status _ old new report writes = absurd writes

written_noted : (settles : Cause → Type 0) (named : List ℕ → Type 0) (fault_name : Option (List ℕ)) (status result : Status) (old new taken : Option (List ℕ)) (report : List ℕ) → Writes status result old new report →
    CommandNotes settles named fault_name result taken taken
written_noted settles named fault_name status Done old new taken report writes = refl
written_noted settles named fault_name status Raised old new taken report writes = refl
written_noted settles named fault_name status PageLimitMet old new taken report writes = refl
written_noted settles named fault_name status StepLimitMet old new taken report writes = refl
written_noted settles named fault_name status WriteFailed old new taken report writes = (want_of_memory_line, inl refl, TookFront-none taken want_of_memory_line)
written_noted settles named fault_name status NoMemory old new taken report writes = (want_of_memory_line, inl refl, TookFront-none taken want_of_memory_line)
written_noted settles named fault_name status _ old new taken report writes = absurd writes

line_ends : (line : List ℕ) (result : Status) (old new : Option (List ℕ)) → NotesLine line NoMemory result old new → (result ≡ WriteFailed) ⊎ (result ≡ NoMemory)
line_ends line result old new (inl (is, took)) = inr is
line_ends line result old new (inr (ends, front)) = ends

module _ (options : RunOptions) (files : Files) (names : Names) (b : Standing) (result : Status) (old new : Option (List ℕ)) (d : Delivered options files names b result old new) where
  pub delivered_explained : RunExplains (limits_of options) files names (Some b) result
  delivered_explained = written_explained options files names b d.report d.status d.reports result old new d.writes

  pub delivered_left : RunLeaves options files names result (Some b) old new
  delivered_left = written_left options files names b d.report d.status d.reports result old new d.writes

  pub delivered_front : LeavesBench options files names (Some b) (λ status report. TookFront old new report)
  delivered_front = (b, d.report, d.status, refl, d.reports, written_front d.status result old new d.report d.writes)

  -- the writing of a report notes nothing
  pub delivered_noted : (settles : Cause → Type 0) (named : List ℕ → Type 0) (fault_name taken : Option (List ℕ)) → CommandNotes settles named fault_name result taken taken
  delivered_noted settles named fault_name taken = written_noted settles named fault_name d.status result old new taken d.report d.writes

  -- and it doesn't end with a failed read
  pub delivered_reads : result ≡ ReadFailed → ⊥
  delivered_reads is = subst (λ (s : Status). Writes d.status s old new d.report) is d.writes

pub wanted_left : (options : RunOptions) (files : Files) (names : Names) (b : Standing) (result : Status) (old new before after : Option (List ℕ)) → Delivered options files names b NoMemory old new →
    NotesLine want_of_memory_line NoMemory result before after → RunLeaves options files names result (Some b) old new
wanted_left options files names b result old new before after d noted =
    cut_left options files names b d.report d.status d.reports result old new d.writes (line_ends want_of_memory_line result before after noted)

pub wanted_explained : (options : RunOptions) (files : Files) (names : Names) (b : Standing) (result : Status) (old new before after : Option (List ℕ)) → Delivered options files names b NoMemory old new →
    NotesLine want_of_memory_line NoMemory result before after → RunExplains (limits_of options) files names (Some b) result
wanted_explained options files names b result old new before after d noted =
    elim (line_ends want_of_memory_line result before after noted) [
      | inl is ↦ subst (λ (s : Status). RunExplains (limits_of options) files names (Some b) s) (sym is) tt
      | inr is ↦ subst (λ (s : Status). RunExplains (limits_of options) files names (Some b) s) (sym is) tt
    ]

-- ---- how a report was written

-- the status of a run is one of a report
ends_written : (ends : List (Option End)) (old new : Option (List ℕ)) (report : List ℕ) → new ≡ with_text old report → Writes (status_of_ends ends) (status_of_ends ends) old new report
ends_written ends old new report took = by_tests (list_any is_pages ends) (list_any is_steps ends) (list_any is_exception ends)
  where
    by_tests : (a b c : Bool) → let s : Status = if a then PageLimitMet else (if b then StepLimitMet else (if c then Raised else Done)) in Writes s s old new report
    by_tests true b c = (refl, took)
    by_tests false true c = (refl, took)
    by_tests false false true = (refl, took)
    by_tests false false false = (refl, took)

no_write_fault : (ends : List (Option End)) → status_of_ends ends ≡ WriteFailed → ⊥
no_write_fault ends is = by_tests (list_any is_pages ends) (list_any is_steps ends) (list_any is_exception ends) is
  where
    by_tests : (a b c : Bool) → (if a then PageLimitMet else (if b then StepLimitMet else (if c then Raised else Done))) ≡ WriteFailed → ⊥
    by_tests true b c is = cc
    by_tests false true c is = cc
    by_tests false false true is = cc
    by_tests false false false is = cc

module _ (r : Result (Unit {0}) IoFault) (ends : List (Option End)) (status result : Status) (is : status ≡ status_of_ends ends) (whole : OnOk r (result ≡ status))
    (cut : IfErr r (λ fault. result ≡ write_fault_of fault)) where
  pub written_as : (old new : Option (List ℕ)) (report : List ℕ) → OnOk r (new ≡ with_text old report) → OnErr r (TookFront old new report) → Writes (status_of_ends ends) result old new report
  written_as old new report took front = by_result r whole cut took front
    where
      by_result : (r : Result (Unit {0}) IoFault) → OnOk r (result ≡ status) → IfErr r (λ fault. result ≡ write_fault_of fault) → OnOk r (new ≡ with_text old report) → OnErr r (TookFront old new report) →
          Writes (status_of_ends ends) result old new report
      by_result (Ok x) whole cut took front = subst (λ (s : Status). Writes (status_of_ends ends) s old new report) (sym (whole ∙ is)) (ends_written ends old new report took)
      by_result (Err Failed) whole cut took front = subst (λ (s : Status). Writes (status_of_ends ends) s old new report) (sym cut) front
      by_result (Err NoMemoryToWrite) whole cut took front = subst (λ (s : Status). Writes (status_of_ends ends) s old new report) (sym cut) front

  -- a fault of the sink is counted
  pub written_fault : (before after : ℕ) → CountsWrite r before after → result ≡ WriteFailed → IsCounted before after
  written_fault before after counts failed = by_result r whole cut counts
    where
      by_result : (r : Result (Unit {0}) IoFault) → OnOk r (result ≡ status) → IfErr r (λ fault. result ≡ write_fault_of fault) → CountsWrite r before after → IsCounted before after
      by_result (Ok x) whole cut counts = absurd (no_write_fault ends (sym (whole ∙ is) ∙ failed))
      by_result (Err Failed) whole cut counts = counts
      by_result (Err NoMemoryToWrite) whole cut counts = cc
