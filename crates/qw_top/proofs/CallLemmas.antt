-- A call, by the reading of its words.
use Rattle.std.proofs.Common.{◌≡◌, ◌⊎◌, ℕ, ◌<◌, ◌-◌, List, Option, Some, None, Err, length, inl, inr, refl, sym, subst, ap, ◌∙◌, arith}
use Rattle.std.specs.String.{string_bytes}
use Rattle.qw_types.specs.declared.schema.Table.{Table}
use Rattle.qw_bench.specs.Standing.{Standing}
use Rattle.qw_bench.specs.declared.bench.Limits.{Limits}
use Rattle.qw_check.specs.Check.{HasFault, SpellsValid}
use Rattle.qw_check.specs.declared.check.CheckFault.{CheckFault}
use Rattle.qw_check.specs.declared.check.CheckFault.TheVariants as check_faults
use Rattle.qw_command_line.specs.Read.{Answers}
use Rattle.qw_command_line.specs.Words.{run, compile, check, gen, Reading, RunOptions, command, no_command, out_of_range, Names, TextNames}
use Rattle.qw_command_line.specs.declared.command.Number.{Number}
use Rattle.qw_command_line.specs.declared.command.WordsFault.{WordsFault}
use Rattle.qw_command_line.specs.declared.command.WordsFault.TheVariants as words_faults
use Rattle.qw_top.specs.Call.{CheckSettles, CompileSettles, ExplainsBy, HasScript, HasStatement, IsEndOfWords, IsValidFile, LeavesBy, NamesBy, NotesBy, SettlesBy, TookText}
use Rattle.qw_top.specs.Causes.{AreOne, Cause, line_of_cause, status_of_cause, words_refused, number_out_of_range, schema_too_long, schema_refused, queries_too_long, queries_refused, queries_mistyped, no_statement, module_too_long, module_refused}
use Rattle.qw_top.specs.Delivered.{RunLeaves}
use Rattle.qw_top.specs.Generated.{generated_files, generated_names, told_generated}
use Rattle.qw_top.specs.Limits.{limits_of, most_module_octets}
use Rattle.qw_top.specs.Notes.{NotesLine, want_of_memory_line}
use Rattle.qw_top.specs.Top.{Asked, Files, FilesSettle, IsFault, IsRefusal, IsReported, QueriesAre, RunExplains, SchemaIs}
use Rattle.qw_top.specs.declared.status.Status.{Status}
use Rattle.qw_top.specs.declared.status.Status.TheVariants.{Done, WordsRefused, SchemaRefused, TableFileRefused, QueriesRefused, ReadFailed, WriteFailed, Raised, PageLimitMet, NoMemory, StepLimitMet, TotalPages}
use Rattle.std.proofs.lemmas.Option.{slice_get_within}
use Rattle.qw_top.specs.Inner.Inputs.{IsNoSchema, IsNoScript}
use Rattle.qw_top.specs.Inner.Noted.{NotesWords}
use Rattle.qw_top.proofs.ContentLemmas.{IsFile-short, IsFile-unique, IsNoSchema-unique, IsNoScript-one, QueriesAre-refused, QueriesAre-unique, SchemaIs-refused, SchemaIs-unique}
use Rattle.qw_top.proofs.CommandLemmas.{text_cause, text_done}
use Rattle.qw_top.proofs.SettleLemmas.{asked_settles_none, fault_explains, kind_of_end, one_settled, one_status, refusal_settled, reported_asks, settled_explains}
use Rattle.qw_top.proofs.StoppedLemmas.{cause_noted, cut_short, want_noted}

-- ---- a run

pub run_explains : (limits : Limits) (files : Files) (names : Names) (kept : Option Standing) (result : Status) → ((cause : Cause) × FilesSettle limits files names cause × (result ≡ status_of_cause cause)) ⊎ IsFault result →
    RunExplains limits files names kept result
run_explains limits files names kept result (inl (cause, h, is)) = subst (RunExplains limits files names kept) (sym is) (settled_explains limits files names kept cause h)
run_explains limits files names kept result (inr fault) = fault_explains limits files names kept result fault

pub want_ends : (result : Status) (old new : Option (List ℕ)) → NotesLine want_of_memory_line NoMemory result old new → (result ≡ WriteFailed) ⊎ (result ≡ NoMemory)
want_ends result old new (inl (is, took)) = inr is
want_ends result old new (inr (ends, front)) = ends

-- where memory is wanted before there is a bench, nothing is left of it
module _ (limits : Limits) (options : RunOptions) (files : Files) (names : Names) (result : Status) (old new taken : Option (List ℕ)) (noted : NotesLine want_of_memory_line NoMemory result old new) where
  pub want_run_explains : (kept : Option Standing) → RunExplains limits files names kept result
  want_run_explains kept = elim (want_ends result old new noted) [
    | inl is ↦ subst (RunExplains limits files names kept) (sym is) tt
    | inr is ↦ subst (RunExplains limits files names kept) (sym is) tt
  ]

  pub want_run_leaves : (kept : Option Standing) → kept ≡ None → RunLeaves options files names result kept taken taken
  want_run_leaves kept none = elim (want_ends result old new noted) [
    | inl is ↦ subst (λ (s : Status). RunLeaves options files names s kept taken taken) (sym is) (inl (none, refl))
    | inr is ↦ subst (λ (s : Status). RunLeaves options files names s kept taken taken) (sym is) (inl (none, refl))
  ]

-- ---- words that aren't read

noted_end : (line : List ℕ) (status result : Status) (old new : Option (List ℕ)) → IsEndOfWords status → NotesLine line status result old new → IsEndOfWords result
noted_end line status result old new end (inl (is, took)) = subst IsEndOfWords (sym is) end
noted_end line status result old new end (inr (inl is, front)) = subst IsEndOfWords (sym is) tt
noted_end line status result old new end (inr (inr is, front)) = subst IsEndOfWords (sym is) tt

noted_text : (line : List ℕ) (status result : Status) (old new : Option (List ℕ)) → NotesLine line status result old new → TookText old new
noted_text line status result old new (inl (is, took)) = (line, took)
noted_text line status result old new (inr (ends, (n, within, took))) = (_, took)

module _ (files : Files) where
  want_explains : (r : Reading) (kept : Option Standing) (result : Status) → (result ≡ WriteFailed) ⊎ (result ≡ NoMemory) → ExplainsBy files r kept result
  want_explains no_command kept result (inl is) = subst IsEndOfWords (sym is) tt
  want_explains no_command kept result (inr is) = subst IsEndOfWords (sym is) tt
  want_explains (out_of_range number) kept result (inl is) = subst IsEndOfWords (sym is) tt
  want_explains (out_of_range number) kept result (inr is) = subst IsEndOfWords (sym is) tt
  want_explains (command (run names options)) kept result (inl is) = subst (RunExplains (limits_of options) files names kept) (sym is) tt
  want_explains (command (run names options)) kept result (inr is) = subst (RunExplains (limits_of options) files names kept) (sym is) tt
  want_explains (command (gen seed rows options)) kept result (inl is) = subst (RunExplains (limits_of options) (generated_files seed rows) generated_names kept) (sym is) tt
  want_explains (command (gen seed rows options)) kept result (inr is) = subst (RunExplains (limits_of options) (generated_files seed rows) generated_names kept) (sym is) tt
  want_explains (command (compile names k)) kept result (inl is) = subst (λ (s : Status). ExplainsBy files (command (compile names k)) kept s) (sym is) tt
  want_explains (command (compile names k)) kept result (inr is) = subst (λ (s : Status). ExplainsBy files (command (compile names k)) kept s) (sym is) tt
  want_explains (command (check name)) kept result (inl is) = subst (λ (s : Status). ExplainsBy files (command (check name)) kept s) (sym is) tt
  want_explains (command (check name)) kept result (inr is) = subst (λ (s : Status). ExplainsBy files (command (check name)) kept s) (sym is) tt

  pub words_explained : (r : Reading) (kept : Option Standing) (fault : WordsFault) (result : Status) (old new : Option (List ℕ)) → Answers r (Err fault) → NotesWords fault result old new → ExplainsBy files r kept result
  words_explained r kept (words_faults.Refused text) result old new is noted =
      subst (λ (q : Reading). ExplainsBy files q kept result) (sym is) (noted_end (string_bytes text) WordsRefused result old new tt noted)
  words_explained r kept (words_faults.OutOfRange number) result old new is noted =
      subst (λ (q : Reading). ExplainsBy files q kept result) (sym is) (noted_end (line_of_cause (number_out_of_range number)) WordsRefused result old new tt noted)
  words_explained r kept words_faults.NoMemory result old new is noted = want_explains r kept result (want_ends result old new noted)

  want_notes : (r : Reading) (fault_name : Option (List ℕ)) (result : Status) (old new : Option (List ℕ)) → NotesLine want_of_memory_line NoMemory result old new → NotesBy files r fault_name result old new
  want_notes no_command fault_name result old new noted = noted_text want_of_memory_line NoMemory result old new noted
  want_notes (out_of_range number) fault_name result old new noted = want_noted (SettlesBy files (out_of_range number)) (NamesBy files (out_of_range number)) fault_name result old new noted
  want_notes (command c) fault_name result old new noted = want_noted (SettlesBy files (command c)) (NamesBy files (command c)) fault_name result old new noted

  number_noted : (number : Number) (fault_name : Option (List ℕ)) (result : Status) (old new : Option (List ℕ)) → NotesLine (line_of_cause (number_out_of_range number)) WordsRefused result old new →
      NotesBy files (out_of_range number) fault_name result old new
  number_noted number fault_name result old new (inl (is, took)) =
      let settles = SettlesBy files (out_of_range number) in
      subst (λ (s : Status). NotesBy files (out_of_range number) fault_name s old new) (sym is) (cause_noted settles (NamesBy files (out_of_range number)) fault_name (number_out_of_range number) old new refl took)
  number_noted number fault_name result old new (inr (ends, front)) =
      let settles = SettlesBy files (out_of_range number) in
      cut_short settles (NamesBy files (out_of_range number)) fault_name (line_of_cause (number_out_of_range number)) result old new (inr (inr (number_out_of_range number, refl, refl))) ends front

  pub words_noted : (r : Reading) (fault : WordsFault) (fault_name : Option (List ℕ)) (result : Status) (old new : Option (List ℕ)) → Answers r (Err fault) → NotesWords fault result old new →
      NotesBy files r fault_name result old new
  words_noted r (words_faults.Refused text) fault_name result old new is noted =
      subst (λ (q : Reading). NotesBy files q fault_name result old new) (sym is) (noted_text (string_bytes text) WordsRefused result old new noted)
  words_noted r (words_faults.OutOfRange number) fault_name result old new is noted =
      subst (λ (q : Reading). NotesBy files q fault_name result old new) (sym is) (number_noted number fault_name result old new noted)
  words_noted r words_faults.NoMemory fault_name result old new is noted = want_notes r fault_name result old new noted

want_leaves : (files : Files) (r : Reading) (result : Status) (taken : Option (List ℕ)) → (result ≡ WriteFailed) ⊎ (result ≡ NoMemory) → LeavesBy files r result None taken taken
want_leaves files no_command result taken ends = (refl, refl)
want_leaves files (out_of_range number) result taken ends = (refl, refl)
want_leaves files (command (run names options)) result taken (inl is) = subst (λ (s : Status). LeavesBy files (command (run names options)) s None taken taken) (sym is) (inl (refl, refl))
want_leaves files (command (run names options)) result taken (inr is) = subst (λ (s : Status). LeavesBy files (command (run names options)) s None taken taken) (sym is) (inl (refl, refl))
want_leaves files (command (gen seed rows options)) result taken (inl is) = subst (λ (s : Status). LeavesBy files (command (gen seed rows options)) s None taken taken) (sym is) (inl (refl, refl))
want_leaves files (command (gen seed rows options)) result taken (inr is) = subst (λ (s : Status). LeavesBy files (command (gen seed rows options)) s None taken taken) (sym is) (inl (refl, refl))
want_leaves files (command (compile names k)) result taken (inl is) = subst (λ (s : Status). LeavesBy files (command (compile names k)) s None taken taken) (sym is) (refl, inl refl)
want_leaves files (command (compile names k)) result taken (inr is) = subst (λ (s : Status). LeavesBy files (command (compile names k)) s None taken taken) (sym is) (refl, inl refl)
want_leaves files (command (check name)) result taken (inl is) = subst (λ (s : Status). LeavesBy files (command (check name)) s None taken taken) (sym is) (refl, inl refl)
want_leaves files (command (check name)) result taken (inr is) = subst (λ (s : Status). LeavesBy files (command (check name)) s None taken taken) (sym is) (refl, inl refl)

pub words_left : (files : Files) (r : Reading) (fault : WordsFault) (result : Status) (taken old new : Option (List ℕ)) → Answers r (Err fault) → NotesWords fault result old new →
    LeavesBy files r result None taken taken
words_left files r (words_faults.Refused text) result taken old new is noted = subst (λ (q : Reading). LeavesBy files q result None taken taken) (sym is) (refl, refl)
words_left files r (words_faults.OutOfRange number) result taken old new is noted = subst (λ (q : Reading). LeavesBy files q result None taken taken) (sym is) (refl, refl)
words_left files r words_faults.NoMemory result taken old new is noted = want_leaves files r result taken (want_ends result old new noted)

pub words_not_read : (fault : WordsFault) (result : Status) (old new : Option (List ℕ)) → NotesWords fault result old new → result ≡ ReadFailed → ⊥
words_not_read (words_faults.Refused text) result old new noted e = subst IsEndOfWords e (noted_end (string_bytes text) WordsRefused result old new tt noted)
words_not_read (words_faults.OutOfRange number) result old new noted e = subst IsEndOfWords e (noted_end (line_of_cause (number_out_of_range number)) WordsRefused result old new tt noted)
words_not_read words_faults.NoMemory result old new noted e = subst IsEndOfWords e (noted_end want_of_memory_line NoMemory result old new tt noted)

-- ---- refusals are those of a cause

end_of_words : (status : Status) → IsRefusal status → IsEndOfWords status → status ≡ WordsRefused
end_of_words WordsRefused r end = refl
end_of_words SchemaRefused r end = absurd end
end_of_words TableFileRefused r end = absurd end
end_of_words QueriesRefused r end = absurd end
end_of_words TotalPages r end = absurd end
end_of_words _ r end = absurd r

refusal_cause : (files : Files) (r : Reading) (kept : Option Standing) (status : Status) → IsRefusal status → ExplainsBy files r kept status →
    (cause : Cause) × SettlesBy files r cause × (status ≡ status_of_cause cause)
refusal_cause files no_command kept status refusal why = (words_refused, refl, end_of_words status refusal why)
refusal_cause files (out_of_range number) kept status refusal why = (number_out_of_range number, refl, end_of_words status refusal why)
refusal_cause files (command (run names options)) kept status refusal why = refusal_settled (limits_of options) files names kept status refusal why
refusal_cause files (command (gen seed rows options)) kept status refusal why = refusal_settled (limits_of options) (generated_files seed rows) generated_names kept status refusal why
refusal_cause files (command (compile names k)) kept status refusal why = text_cause ((one : Asked) × HasStatement files names k one) (CompileSettles files names k) status refusal why
refusal_cause files (command (check name)) kept status refusal why = text_cause (IsValidFile files name) (CheckSettles files name) status refusal why

-- ---- told files

-- why the files of `compile` settle a cause: at the schema file, at the queries file, or as the statement isn't there
data CompileAt (files : Files) (names : TextNames) (k : ℕ) (cause : Cause) : Type 0 where
  at_schema : IsNoSchema files names.schema cause → CompileAt files names k cause
  at_queries : (schema : List Table) → SchemaIs files names.schema schema → IsNoScript files names.queries schema cause → CompileAt files names k cause
  at_statement : (schema : List Table) (queries : List Asked) → HasScript files names schema queries → cause ≡ no_statement k → length queries < k → CompileAt files names k cause

compile_at : (files : Files) (names : TextNames) (k : ℕ) (cause : Cause) → CompileSettles files names k cause → CompileAt files names k cause
compile_at files names k schema_too_long long = at_schema (inl (refl, long))
compile_at files names k (schema_refused fault) (text, file, refused) = at_schema (inr (fault, text, refl, file, refused))
compile_at files names k queries_too_long (schema, declared, long) = at_queries schema declared (inl (refl, long))
compile_at files names k (queries_refused fault) (schema, text, declared, file, refused) = at_queries schema declared (inr (inl (fault, text, refl, file, refused)))
compile_at files names k (queries_mistyped fault) (schema, text, declared, file, mistyped) = at_queries schema declared (inr (inr (fault, text, refl, file, mistyped)))
compile_at files names k (no_statement number) (is, (schema, queries, held, few)) = at_statement schema queries held (ap no_statement is) few
compile_at files names k _ h = absurd h

module _ (told : List ℕ → Option (List ℕ)) (names : TextNames) (k : ℕ) where
  one_compile : (cause other : Cause) → CompileAt (Some told) names k cause → CompileAt (Some told) names k other → AreOne cause other
  one_compile cause other (at_schema none) (at_schema none') = inl (IsNoSchema-unique told names.schema cause other none none')
  one_compile cause other (at_schema none) (at_queries schema declared none') = absurd (SchemaIs-refused told names.schema schema cause declared none)
  one_compile cause other (at_schema none) (at_statement schema queries held is few) = absurd (SchemaIs-refused told names.schema schema cause held.declared none)
  one_compile cause other (at_queries schema declared none) (at_schema none') = absurd (SchemaIs-refused told names.schema schema other declared none')
  one_compile cause other (at_queries schema declared none) (at_queries schema' declared' none') =
      let e = SchemaIs-unique told names.schema schema schema' declared declared' in
      IsNoScript-one told names.queries schema' cause other (subst (λ (s : List Table). IsNoScript (Some told) names.queries s cause) e none) none'
  one_compile cause other (at_queries schema declared none) (at_statement schema' queries held is few) =
      let e = SchemaIs-unique told names.schema schema schema' declared held.declared in
      absurd (QueriesAre-refused told names.queries schema' queries cause held.asked (subst (λ (s : List Table). IsNoScript (Some told) names.queries s cause) e none))
  one_compile cause other (at_statement schema queries held is few) (at_schema none') = absurd (SchemaIs-refused told names.schema schema other held.declared none')
  one_compile cause other (at_statement schema queries held is few) (at_queries schema' declared none') =
      let e = SchemaIs-unique told names.schema schema' schema declared held.declared in
      absurd (QueriesAre-refused told names.queries schema queries other held.asked (subst (λ (s : List Table). IsNoScript (Some told) names.queries s other) e none'))
  one_compile cause other (at_statement schema queries held is few) (at_statement schema' queries' held' is' few') = inl (is ∙ sym is')

  none_compiled : (one : Asked) (cause : Cause) → HasStatement (Some told) names k one → CompileAt (Some told) names k cause → ⊥
  none_compiled one cause (schema, queries, held, found) (at_schema none) = SchemaIs-refused told names.schema schema cause held.declared none
  none_compiled one cause (schema, queries, held, found) (at_queries schema' declared none) =
      let e = SchemaIs-unique told names.schema schema' schema declared held.declared in
      QueriesAre-refused told names.queries schema queries cause held.asked (subst (λ (s : List Table). IsNoScript (Some told) names.queries s cause) e none)
  none_compiled one cause (schema, queries, held, found) (at_statement schema' queries' held' is few) =
      let e = SchemaIs-unique told names.schema schema' schema held'.declared held.declared in
      let same = QueriesAre-unique told names.queries schema queries' queries (subst (λ (s : List Table). QueriesAre (Some told) names.queries s queries') e held'.asked) held.asked in
      let many : length queries' ≡ length queries = ap length same in
      let within = slice_get_within queries (k - 1) one found in
      omega (arith, few, many, within)

module _ (told : List ℕ → Option (List ℕ))
    (one_fault : (text : List ℕ) (fault other : CheckFault) → (fault ≡ check_faults.NoMemory → ⊥) → (other ≡ check_faults.NoMemory → ⊥) → HasFault text fault → HasFault text other → fault ≡ other)
    (never : (text : List ℕ) (fault : CheckFault) → SpellsValid text → HasFault text fault → fault ≡ check_faults.NoMemory) where
  one_check : (name : List ℕ) (cause other : Cause) → CheckSettles (Some told) name cause → CheckSettles (Some told) name other → cause ≡ other
  one_check name module_too_long module_too_long h k = refl
  one_check name module_too_long (module_refused fault) h (octets, file, has, some) = absurd (IsFile-short told name most_module_octets octets file h)
  one_check name (module_refused fault) module_too_long (octets, file, has, some) k = absurd (IsFile-short told name most_module_octets octets file k)
  one_check name (module_refused fault) (module_refused other) (octets, file, has, some) (octets', file', has', some') =
      let e = IsFile-unique told name most_module_octets octets octets' file file' in
      ap module_refused (one_fault octets' fault other some some' (subst (λ (t : List ℕ). HasFault t fault) e has) has')
  one_check name module_too_long _ h k = absurd k
  one_check name (module_refused fault) _ h k = absurd k
  one_check name _ other h k = absurd h

  none_checked : (name : List ℕ) (cause : Cause) → IsValidFile (Some told) name → CheckSettles (Some told) name cause → ⊥
  none_checked name module_too_long (octets, file, valid) h = IsFile-short told name most_module_octets octets file h
  none_checked name (module_refused fault) (octets, file, valid) (octets', file', has, some) =
      let e = IsFile-unique told name most_module_octets octets' octets file' file in
      some (never octets fault valid (subst (λ (t : List ℕ). HasFault t fault) e has))
  none_checked name _ valid h = h

  pub one_settled_by : (r : Reading) (cause other : Cause) → SettlesBy (Some told) r cause → SettlesBy (Some told) r other → AreOne cause other
  one_settled_by no_command cause other h k = inl (h ∙ sym k)
  one_settled_by (out_of_range number) cause other h k = inl (h ∙ sym k)
  one_settled_by (command (run names options)) cause other h k = one_settled (limits_of options) told names cause other h k
  one_settled_by (command (gen seed rows options)) cause other h k = one_settled (limits_of options) (told_generated seed rows) generated_names cause other h k
  one_settled_by (command (compile names n)) cause other h k = one_compile told names n cause other (compile_at (Some told) names n cause h) (compile_at (Some told) names n other k)
  one_settled_by (command (check name)) cause other h k = inl (one_check name cause other h k)

  not_words : (status : Status) → IsReported status → IsEndOfWords status → ⊥
  not_words Done r end = end
  not_words Raised r end = end
  not_words PageLimitMet r end = end
  not_words StepLimitMet r end = end
  not_words _ r end = r

  done_settles_none : (r : Reading) (cause : Cause) (kept : Option Standing) (status : Status) → IsReported status → ExplainsBy (Some told) r kept status → SettlesBy (Some told) r cause → ⊥
  done_settles_none no_command cause kept status reported why h = not_words status reported why
  done_settles_none (out_of_range number) cause kept status reported why h = not_words status reported why
  done_settles_none (command (run names options)) cause kept status reported why h =
      let asked = reported_asks (limits_of options) (Some told) names kept status reported why in
      asked_settles_none (limits_of options) told names asked.0 asked.1 asked.2 cause asked.3 asked.4 h
  done_settles_none (command (gen seed rows options)) cause kept status reported why h =
      let asked = reported_asks (limits_of options) (generated_files seed rows) generated_names kept status reported why in
      asked_settles_none (limits_of options) (told_generated seed rows) generated_names asked.0 asked.1 asked.2 cause asked.3 asked.4 h
  done_settles_none (command (compile names n)) cause kept status reported why h =
      let work = (text_done ((one : Asked) × HasStatement (Some told) names n one) (CompileSettles (Some told) names n) status reported why).1 in
      none_compiled told names n work.0 cause work.1 (compile_at (Some told) names n cause h)
  done_settles_none (command (check name)) cause kept status reported why h =
      none_checked name cause (text_done (IsValidFile (Some told) name) (CheckSettles (Some told) name) status reported why).1 h

  -- beside a cause that is settled comes its status or a fault
  pub ends_by : (r : Reading) (cause : Cause) (kept : Option Standing) (status : Status) → SettlesBy (Some told) r cause → ExplainsBy (Some told) r kept status → (status ≡ status_of_cause cause) ⊎ IsFault status
  ends_by r cause kept status h why =
      elim (kind_of_end status) [
        | inl refusal ↦
            let other = refusal_cause (Some told) r kept status refusal why in
            inl (other.2 ∙ one_status other.0 cause (one_settled_by r other.0 cause other.1 h))
        | inr (inl fault) ↦ inr fault
        | inr (inr reported) ↦ absurd (done_settles_none r cause kept status reported why h)
      ]

  pub compile_ends : (names : TextNames) (n : ℕ) (one : Asked) (kept : Option Standing) (status : Status) → HasStatement (Some told) names n one → ExplainsBy (Some told) (command (compile names n)) kept status → (status ≡ Done) ⊎ IsFault status
  compile_ends names n one kept status has why =
      elim (kind_of_end status) [
        | inl refusal ↦
            let other = refusal_cause (Some told) (command (compile names n)) kept status refusal why in
            absurd (none_compiled told names n one other.0 has (compile_at (Some told) names n other.0 other.1))
        | inr (inl fault) ↦ inr fault
        | inr (inr reported) ↦ inl (text_done ((one : Asked) × HasStatement (Some told) names n one) (CompileSettles (Some told) names n) status reported why).0
      ]

  pub check_ends : (name : List ℕ) (kept : Option Standing) (status : Status) → IsValidFile (Some told) name → ExplainsBy (Some told) (command (check name)) kept status → (status ≡ Done) ⊎ IsFault status
  check_ends name kept status valid why =
      elim (kind_of_end status) [
        | inl refusal ↦
            let other = refusal_cause (Some told) (command (check name)) kept status refusal why in
            absurd (none_checked name other.0 valid other.1)
        | inr (inl fault) ↦ inr fault
        | inr (inr reported) ↦ inl (text_done (IsValidFile (Some told) name) (CheckSettles (Some told) name) status reported why).0
      ]

-- refused words explain no other end, but that what is noted of them couldn't be written
pub words_first : (files : Files) (r : Reading) (kept : Option Standing) (status : Status) → (r ≡ no_command) ⊎ ((number : Number) × (r ≡ out_of_range number)) → ExplainsBy files r kept status →
    (status ≡ WordsRefused) ⊎ (status ≡ WriteFailed) ⊎ (status ≡ NoMemory)
words_first files r kept status is why = by_status status (by_reading r is why)
  where
    by_reading : (r : Reading) → (r ≡ no_command) ⊎ ((number : Number) × (r ≡ out_of_range number)) → ExplainsBy files r kept status → IsEndOfWords status
    by_reading no_command is why = why
    by_reading (out_of_range number) is why = why
    by_reading (command c) (inl is) why = absurd cc
    by_reading (command c) (inr (number, is)) why = absurd cc

    by_status : (status : Status) → IsEndOfWords status → (status ≡ WordsRefused) ⊎ (status ≡ WriteFailed) ⊎ (status ≡ NoMemory)
    by_status WordsRefused end = inl refl
    by_status WriteFailed end = inr (inl refl)
    by_status NoMemory end = inr (inr refl)
    by_status _ end = absurd end
