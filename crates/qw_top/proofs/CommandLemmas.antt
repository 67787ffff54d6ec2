-- Commands that write one text: how they end, and what they leave and note.
use Rattle.std.proofs.Common.{◌≡◌, ◌⊎◌, ℕ, ◌<◌, ◌-◌, List, Option, inl, inr, refl, sym, subst}
use Rattle.std.specs.Prelude.{Some, length, slice_get}
use Rattle.qw_types.specs.declared.schema.Table.{Table}
use Rattle.qw_check.specs.Check.{HasFault}
use Rattle.qw_check.specs.declared.check.CheckFault.{CheckFault}
use Rattle.qw_check.specs.declared.check.CheckFault.TheVariants as check_faults
use Rattle.qw_command_line.specs.Words.{TextNames}
use Rattle.qw_top.specs.Call.{CheckSettles, CompileSettles, CompileWrites, HasScript, IsScriptFile, LeavesText, SpellsCompiled, TextExplains}
use Rattle.qw_top.specs.Causes.{Cause, module_refused, module_too_long, no_statement, status_of_cause}
use Rattle.qw_top.specs.LayoutCall.{IsStatement}
use Rattle.qw_top.specs.Limits.{most_module_octets}
use Rattle.qw_top.specs.declared.stop.Stop.{Stop}
use Rattle.qw_top.specs.declared.stop.Stop.TheVariants.{NoMemory as NoMemoryLeft}
use Rattle.qw_top.specs.Inner.Inputs.{IsNoSchema, IsNoScript}
use Rattle.qw_top.specs.Inner.Stop.{StopsAs, StopsBy, StopsFor}
use Rattle.qw_top.specs.Delivered.{CommandNotes}
use Rattle.qw_top.specs.Notes.{want_of_memory_line}
use Rattle.qw_top.specs.Top.{Asked, Files, IsFault, IsFile, IsRefusal, IsReported, IsTooLong, QueriesAre, SchemaIs}
use Rattle.qw_top.specs.declared.status.Status.{Status}
use Rattle.qw_top.specs.declared.status.Status.TheVariants.{Done, WordsRefused, SchemaRefused, TableFileRefused, QueriesRefused, ReadFailed, WriteFailed, Raised, PageLimitMet, NoMemory, StepLimitMet, TotalPages}
use Rattle.qw_top.specs.Inner.Noted.{AnswersText}
use Rattle.qw_top.proofs.SettleLemmas.{cause_is_refusal, kinds_apart}
use Rattle.qw_top.proofs.StoppedLemmas.{cause_stops, cut_short, memory_stops, stage_stops}

-- the status of a cause is no end of work that was done
pub cause_not_reported : (cause : Cause) (status : Status) → IsReported status → status ≡ status_of_cause cause → ⊥
cause_not_reported cause status reported is = (kinds_apart (status_of_cause cause)).1 (cause_is_refusal cause) (subst IsReported is reported)

-- ---- how it ends

module _ (done : Type 0) (settles : Cause → Type 0) where
  -- a refusal is explained by a cause, and by nothing else
  pub text_cause : (status : Status) → IsRefusal status → TextExplains done settles status → (cause : Cause) × settles cause × (status ≡ status_of_cause cause)
  text_cause WordsRefused r why = why
  text_cause SchemaRefused r why = why
  text_cause TableFileRefused r why = why
  text_cause QueriesRefused r why = why
  text_cause TotalPages r why = why
  text_cause _ r why = absurd r

  cause_explains : (status : Status) → IsRefusal status → (cause : Cause) × settles cause × (status ≡ status_of_cause cause) → TextExplains done settles status
  cause_explains WordsRefused r why = why
  cause_explains SchemaRefused r why = why
  cause_explains TableFileRefused r why = why
  cause_explains QueriesRefused r why = why
  cause_explains TotalPages r why = why
  cause_explains _ r why = absurd r

  fault_explains : (status : Status) → IsFault status → TextExplains done settles status
  fault_explains ReadFailed f = tt
  fault_explains WriteFailed f = tt
  fault_explains NoMemory f = tt
  fault_explains _ f = absurd f

  -- work that was done is `Done`
  pub text_done : (status : Status) → IsReported status → TextExplains done settles status → (status ≡ Done) × done
  text_done Done r why = (refl, why)
  text_done Raised r (cause, h, is) = absurd (cause_not_reported cause Raised tt is)
  text_done PageLimitMet r (cause, h, is) = absurd (cause_not_reported cause PageLimitMet tt is)
  text_done StepLimitMet r (cause, h, is) = absurd (cause_not_reported cause StepLimitMet tt is)
  text_done _ r why = absurd r

  -- a command that stopped
  pub stopped_explains : (result : Status) → ((cause : Cause) × settles cause × (result ≡ status_of_cause cause)) ⊎ IsFault result → TextExplains done settles result
  stopped_explains result (inl (cause, h, is)) = cause_explains result (subst IsRefusal (sym is) (cause_is_refusal cause)) (cause, h, is)
  stopped_explains result (inr fault) = fault_explains result fault

  -- a command that wrote its text, or a front of it
  pub answered_explains : (text : List ℕ) (result : Status) (old new noted_old noted_new : Option (List ℕ)) → AnswersText text result old new noted_old noted_new → done → TextExplains done settles result
  answered_explains text result old new noted_old noted_new (inl (is, took, same)) work = subst (TextExplains done settles) (sym is) work
  answered_explains text result old new noted_old noted_new (inr (inl is, front, line)) work = subst (TextExplains done settles) (sym is) tt
  answered_explains text result old new noted_old noted_new (inr (inr is, front, line)) work = subst (TextExplains done settles) (sym is) tt

-- ---- what it leaves

module _ (writes : List ℕ → Type 0) where
  refused_leaves : (status : Status) (taken : Option (List ℕ)) → IsRefusal status → LeavesText writes status taken taken
  refused_leaves WordsRefused taken r = refl
  refused_leaves SchemaRefused taken r = refl
  refused_leaves TableFileRefused taken r = refl
  refused_leaves QueriesRefused taken r = refl
  refused_leaves TotalPages taken r = refl
  refused_leaves _ taken r = absurd r

  fault_leaves : (status : Status) (taken : Option (List ℕ)) → IsFault status → LeavesText writes status taken taken
  fault_leaves ReadFailed taken f = refl
  fault_leaves WriteFailed taken f = inl refl
  fault_leaves NoMemory taken f = inl refl
  fault_leaves _ taken f = absurd f

  pub stopped_leaves : (settles : Cause → Type 0) (result : Status) (taken : Option (List ℕ)) → ((cause : Cause) × settles cause × (result ≡ status_of_cause cause)) ⊎ IsFault result →
      LeavesText writes result taken taken
  stopped_leaves settles result taken (inl (cause, h, is)) = refused_leaves result taken (subst IsRefusal (sym is) (cause_is_refusal cause))
  stopped_leaves settles result taken (inr fault) = fault_leaves result taken fault

  pub answered_leaves : (text : List ℕ) (result : Status) (old new noted_old noted_new : Option (List ℕ)) → AnswersText text result old new noted_old noted_new → writes text → LeavesText writes result old new
  answered_leaves text result old new noted_old noted_new (inl (is, took, same)) h = subst (λ (s : Status). LeavesText writes s old new) (sym is) (text, h, took)
  answered_leaves text result old new noted_old noted_new (inr (inl is, front, line)) h = subst (λ (s : Status). LeavesText writes s old new) (sym is) (inr (text, h, front))
  answered_leaves text result old new noted_old noted_new (inr (inr is, front, line)) h = subst (λ (s : Status). LeavesText writes s old new) (sym is) (inr (text, h, front))

-- ---- what it notes

pub answered_notes : (settles : Cause → Type 0) (named : List ℕ → Type 0) (fault_name : Option (List ℕ)) (text : List ℕ) (result : Status) (old new noted_old noted_new : Option (List ℕ)) →
    AnswersText text result old new noted_old noted_new → CommandNotes settles named fault_name result noted_old noted_new
answered_notes settles named fault_name text result old new noted_old noted_new (inl (is, took, same)) = subst (λ (s : Status). CommandNotes settles named fault_name s noted_old noted_new) (sym is) same
answered_notes settles named fault_name text result old new noted_old noted_new (inr (ends, front, line)) = cut_short settles named fault_name want_of_memory_line result noted_old noted_new (inl refl) ends line

-- it doesn't end with a failed read
pub answered_reads : (text : List ℕ) (result : Status) (old new noted_old noted_new : Option (List ℕ)) → AnswersText text result old new noted_old noted_new → result ≡ ReadFailed → ⊥
answered_reads text result old new noted_old noted_new (inl (is, took, same)) e = cc
answered_reads text result old new noted_old noted_new (inr (inl is, front, line)) e = cc
answered_reads text result old new noted_old noted_new (inr (inr is, front, line)) e = cc

-- ---- `check`

fault_or_memory : (fault : CheckFault) → (fault ≡ check_faults.NoMemory) ⊎ (fault ≡ check_faults.NoMemory → ⊥)
fault_or_memory check_faults.NoMemory = inl refl
fault_or_memory check_faults.NotModule = inr (λ same. cc)
fault_or_memory (check_faults.OutOfProfile what) = inr (λ same. cc)
fault_or_memory (check_faults.Part part) = inr (λ same. cc)
fault_or_memory (check_faults.Body func at) = inr (λ same. cc)

-- octets that are refused for a fault
pub module_refused_stops : (files : Files) (name : List ℕ) (stop : Stop) (octets : List ℕ) (fault : CheckFault) → IsFile files name most_module_octets octets → HasFault octets fault →
    (fault ≡ check_faults.NoMemory → stop ≡ NoMemoryLeft) → ((fault ≡ check_faults.NoMemory → ⊥) → StopsFor (module_refused fault) stop) → StopsAs (CheckSettles files name) name stop
module_refused_stops files name stop octets fault file has memory refused =
    elim (fault_or_memory fault) [
      | inl is ↦ memory_stops (CheckSettles files name) (λ other. other ≡ name) stop (memory is)
      | inr other ↦ cause_stops (CheckSettles files name) (λ named. named ≡ name) (module_refused fault) stop (octets, file, has, other) (refused other)
    ]

pub module_long_stops : (files : Files) (name : List ℕ) (stop : Stop) → StopsAs (λ cause. (cause ≡ module_too_long) × IsTooLong files name most_module_octets) name stop → StopsAs (CheckSettles files name) name stop
module_long_stops files name stop stops =
    stage_stops (CheckSettles files name) (λ other. other ≡ name) (λ cause. (cause ≡ module_too_long) × IsTooLong files name most_module_octets) name stop
    (λ cause long. subst (CheckSettles files name) (sym long.0) long.1) refl stops

-- ---- `compile`

module _ (files : Files) (names : TextNames) (k : ℕ) where
  pub compile_schema_stops : (stop : Stop) → StopsAs (IsNoSchema files names.schema) names.schema stop → StopsBy (CompileSettles files names k) (IsScriptFile files names) stop
  compile_schema_stops stop stops =
      stage_stops (CompileSettles files names k) (IsScriptFile files names) (IsNoSchema files names.schema) names.schema stop (λ cause none. settle cause none) (inl refl) stops
    where
      settle : (cause : Cause) → IsNoSchema files names.schema cause → CompileSettles files names k cause
      settle cause (inl (is, long)) = subst (CompileSettles files names k) (sym is) long
      settle cause (inr (fault, text, is, file, refused)) = subst (CompileSettles files names k) (sym is) (text, file, refused)

  pub compile_stops : (now : Files) (schema : List Table) (stop : Stop) → now ≡ files → SchemaIs files names.schema schema → StopsAs (IsNoScript now names.queries schema) names.queries stop →
      StopsBy (CompileSettles files names k) (IsScriptFile files names) stop
  compile_stops now schema stop same declared stops =
      stage_stops (CompileSettles files names k) (IsScriptFile files names) (IsNoScript files names.queries schema) names.queries stop (λ cause none. settle cause none) (inr (schema, declared, refl))
      (subst (λ (f : Files). StopsAs (IsNoScript f names.queries schema) names.queries stop) same stops)
    where
      settle : (cause : Cause) → IsNoScript files names.queries schema cause → CompileSettles files names k cause
      settle cause (inl (is, long)) = subst (CompileSettles files names k) (sym is) (schema, declared, long)
      settle cause (inr (inl (fault, text, is, file, refused))) = subst (CompileSettles files names k) (sym is) (schema, text, declared, file, refused)
      settle cause (inr (inr (fault, text, is, file, mistyped))) = subst (CompileSettles files names k) (sym is) (schema, text, declared, file, mistyped)

  -- the queries were read after the schema
  script_is : (now : Files) (schema : List Table) (queries : List Asked) → now ≡ files → SchemaIs files names.schema schema → QueriesAre now names.queries schema queries → HasScript files names schema queries
  script_is now schema queries same declared asked = record { declared = declared; asked = subst (λ (f : Files). QueriesAre f names.queries schema queries) same asked }

  pub no_statement_stops : (now : Files) (schema : List Table) (queries : List Asked) (stop : Stop) → now ≡ files → SchemaIs files names.schema schema → QueriesAre now names.queries schema queries → length queries < k →
      StopsFor (no_statement k) stop → StopsBy (CompileSettles files names k) (IsScriptFile files names) stop
  no_statement_stops now schema queries stop same declared asked few stops =
      cause_stops (CompileSettles files names k) (IsScriptFile files names) (no_statement k) stop (refl, (schema, queries, script_is now schema queries same declared asked, few)) stops

  pub statement_found : (now : Files) (schema : List Table) (queries : List Asked) (one : Asked) → now ≡ files → SchemaIs files names.schema schema → QueriesAre now names.queries schema queries →
      slice_get queries (k - 1) ≡ Some one → IsStatement files names k schema one
  statement_found now schema queries one same declared asked there = (queries, script_is now schema queries same declared asked, there)

  pub statement_compiled : (schema : List Table) (one : Asked) (octets : List ℕ) → IsStatement files names k schema one → SpellsCompiled one octets → CompileWrites files names k octets
  statement_compiled schema one octets found spells = (one, (schema, found.0, found.1, found.2), spells)
