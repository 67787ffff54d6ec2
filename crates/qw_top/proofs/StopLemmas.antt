-- How the reading of the files goes on from stage to stage, and how it stops.
use Rattle.std.proofs.Common.{◌≡◌, ◌⊎◌, ℕ, zero, suc, ◌<◌, Option, Some, None, List, [], ◌∷◌, ◌++◌, inl, inr, refl, sym, subst, length, ap, arith, take, drop, get_or}
use Rattle.std.proofs.lemmas.Option.{none-some, same_Some}
use Rattle.std.specs.String.{string_bytes}
use Rattle.qw_types.specs.Contents.{Contents}
use Rattle.qw_types.specs.declared.schema.Table.{Table}
use Rattle.qw_parse.specs.Script.{IsScriptRefused}
use Rattle.qw_parse.specs.declared.fault.ParseFault.{ParseFault}
use Rattle.qw_parse.specs.declared.fault.ParseFault.TheVariants as script_faults
use Rattle.qw_typer.specs.declared.fault.TypeFault.{TypeFault}
use Rattle.qw_typer.specs.declared.fault.TypeFault.TheVariants as type_faults
use Rattle.qw_schema.specs.declared.parse.SchemaFault.{SchemaFault}
use Rattle.qw_schema.specs.declared.parse.SchemaFault.TheVariants as schema_faults
use Rattle.qw_schema.specs.Parse.{IsRefused}
use Rattle.qw_top.specs.Causes.{Cause, queries_mistyped, queries_refused, schema_refused, table_refused, table_too_long, total_pages}
use Rattle.qw_top.specs.FileNames.{told_part}
use Rattle.qw_bench.specs.declared.bench.Limits.{Limits}
use Rattle.qw_top.specs.Limits.{most_text_octets}
use Rattle.qw_top.specs.Top.{Asked, Files, FilesSettle, HasQueries, HasTables, IsFile, IsFileOf, IsMistyped, IsNextTable, IsTableFile, Names, QueriesAre, SchemaIs, TableIs, TablesAre}
use Rattle.qw_top.specs.declared.table_file.TableFault.{TableFault}
use Rattle.qw_top.specs.declared.table_file.TableFault.TheVariants.{Content, TooLong, Unread as UnreadFile, NoMemory as Wanted}
use Rattle.qw_top.specs.declared.stop.Stop.{Stop}
use Rattle.qw_top.specs.declared.stop.Stop.TheVariants.{Refused, Unread, NoMemory}
use Rattle.qw_top.specs.Inner.Inputs.{IsNoSchema, IsNoScript, IsNoTable, StopsAtTable, StopsAtTables, StopsForTable}
use Rattle.qw_top.specs.declared.top.queries.QueriesFault.{QueriesFault}
use Rattle.qw_top.specs.declared.top.queries.QueriesFault.TheVariants.{Script, Typing}
use Rattle.qw_top.specs.Inner.Queries.{Refuses, StopsForFault}
use Rattle.qw_top.specs.Inner.Stages.{FilesStop, StopsToRun}
use Rattle.qw_top.specs.Inner.Shelves.{failed_table}
use Rattle.qw_top.specs.Inner.Tables.{IsUnloaded}
use Rattle.qw_top.specs.Inner.Stop.{StopsAs, StopsBy, StopsFor, failed_at, octets_of}
use Rattle.qw_top.proofs.SettleLemmas.{queries_settle, schema_settles, table_settles}

-- a stop for a cause that is one of a command's reasons
pub StopsFor-by : (reason : Cause → Type 0) (named : List ℕ → Type 0) (cause : Cause) (stop : Stop) → reason cause → StopsFor cause stop → StopsBy reason named stop
StopsFor-by reason named cause (Refused refusal line) holds stops = (cause, holds, stops)
StopsFor-by reason named cause (Unread file) holds stops = absurd stops
StopsFor-by reason named cause NoMemory holds stops = tt

-- and of a stage's
pub StopsFor-stage : (reason : Cause → Type 0) (name : List ℕ) (cause : Cause) (stop : Stop) → reason cause → StopsFor cause stop → StopsAs reason name stop
StopsFor-stage reason name cause (Refused refusal line) holds stops = (cause, holds, stops)
StopsFor-stage reason name cause (Unread file) holds stops = absurd stops
StopsFor-stage reason name cause NoMemory holds stops = tt

-- memory was wanted, or it is another fault
schema_or_memory : (fault : SchemaFault) → (fault ≡ schema_faults.NoMemory) ⊎ (fault ≡ schema_faults.NoMemory → ⊥)
schema_or_memory schema_faults.NoMemory = inl refl
schema_or_memory schema_faults.NotUtf8 = inr (λ same. cc)
schema_or_memory (schema_faults.NotToken at) = inr (λ same. cc)
schema_or_memory (schema_faults.NotGrammar k) = inr (λ same. cc)
schema_or_memory (schema_faults.TooDeep k) = inr (λ same. cc)
schema_or_memory (schema_faults.TooMany k what limit) = inr (λ same. cc)
schema_or_memory (schema_faults.Duplicate k) = inr (λ same. cc)
schema_or_memory (schema_faults.BadSize k) = inr (λ same. cc)

script_or_memory : (fault : ParseFault) → (fault ≡ script_faults.NoMemory) ⊎ (fault ≡ script_faults.NoMemory → ⊥)
script_or_memory script_faults.NoMemory = inl refl
script_or_memory script_faults.NotUtf8 = inr (λ same. cc)
script_or_memory (script_faults.NotToken at) = inr (λ same. cc)
script_or_memory (script_faults.NotGrammar k) = inr (λ same. cc)
script_or_memory (script_faults.TooDeep k) = inr (λ same. cc)
script_or_memory (script_faults.TooMany k what limit) = inr (λ same. cc)

typing_or_memory : (fault : TypeFault) → (fault ≡ type_faults.NoMemory) ⊎ (fault ≡ type_faults.NoMemory → ⊥)
typing_or_memory type_faults.NoMemory = inl refl
typing_or_memory (type_faults.Fault k kind name) = inr (λ same. cc)

wants : (reason : Cause → Type 0) (name : List ℕ) (stop : Stop) → stop ≡ NoMemory → StopsAs reason name stop
wants reason name stop is = subst (λ (s : Stop). StopsAs reason name s) (sym is) tt

-- how a stage stops at a text or a table's octets that are refused for a fault
module _ (files : Files) (name : List ℕ) (stop : Stop) where
  pub schema_refused_stops : (text : List ℕ) (fault : SchemaFault) → IsFile files name most_text_octets text → (fault ≡ schema_faults.NoMemory) ⊎ IsRefused text fault →
      (fault ≡ schema_faults.NoMemory → stop ≡ NoMemory) → ((fault ≡ schema_faults.NoMemory → ⊥) → StopsFor (schema_refused fault) stop) → StopsAs (IsNoSchema files name) name stop
  schema_refused_stops text fault file (inl is) memory refused = wants (IsNoSchema files name) name stop (memory is)
  schema_refused_stops text fault file (inr holds) memory refused =
      elim (schema_or_memory fault) [
        | inl is ↦ wants (IsNoSchema files name) name stop (memory is)
        | inr other ↦ StopsFor-stage (IsNoSchema files name) name (schema_refused fault) stop (inr (fault, text, refl, file, holds)) (refused other)
      ]

  script_refused_stops : (schema : List Table) (text : List ℕ) (fault : ParseFault) → IsFile files name most_text_octets text → (fault ≡ script_faults.NoMemory) ⊎ IsScriptRefused text fault →
      (fault ≡ script_faults.NoMemory → stop ≡ NoMemory) → ((fault ≡ script_faults.NoMemory → ⊥) → StopsFor (queries_refused fault) stop) → StopsAs (IsNoScript files name schema) name stop
  script_refused_stops schema text fault file (inl is) memory refused = wants (IsNoScript files name schema) name stop (memory is)
  script_refused_stops schema text fault file (inr holds) memory refused =
      elim (script_or_memory fault) [
        | inl is ↦ wants (IsNoScript files name schema) name stop (memory is)
        | inr other ↦ StopsFor-stage (IsNoScript files name schema) name (queries_refused fault) stop (inr (inl (fault, text, refl, file, holds))) (refused other)
      ]

  mistyped_stops : (schema : List Table) (text : List ℕ) (fault : TypeFault) → IsFile files name most_text_octets text → (fault ≡ type_faults.NoMemory) ⊎ IsMistyped schema text fault →
      (fault ≡ type_faults.NoMemory → stop ≡ NoMemory) → ((fault ≡ type_faults.NoMemory → ⊥) → StopsFor (queries_mistyped fault) stop) → StopsAs (IsNoScript files name schema) name stop
  mistyped_stops schema text fault file (inl is) memory refused = wants (IsNoScript files name schema) name stop (memory is)
  mistyped_stops schema text fault file (inr holds) memory refused =
      elim (typing_or_memory fault) [
        | inl is ↦ wants (IsNoScript files name schema) name stop (memory is)
        | inr other ↦ StopsFor-stage (IsNoScript files name schema) name (queries_mistyped fault) stop (inr (inr (fault, text, refl, file, holds))) (refused other)
      ]

  pub queries_refused_stop : (schema : List Table) (text : List ℕ) (fault : QueriesFault) → IsFile files name most_text_octets text → Refuses schema text fault → StopsForFault fault stop →
      StopsAs (IsNoScript files name schema) name stop
  queries_refused_stop schema text (Script fault) file refuses stops = script_refused_stops schema text fault file refuses stops.0 stops.1
  queries_refused_stop schema text (Typing fault) file refuses stops = mistyped_stops schema text fault file refuses stops.0 stops.1

-- the fault of a table's file as a stop
pub stopped_none : (cause : Cause) (stop : Stop) → StopsFor cause stop → failed_at stop ≡ None
stopped_none cause (Refused refusal line) h = refl
stopped_none cause (Unread file) h = absurd h
stopped_none cause NoMemory h = refl

pub table_stop_failed : (parts : Option ℕ) (table : Table) (fault : TableFault) (stop : Stop) → StopsForTable parts table fault stop → failed_at stop ≡ failed_table fault
table_stop_failed parts table (TooLong part) stop stops = stopped_none (table_too_long table (told_part parts part)) stop stops
table_stop_failed parts table (UnreadFile name) stop stops = stops
table_stop_failed parts table (Content part fault) stop stops = stopped_none (table_refused table (told_part parts part) fault) stop stops
table_stop_failed parts table Wanted stop stops = rw stops refl

unread_stop : (reason : Cause → Type 0) (named : List ℕ → Type 0) (name : List ℕ) (stop : Stop) → failed_at stop ≡ Some name → named name → StopsBy reason named stop
unread_stop reason named name (Refused refusal line) is may = absurd (none-some name is)
unread_stop reason named name (Unread file) is may = subst named (sym (same_Some (octets_of file) name is)) may
unread_stop reason named name NoMemory is may = absurd (none-some name is)

wants_by : (reason : Cause → Type 0) (named : List ℕ → Type 0) (stop : Stop) → stop ≡ NoMemory → StopsBy reason named stop
wants_by reason named stop is = subst (λ (s : Stop). StopsBy reason named s) (sym is) tt

pub table_unloaded_stops : (files : Files) (names : Names) (table : Table) (fault : TableFault) (stop : Stop) → IsUnloaded files names table fault → StopsForTable names.parts table fault stop →
    StopsAtTable files names table stop
table_unloaded_stops files names table (TooLong part) stop why stops =
    StopsFor-by (IsNoTable files names table) (IsTableFile files names table.name) (table_too_long table (told_part names.parts part)) stop (inl (part, refl, why)) stops
table_unloaded_stops files names table (UnreadFile name) stop why stops = unread_stop (IsNoTable files names table) (IsTableFile files names table.name) (string_bytes name) stop stops why
table_unloaded_stops files names table (Content part fault) stop why stops =
    StopsFor-by (IsNoTable files names table) (IsTableFile files names table.name) (table_refused table (told_part names.parts part) fault) stop (inr (part, fault, refl, why)) stops
table_unloaded_stops files names table Wanted stop why stops = wants_by (IsNoTable files names table) (IsTableFile files names table.name) stop stops

split : {A : Type 0} (xs : List A) (i : ℕ) (x : A) → i < length xs → x ≡ get_or xs i x → xs ≡ take i xs ++ x ∷ drop (suc i) xs
split [] i x within is = absurd (omega (arith, within))
split (y ∷ xs) zero x within is = ap (λ z. z ∷ xs) (sym is)
split (y ∷ xs) (suc i) x within is = ap (λ zs. y ∷ zs) (split xs i x (omega (arith, within)) is)

-- where the reading of the tables' files stopped, behind those that were accepted
pub tables_stop_at : (files now : Files) (names : Names) (schema : List Table) (i : ℕ) (table : Table) (contents : List Contents) (stop : Stop) → i < length schema → table ≡ get_or schema i table →
    now ≡ files → TablesAre files names (take i schema) contents → StopsAtTable now names table stop → StopsAtTables files names schema stop
tables_stop_at files now names schema i table contents stop within is same loaded stops =
    inr (
      take i schema,
      table,
      drop (suc i) schema,
      contents,
      split schema i table within is,
      loaded,
      subst (λ (f : Files). StopsAtTable f names table stop) same stops,
    )

-- a stage's stop for a reason that is one of another's
pub StopsAs-weaker : (P Q : Cause → Type 0) (name : List ℕ) (stop : Stop) → ((cause : Cause) → P cause → Q cause) → StopsAs P name stop → StopsAs Q name stop
StopsAs-weaker P Q name (Refused refusal line) weaker (cause, holds, is) = (cause, weaker cause holds, is)
StopsAs-weaker P Q name (Unread file) weaker stops = stops
StopsAs-weaker P Q name NoMemory weaker stops = tt

-- a stage that stopped for a reason that files settle, or at a file that a run may read
pub StopsAs-files : (limits : Limits) (files : Files) (names : Names) (reason : Cause → Type 0) (name : List ℕ) (stop : Stop) → ((cause : Cause) → reason cause → FilesSettle limits files names cause) →
    IsFileOf files names name → StopsAs reason name stop → FilesStop limits files names stop
StopsAs-files limits files names reason name (Refused refusal line) settle named (cause, holds, is) = (cause, settle cause holds, is)
StopsAs-files limits files names reason name (Unread file) settle named is = subst (λ (octets : List ℕ). IsFileOf files names octets) (sym is) named
StopsAs-files limits files names reason name NoMemory settle named stops = tt

StopsBy-files : (limits : Limits) (files : Files) (names : Names) (reason : Cause → Type 0) (named : List ℕ → Type 0) (stop : Stop) → ((cause : Cause) → reason cause → FilesSettle limits files names cause) →
    ((name : List ℕ) → named name → IsFileOf files names name) → StopsBy reason named stop → FilesStop limits files names stop
StopsBy-files limits files names reason named (Refused refusal line) settle may (cause, holds, is) = (cause, settle cause holds, is)
StopsBy-files limits files names reason named (Unread file) settle may is = may (octets_of file) is
StopsBy-files limits files names reason named NoMemory settle may stops = tt

module _ (limits : Limits) (files : Files) (names : Names) where
  pub schema_stops : (stop : Stop) → StopsAs (IsNoSchema files names.schema) names.schema stop → FilesStop limits files names stop
  schema_stops stop stops = StopsAs-files limits files names (IsNoSchema files names.schema) names.schema stop (schema_settles limits files names) (inl refl) stops

  -- where the tables' stage stopped, after a schema that was accepted
  pub tables_stop : (now : Files) (schema : List Table) (stop : Stop) → now ≡ files → SchemaIs files names.schema schema → StopsAtTables now names schema stop → FilesStop limits files names stop
  tables_stop now schema stop same declared (inl is) = subst (FilesStop limits files names) (sym is) tt
  tables_stop now schema stop same declared (inr (before, table, behind, contents, is, loaded, stops)) =
      let next : IsNextTable files names table = record {
        before = before;
        behind = behind;
        declared = subst (λ (s : List Table). SchemaIs files names.schema s) is declared;
        contents = contents;
        loaded = subst (λ (f : Files). TablesAre f names before contents) same loaded;
      } in
      StopsBy-files limits files names (IsNoTable files names table) (IsTableFile files names table.name) stop
      (λ cause none. table_settles limits files names table cause next none)
      (λ name is. inr (inl (table, next, is)))
      (subst (λ (f : Files). StopsAtTable f names table stop) same stops)

  -- what was accepted before the queries file
  pub tables_accepted : (now : Files) (schema : List Table) (tables : List Contents) → now ≡ files → SchemaIs files names.schema schema → TablesAre now names schema tables → HasTables files names schema tables
  tables_accepted now schema tables same declared loaded = record {
    declared = declared;
    loaded = subst (λ (f : Files). TablesAre f names schema tables) same loaded;
  }

  -- where the queries' stage stopped
  pub queries_stop : (now : Files) (schema : List Table) (tables : List Contents) (stop : Stop) → now ≡ files → HasTables files names schema tables →
      StopsAs (IsNoScript now names.queries schema) names.queries stop → FilesStop limits files names stop
  queries_stop now schema tables stop same held stops =
      StopsAs-files limits files names (IsNoScript files names.queries schema) names.queries stop
      (λ cause none. queries_settle limits files names schema tables cause held none)
      (inr (inr (schema, tables, held, refl)))
      (subst (λ (f : Files). StopsAs (IsNoScript f names.queries schema) names.queries stop) same stops)

  -- all was accepted
  pub all_accepted : (now : Files) (schema : List Table) (tables : List Contents) (queries : List Asked) → now ≡ files → HasTables files names schema tables →
      QueriesAre now names.queries schema queries → HasQueries files names schema tables queries
  all_accepted now schema tables queries same held asked = record {
    before = held;
    asked = subst (λ (f : Files). QueriesAre f names.queries schema queries) same asked;
  }

-- ---- the tables' files, one after another

pub TablesAre-more : (files : Files) (names : Names) (tables : List Table) (contents : List Contents) (table : Table) (one : Contents) →
    TablesAre files names tables contents → TableIs files names table one → TablesAre files names (tables ++ table ∷ []) (contents ++ one ∷ [])
TablesAre-more files names [] [] table one are is = (is, tt)
TablesAre-more files names [] (first ∷ contents) table one are is = absurd are
TablesAre-more files names (first ∷ tables) [] table one are is = absurd are
TablesAre-more files names (first ∷ tables) (held ∷ contents) table one are is = (are.0, TablesAre-more files names tables contents table one are.1 is)

-- ---- after what was asked for was read

-- where a run stopped before its bench
pub run_stops : (limits : Limits) (files : Files) (names : Names) (schema : List Table) (tables : List Contents) (queries : List Asked) (stop : Stop) →
    HasQueries files names schema tables queries → StopsToRun limits tables queries stop → FilesStop limits files names stop
run_stops limits files names schema tables queries stop held (inl is) = subst (FilesStop limits files names) (sym is) tt
run_stops limits files names schema tables queries (Refused refusal line) held (inr (large, stops)) =
    (total_pages _, (schema, tables, queries, held, refl, large), stops)
run_stops limits files names schema tables queries (Unread file) held (inr (large, stops)) = absurd stops
run_stops limits files names schema tables queries NoMemory held (inr (large, stops)) = tt
